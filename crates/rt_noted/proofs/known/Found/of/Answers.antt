use Rattle.std.proofs.Common.{◌∙◌, List, ap, not}
use Rattle.std.specs.List.{list_any}
use Rattle.rt_value.specs.declared.value.Value.{Value}
use Rattle.rt_value.specs.declared.value.Value.TheVariants.{Null}
use Rattle.rt_value.specs.Value.{value_eq}
use Rattle.rt_formula.specs.Shared.{val}
use Rattle.rt_formula.specs.Groups.{group_at, nodes_where}
use Rattle.rt_noted.specs.Entries.{rows_at}
use Rattle.rt_noted.specs.Annotated.{entries_of}
use Rattle.rt_noted.specs.Known.{first_of, exists_test, has_first}
use Rattle.rt_noted.proofs.Exact.{any_exact, not_any}
use Rattle.rt_noted.proofs.Growing.{grown_trans, nodes_stay, nodes_are, any_stays, gate_stays, any_over, node_as}
use Rattle.rt_noted.proofs.Layers.{gate_as}
use Rattle.rt_noted.proofs.Nodes.{where_below}
use Rattle.rt_noted.proofs.Telling.{where_rows}
use Rattle.rt_noted.proofs.known.Found.of.Goals as goal

pub any-requires : goal.any-requires
any-requires c =
    let t = λ (r : List Value). value_eq Null (first_of r) in
    nodes_are c.exists.new.dag (c.get.ensures ∙ ap (group_at c.in_ok-groups.groups) c.in_ok-nothing.ensures ∙ c.in_ok-groups.ensures Null)
    (nodes_stay c.exists.ensures.grown (nodes_where t c.args.rows.now) (where_below c.args.dag.now t c.args.rows.now c.requires))

pub returns-clause-tells : goal.returns-clause-tells
returns-clause-tells c =
    let d = c.args.dag.now in
    let ns = c.args.rows.now in
    let es = entries_of d ns in
    let t = λ (x : Value) (r : List Value). value_eq x (first_of r) in
    let below = λ (x : Value). where_below d (t x) ns c.requires in
    let grown = grown_trans c.exists.ensures.grown c.any.ensures.grown in
    let nulls = c.get.ensures ∙ ap (group_at c.in_ok-groups.groups) c.in_ok-nothing.ensures ∙ c.in_ok-groups.ensures Null in
    record {
      over = record {
        gate = (gate_stays c.any.ensures.grown c.in_ok-some.ensures.gate).no.below;
        null = c.in_ok-null.ensures.node;
        group = λ x. nodes_are c.any.new.self (c.in_ok-groups.ensures x) (nodes_stay grown (nodes_where (t x) ns) (below x));
      };
      exists = gate_stays c.any.ensures.grown (gate_as (exists_test (λ s. rows_at s es)) (λ s. any_exact s es) (λ s. ap not (any_exact s es) ∙ not_any s (rows_at s es)) c.in_ok-some.ensures.gate);
      null = node_as (λ s. has_first Null (rows_at s es)) (λ s. where_rows d s (t Null) ns)
          (any_over c.exists.ensures.grown c.in_ok-null.null c.get.result.now (nodes_where (t Null) ns) (below Null) nulls c.in_ok-null.ensures.node c.in_ok-null.ensures.means);
      firsts = λ x s. ap (list_any (val c.any.new.self s)) (c.in_ok-groups.ensures x) ∙ any_stays grown (nodes_where (t x) ns) (below x) s ∙ where_rows d s (t x) ns;
    }

pub returns-in_err-null-clause-grown : goal.returns-in_err-null-clause-grown
returns-in_err-null-clause-grown c = grown_trans c.exists.ensures.grown c.any.ensures.grown

pub returns-clause-grown : goal.returns-clause-grown
returns-clause-grown c = grown_trans c.exists.ensures.grown c.any.ensures.grown
