use Rattle.std.proofs.Common.{◌∙◌, not}
use Rattle.std.specs.List.{list_any}
use Rattle.rt_formula.specs.Shared.{val}
use Rattle.rt_algebra.specs.Answer.{is_yes, cell_truth}
use Rattle.rt_noted.specs.Entries.{member_test, is_no}
use Rattle.rt_noted.specs.Annotated.{IsNode, entries_of, sure, possible}
use Rattle.rt_noted.proofs.Growing.{grown_refl, grown_trans, nodes_stay, node_stays, any_over, not_over, node_as, nodes_are}
use Rattle.rt_noted.proofs.Nodes.{where_below, any_sure, none_possible}
use Rattle.rt_noted.proofs.member.member.Goals as goal

pub any-requires : goal.any-requires
any-requires c = nodes_are c.args.dag.now (c.as_slice.ensures ∙ c.in_ok-sure.ensures) (where_below c.args.dag.now _ c.args.rows.now c.requires)

pub any-requires-2 : goal.any-requires-2
any-requires-2 c = nodes_are c.any.new.self (c.as_slice-2.ensures ∙ c.in_ok-possible.ensures)
    (nodes_stay c.any.ensures.grown (possible c.args.x.now c.args.rows.now) (where_below c.args.dag.now _ c.args.rows.now c.requires))

pub returns-clause-gate : goal.returns-clause-gate
returns-clause-gate c =
    let d = c.args.dag.now in
    let x = c.args.x.now in
    let ns = c.args.rows.now in
    let b = where_below d (λ r. is_yes (cell_truth x r)) ns c.requires in
    let k = where_below d (λ r. not (is_no (cell_truth x r))) ns c.requires in
    let some : IsNode c.any-2.new.self c.in_ok-some.some (λ t. list_any (val d t) (possible x ns)) = any_over c.any.ensures.grown c.in_ok-some.some _ (possible x ns) k (c.as_slice-2.ensures ∙ c.in_ok-possible.ensures) c.in_ok-some.ensures.node c.in_ok-some.ensures.means in
    record {
      yes = node_stays (grown_trans c.any-2.ensures.grown c.not.ensures.grown)
          (node_as (member_test x (entries_of d ns)).0 (λ s. any_sure d s x ns) (any_over (grown_refl d) c.in_ok-yes.yes _ (sure x ns) b (c.as_slice.ensures ∙ c.in_ok-sure.ensures) c.in_ok-yes.ensures.node c.in_ok-yes.ensures.means));
      no = node_as (member_test x (entries_of d ns)).1 (λ s. none_possible d s x ns) (not_over c.in_ok-some.some c.in_ok-no.no some c.in_ok-no.ensures.node c.in_ok-no.ensures.means);
    }

pub returns-in_err-some-clause-grown : goal.returns-in_err-some-clause-grown
returns-in_err-some-clause-grown c = grown_trans c.any.ensures.grown c.any-2.ensures.grown

pub returns-in_err-possible-clause-grown : goal.returns-in_err-possible-clause-grown
returns-in_err-possible-clause-grown c = c.any.ensures.grown

pub returns-in_err-no-clause-grown : goal.returns-in_err-no-clause-grown
returns-in_err-no-clause-grown c = grown_trans (grown_trans c.any.ensures.grown c.any-2.ensures.grown) c.not.ensures.grown

pub returns-clause-grown : goal.returns-clause-grown
returns-clause-grown c = grown_trans (grown_trans c.any.ensures.grown c.any-2.ensures.grown) c.not.ensures.grown
