use Rattle.std.proofs.Common.{◌≡◌, ◌<◌, ◌∙◌, Bool, ◌&&◌, List, length, ap}
use Rattle.std.specs.List.{list_all}
use Rattle.rt_formula.specs.Shared.{val}
use Rattle.rt_noted.specs.Annotated.{IsNode}
use Rattle.rt_noted.proofs.Growing.{node_never, nodes_are}
use Rattle.rt_noted.proofs.Joining.{all_more, both_hold, one_more}
use Rattle.rt_noted.proofs.joint.meeting.Goals as goal

pub returns-then-is_never-clause-node : goal.returns-then-is_never-clause-node
returns-then-is_never-clause-node c =
    let v = λ (s : List Bool). val c.args.dag.now s in
    let never = c.is_never.ensures c.if-is_never.true in
    node_never (λ s. list_all (v s) c.args.nodes.now) (λ s. v s c.args.condition) c.requires.condition never never

pub all-requires : goal.all-requires
all-requires c =
    nodes_are c.args.dag.now (c.as_slice.ensures ∙ c.in_ok-children.ensures) (one_more c.args.dag.now c.args.nodes.now c.args.condition c.requires.nodes c.requires.condition)

pub returns-clause-node : goal.returns-clause-node
returns-clause-node c =
    both_hold c.all.result (λ n. n < length c.all.new.self.entries) (λ n. (s : List Bool) → val c.all.new.self s n ≡ list_all (val c.args.dag.now s) c.as_slice.result.now)
    (λ n. IsNode c.all.new.self n (λ s. list_all (val c.args.dag.now s) c.args.nodes.now && val c.args.dag.now s c.args.condition))
    (λ n l m. record {
      below = l;
      same = λ s.
          let v = val c.args.dag.now s in
          m s ∙ ap (list_all v) (c.as_slice.ensures ∙ c.in_ok-children.ensures) ∙ all_more v c.args.nodes.now c.args.condition;
    }) c.all.ensures.node c.all.ensures.means
