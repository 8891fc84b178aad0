use Rattle.std.proofs.Common.{◌∙◌, ◌∷◌, [], ◌||◌, sym, ap, ap₂}
use Rattle.rt_value.specs.declared.value.Value.TheVariants.{Null}
use Rattle.rt_formula.specs.Shared.{val}
use Rattle.rt_formula.specs.Groups.{group_at}
use Rattle.rt_noted.specs.Annotated.{IsNode}
use Rattle.rt_noted.specs.Known.{among_test, has_first}
use Rattle.rt_noted.proofs.Growing.{grown_refl, grown_trans, node_stays, any_over, not_over, node_as, nodes_are, two_nodes}
use Rattle.rt_noted.proofs.Telling.{null_yes, null_no, among_yes, among_no, or_false}
use Rattle.rt_noted.proofs.Walking.{itself}
use Rattle.rt_noted.proofs.known.Found.member.Goals as goal

pub returns-then-is_null-clause-gate : goal.returns-then-is_null-clause-gate
returns-then-is_null-clause-gate c answer tells =
    let x = c.args.x.now in
    let h = sym c.is_null.ensures ∙ c.if-is_null.true in
    record {
      yes = record { below = c.no-yes.ensures.node; same = λ s. c.no-yes.ensures.means s ∙ null_yes x (answer s) h };
      no = node_as (among_test x answer).1 (λ s. null_no x (answer s) h) tells.exists.no;
    }

pub returns-clause-gate : goal.returns-clause-gate
returns-clause-gate c answer tells =
    let d = c.args.dag.now in
    let x = c.args.x.now in
    let h = sym c.is_null.ensures ∙ c.if-is_null.false in
    let f = c.args.self.now in
    let group = c.get.ensures ∙ ap (group_at f.groups) c.in_ok-row.ensures in
    let yes : IsNode c.any.new.self c.in_ok-yes.yes (λ s. has_first x (answer s)) =
    node_as (λ s. has_first x (answer s)) (tells.firsts x) (any_over (grown_refl d) c.in_ok-yes.yes c.get.result.now (group_at f.groups (x ∷ [])) (c.requires.group x) group c.in_ok-yes.ensures.node c.in_ok-yes.ensures.means) in
    let null : IsNode c.any.new.self f.null (λ s. has_first Null (answer s)) = node_stays c.any.ensures.grown tells.null in
    let some : IsNode c.any-2.new.self c.in_ok-some.some (λ s. has_first x (answer s) || has_first Null (answer s)) = record {
      below = c.in_ok-some.ensures.node;
      same = λ s. c.in_ok-some.ensures.means s ∙ ap₂ ◌||◌ (yes.same s) (or_false (val c.any.new.self s f.null) ∙ null.same s);
    } in
    record {
      yes = node_stays (grown_trans c.any-2.ensures.grown c.not.ensures.grown) (node_as (among_test x answer).0 (λ s. among_yes x h (answer s)) yes);
      no = node_as (among_test x answer).1 (λ s. among_no x h (answer s)) (not_over c.in_ok-some.some c.in_ok-no.no some c.in_ok-no.ensures.node c.in_ok-no.ensures.means);
    }

pub returns-in_err-some-clause-grown : goal.returns-in_err-some-clause-grown
returns-in_err-some-clause-grown c = grown_trans c.any.ensures.grown c.any-2.ensures.grown

pub returns-in_err-no-clause-grown : goal.returns-in_err-no-clause-grown
returns-in_err-no-clause-grown c = grown_trans (grown_trans c.any.ensures.grown c.any-2.ensures.grown) c.not.ensures.grown

pub returns-clause-grown : goal.returns-clause-grown
returns-clause-grown c = grown_trans (grown_trans c.any.ensures.grown c.any-2.ensures.grown) c.not.ensures.grown

pub any-requires : goal.any-requires
any-requires c = nodes_are c.args.dag.now (c.get.ensures ∙ ap (group_at c.args.self.now.groups) c.in_ok-row.ensures) (c.requires.group c.args.x.now)

pub any-requires-2 : goal.any-requires-2
any-requires-2 c = two_nodes c.any.new.self c.in_ok-yes.ensures.node (node_stays c.any.ensures.grown (itself c.args.dag.now c.args.self.now.null c.requires.null)).below
