use Rattle.std.proofs.Common.{◌≡◌, ap, sym, ◌∙◌, subst, List, ◌∷◌, [], take, true, Option}
use Rattle.std.specs.Prelude.{MatchOption}
use Rattle.std.specs.List.{list_all}
use Rattle.rt_clause.specs.Literal.{Literal, lit_eq}
use Rattle.rt_clause.specs.Lists.{left, has}
use Rattle.rt_clause.proofs.Bools.{not-true}
use Rattle.rt_derive.proofs.Left.{several}
use Rattle.rt_derive.proofs.checker.what_is_left.Goals as goal

pub returns-then-ne : goal.returns-then-ne
returns-then-ne c =
    let P : Option Literal → Type 0 = λ o. MatchOption o (left c.args.held.now (take c.loop-l.l-index c.args.line.now) ≡ [])
    (λ k. (more : List Literal) × (left c.args.held.now (take c.loop-l.l-index c.args.line.now) ≡ k ∷ more) × (list_all (lit_eq k) more ≡ true)) in
    let v = subst P c.in-Some.is c.loop-l.invariant in
    several c.args.held.now c.args.line.now c.loop-l.l-index c.l-item.result c.in-Some.first v.0 c.loop-l-test.true c.l-item.is
    (ap (has c.args.held.now) (sym c.negated.ensures) ∙ sym c.has.ensures ∙ c.if-not-has.true) v.1
    (not-true (lit_eq c.in-Some.first c.l-item.result) (sym c.ne.ensures ∙ c.if-ne.true))
