use Rattle.std.proofs.Common.{◌≡◌, ◌+◌, ◌-◌, ◌++◌, ◌∷◌, [], OnOk, suc, List, subst, ap, ◌∙◌, arith}
use Rattle.rt_clause.specs.Literal.{Literal}
use Rattle.rt_totalizer.specs.Cells.{cell_at}
use Rattle.rt_totalizer.specs.Clauses.{down_there}
use Rattle.rt_totalizer.specs.Merging.{without, down}
use Rattle.rt_totalizer.proofs.Listing.{there-is}
use Rattle.rt_totalizer.proofs.clauses.add_down.Goals as goal

pub returns : goal.returns
returns g c =
    let a = c.args in
    let x : a.i + 1 ≡ suc a.i = omega arith in
    let j : a.k - a.i ≡ suc (a.k - a.i - 1) = (let p = c.requires.part in omega (arith, p)) in
    let one : c.at.result ≡ cell_at a.left.now.list (suc a.i) = c.at.ensures ∙ ap (cell_at a.left.now.list) x in
    let two : c.at-2.result ≡ cell_at a.right.now.list (suc (a.k - a.i - 1)) = c.at-2.ensures ∙ ap (cell_at a.right.now.list) j in
    let e : without a.never (c.at.result ∷ c.at-2.result ∷ c.negated.result ∷ []) ∷ [] ≡ down_there a.never a.left.now.list a.right.now.list a.left.now.most a.right.now.most a.out a.i (a.k - a.i - 1) =
    (λ t. without a.never (one t ∷ two t ∷ c.negated.ensures t ∷ []) ∷ []) ∙ there-is a.i a.left.now.most (a.k - a.i - 1) a.right.now.most
    (down a.never a.left.now.list a.right.now.list a.out a.i (a.k - a.i - 1)) (let t = c.if-i-left.false in omega (arith, t)) (let t = c.if-j-right.false in omega (arith, t)) in
    let P : List (List Literal) → Type 0 = λ ls. OnOk c.add_without.result (g.A.Adds.lines c.add_without.new.to ≡ g.A.Adds.lines a.to.now ++ ls) in
    subst P e c.add_without.ensures
