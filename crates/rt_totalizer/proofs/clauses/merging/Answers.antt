use Rattle.std.proofs.Common.{◌≡◌, ◌<◌, ◌-◌, ◌++◌, [], ◌⊎◌, inl, inr, List, append_assoc, append-nil, sym, ap, ◌∙◌, ℕ, arith}
use Rattle.std.proofs.lemmas.Result.{on_ok_weaker}
use Rattle.rt_clause.specs.Literal.{Literal}
use Rattle.rt_totalizer.specs.Clauses.{up_there, down_there}
use Rattle.rt_totalizer.proofs.Rows.{le-cases}
use Rattle.rt_totalizer.proofs.Listing.{listed, listed-more, listed-early, listed-late, is-merging}
use Rattle.rt_totalizer.proofs.clauses.merging.Goals as goal

pub loop-i-init : goal.loop-i-init
loop-i-init g c =
    let a = c.args in
    let lines = g.A.Adds.lines a.to.now in
    let e = c.saturating_sub-low.ensures in
    let none : listed a.never a.left.now.list a.right.now.list a.left.now.most a.right.now.most a.k a.out c.saturating_sub-low.result ≡ [] =
    listed-early a.never a.left.now.list a.right.now.list a.left.now.most a.right.now.most a.k a.out c.saturating_sub-low.result (omega (arith, e)) in
    record {
      within = omega (arith, e);
      lines = sym (ap (λ (ls : List (List Literal)). lines ++ ls) none ∙ append-nil lines);
    }

pub loop-i-preserved : goal.loop-i-preserved
loop-i-preserved g c =
    let a = c.args in
    let i = c.loop-i.i in
    let U : List (List Literal) = up_there a.never a.left.now.list a.right.now.list a.left.now.most a.right.now.most a.out i (a.k - i) in
    let D : List (List Literal) = down_there a.never a.left.now.list a.right.now.list a.left.now.most a.right.now.most a.out i (a.k - i - 1) in
    record {
      within = (let t = c.loop-i-test.true in let m = c.min-end.ensures in let s = c.requires.some in omega (arith, t, m, s));
      lines = c.in_ok-add_down.ensures ∙ ap (λ (ls : List (List Literal)). ls ++ D) (c.in_ok-add_up.ensures ∙ ap (λ (ls : List (List Literal)). ls ++ U) c.loop-i.invariant.lines)
          ∙ listed-more a.never a.left.now.list a.right.now.list a.left.now.most a.right.now.most a.k a.out i (g.A.Adds.lines a.to.now);
    }

pub returns : goal.returns
returns g c =
    let a = c.args in
    let i = c.loop-i.i in
    let lines = g.A.Adds.lines a.to.now in
    let L : ℕ → List (List Literal) = listed a.never a.left.now.list a.right.now.list a.left.now.most a.right.now.most a.k a.out in
    let U : List (List Literal) = up_there a.never a.left.now.list a.right.now.list a.left.now.most a.right.now.most a.out a.k (a.k - a.k) in
    let t = c.loop-i-test.false in
    let m = c.min-end.ensures in
    let w = c.loop-i.invariant.within in
    let s = c.requires.some in
    let end : (a.left.now.most < i) ⊎ (i ≡ a.k) = elim (le-cases a.left.now.most (a.k - 1)) [ inl x ↦ inl (omega (arith, t, m, x)) | inr x ↦ inr (omega (arith, t, m, w, s, x)) ] in
    let all : L i ≡ L a.k = listed-late a.never a.left.now.list a.right.now.list a.left.now.most a.right.now.most a.k a.out i w end in
    on_ok_weaker c.add_up-2.result (λ e. (
      L a.k ++ U,
      e ∙ ap (λ (ls : List (List Literal)). ls ++ U) (c.loop-i.invariant.lines ∙ ap (λ (ls : List (List Literal)). lines ++ ls) all) ∙ append_assoc lines (L a.k) U,
      is-merging a.never a.left.now.list a.right.now.list a.left.now.most a.right.now.most a.k a.out c.requires.some,
    )) c.add_up-2.ensures
