use Rattle.std.proofs.Common.{◌≡◌, ℕ, ◌+◌, ◌-◌, ◌<◌, Bool, true, List, length, subst, sym, ap, ◌∙◌, arith}
use Rattle.std.specs.List.{All as Each}
use Rattle.std.proofs.lemmas.List.{length-replicate}
use Rattle.rt_formula.specs.Under.{AreClosedFrom, is_marked}
use Rattle.rt_formula.proofs.MarkLemmas.{closed-marked, closed-unmarked, none-marked}
use Rattle.rt_formula.proofs.marks.under.Goals as goal

pub mark_all-requires : goal.mark_all-requires
mark_all-requires c =
    let N : List ℕ → Type 0 = Each (λ k. k < length c.nodes.marks) in
    subst N (sym c.children_of.ensures) (λ k d b.
    (let f = (c.entry.ensures.sound.fits _ _ c.entry.ensures.entry).below k d b in
    let l = c.nodes.invariant.long in
    let w = c.nodes.invariant.within in
    omega (arith, f, l, w)))

pub nodes-preserved-then-is : goal.nodes-preserved-then-is
nodes-preserved-then-is c =
    let at = c.nodes.at - 1 in
    let v = c.nodes.invariant in
    let fits = (c.entry.ensures.sound.fits _ _ c.entry.ensures.entry).below in
    let of = c.children_of.ensures in
    let M : List ℕ → Type 0 = Each (λ k. is_marked c.mark_all.new.marks k ≡ true) in
    let B : List ℕ → Type 0 = Each (λ k. k < at) in
    let P : ℕ → Type 0 = λ n. AreClosedFrom c.args.dag.now c.args.goal n c.nodes.marks in
    let again : c.nodes.at ≡ at + 1 = (let t = c.nodes-test.true in omega arith) in
    record {
      long = c.mark_all.ensures.len ∙ v.long;
      within = (let w = v.within in omega (arith, w));
      goal_is = c.mark_all.ensures.stay _ v.goal_is;
      closed = closed-marked c.args.dag.now c.args.goal at c.entry.result.now c.nodes.marks c.mark_all.new.marks c.entry.ensures.entry fits
          (c.mark_all.ensures.same at (subst B (sym of) fits)) c.mark_all.ensures.stay (subst M of c.mark_all.ensures.set) (subst P again v.closed);
      stand = λ k m others g h. (let O : List ℕ → Type 0 = Each (λ n. is_marked others n ≡ true) in
          c.mark_all.ensures.only others (λ n x. v.stand n x others g h) (subst O (sym of) (h at c.entry.result.now c.entry.ensures.entry (v.stand at (sym c.is.ensures ∙ c.if-is.true) others g h))) k m);
    }

pub nodes-preserved : goal.nodes-preserved
nodes-preserved c =
    let at = c.nodes.at - 1 in
    let v = c.nodes.invariant in
    let P : ℕ → Type 0 = λ n. AreClosedFrom c.args.dag.now c.args.goal n c.nodes.marks in
    let again : c.nodes.at ≡ at + 1 = (let t = c.nodes-test.true in omega arith) in
    record {
      long = v.long;
      within = (let w = v.within in omega (arith, w));
      goal_is = v.goal_is;
      closed = closed-unmarked c.args.dag.now c.args.goal at c.nodes.marks (sym c.is.ensures ∙ c.if-is.false) (subst P again v.closed);
      stand = v.stand;
    }

pub nodes-init : goal.nodes-init
nodes-init c =
    let none : (k : ℕ) → is_marked c.in_ok-marks.marks k ≡ true → ⊥ = λ k h. none-marked _ k (ap (λ ms. is_marked ms k) (sym c.in_ok-marks.ensures) ∙ h) in
    record {
      long = c.mark.ensures.len ∙ ap (length {A = Bool}) c.in_ok-marks.ensures ∙ length-replicate _ _ ∙ ap (λ n. n + 1) c.number-at.ensures;
      within = (let n = c.number-at.ensures in omega (arith, n));
      goal_is = c.mark.ensures.set;
      closed = λ k e low high f m. absurd (let n = c.number-at.ensures in omega (arith, low, high, n));
      stand = λ k m others g h. c.mark.ensures.only others (λ j x. absurd (none j x)) g k m;
    }
