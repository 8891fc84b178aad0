use Rattle.std.proofs.Common.{◌≡◌, true, ◌<◌, ◌+◌, ◌∷◌, [], ◌++◌, ℕ, List, Bool, ◌∙◌, sym, ap, subst, length, arith}
use Rattle.rt_clause.specs.Literal.{Literal}
use Rattle.rt_clause.specs.Lists.{AreBelow, Determined}
use Rattle.rt_clause.specs.Models.{IsModel, lit_true}
use Rattle.rt_clause.specs.Gates.{AgreeBelow}
use Rattle.rt_clausify.specs.Written.{Written, name_at}
use Rattle.rt_clausify.proofs.Naming.{IsNaming, naming-step, goal_line, goal-below, goal-complete, goal-sound, goal-determined, goal-literal}
use Rattle.rt_clausify.proofs.write.write_marked.Goals as goal

pub loop-i-preserved : goal.loop-i-preserved
loop-i-preserved g c =
    let P : Written → Type 0 = IsNaming c.args.dag.now c.args.marks.now (c.loop-i.i + 1) in
    subst P (sym c.in_ok-next.ensures) (naming-step c.args.dag.now c.args.goal c.args.marks.now c.loop-i.i _ c.entry.result.now c.is.result c.entry.ensures.sound c.entry.ensures.entry c.requires.under (let t = c.loop-i-test.true in let n = c.after-end.ensures in omega (arith, t, n)) c.is.ensures c.loop-i.invariant)

pub returns-clause-wide : goal.returns-clause-wide
returns-clause-wide g c = let w = c.loop-i.invariant.over.wider in let e = c.of.ensures.next in omega (arith, w, e)

pub returns-clause-below : goal.returns-clause-below
returns-clause-below g c =
    let e : g.A.Adds.lines c.add.new.self ≡ goal_line (g.A.Adds.lines c.loop-i.to) (name_at c.loop-i.names c.args.goal) = c.in_ok-add.ensures.lines ∙ ap (λ x. g.A.Adds.lines c.loop-i.to ++ x ∷ []) (c.as_slice.ensures ∙ ap (λ x. x ∷ []) (c.name-lit.ensures ∙ ap (name_at c.loop-i.names) c.number.ensures)) in
    let h : c.args.goal < c.loop-i.i = (let t = c.loop-i-test.false in let n = c.after-end.ensures in omega (arith, t, n)) in
    let P : List (List Literal) → Type 0 = AreBelow c.of.result.next in
    let Q : ℕ → Type 0 = λ n. AreBelow n (goal_line (g.A.Adds.lines c.loop-i.to) (name_at c.loop-i.names c.args.goal)) in
    subst P (sym e) (subst Q (sym c.of.ensures.next) (goal-below c.args.dag.now c.args.marks.now c.loop-i.i c.args.goal _ c.loop-i.invariant c.requires.under.goal_is h))

pub returns-clause-complete : goal.returns-clause-complete
returns-clause-complete g c keep l v =
    let e : g.A.Adds.lines c.add.new.self ≡ goal_line (g.A.Adds.lines c.loop-i.to) (name_at c.loop-i.names c.args.goal) = c.in_ok-add.ensures.lines ∙ ap (λ x. g.A.Adds.lines c.loop-i.to ++ x ∷ []) (c.as_slice.ensures ∙ ap (λ x. x ∷ []) (c.name-lit.ensures ∙ ap (name_at c.loop-i.names) c.number.ensures)) in
    let h : c.args.goal < c.loop-i.i = (let t = c.loop-i-test.false in let n = c.after-end.ensures in omega (arith, t, n)) in
    let P : List (List Literal) → Type 0 = λ ls. (bools : List Bool) × (length bools ≡ c.of.result.next) × AgreeBelow c.args.dag.now.rows keep bools × IsModel ls bools in
    let Q : ℕ → Type 0 = λ n. (bools : List Bool) × (length bools ≡ n) × AgreeBelow c.args.dag.now.rows keep bools × IsModel (goal_line (g.A.Adds.lines c.loop-i.to) (name_at c.loop-i.names c.args.goal)) bools in
    subst P (sym e) (subst Q (sym c.of.ensures.next) (goal-complete c.args.dag.now c.args.marks.now c.loop-i.i c.args.goal _ c.loop-i.invariant c.requires.under.goal_is h keep l v))

pub returns-clause-sound : goal.returns-clause-sound
returns-clause-sound g c keep bools a m =
    let e : g.A.Adds.lines c.add.new.self ≡ goal_line (g.A.Adds.lines c.loop-i.to) (name_at c.loop-i.names c.args.goal) = c.in_ok-add.ensures.lines ∙ ap (λ x. g.A.Adds.lines c.loop-i.to ++ x ∷ []) (c.as_slice.ensures ∙ ap (λ x. x ∷ []) (c.name-lit.ensures ∙ ap (name_at c.loop-i.names) c.number.ensures)) in
    let h : c.args.goal < c.loop-i.i = (let t = c.loop-i-test.false in let n = c.after-end.ensures in omega (arith, t, n)) in
    let P : List (List Literal) → Type 0 = λ ls. IsModel ls bools in
    goal-sound c.args.dag.now c.args.marks.now c.loop-i.i c.args.goal _ c.loop-i.invariant c.requires.under.goal_is h keep bools a (subst P e m)

pub returns-clause-determined : goal.returns-clause-determined
returns-clause-determined g c =
    let e : g.A.Adds.lines c.add.new.self ≡ goal_line (g.A.Adds.lines c.loop-i.to) (name_at c.loop-i.names c.args.goal) = c.in_ok-add.ensures.lines ∙ ap (λ x. g.A.Adds.lines c.loop-i.to ++ x ∷ []) (c.as_slice.ensures ∙ ap (λ x. x ∷ []) (c.name-lit.ensures ∙ ap (name_at c.loop-i.names) c.number.ensures)) in
    let P : List (List Literal) → Type 0 = λ ls. Determined ls c.args.dag.now.rows c.of.result.next in
    let Q : ℕ → Type 0 = λ n. Determined (goal_line (g.A.Adds.lines c.loop-i.to) (name_at c.loop-i.names c.args.goal)) c.args.dag.now.rows n in
    subst P (sym e) (subst Q (sym c.of.ensures.next) (goal-determined c.args.dag.now c.args.marks.now c.loop-i.i c.args.goal _ c.loop-i.invariant))

pub returns-clause-literal : goal.returns-clause-literal
returns-clause-literal g c bools m =
    let e : g.A.Adds.lines c.add.new.self ≡ goal_line (g.A.Adds.lines c.loop-i.to) (name_at c.loop-i.names c.args.goal) = c.in_ok-add.ensures.lines ∙ ap (λ x. g.A.Adds.lines c.loop-i.to ++ x ∷ []) (c.as_slice.ensures ∙ ap (λ x. x ∷ []) (c.name-lit.ensures ∙ ap (name_at c.loop-i.names) c.number.ensures)) in
    let P : List (List Literal) → Type 0 = λ ls. IsModel ls bools in
    let Q : Literal → Type 0 = λ l. lit_true bools l ≡ true in
    subst Q (sym (c.of.ensures.goal ∙ c.name-lit.ensures ∙ ap (name_at c.loop-i.names) c.number.ensures)) (goal-literal (g.A.Adds.lines c.loop-i.to) (name_at c.loop-i.names c.args.goal) bools (subst P e m))
