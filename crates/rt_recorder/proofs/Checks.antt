-- Steps that are accepted one after another.
use Rattle.std.proofs.Common.{◌≡◌, ℕ, zero, suc, ◌||◌, ◌<◌, ◌+◌, Bool, true, false, List, [], ◌∷◌, ◌++◌, length, take, get_or, refl, sym, ap, ◌∙◌, subst, append_assoc, arith, Option, Some, None, inl, inr}
use Rattle.std.specs.Prelude.{not, IsTrue, Result, Ok, Err, IfOk}
use Rattle.std.specs.Option.{IfSome}
use Rattle.std.proofs.lemmas.List.{take_more, length-take-le}
use Rattle.rt_clause.specs.Literal.{Literal, negated}
use Rattle.rt_clause.specs.Lists.{line_at}
use Rattle.rt_clause.specs.Models.{IsModel, clause_true, lit_true}
use Rattle.rt_clause.specs.Refuting.{IsRefuted, Refutes}
use Rattle.rt_clause.proofs.Following.{follows-true, lit_true-negated}
use Rattle.rt_clause.proofs.EachLine.{each-append, each-cons, each-none}
use Rattle.rt_recorder.specs.declared.cert.Step.{Step}
use Rattle.rt_recorder.specs.Recording.{IsAccepted}
use Rattle.rt_recorder.specs.Checking.{AreAccepted, IsChecked, IsFirstWrong, IsSound, HasNoModel, clauses}
use Rattle.rt_recorder.specs.declared.check.Checked.{Checked}
use Rattle.rt_recorder.specs.declared.check.Checked.TheVariants.{Yes, Line, NoRefutation}

abbrev Lines : Type 0
Lines = List (List Literal)

nil : (ls : Lines) → ls ++ [] ≡ ls
nil [] = refl
nil (l ∷ ls) = ap (λ (t : Lines). l ∷ t) (nil ls)

accepted-snoc : (lines : Lines) (front : List Step) (s : Step) → AreAccepted lines front → IsAccepted (lines ++ clauses front) s → AreAccepted lines (front ++ s ∷ [])
accepted-snoc lines [] s h a = (subst (λ (ls : Lines). IsAccepted ls s) (nil lines) a, tt)
accepted-snoc lines (t ∷ front) s h a =
    (h.0, accepted-snoc (lines ++ t.lits ∷ []) front s h.1 (subst (λ (ls : Lines). IsAccepted ls s) (sym (append_assoc lines (t.lits ∷ []) (clauses front))) a))

clauses-snoc : (front : List Step) (s : Step) → clauses (front ++ s ∷ []) ≡ clauses front ++ s.lits ∷ []
clauses-snoc [] s = refl
clauses-snoc (t ∷ front) s = ap (λ (ls : Lines). t.lits ∷ ls) (clauses-snoc front s)

take-snoc : (ss : List Step) (i : ℕ) (s : Step) → i < length ss → s ≡ get_or ss i s → take (i + 1) ss ≡ take i ss ++ s ∷ []
take-snoc ss i s h e = take_more ss i s h ∙ ap (λ (t : Step). take i ss ++ t ∷ []) (sym e)

pub accepted-more : (lines : Lines) (ss : List Step) (i : ℕ) (s : Step) → i < length ss → s ≡ get_or ss i s → AreAccepted lines (take i ss) → IsAccepted (lines ++ clauses (take i ss)) s → AreAccepted lines (take (i + 1) ss)
accepted-more lines ss i s h e f a = subst (AreAccepted lines) (sym (take-snoc ss i s h e)) (accepted-snoc lines (take i ss) s f a)

pub lines-more : (lines now new : Lines) (ss : List Step) (i : ℕ) (s : Step) → i < length ss → s ≡ get_or ss i s → now ≡ lines ++ clauses (take i ss) → new ≡ now ++ s.lits ∷ [] → new ≡ lines ++ clauses (take (i + 1) ss)
lines-more lines now new ss i s h e f g =
    g ∙ ap (λ (ls : Lines). ls ++ s.lits ∷ []) f ∙ append_assoc lines (clauses (take i ss)) (s.lits ∷ []) ∙ ap (λ (ls : Lines). lines ++ ls) (sym (clauses-snoc (take i ss) s))
    ∙ ap (λ (ts : List Step). lines ++ clauses ts) (sym (take-snoc ss i s h e))

split : (ss : List Step) (i : ℕ) (s : Step) → i < length ss → s ≡ get_or ss i s → (back : List Step) × (ss ≡ take i ss ++ s ∷ back)
split [] i s h e = absurd (omega arith)
split (t ∷ ss) zero s h e = (ss, ap (λ (x : Step). x ∷ ss) (sym e))
split (t ∷ ss) (suc i) s h e = let r = split ss i s (omega arith) e in (r.0, ap (λ (xs : List Step). t ∷ xs) r.1)

pub wrong-at : (lines now : Lines) (ss : List Step) (i : ℕ) (s : Step) → i < length ss → s ≡ get_or ss i s → now ≡ lines ++ clauses (take i ss) → AreAccepted lines (take i ss) → (IsAccepted now s → ⊥) → IsFirstWrong lines ss (i + 1)
wrong-at lines now ss i s h e f a w =
    let r = split ss i s h e in
    record {
      front = take i ss;
      step = s;
      back = r.0;
      parts = r.1;
      number = omega (arith, length-take-le i ss (omega arith));
      accepted = a;
      wrong = λ x. w (subst (λ (ls : Lines). IsAccepted ls s) (sym f) x);
    }

pub so : (b : Bool) → b ≡ true → IsTrue b
so true e = refl
so false e = absurd (cc)

pub not-so : (b : Bool) → IsTrue b → b ≡ false → ⊥
not-so true t e = absurd (cc)
not-so false t e = absurd (cc)

-- ---- one answer

accepted-at : (lines : Lines) (front : List Step) (s : Step) (back : List Step) → AreAccepted lines (front ++ s ∷ back) → IsAccepted (lines ++ clauses front) s
accepted-at lines [] s back a = subst (λ (ls : Lines). IsAccepted ls s) (sym (nil lines)) a.0
accepted-at lines (t ∷ front) s back a = subst (λ (ls : Lines). IsAccepted ls s) (append_assoc lines (t.lits ∷ []) (clauses front)) (accepted-at (lines ++ t.lits ∷ []) front s back a.1)

not-wrong : (lines : Lines) (ss : List Step) (k : ℕ) → AreAccepted lines ss → IsFirstWrong lines ss k → ⊥
not-wrong lines ss k a w = w.wrong (accepted-at lines w.front w.step w.back (subst (AreAccepted lines) w.parts a))

fronts : (lines : Lines) (f g : List Step) (s t : Step) (b c : List Step) → f ++ s ∷ b ≡ g ++ t ∷ c → AreAccepted lines f → AreAccepted lines g
    → (IsAccepted (lines ++ clauses f) s → ⊥) → (IsAccepted (lines ++ clauses g) t → ⊥) → length f ≡ length g
fronts lines [] [] s t b c e af ag wf wg = refl
fronts lines [] (x ∷ g) s t b c e af ag wf wg = let h : x ≡ s = cc in absurd (wf (subst (λ (ls : Lines). IsAccepted ls s) (sym (nil lines)) (subst (IsAccepted lines) h ag.0)))
fronts lines (x ∷ f) [] s t b c e af ag wf wg = let h : x ≡ t = cc in absurd (wg (subst (λ (ls : Lines). IsAccepted ls t) (sym (nil lines)) (subst (IsAccepted lines) h af.0)))
fronts lines (x ∷ f) (y ∷ g) s t b c e af ag wf wg =
    let h : y ≡ x = cc in
    let r : f ++ s ∷ b ≡ g ++ t ∷ c = cc in
    let l : Lines = lines ++ x.lits ∷ [] in
    let m = subst (λ (z : Step). AreAccepted (lines ++ z.lits ∷ []) g) h ag.1 in
    ap suc (fronts l f g s t b c r af.1 m
    (λ a. wf (subst (λ (ls : Lines). IsAccepted ls s) (append_assoc lines (x.lits ∷ []) (clauses f)) a))
    (λ a. wg (subst (λ (ls : Lines). IsAccepted ls t) (append_assoc lines (x.lits ∷ []) (clauses g) ∙ ap (λ (z : Step). lines ++ z.lits ∷ clauses g) (sym h)) a)))

wrong-same : (lines : Lines) (ss : List Step) (j k : ℕ) → IsFirstWrong lines ss j → IsFirstWrong lines ss k → j ≡ k
wrong-same lines ss j k v w =
    let e = fronts lines v.front w.front v.step w.step v.back w.back (sym v.parts ∙ w.parts) v.accepted w.accepted v.wrong w.wrong in
    omega (arith, v.number, w.number, e)

pub one-answer : (lines : Lines) (ss : List Step) (assume : Option Literal) (a b : Checked) → IsChecked lines ss assume a → IsChecked lines ss assume b → b ≡ a
one-answer lines ss assume Yes Yes p q = refl
one-answer lines ss assume Yes (Line k) p q = absurd (not-wrong lines ss k p.0 q)
one-answer lines ss assume Yes NoRefutation p q = absurd (q.1 p.1)
one-answer lines ss assume (Line j) Yes p q = absurd (not-wrong lines ss j q.0 p)
one-answer lines ss assume (Line j) (Line k) p q = ap Line (wrong-same lines ss k j q p)
one-answer lines ss assume (Line j) NoRefutation p q = absurd (not-wrong lines ss j q.0 p)
one-answer lines ss assume NoRefutation Yes p q = absurd (p.1 q.1)
one-answer lines ss assume NoRefutation (Line k) p q = absurd (not-wrong lines ss k p.0 q)
one-answer lines ss assume NoRefutation NoRefutation p q = refl

pub only-answer : {E : Type 0} (lines : Lines) (ss : List Step) (assume : Option Literal) (r : Result Checked E) → IfOk r (λ a. IsChecked lines ss assume a) → IfOk r (λ a. (b : Checked) → IsChecked lines ss assume b → b ≡ a)
only-answer lines ss assume (Ok a) p = λ b q. one-answer lines ss assume a b p q
only-answer lines ss assume (Err e) p = p

-- ---- what a refutation says

model-more : (lines : Lines) (ss : List Step) (bools : List Bool) → AreAccepted lines ss → IsModel lines bools → IsModel (lines ++ clauses ss) bools
model-more lines [] bools a m = subst (λ (ls : Lines). IsModel ls bools) (sym (nil lines)) m
model-more lines (s ∷ ss) bools a m =
    let P : List Literal → Type 0 = λ c. clause_true bools c ≡ true in
    let one : clause_true bools s.lits ≡ true = follows-true lines s.lits s.hints a.0.known a.0.follows bools m in
    let next : IsModel (lines ++ s.lits ∷ []) bools = each-append P lines (s.lits ∷ []) m (each-cons P s.lits [] one (each-none P)) in
    subst (λ (ls : Lines). IsModel ls bools) (append_assoc lines (s.lits ∷ []) (clauses ss)) (model-more (lines ++ s.lits ∷ []) ss bools a.1 next)

refuting : (assume : Option Literal) (line : List Literal) (bools : List Bool) → Refutes assume line → clause_true bools line ≡ true → IfSome assume (λ a. lit_true bools a ≡ true) → ⊥
refuting assume line bools (inl e) t f = let u : clause_true bools [] ≡ true = ap (clause_true bools) (sym e) ∙ t in absurd (cc)
refuting None line bools (inr h) t f = absurd h
refuting (Some a) line bools (inr h) t f =
    let u : clause_true bools (negated a ∷ []) ≡ true = ap (clause_true bools) (sym h) ∙ t in
    denied (lit_true bools a) f (lit_true bools (negated a)) (lit_true-negated bools a) u where
      denied : (x : Bool) → x ≡ true → (y : Bool) → y ≡ not x → (y || false) ≡ true → ⊥
      denied true f true e u = absurd (cc)
      denied true f false e u = absurd (cc)
      denied false f y e u = absurd (cc)

no-model : (lines : Lines) (ss : List Step) (assume : Option Literal) → AreAccepted lines ss → IsRefuted (lines ++ clauses ss) assume → HasNoModel lines assume
no-model lines ss assume a (i, h, r) bools m f = refuting assume (line_at (lines ++ clauses ss) i) bools r (model-more lines ss bools a m i h) f

is-sound : (lines : Lines) (ss : List Step) (assume : Option Literal) (a : Checked) → IsChecked lines ss assume a → IsSound lines assume a
is-sound lines ss assume Yes p = no-model lines ss assume p.0 p.1
is-sound lines ss assume (Line k) p = tt
is-sound lines ss assume NoRefutation p = tt

pub sound-answer : {E : Type 0} (lines : Lines) (ss : List Step) (assume : Option Literal) (r : Result Checked E) → IfOk r (λ a. IsChecked lines ss assume a) → IfOk r (λ a. IsSound lines assume a)
sound-answer lines ss assume (Ok a) p = is-sound lines ss assume a p
sound-answer lines ss assume (Err e) p = p
