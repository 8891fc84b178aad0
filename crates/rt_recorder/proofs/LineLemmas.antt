-- Lines of a certificate.
use Rattle.std.proofs.Common.{◌≡◌, ◌≢◌, ◌+◌, ◌-◌, ◌↔◌, ℕ, List, [], ◌∷◌, ◌++◌, refl, sym, ap, ◌∙◌, subst, append_assoc, Option, Some, None, Bool, true, false, IsTrue, length, take, drop, take-append-drop, arith, length-append}
use Rattle.std.specs.Prelude.{if◌then◌else◌, MatchOption, nat_eq, codes, IfOk, Result, Ok, Err}
use Rattle.std.specs.Fmt.{decimal}
use Rattle.std.specs.List.{AllByRecursion as Each}
use Rattle.std.specs.List.Sorted.{IsStrictlyIncreasing}
use Rattle.std.proofs.lemmas.Fmt.{decimal_injective}
use lib.Pointwise.{pointwise}
use Rattle.std.specs.Cmp.Lexicographic.{other_text, same_text}
use Rattle.rt_clause.specs.Literal.{Literal}
use Rattle.rt_recorder.specs.declared.cert.Step.{Step}
use Rattle.rt_recorder.specs.declared.claim.Claim.TheVariants.{Witness, Agree}
use Rattle.rt_recorder.specs.Certificate.{Text, IsNumber, IsStep, ArePlaces, agree, keep_line, literal, spaced, step_line}
use Rattle.rt_recorder.specs.Reading.{IsClaim, IsCut, Reads, ReadsParts, claim_line}
use Rattle.rt_recorder.proofs.Cuts.{cut-same, free-append, front-same}
use Rattle.rt_recorder.proofs.Numerals.{literal-free, lit-free, number-free}
use Rattle.rt_recorder.proofs.Spaced.{spaced-same}

-- ---- a byte at the end

drop-front : (f g : Text) → drop (length f) (f ++ g) ≡ g
drop-front [] g = refl
drop-front (x ∷ f) g = drop-front f g

before-none : (text : Text) → pointwise nat_eq (drop (length text - 1) text) (32 ∷ []) ≡ false → (front : Text) → text ≡ front ++ 32 ∷ [] → ⊥
before-none text e front is =
    let n : length text - 1 ≡ length front = omega (arith, ap length is, length-append front (32 ∷ [])) in
    let same : drop (length text - 1) text ≡ 32 ∷ [] = ap (λ (k : ℕ). drop k text) n ∙ ap (λ (t : Text). drop (length front) t) is ∙ drop-front front (32 ∷ []) in
    other_text (drop (length text - 1) text) (32 ∷ []) (sym e) same

pub before-cases : {R : Type 0} (now : R → Text) (text : Text) (o : Option R)
    → MatchOption o (pointwise nat_eq (drop (length text - 1) text) (32 ∷ []) ≡ false) (λ x. (pointwise nat_eq (drop (length text - 1) text) (32 ∷ []) ≡ true) × (now x ≡ take (length text - 1) text) × (length (now x) + 1 ≡ length text))
    → MatchOption o ((front : Text) → text ≡ front ++ 32 ∷ [] → ⊥) (λ x. text ≡ now x ++ 32 ∷ [])
before-cases now text None e = before-none text e
before-cases now text (Some x) e =
    let same : drop (length text - 1) text ≡ 32 ∷ [] = same_text (drop (length text - 1) text) (32 ∷ []) (sym e.0) in
    sym (take-append-drop (length text - 1) text) ∙ ap (λ (t : Text). take (length text - 1) text ++ t) same ∙ ap (λ (t : Text). t ++ 32 ∷ []) (sym e.1)

-- ---- the line of a verdict

pub claim-none : (line : Text) → line ≢ agree → ((rest : Text) → line ≡ codes "verdict witness " ++ rest → ⊥) → Reads IsClaim claim_line line None
claim-none line a w Agree f e = a e
claim-none line a w (Witness rows) f e = w (decimal rows) e

-- ---- the line of the places

pub numbers-same : (xs ys : List ℕ) → Each IsNumber xs → Each IsNumber ys → spaced decimal xs ≡ spaced decimal ys → xs ≡ ys
numbers-same xs ys f g e = spaced-same IsNumber decimal number-free (λ m n h k d. decimal_injective m n (omega arith) (omega arith) d) xs ys f g e

pub no-places : (line rest : Text) (ps : List ℕ) (rows : ℕ) (b : Bool) → line ≡ codes "keep" ++ rest → Reads (Each IsNumber) (spaced decimal) rest (Some ps)
    → (IsTrue b ↔ ((length ps ≡ rows) × IsStrictlyIncreasing ps)) → b ≡ false → Reads (λ ps. ArePlaces ps × (length ps ≡ rows)) keep_line line None
no-places line rest ps rows b e r s f x p is =
    let t : rest ≡ spaced decimal x = cc in
    let same : x ≡ ps = numbers-same x ps p.0.small r.0 (sym t ∙ r.1) in
    let yes : IsTrue b = s.1 (sym (ap length same) ∙ p.1, subst IsStrictlyIncreasing same p.0.rising) in
    let t : IsTrue false = subst IsTrue f yes in
    absurd (cc)

-- ---- the line of a step

pub spaced-free : {X : Type 0} (Fits : X → Type 0) (spell : X → Text) (c : ℕ) → 32 ≢ c → ((x : X) → Fits x → Each (λ b. b ≢ c) (spell x)) → (xs : List X) → Each Fits xs → Each (λ b. b ≢ c) (spaced spell xs)
spaced-free Fits spell c n free [] f = tt
spaced-free Fits spell c n free (x ∷ xs) f = (n, free-append (λ b. b ≢ c) (spell x) (spaced spell xs) (free x f.0) (spaced-free Fits spell c n free xs f.1))

pub step-parts : (line rest front back : Text) (s : Step) → line ≡ codes "d" ++ rest → IsCut 59 rest front back → IsStep s → line ≡ step_line s
    → (front ≡ spaced literal s.lits ++ 32 ∷ []) × (back ≡ 59 ∷ spaced decimal s.hints)
step-parts line rest front back s e c f is =
    let t : rest ≡ spaced literal s.lits ++ (32 ∷ 59 ∷ spaced decimal s.hints) = cc in
    let u : front ++ back ≡ (spaced literal s.lits ++ 32 ∷ []) ++ (59 ∷ spaced decimal s.hints) = sym c.parts ∙ t ∙ sym (append_assoc (spaced literal s.lits) (32 ∷ []) (59 ∷ spaced decimal s.hints)) in
    cut-same 59 front back (spaced literal s.lits ++ 32 ∷ []) (59 ∷ spaced decimal s.hints) u c.free c.ahead
    (free-append (λ b. b ≢ 59) (spaced literal s.lits) (32 ∷ []) (spaced-free (λ l. IsNumber l.var) literal 59 (omega arith) (literal-free 59 (λ r. omega arith)) s.lits f.lits) (omega arith, tt))
    refl

pub no-hints : (line rest front back : Text) → line ≡ codes "d" ++ rest → IsCut 59 rest front back → ((more : Text) → back ≡ 59 ∷ more → ⊥) → Reads IsStep step_line line None
no-hints line rest front back e c n s f is = n (spaced decimal s.hints) (step-parts line rest front back s e c f is).1

pub no-lits : (line rest front back : Text) → line ≡ codes "d" ++ rest → IsCut 59 rest front back → ((more : Text) → front ≡ more ++ 32 ∷ [] → ⊥) → Reads IsStep step_line line None
no-lits line rest front back e c n s f is = n (spaced literal s.lits) (step-parts line rest front back s e c f is).0

step-none : (line rest front back lits hints : Text) → line ≡ codes "d" ++ rest → IsCut 59 rest front back → front ≡ lits ++ 32 ∷ [] → back ≡ 59 ∷ hints → ReadsParts lits hints None → Reads IsStep step_line line None
step-none line rest front back lits hints e c l h r s f is =
    let p = step-parts line rest front back s e c f is in
    r s f (front-same lits (spaced literal s.lits) 32 (sym l ∙ p.0)) (let k : 59 ∷ hints ≡ 59 ∷ spaced decimal s.hints = sym h ∙ p.1 in cc)

pub step-read : {E : Type 0} (line rest front back lits hints : Text) → line ≡ codes "d" ++ rest → IsCut 59 rest front back → front ≡ lits ++ 32 ∷ [] → back ≡ 59 ∷ hints
    → (r : Result (Option Step) E) → IfOk r (λ o. ReadsParts lits hints o) → IfOk r (Reads IsStep step_line line)
step-read line rest front back lits hints e c l h (Err x) r = r
step-read line rest front back lits hints e c l h (Ok None) r = step-none line rest front back lits hints e c l h r
step-read line rest front back lits hints e c l h (Ok (Some s)) r = (
  r.0,
  e ∙ ap (λ (t : Text). codes "d" ++ t) (c.parts ∙ ap (λ (t : Text). t ++ back) l ∙ ap (λ (t : Text). (lits ++ 32 ∷ []) ++ t) h ∙ append_assoc lits (32 ∷ []) (59 ∷ hints)
      ∙ ap (λ (t : Text). t ++ 32 ∷ 59 ∷ hints) r.1 ∙ ap (λ (t : Text). spaced literal s.lits ++ 32 ∷ 59 ∷ t) r.2),
)

-- ---- one step

pub own-cut : (s : Step) → IsStep s → IsCut 59 (spaced literal s.lits ++ (32 ∷ 59 ∷ spaced decimal s.hints)) (spaced literal s.lits ++ 32 ∷ []) (59 ∷ spaced decimal s.hints)
own-cut s f = record {
  parts = sym (append_assoc (spaced literal s.lits) (32 ∷ []) (59 ∷ spaced decimal s.hints));
  free = free-append (λ b. b ≢ 59) (spaced literal s.lits) (32 ∷ []) (spaced-free (λ l. IsNumber l.var) literal 59 (omega arith) (literal-free 59 (λ r. omega arith)) s.lits f.lits) (omega arith, tt);
  ahead = refl;
}

literal-same : (k l : Literal) → IsNumber k.var → IsNumber l.var → literal k ≡ literal l → k ≡ l
literal-same k l f g e =
    let t : decimal k.var ≡ decimal l.var = cc in
    let s : ◌≡◌ {A = ℕ} (if k.on then 43 else 45) (if l.on then 43 else 45) = cc in
    let v = decimal_injective k.var l.var (omega arith) (omega arith) t in
    let o : k.on ≡ l.on = sign-same k.on l.on s in
    let made : ℕ → Bool → Literal = λ n b. record { var = n; on = b } in
    ap (λ (n : ℕ). made n k.on) v ∙ ap (λ (b : Bool). made l.var b) o where
      sign-same : (a b : Bool) → ◌≡◌ {A = ℕ} (if a then 43 else 45) (if b then 43 else 45) → a ≡ b
      sign-same true true e = refl
      sign-same false false e = refl
      sign-same true false e = absurd (omega arith)
      sign-same false true e = absurd (omega arith)

pub lits-same : (xs ys : List Literal) → Each (λ l. IsNumber l.var) xs → Each (λ l. IsNumber l.var) ys → spaced literal xs ≡ spaced literal ys → xs ≡ ys
lits-same xs ys f g e = spaced-same (λ l. IsNumber l.var) literal lit-free literal-same xs ys f g e
