-- Texts of lines.
use Rattle.std.proofs.Common.{◌≡◌, ◌≢◌, ℕ, List, [], ◌∷◌, ◌++◌, map, refl, sym, ap, ◌∙◌, append_assoc, Bool, true, false, Option, Some, None, length, arith, inl, inr}
use Rattle.std.specs.Prelude.{codes, not, ◌==◌, ◌&&◌, ◌⊎◌}
use Rattle.std.specs.Option.{IfSome}
use Rattle.std.specs.Fmt.{decimal}
use Rattle.std.specs.List.{AllByRecursion as Each, list_all}
use Rattle.std.proofs.lemmas.Bool.Decides.{nat_tests}
use Rattle.rt_clause.specs.Literal.{Literal}
use Rattle.rt_recorder.specs.declared.cert.Cert.{Cert}
use Rattle.rt_recorder.specs.declared.cert.Step.{Step}
use Rattle.rt_recorder.specs.Certificate.{Text, IsNumber, IsStep, ArePlaces, IsCert, agree, added_line, step_line, last_line, literal, spaced, header, verdict_lines, cert_lines, cert_text, text_of}
use Rattle.rt_recorder.specs.Lines.{IsLine}
use Rattle.rt_recorder.proofs.Cuts.{cut-same, free-append}
use Rattle.rt_recorder.proofs.Numerals.{decimal-free, literal-free}
use Rattle.rt_recorder.proofs.LineLemmas.{spaced-free}

pub text_of-append : (ls ms : List Text) → text_of (ls ++ ms) ≡ text_of ls ++ text_of ms
text_of-append [] ms = refl
text_of-append (l ∷ ls) ms = ap (λ (t : Text). l ++ 10 ∷ t) (text_of-append ls ms) ∙ sym (append_assoc l (10 ∷ text_of ls) (text_of ms))

-- ---- what is written

pub written : (c : Cert) (t u v w x : Text) → t ≡ header ++ 10 ∷ [] → u ≡ t ++ text_of (verdict_lines c.keep) → v ≡ u ++ (added_line c.added ++ 10 ∷ []) → w ≡ v ++ text_of (map step_line c.steps) → x ≡ w ++ (last_line ++ 10 ∷ []) → x ≡ cert_text c
written c t u v w x e f g h i =
    let verdict : Text = text_of (verdict_lines c.keep) in
    let steps : Text = text_of (map step_line c.steps) in
    let left : x ≡ ((((header ++ 10 ∷ []) ++ verdict) ++ (added_line c.added ++ 10 ∷ [])) ++ steps) ++ (last_line ++ 10 ∷ []) =
    i ∙ ap (λ (z : Text). z ++ (last_line ++ 10 ∷ [])) (h ∙ ap (λ (z : Text). z ++ steps) (g ∙ ap (λ (z : Text). z ++ (added_line c.added ++ 10 ∷ [])) (f ∙ ap (λ (z : Text). z ++ verdict) e))) in
    let tail : text_of (map step_line c.steps ++ last_line ∷ []) ≡ steps ++ (last_line ++ 10 ∷ []) = text_of-append (map step_line c.steps) (last_line ∷ []) in
    let whole : cert_text c ≡ header ++ 10 ∷ (verdict ++ (added_line c.added ++ 10 ∷ (steps ++ (last_line ++ 10 ∷ [])))) =
    ap (λ (z : Text). header ++ 10 ∷ z) (text_of-append (verdict_lines c.keep) (added_line c.added ∷ (map step_line c.steps ++ last_line ∷ [])) ∙ ap (λ (z : Text). verdict ++ (added_line c.added ++ 10 ∷ z)) tail) in
    left ∙ append_assoc (((header ++ 10 ∷ []) ++ verdict) ++ (added_line c.added ++ 10 ∷ [])) steps (last_line ++ 10 ∷ [])
    ∙ append_assoc ((header ++ 10 ∷ []) ++ verdict) (added_line c.added ++ 10 ∷ []) (steps ++ (last_line ++ 10 ∷ []))
    ∙ append_assoc (header ++ 10 ∷ []) verdict ((added_line c.added ++ 10 ∷ []) ++ (steps ++ (last_line ++ 10 ∷ [])))
    ∙ ap (λ (z : Text). (header ++ 10 ∷ []) ++ (verdict ++ z)) (append_assoc (added_line c.added) (10 ∷ []) (steps ++ (last_line ++ 10 ∷ [])))
    ∙ sym whole

-- ---- no line has a line feed

line-by : (bs : Text) → list_all (λ b. not (b == 10)) bs ≡ true → IsLine bs
line-by [] t = tt
line-by (b ∷ bs) t = (first b (list_all (λ b. not (b == 10)) bs) t, line-by bs (rest (not (b == 10)) (list_all (λ b. not (b == 10)) bs) t)) where
  first : (b : ℕ) (r : Bool) → (not (b == 10) && r) ≡ true → b ≢ 10
  first b r t e = grind (arith, nat_tests)

  rest : (p q : Bool) → (p && q) ≡ true → q ≡ true
  rest true q t = t
  rest false q t = absurd (cc)

number-line : (n : ℕ) → IsNumber n → IsLine (decimal n)
number-line n h = decimal-free 10 (λ r. omega arith) n (omega arith)

lit-line : (l : Literal) → IsNumber l.var → IsLine (literal l)
lit-line l h = literal-free 10 (λ r. omega arith) l h

step-is_line : (s : Step) → IsStep s → IsLine (step_line s)
step-is_line s f =
    free-append (λ b. b ≢ 10) (codes "d") _ (line-by (codes "d") refl)
    (free-append (λ b. b ≢ 10) (spaced literal s.lits) _ (spaced-free (λ l. IsNumber l.var) literal 10 (omega arith) lit-line s.lits f.lits)
    (free-append (λ b. b ≢ 10) (codes " ;") _ (line-by (codes " ;") refl) (spaced-free IsNumber decimal 10 (omega arith) number-line s.hints f.hints)))

steps-are_lines : (ss : List Step) → Each IsStep ss → Each IsLine (map step_line ss ++ last_line ∷ [])
steps-are_lines [] f = (line-by last_line refl, tt)
steps-are_lines (s ∷ ss) f = (step-is_line s f.0, steps-are_lines ss f.1)

verdict-are_lines : (k : Option (List ℕ)) (rest : List Text) → IfSome k ArePlaces → Each IsLine rest → Each IsLine (verdict_lines k ++ rest)
verdict-are_lines None rest f r = (line-by agree refl, r)
verdict-are_lines (Some ps) rest f r = (
  free-append (λ b. b ≢ 10) (codes "verdict witness ") (decimal (length ps)) (line-by (codes "verdict witness ") refl) (number-line (length ps) f.few),
  (free-append (λ b. b ≢ 10) (codes "keep") (spaced decimal ps) (line-by (codes "keep") refl) (spaced-free IsNumber decimal 10 (omega arith) number-line ps f.small), r),
)

pub cert-are_lines : (c : Cert) → IsCert c → Each IsLine (cert_lines c)
cert-are_lines c f = (
  line-by header refl,
  verdict-are_lines c.keep (added_line c.added ∷ (map step_line c.steps ++ last_line ∷ [])) f.places
      (free-append (λ b. b ≢ 10) (codes "added ") (decimal c.added) (line-by (codes "added ") refl) (number-line c.added f.added), steps-are_lines c.steps f.steps),
)

-- ---- one text has one list of lines

pub record IsTail (ls ms : List Text) (rest more : Text) : Type 0 where
  pub others : List Text
  pub lines : ms ≡ ls ++ others
  pub text : rest ≡ text_of others ++ more

-- two lists of lines with which one text begins: one goes on from the other
pub tails : (ls ms : List Text) (rest more : Text) → Each IsLine ls → Each IsLine ms → text_of ls ++ rest ≡ text_of ms ++ more → IsTail ls ms rest more ⊎ IsTail ms ls more rest
tails [] ms rest more f g e = inl (record { others = ms; lines = refl; text = e })
tails (l ∷ ls) [] rest more f g e = inr (record { others = l ∷ ls; lines = refl; text = sym e })
tails (l ∷ ls) (m ∷ ms) rest more f g e =
    let t : l ++ 10 ∷ (text_of ls ++ rest) ≡ m ++ 10 ∷ (text_of ms ++ more) = sym (append_assoc l (10 ∷ text_of ls) rest) ∙ e ∙ append_assoc m (10 ∷ text_of ms) more in
    let r = cut-same 10 l (10 ∷ (text_of ls ++ rest)) m (10 ∷ (text_of ms ++ more)) t f.0 refl g.0 refl in
    let same : l ≡ m = r.0 in
    let u : text_of ls ++ rest ≡ text_of ms ++ more = let v : 10 ∷ (text_of ls ++ rest) ≡ 10 ∷ (text_of ms ++ more) = r.1 in cc in
    elim (tails ls ms rest more f.1 g.1 u) [
      | inl t ↦ let w : ms ≡ ls ++ t.others = t.lines in inl (record { others = t.others; lines = cc; text = t.text })
      | inr t ↦ let w : ls ≡ ms ++ t.others = t.lines in inr (record { others = t.others; lines = cc; text = t.text })
    ]
