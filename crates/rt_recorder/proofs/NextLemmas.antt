-- Which line may come next.
use Rattle.std.proofs.Common.{◌≡◌, ◌≢◌, ℕ, List, [], ◌∷◌, ◌++◌, map, sym, ap, ◌∙◌, append_assoc, Option, Some, None, length, arith}
use Rattle.std.specs.Prelude.{codes}
use Rattle.std.specs.Option.{IfSome}
use Rattle.std.specs.Fmt.{decimal}
use Rattle.std.specs.List.{AllByRecursion as Each}
use Rattle.std.proofs.lemmas.Fmt.{decimal_injective}
use Rattle.rt_recorder.specs.declared.cert.Cert.{Cert}
use Rattle.rt_recorder.specs.declared.cert.Step.{Step}
use Rattle.rt_recorder.specs.declared.claim.Claim.TheVariants.{Witness, Agree}
use Rattle.rt_recorder.specs.declared.reading.Reading.TheVariants.{Steps}
use Rattle.rt_recorder.specs.Certificate.{Text, IsNumber, IsStep, ArePlaces, agree, witness, keep_line, added_line, literal, spaced, step_line, last_line, header, verdict_lines, cert_lines}
use Rattle.rt_recorder.specs.Lines.{Begins}
use Rattle.rt_recorder.proofs.Cuts.{head-same}
use Rattle.rt_recorder.specs.Reading.{IsClaim, Reads, claim_line, lines_read}

-- ---- behind the head and the verdict

first-claim : (line : Text) → Reads IsClaim claim_line line None → (k : Option (List ℕ)) (rest more : List Text) → IfSome k ArePlaces → verdict_lines k ++ rest ≡ line ∷ more → ⊥
first-claim line n None rest more f e = let t : line ≡ agree = cc in n Agree tt t
first-claim line n (Some ps) rest more f e = let t : line ≡ witness (length ps) = cc in n (Witness (length ps)) f.few t

pub verdict-no : (line : Text) → Reads IsClaim claim_line line None → Begins (header ∷ line ∷ []) → ⊥
verdict-no line n (c, f, more, e) =
    let t : verdict_lines c.keep ++ (added_line c.added ∷ (map step_line c.steps ++ last_line ∷ [])) ≡ line ∷ more = cc in
    first-claim line n c.keep (added_line c.added ∷ (map step_line c.steps ++ last_line ∷ [])) more f.places t

-- ---- behind the number of rows

pub witness-same : (m n : ℕ) → IsNumber m → IsNumber n → witness m ≡ witness n → m ≡ n
witness-same m n f g e = let t : decimal m ≡ decimal n = cc in decimal_injective m n (omega arith) (omega arith) t

pub agree-other : (n : ℕ) → agree ≡ witness n → ⊥
agree-other n e = absurd (cc)

second-keep : (line : Text) (rows : ℕ) → IsNumber rows → Reads (λ ps. ArePlaces ps × (length ps ≡ rows)) keep_line line None
    → (k : Option (List ℕ)) (rest more : List Text) → IfSome k ArePlaces → verdict_lines k ++ rest ≡ witness rows ∷ line ∷ more → ⊥
second-keep line rows g n None rest more f e = let t : agree ≡ witness rows = cc in agree-other rows t
second-keep line rows g n (Some ps) rest more f e =
    let t : witness (length ps) ≡ witness rows = cc in
    let u : line ≡ keep_line ps = cc in
    n ps (f, witness-same (length ps) rows f.few g t) u

pub keep-no : (line : Text) (rows : ℕ) → IsNumber rows → Reads (λ ps. ArePlaces ps × (length ps ≡ rows)) keep_line line None → Begins (header ∷ witness rows ∷ line ∷ []) → ⊥
keep-no line rows g n (c, f, more, e) =
    let t : verdict_lines c.keep ++ (added_line c.added ∷ (map step_line c.steps ++ last_line ∷ [])) ≡ witness rows ∷ line ∷ more = cc in
    second-keep line rows g n c.keep (added_line c.added ∷ (map step_line c.steps ++ last_line ∷ [])) more f.places t

-- ---- behind the verdict

pub verdict-peel : (j k : Option (List ℕ)) (rest more : List Text) → verdict_lines j ++ rest ≡ verdict_lines k ++ more → rest ≡ more
verdict-peel None None rest more e = cc
verdict-peel None (Some qs) rest more e = let t : agree ≡ witness (length qs) = cc in absurd (agree-other (length qs) t)
verdict-peel (Some ps) None rest more e = let t : agree ≡ witness (length ps) = cc in absurd (agree-other (length ps) t)
verdict-peel (Some ps) (Some qs) rest more e = cc

-- ---- behind the steps

pub last-other : (s : Step) → last_line ≡ step_line s → ⊥
last-other s e = let h : ◌≡◌ {A = ℕ} 101 100 = head-same 101 100 (codes "nd") (spaced literal s.lits ++ (codes " ;" ++ spaced decimal s.hints)) e in absurd (omega arith)

-- what follows some steps is a step, or the last line and nothing more
steps-next : (ss ts : List Step) (line : Text) (more : List Text) → Each IsStep ts → line ≢ last_line → Reads IsStep step_line line None
    → map step_line ts ++ last_line ∷ [] ≡ map step_line ss ++ line ∷ more → ⊥
steps-next [] [] line more f n r e = let t : line ≡ last_line = cc in n t
steps-next [] (t ∷ ts) line more f n r e = let u : line ≡ step_line t = cc in r t f.0 u
steps-next (s ∷ ss) [] line more f n r e = let u : last_line ≡ step_line s = cc in last-other s u
steps-next (s ∷ ss) (t ∷ ts) line more f n r e = let u : map step_line ts ++ last_line ∷ [] ≡ map step_line ss ++ line ∷ more = cc in steps-next ss ts line more f.1 n r u

pub steps-peel : (c d : Cert) (more : List Text) → cert_lines c ≡ (lines_read (Steps d)) ++ more → map step_line c.steps ++ last_line ∷ [] ≡ map step_line d.steps ++ more
steps-peel c d more e =
    let rest : List Text = added_line c.added ∷ (map step_line c.steps ++ last_line ∷ []) in
    let next : List Text = added_line d.added ∷ (map step_line d.steps ++ more) in
    let t : verdict_lines c.keep ++ rest ≡ (verdict_lines d.keep ++ added_line d.added ∷ map step_line d.steps) ++ more = cc in
    let u : rest ≡ next = verdict-peel c.keep d.keep rest next (t ∙ append_assoc (verdict_lines d.keep) (added_line d.added ∷ map step_line d.steps) more) in
    cc

pub steps-no : (line : Text) (d : Cert) → line ≢ last_line → Reads IsStep step_line line None → Begins (lines_read (Steps d) ++ line ∷ []) → ⊥
steps-no line d n r (c, f, more, e) =
    steps-next d.steps c.steps line more f.steps n r (steps-peel c d (line ∷ more) (e ∙ append_assoc (lines_read (Steps d)) (line ∷ []) more))

-- ---- behind the end

steps-end : (ss ts : List Step) (line : Text) (more : List Text) → map step_line ts ++ last_line ∷ [] ≡ map step_line ss ++ last_line ∷ line ∷ more → ⊥
steps-end [] [] line more e = absurd (cc)
steps-end [] (t ∷ ts) line more e = let u : last_line ≡ step_line t = cc in last-other t u
steps-end (s ∷ ss) [] line more e = let u : last_line ≡ step_line s = cc in last-other s u
steps-end (s ∷ ss) (t ∷ ts) line more e = let u : map step_line ts ++ last_line ∷ [] ≡ map step_line ss ++ last_line ∷ line ∷ more = cc in steps-end ss ts line more u

pub ended-lines : (d : Cert) → cert_lines d ≡ lines_read (Steps d) ++ last_line ∷ []
ended-lines d = ap (λ (t : List Text). header ∷ t) (sym (append_assoc (verdict_lines d.keep) (added_line d.added ∷ map step_line d.steps) (last_line ∷ [])))

pub ended-no : (line : Text) (d : Cert) → Begins (cert_lines d ++ line ∷ []) → ⊥
ended-no line d (c, f, more, e) =
    let t : cert_lines c ≡ lines_read (Steps d) ++ (last_line ∷ line ∷ more) =
    e ∙ ap (λ (x : List Text). (x ++ line ∷ []) ++ more) (ended-lines d) ∙ append_assoc (lines_read (Steps d) ++ last_line ∷ []) (line ∷ []) more ∙ append_assoc (lines_read (Steps d)) (last_line ∷ []) (line ∷ more) in
    steps-end d.steps c.steps line more (steps-peel c d (last_line ∷ line ∷ more) t)
