-- What the places of a certificate claim, and what its check says.
use Rattle.std.proofs.Common.{◌≡◌, ◌∙◌, ℕ, zero, suc, ◌+◌, ◌^◌, drop, ◌<◌, ◌≤◌, nat_le, Bool, true, false, cond, ◌&&◌, List, [], ◌∷◌, length, get_or, slice_index_or, refl, sym, ap, subst, arith, rules, Result, Ok, Err}
use Rattle.std.specs.Prelude.{Option, None, Some, IfOk, IfSome, if◌then◌else◌}
use Rattle.std.specs.List.{All, AllByRecursion as Each, find}
use Rattle.std.specs.Option.{ForSome, option_map}
use Rattle.std.proofs.lemmas.List.{drop_more, drop_all}
use Rattle.rt_value.specs.declared.no_memory.NoMemory.{NoMemory}
use Rattle.rt_recorder.specs.Certificate.{ArePlaces}
use Rattle.rt_recorder.specs.declared.cert.Cert.{Cert}
use Rattle.rt_recorder.specs.Checking.{IsChecked}
use Rattle.rt_recorder.specs.declared.check.Checked.TheVariants as checked
use Rattle.rt_recorder.specs.declared.encoded.Encoded.{Encoded}
use Rattle.rt_cert.specs.Encoding.{IsEncoding}
use Rattle.rt_input.specs.Accepted.{Accepted}
use Rattle.rt_top.specs.Smallest.{IsCounterexample, is_counterexample, differ_at, lawful_at}
use Rattle.rt_cert.specs.Certified.{IsJudged, IsToBeRefuted, IsTried, IsWrong, choice_fault, claim_fault, places_fault, rows_of}
use Rattle.rt_cert.specs.Claims.{Holds, IsJudgedOver, IsWrongOver}
use Rattle.rt_cert.specs.Least.{IsLeastOrNone, IsSmallestOrNone}
use Rattle.rt_cert.specs.Places.{keep_of, places_of}
use Rattle.rt_cert.specs.declared.judgement.Judgement.{Judgement}
use Rattle.rt_cert.specs.declared.judgement.Judgement.TheVariants.{Valid, Wrong}
use Rattle.rt_cert.specs.declared.judgement.Why.{Why}
use Rattle.rt_cert.specs.declared.judgement.Why.TheVariants as why
use Rattle.rt_cert.proofs.LeastLemmas.{refutation-least}
use Rattle.rt_cert.proofs.PlaceLemmas.{keep-back, keep-long, places-below, places-fit}

-- ---- the places

-- where none is found, all are below
pub all-below : (rows : ℕ) (ps : List ℕ) → find (λ p. nat_le rows p) ps ≡ None → All (λ p. p < rows) ps
all-below rows [] h = λ k d within. absurd (omega (arith, within))
all-below rows (p ∷ ps) h = by (nat_le rows p) refl h (λ rest. all-below rows ps rest) where
  by : (b : Bool) → nat_le rows p ≡ b → cond b (Some p) (find (λ q. nat_le rows q) ps) ≡ None → (find (λ q. nat_le rows q) ps ≡ None → All (λ q. q < rows) ps) → All (λ q. q < rows) (p ∷ ps)
  by true is h rest = λ k d within. cc
  by false is h rest = λ k d within. first k d within (rest h) where
    first : (k d : ℕ) → k < length (p ∷ ps) → All (λ q. q < rows) ps → slice_index_or (p ∷ ps) k d < rows
    first zero d within all = search rules
    first (suc k) d within all = all k d (omega (arith, within))

-- one place after another
pub find-at : (rows : ℕ) (ps : List ℕ) (i : ℕ) → i < length ps → rows ≤ get_or ps i 0 → find (λ p. nat_le rows p) ps ≡ find (λ p. nat_le rows p) (drop i ps) → find (λ p. nat_le rows p) ps ≡ Some (get_or ps i 0)
find-at rows ps i h past so_far = so_far ∙ ap (find (λ p. nat_le rows p)) (drop_more ps i 0 h) ∙ ap (λ b. cond b (Some (get_or ps i 0)) (find (λ p. nat_le rows p) (drop (i + 1) ps))) (is-past rows (get_or ps i 0) past)
  where
    is-past : (m n : ℕ) → m ≤ n → nat_le m n ≡ true
    is-past m n h = search rules

pub find-on : (rows : ℕ) (ps : List ℕ) (i : ℕ) → i < length ps → get_or ps i 0 < rows → find (λ p. nat_le rows p) ps ≡ find (λ p. nat_le rows p) (drop i ps) → find (λ p. nat_le rows p) ps ≡ find (λ p. nat_le rows p) (drop (i + 1) ps)
find-on rows ps i h below so_far = so_far ∙ ap (find (λ p. nat_le rows p)) (drop_more ps i 0 h) ∙ ap (λ b. cond b (Some (get_or ps i 0)) (find (λ p. nat_le rows p) (drop (i + 1) ps))) (is-below rows (get_or ps i 0) below)
  where
    is-below : (m n : ℕ) → n < m → nat_le m n ≡ false
    is-below m n h = search rules

pub find-end : (rows : ℕ) (ps : List ℕ) (i : ℕ) → length ps ≤ i → find (λ p. nat_le rows p) ps ≡ find (λ p. nat_le rows p) (drop i ps) → find (λ p. nat_le rows p) ps ≡ None
find-end rows ps i h so_far = so_far ∙ ap (find (λ p. nat_le rows p)) (drop_all i ps h)

-- ---- a choice of rows

-- a choice of which nothing is wrong is a counterexample
pub choice-shows : (input : Accepted) (keep : List Bool) → choice_fault input keep ≡ None → is_counterexample input keep ≡ true
unfolding is_counterexample
choice-shows input keep h = by (lawful_at input keep) (differ_at input keep) h where
  by : (l d : Bool) → (if l then (if d then None else Some why.SameAnswers) else Some why.NotLawful) ≡ None → (l && d) ≡ true
  by true true h = refl
  by true false h = cc
  by false d h = cc

-- what is claimed of places that are all below
pub places-at : (input : Accepted) (ps : List ℕ) → find (λ p. nat_le (rows_of input) p) ps ≡ None → claim_fault input (Some ps) ≡ choice_fault input (keep_of (rows_of input) ps)
places-at input ps h = ap (places_fault input ps) h

pub places-past : (input : Accepted) (ps : List ℕ) (p : ℕ) → find (λ p. nat_le (rows_of input) p) ps ≡ Some p → claim_fault input (Some ps) ≡ Some (why.Place p)
places-past input ps p h = ap (places_fault input ps) h

pub claim-holds : (input : Accepted) (ps : List ℕ) (keep : List Bool) → find (λ p. nat_le (rows_of input) p) ps ≡ None → keep ≡ keep_of (rows_of input) ps → choice_fault input keep ≡ None → Holds input (Some ps) (Some keep)
claim-holds input ps keep below is fault = record {
  fault = places-at input ps below ∙ ap (choice_fault input) (sym is) ∙ fault;
  is = ap Some is;
  counterexample = λ other e. (let same : keep ≡ other = cc in subst (IsCounterexample input) same (ap length is ∙ keep-long (rows_of input) ps, choice-shows input keep fault));
}

-- ---- back from a choice

pub kept-back : (rows : ℕ) (keep : Option (List Bool)) → ForSome keep (λ k. length k ≡ rows) → option_map (keep_of rows) (option_map places_of keep) ≡ keep
kept-back rows None h = refl
kept-back rows (Some keep) h = ap (λ (n : ℕ). Some (keep_of n (places_of keep))) (sym (h keep refl)) ∙ ap Some (keep-back keep)

pub kept-fit : (rows : ℕ) (keep : Option (List Bool)) → rows < 2 ^ 62 → ForSome keep (λ k. length k ≡ rows) → IfSome (option_map places_of keep) ArePlaces
kept-fit rows None small h = tt
kept-fit rows (Some keep) small h = let l = h keep refl in places-fit keep (omega (arith, l, small))

none-past : (rows : ℕ) (ps : List ℕ) → Each (λ p. p < rows) ps → find (λ p. nat_le rows p) ps ≡ None
none-past rows [] h = refl
none-past rows (p ∷ ps) h = by (nat_le rows p) (past rows p h.0) (none-past rows ps h.1) where
  past : (m n : ℕ) → n < m → nat_le m n ≡ false
  past m n b = search rules

  by : (b : Bool) → b ≡ false → find (λ q. nat_le rows q) ps ≡ None → cond b (Some p) (find (λ q. nat_le rows q) ps) ≡ None
  by true e r = cc
  by false e r = r

-- a counterexample has no fault
counter-stands : (input : Accepted) (keep : List Bool) → is_counterexample input keep ≡ true → choice_fault input keep ≡ None
unfolding is_counterexample
counter-stands input keep h = by (lawful_at input keep) (differ_at input keep) h where
  by : (l d : Bool) → (l && d) ≡ true → (if l then (if d then None else Some why.SameAnswers) else Some why.NotLawful) ≡ None
  by true true h = refl
  by true false h = cc
  by false d h = cc

-- so nothing is wrong with the places of a smallest one
pub verdict-stands : (input : Accepted) (keep : Option (List Bool)) → IsSmallestOrNone input keep → claim_fault input (option_map places_of keep) ≡ None
verdict-stands input None h = refl
verdict-stands input (Some keep) h =
    let l = h.counterexample.0 in
    let below : Each (λ p. p < rows_of input) (places_of keep) = (let P : ℕ → Type 0 = λ n. Each (λ p. p < n) (places_of keep) in subst P l (places-below keep)) in
    let back : keep_of (rows_of input) (places_of keep) ≡ keep = ap (λ (n : ℕ). keep_of n (places_of keep)) (sym l) ∙ keep-back keep in
    places-at input (places_of keep) (none-past (rows_of input) (places_of keep) below) ∙ ap (choice_fault input) back ∙ counter-stands input keep h.counterexample.1

-- ---- the check

tried : (input : Accepted) (cert : Cert) (keep : Option (List Bool)) (e over : Encoded) → e ≡ over → Holds input cert.keep keep → IsEncoding input keep over.lines over.assume → IsTried input cert e
tried input cert keep e over same holds encoding = subst (IsTried input cert) (sym same) (record {
  claim = holds.fault;
  encoding = subst (λ (k : Option (List Bool)). IsEncoding input k over.lines over.assume) holds.is encoding;
})

wrong-over : (input : Accepted) (cert : Cert) (keep : Option (List Bool)) (over : Encoded) (w : Why) → Holds input cert.keep keep → IsEncoding input keep over.lines over.assume → IsWrongOver cert keep over w → IsWrong input cert w
wrong-over input cert keep over (why.Place p) holds encoding h = absurd h
wrong-over input cert keep over why.NotLawful holds encoding h = absurd h
wrong-over input cert keep over why.SameAnswers holds encoding h = absurd h
wrong-over input cert keep over (why.Added e) holds encoding h =
    (tried input cert keep e over h.0 holds encoding, λ same. h.1 (ap (λ (x : Encoded). length x.lines) (sym h.0) ∙ same))
wrong-over input cert keep over (why.Line k e) holds encoding h = (
  tried input cert keep e over h.0 holds encoding,
  ap (λ (x : Encoded). length x.lines) h.0 ∙ h.1,
  subst (λ (x : Encoded). IsChecked x.lines cert.steps x.assume (checked.Line k)) (sym h.0) h.2,
)
wrong-over input cert keep over (why.NoRefutation e) holds encoding h = (
  tried input cert keep e over h.0 holds encoding,
  ap (λ (x : Encoded). length x.lines) h.0 ∙ h.1,
  subst (λ (x : Encoded). IsChecked x.lines cert.steps x.assume checked.NoRefutation) (sym h.0) h.2,
  subst IsToBeRefuted holds.is h.3,
)

judged-over : (input : Accepted) (cert : Cert) (keep : Option (List Bool)) (over : Encoded) (j : Judgement) → Holds input cert.keep keep → IsEncoding input keep over.lines over.assume → IsJudgedOver cert keep over j → IsJudged input cert j
judged-over input cert keep over (Valid k) holds encoding h = record {
  claim = holds.fault;
  is = h.0 ∙ holds.is;
  least = subst (IsLeastOrNone input) (sym h.0) (refutation-least input keep over.lines over.assume encoding holds.counterexample h.1);
}
judged-over input cert keep over (Wrong w) holds encoding h = wrong-over input cert keep over w holds encoding h

pub check-judged : (input : Accepted) (cert : Cert) (keep : Option (List Bool)) (over : Encoded) (r : Result Judgement NoMemory) → Holds input cert.keep keep → IsEncoding input keep over.lines over.assume → IfOk r (IsJudgedOver cert keep over)
    → IfOk r (IsJudged input cert)
check-judged input cert keep over (Ok j) holds encoding h = judged-over input cert keep over j holds encoding h
check-judged input cert keep over (Err e) holds encoding h = tt

pub no-fault : (input : Accepted) (ps : Option (List ℕ)) (keep : Option (List Bool)) (w : Why) → Holds input ps keep → claim_fault input ps ≡ Some w → ⊥
no-fault input ps keep w holds is = let e : None ≡ Some w = sym holds.fault ∙ is in cc
