-- Which line is the first bad one, and that a text is of one certificate.
use Rattle.std.proofs.Common.{◌≡◌, ◌<◌, ◌≤◌, ◌+◌, ◌^◌, ℕ, zero, suc, List, [], ◌∷◌, ◌++◌, drop, take, length-drop, map, refl, sym, ap, ◌∙◌, subst, append_assoc, Option, Some, None, length, length-append, arith, inl, inr}
use Rattle.std.specs.Prelude.{◌⊎◌, Result, Ok, Err}
use Rattle.std.proofs.lemmas.List.{take_all}
use Rattle.rt_recorder.specs.declared.fault.CertFault.{CertFault}
use Rattle.rt_recorder.specs.declared.fault.CertFault.TheVariants.{BadLine, NoMemory}
use Rattle.std.specs.Option.{IfSome}
use Rattle.std.specs.Fmt.{decimal}
use Rattle.std.specs.List.{AllByRecursion as Each, range_with_len}
use Rattle.std.specs.List.Sorted.{IsStrictlyIncreasing}
use Rattle.std.proofs.lemmas.Fmt.{decimal_injective}
use Rattle.std.proofs.lemmas.List.FromFn.{length-range_with_len, get_or-range_with_len}
use Rattle.rt_clause.specs.Literal.{Literal}
use Rattle.rt_recorder.specs.declared.cert.Cert.{Cert}
use Rattle.rt_recorder.specs.declared.cert.Step.{Step}
use Rattle.rt_recorder.specs.declared.reading.Reading.{Reading}
use Rattle.rt_recorder.specs.declared.reading.Reading.TheVariants.{Head, Verdict, Keep, Added, Steps, Ended}
use Rattle.rt_recorder.specs.Certificate.{Text, IsNumber, IsStep, ArePlaces, IsCert, agree, witness, keep_line, added_line, step_line, last_line, literal, spaced, header, verdict_lines, cert_lines, cert_text, text_of}
use Rattle.rt_recorder.specs.Lines.{Begins, IsBadLine, IsFirstBad, IsLine, IsOfCert, IsRead}
use Rattle.rt_recorder.specs.Reading.{IsAhead, IsCut, IsReading, lines_read}
use Rattle.rt_recorder.proofs.Cuts.{cut-same, front-same}
use Rattle.rt_recorder.proofs.LineLemmas.{lits-same, numbers-same, own-cut, step-parts}
use Rattle.rt_recorder.proofs.NextLemmas.{agree-other, last-other, steps-peel, verdict-peel, ended-lines}
use Rattle.rt_recorder.proofs.TextLemmas.{IsTail, cert-are_lines, tails, text_of-append}

-- ---- what is read goes on to a certificate

rising : (n : ℕ) → IsStrictlyIncreasing (range_with_len 0 n)
rising n k h =
    let l = length-range_with_len 0 n in
    let a = get_or-range_with_len 0 n k 0 (omega arith) in
    let b = get_or-range_with_len 0 n (k + 1) 0 (omega arith) in
    omega (arith, a, b)

small : (a n m : ℕ) → a + n ≤ m → m ≤ 2 ^ 62 → Each IsNumber (range_with_len a n)
small a zero m h g = tt
small a (suc n) m h g = (omega arith, small (a + 1) n m (omega arith) g)

first-places : (n : ℕ) → IsNumber n → ArePlaces (range_with_len 0 n)
first-places n h = record {
  few = subst IsNumber (sym (length-range_with_len 0 n)) h;
  small = small 0 n n (omega arith) (omega arith);
  rising = rising n;
}

abbrev bare : Option (List ℕ) → Cert
bare keep = record { keep = keep; added = 0; steps = [] }

bare-fits : (keep : Option (List ℕ)) → IfSome keep ArePlaces → IsCert (bare keep)
bare-fits keep f = record { places = f; added = omega arith; steps = tt }

pub reading-begins : (r : Reading) → IsReading r → Begins (lines_read r)
reading-begins Head f = (bare None, bare-fits None tt, cert_lines (bare None), refl)
reading-begins Verdict f = (bare None, bare-fits None tt, agree ∷ added_line 0 ∷ last_line ∷ [], refl)
reading-begins (Keep rows) f =
    let ps : List ℕ = range_with_len 0 rows in
    let e : length ps ≡ rows = length-range_with_len 0 rows in
    (bare (Some ps), bare-fits (Some ps) (first-places rows f), keep_line ps ∷ added_line 0 ∷ last_line ∷ [], ap (λ (n : ℕ). header ∷ witness n ∷ keep_line ps ∷ added_line 0 ∷ last_line ∷ []) e)
reading-begins (Added keep) f = (bare keep, bare-fits keep f, added_line 0 ∷ last_line ∷ [], refl)
reading-begins (Steps c) f = (c, f, last_line ∷ [], ended-lines c)
reading-begins (Ended c) f = (c, f, [], sym (nil (cert_lines c))) where
  nil : (ls : List Text) → ls ++ [] ≡ ls
  nil [] = refl
  nil (l ∷ ls) = ap (λ (t : List Text). l ∷ t) (nil ls)

front-lines : (ls ms : List Text) → Each IsLine (ls ++ ms) → Each IsLine ls
front-lines [] ms f = tt
front-lines (l ∷ ls) ms f = (f.0, front-lines ls ms f.1)

pub begun-lines : (ls : List Text) → Begins ls → Each IsLine ls
begun-lines ls (c, f, more, e) = front-lines ls more (subst (Each IsLine) e (cert-are_lines c f))

-- ---- a bad line

feed-not : (x y : Text) → IsLine (x ++ 10 ∷ y) → ⊥
feed-not [] y f = f.0 refl
feed-not (b ∷ x) y f = feed-not x y f.1

-- where a text begins with these lines, and is a certificate's, the certificate goes on from them
cert-tail : (text rest : Text) (ls : List Text) (c : Cert) → Each IsLine ls → IsCert c → text ≡ text_of ls ++ rest → text ≡ cert_text c → (ks : List Text) × (cert_lines c ≡ ls ++ ks) × (rest ≡ text_of ks)
cert-tail text rest ls c f g e h = go (tails ls (cert_lines c) rest [] f (cert-are_lines c g) (sym e ∙ h ∙ sym (nil (cert_text c)))) where
  nil : (t : Text) → t ++ [] ≡ t
  nil [] = refl
  nil (b ∷ t) = ap (λ (s : Text). b ∷ s) (nil t)

  nils : (t : List Text) → t ++ [] ≡ t
  nils [] = refl
  nils (b ∷ t) = ap (λ (s : List Text). b ∷ s) (nils t)

  back : (ks : List Text) → ls ≡ cert_lines c ++ ks → [] ≡ text_of ks ++ rest → (ks : List Text) × (cert_lines c ≡ ls ++ ks) × (rest ≡ text_of ks)
  back [] p q = ([], sym (p ∙ nils (cert_lines c)) ∙ sym (nils ls), sym q)
  back (k ∷ ks) p q = absurd (empty k ks q) where
    empty : (k : Text) (ks : List Text) → [] ≡ text_of (k ∷ ks) ++ rest → ⊥
    empty [] ks q = absurd (cc)
    empty (b ∷ k) ks q = absurd (cc)

  go : IsTail ls (cert_lines c) rest [] ⊎ IsTail (cert_lines c) ls [] rest → (ks : List Text) × (cert_lines c ≡ ls ++ ks) × (rest ≡ text_of ks)
  go (inl t) = (t.others, t.lines, t.text ∙ nil (text_of t.others))
  go (inr t) = back t.others t.lines t.text

line-same : (line more k : Text) (ks : List Text) → IsLine line → IsLine k → line ++ 10 ∷ more ≡ text_of (k ∷ ks) → line ≡ k
line-same line more k ks f g e = (cut-same 10 line (10 ∷ more) k (10 ∷ text_of ks) e f refl g refl).0

tail-line : (ls ks : List Text) (k : Text) → Each IsLine (ls ++ k ∷ ks) → IsLine k
tail-line [] ks k f = f.0
tail-line (l ∷ ls) ks k f = tail-line ls ks k f.1

feed-empty : (line more : Text) → line ++ 10 ∷ more ≡ [] → ⊥
feed-empty [] more e = absurd (cc)
feed-empty (b ∷ line) more e = absurd (cc)

-- a certificate's text that begins with these lines and one more
next-begins : (text rest line more : Text) (ls : List Text) (c : Cert) → Each IsLine ls → IsLine line → IsCert c → text ≡ text_of ls ++ rest → rest ≡ line ++ 10 ∷ more → text ≡ cert_text c → Begins (ls ++ line ∷ [])
next-begins text rest line more ls c f g h e r t = let w = cert-tail text rest ls c f h e t in go w.0 w.1 w.2 where
  go : (ks : List Text) → cert_lines c ≡ ls ++ ks → rest ≡ text_of ks → Begins (ls ++ line ∷ [])
  go [] p q = absurd (feed-empty line more (sym r ∙ q))
  go (k ∷ ks) p q =
      let same : line ≡ k = line-same line more k ks g (tail-line ls ks k (subst (Each IsLine) p (cert-are_lines c h))) (sym r ∙ q) in
      (c, h, ks, p ∙ ap (λ (x : Text). ls ++ x ∷ ks) (sym same) ∙ sym (append_assoc ls (line ∷ []) ks))

pub record IsAt (text : Text) (r : Reading) (rest : Text) (n : ℕ) : Type 0 where
  pub reading : IsReading r
  pub parts : text ≡ text_of (lines_read r) ++ rest
  pub number : n ≡ length (lines_read r) + 1

pub bad-line : (text rest line more : Text) (r : Reading) (n : ℕ) → IsAt text r rest n → IsLine line → rest ≡ line ++ 10 ∷ more → (Begins (lines_read r ++ line ∷ []) → ⊥) → IsFirstBad text n
bad-line text rest line more r n a f e none = record {
  before = lines_read r;
  rest = rest;
  parts = a.parts;
  number = a.number;
  are_lines = lines;
  begins = reading-begins r a.reading;
  ends = λ l m g h b. none (subst (λ (x : Text). Begins (lines_read r ++ x ∷ [])) (cut-same 10 l (10 ∷ m) line (10 ∷ more) (sym h ∙ e) g refl f refl).0 b);
  other = λ c g t. none (next-begins text rest line more (lines_read r) c lines f g a.parts e t);
} where
  lines : Each IsLine (lines_read r)
  lines = begun-lines (lines_read r) (reading-begins r a.reading)

-- ---- a text that ends too early

abbrev pub IsEnded : Reading → Type 0
IsEnded (Ended c) = Unit {0}
IsEnded _ = ⊥

steps-short : (ss ts : List Step) → map step_line ts ++ last_line ∷ [] ≡ map step_line ss ++ [] → ⊥
steps-short [] [] e = absurd (cc)
steps-short [] (t ∷ ts) e = absurd (cc)
steps-short (s ∷ ss) [] e = let u : last_line ≡ step_line s = cc in last-other s u
steps-short (s ∷ ss) (t ∷ ts) e = let u : map step_line ts ++ last_line ∷ [] ≡ map step_line ss ++ [] = cc in steps-short ss ts u

nil-lines : (ls : List Text) → ls ++ [] ≡ ls
nil-lines [] = refl
nil-lines (l ∷ ls) = ap (λ (t : List Text). l ∷ t) (nil-lines ls)

short-verdict : (k : Option (List ℕ)) (a : Text) (rest : List Text) → verdict_lines k ++ a ∷ rest ≡ [] → ⊥
short-verdict None a rest e = absurd (cc)
short-verdict (Some ps) a rest e = absurd (cc)

short-keep : (k : Option (List ℕ)) (a w : Text) (rest : List Text) → verdict_lines k ++ a ∷ rest ≡ w ∷ [] → ⊥
short-keep None a w rest e = let t : a ∷ rest ≡ [] = cc in absurd (cc)
short-keep (Some ps) a w rest e = let t : keep_line ps ∷ a ∷ rest ≡ [] = cc in absurd (cc)

pub ended-only : (r : Reading) (c : Cert) → cert_lines c ≡ lines_read r → IsEnded r
ended-only Head c e = absurd (cc)
ended-only Verdict c e =
    let rest : List Text = map step_line c.steps ++ last_line ∷ [] in
    let t : verdict_lines c.keep ++ added_line c.added ∷ rest ≡ [] = cc in absurd (short-verdict c.keep (added_line c.added) rest t)
ended-only (Keep rows) c e =
    let rest : List Text = map step_line c.steps ++ last_line ∷ [] in
    let t : verdict_lines c.keep ++ added_line c.added ∷ rest ≡ witness rows ∷ [] = cc in absurd (short-keep c.keep (added_line c.added) (witness rows) rest t)
ended-only (Added keep) c e =
    let rest : List Text = added_line c.added ∷ (map step_line c.steps ++ last_line ∷ []) in
    let t : verdict_lines c.keep ++ rest ≡ verdict_lines keep = cc in
    let u : rest ≡ [] = verdict-peel c.keep keep rest [] (t ∙ sym (nil-lines (verdict_lines keep))) in
    absurd (cc)
ended-only (Steps d) c e = absurd (steps-short d.steps c.steps (steps-peel c d [] (e ∙ sym (nil-lines (lines_read (Steps d))))))
ended-only (Ended d) c e = tt

pub bad-end : (text rest : Text) (r : Reading) (n : ℕ) → IsAt text r rest n → IsLine rest → (rest ≡ [] → IsEnded r → ⊥) → IsFirstBad text n
bad-end text rest r n a f none = record {
  before = lines_read r;
  rest = rest;
  parts = a.parts;
  number = a.number;
  are_lines = lines;
  begins = reading-begins r a.reading;
  ends = λ l m g h b. feed-not l m (subst IsLine h f);
  other = λ c g t. let w = cert-tail text rest (lines_read r) c lines g a.parts t in go c w.0 w.1 w.2;
} where
  lines : Each IsLine (lines_read r)
  lines = begun-lines (lines_read r) (reading-begins r a.reading)

  go : (c : Cert) (ks : List Text) → cert_lines c ≡ lines_read r ++ ks → rest ≡ text_of ks → ⊥
  go c [] p q = none q (ended-only r c (p ∙ nil-lines (lines_read r)))
  go c (k ∷ ks) p q = feed-not k (text_of ks) (subst IsLine q f)

-- ---- one number

begins-front : (ls ks : List Text) (k : Text) → Begins (ls ++ k ∷ ks) → Begins (ls ++ k ∷ [])
begins-front ls ks k (c, f, more, e) = (c, f, ks ++ more, e ∙ append_assoc ls (k ∷ ks) more ∙ sym (append_assoc ls (k ∷ []) (ks ++ more)))

one-tail : (text : Text) (m n : ℕ) (a : IsFirstBad text m) (b : IsFirstBad text n) → IsTail a.before b.before a.rest b.rest → m ≡ n
one-tail text m n a b t = go t.others t.lines t.text where
  go : (ks : List Text) → b.before ≡ a.before ++ ks → a.rest ≡ text_of ks ++ b.rest → m ≡ n
  go [] p q = a.number ∙ ap (λ (x : List Text). length x + 1) (sym (p ∙ nil-lines a.before)) ∙ sym b.number
  go (k ∷ ks) p q = absurd (a.ends k (text_of ks ++ b.rest) (tail-line a.before ks k (subst (Each IsLine) p b.are_lines)) (q ∙ append_assoc k (10 ∷ text_of ks) b.rest)
      (begins-front a.before ks k (subst Begins p b.begins)))

pub one-bad : (text : Text) (m n : ℕ) → IsFirstBad text m → IsFirstBad text n → m ≡ n
one-bad text m n a b = elim (tails a.before b.before a.rest b.rest a.are_lines b.are_lines (sym a.parts ∙ b.parts)) [
  | inl t ↦ one-tail text m n a b t
  | inr t ↦ sym (one-tail text n m b a t)
]

-- ---- one certificate

step-same : (s t : Step) → IsStep s → IsStep t → step_line s ≡ step_line t → s ≡ t
step-same s t f g e =
    let p = step-parts (step_line s) (spaced literal s.lits ++ (32 ∷ 59 ∷ spaced decimal s.hints)) (spaced literal s.lits ++ 32 ∷ []) (59 ∷ spaced decimal s.hints) t refl (own-cut s f) g e in
    let a : s.lits ≡ t.lits = lits-same s.lits t.lits f.lits g.lits (front-same (spaced literal s.lits) (spaced literal t.lits) 32 p.0) in
    let b : s.hints ≡ t.hints = numbers-same s.hints t.hints f.hints g.hints (let u : 59 ∷ spaced decimal s.hints ≡ 59 ∷ spaced decimal t.hints = p.1 in cc) in
    let made : List Literal → List ℕ → Step = λ ls hs. record { lits = ls; hints = hs } in
    ap (λ (ls : List Literal). made ls s.hints) a ∙ ap (λ (hs : List ℕ). made t.lits hs) b

steps-same : (ss ts : List Step) → Each IsStep ss → Each IsStep ts → map step_line ss ++ last_line ∷ [] ≡ map step_line ts ++ last_line ∷ [] → ss ≡ ts
steps-same [] [] f g e = refl
steps-same [] (t ∷ ts) f g e = let u : last_line ≡ step_line t = cc in absurd (last-other t u)
steps-same (s ∷ ss) [] f g e = let u : last_line ≡ step_line s = cc in absurd (last-other s u)
steps-same (s ∷ ss) (t ∷ ts) f g e =
    let u : step_line s ≡ step_line t = cc in
    let v : map step_line ss ++ last_line ∷ [] ≡ map step_line ts ++ last_line ∷ [] = cc in
    let a : s ≡ t = step-same s t f.0 g.0 u in
    let b : ss ≡ ts = steps-same ss ts f.1 g.1 v in
    cc

keep-same : (j k : Option (List ℕ)) (rest more : List Text) → IfSome j ArePlaces → IfSome k ArePlaces → verdict_lines j ++ rest ≡ verdict_lines k ++ more → j ≡ k
keep-same None None rest more f g e = refl
keep-same None (Some qs) rest more f g e = let t : agree ≡ witness (length qs) = cc in absurd (agree-other (length qs) t)
keep-same (Some ps) None rest more f g e = let t : agree ≡ witness (length ps) = cc in absurd (agree-other (length ps) t)
keep-same (Some ps) (Some qs) rest more f g e = let t : spaced decimal ps ≡ spaced decimal qs = cc in ap Some (numbers-same ps qs f.small g.small t)

cert-same : (c d : Cert) → IsCert c → IsCert d → cert_lines c ≡ cert_lines d → c ≡ d
cert-same c d f g e =
    let cs : List Text = added_line c.added ∷ (map step_line c.steps ++ last_line ∷ []) in
    let ds : List Text = added_line d.added ∷ (map step_line d.steps ++ last_line ∷ []) in
    let t : verdict_lines c.keep ++ cs ≡ verdict_lines d.keep ++ ds = cc in
    let u : cs ≡ ds = verdict-peel c.keep d.keep cs ds t in
    let added : decimal c.added ≡ decimal d.added = cc in
    let steps : map step_line c.steps ++ last_line ∷ [] ≡ map step_line d.steps ++ last_line ∷ [] = cc in
    let x : c.keep ≡ d.keep = keep-same c.keep d.keep cs ds f.places g.places t in
    let y : c.added ≡ d.added = decimal_injective c.added d.added (omega arith) (omega arith) added in
    let z : c.steps ≡ d.steps = steps-same c.steps d.steps f.steps g.steps steps in
    let made : Option (List ℕ) → ℕ → List Step → Cert = λ k n ss. record { keep = k; added = n; steps = ss } in
    ap (λ (k : Option (List ℕ)). made k c.added c.steps) x ∙ ap (λ (n : ℕ). made d.keep n c.steps) y ∙ ap (λ (ss : List Step). made d.keep d.added ss) z

pub one-cert : (text : Text) (c d : Cert) → IsCert c → IsCert d → text ≡ cert_text c → text ≡ cert_text d → c ≡ d
one-cert text c d f g e h = let w = cert-tail (cert_text d) [] (cert_lines c) d (cert-are_lines c f) g (sym h ∙ e ∙ sym (nil (cert_text c))) refl in go w.0 w.1 w.2 where
  nil : (t : Text) → t ++ [] ≡ t
  nil [] = refl
  nil (b ∷ t) = ap (λ (s : Text). b ∷ s) (nil t)

  go : (ks : List Text) → cert_lines d ≡ cert_lines c ++ ks → [] ≡ text_of ks → c ≡ d
  go [] p q = cert-same c d f g (sym (p ∙ nil-lines (cert_lines c)))
  go (k ∷ ks) p q = absurd (feed-empty k (text_of ks) (sym q))

-- ---- the next line of a text

feed-first : (b : Text) → 0 < length b → IsAhead 10 b → b ≡ 10 ∷ drop 1 b
feed-first [] h a = absurd (omega arith)
feed-first (x ∷ b) h a = ap (λ (y : ℕ). y ∷ b) a

pub feed-cut : (rest line behind more : Text) (end : ℕ) → end < length rest → IsCut 10 rest (take end rest) (drop end rest) → line ≡ take end rest → behind ≡ drop end rest → more ≡ drop 1 behind
    → IsLine line × (rest ≡ line ++ 10 ∷ more)
feed-cut rest line behind more end h c e f g =
    let first : drop end rest ≡ 10 ∷ drop 1 (drop end rest) = feed-first (drop end rest) (omega (arith, length-drop end rest)) c.ahead in
    let m : more ≡ drop 1 (drop end rest) = g ∙ ap (λ (t : Text). drop 1 t) f in (
      subst IsLine (sym e) c.free,
      c.parts ∙ ap (λ (t : Text). take end rest ++ t) first ∙ ap (λ (t : Text). t ++ 10 ∷ drop 1 (drop end rest)) (sym e) ∙ ap (λ (t : Text). line ++ 10 ∷ t) (sym m),
    )

pub at-next : (text rest line more : Text) (r next : Reading) (n : ℕ) → IsAt text r rest n → rest ≡ line ++ 10 ∷ more → IsReading next × (lines_read next ≡ lines_read r ++ line ∷ []) → IsAt text next more (n + 1)
at-next text rest line more r next n a e g = record {
  reading = g.0;
  parts = a.parts ∙ ap (λ (t : Text). text_of (lines_read r) ++ t) e ∙ ap (λ (t : Text). text_of (lines_read r) ++ t) (sym (append_assoc line (10 ∷ []) more))
      ∙ sym (append_assoc (text_of (lines_read r)) (line ++ 10 ∷ []) more) ∙ ap (λ (t : Text). t ++ more) (sym (text_of-append (lines_read r) (line ∷ [])))
      ∙ ap (λ (ls : List Text). text_of ls ++ more) (sym g.1);
  number = omega (arith, a.number, ap length g.1, length-append (lines_read r) (line ∷ []));
}

pub last-cut : (rest : Text) (end : ℕ) → length rest ≤ end → IsCut 10 rest (take end rest) (drop end rest) → IsLine rest
last-cut rest end h c = subst IsLine (take_all end rest h) c.free

pub not-ended : (r : Reading) → ((c : Cert) → r ≡ Ended c → ⊥) → IsEnded r → ⊥
not-ended (Ended c) n e = n c refl
not-ended Head n e = e
not-ended Verdict n e = e
not-ended (Keep rows) n e = e
not-ended (Added keep) n e = e
not-ended (Steps c) n e = e

-- ---- what the reading gives

pub of-cert : (text : Text) (r : Result Cert CertFault) → IsRead text r → (c : Cert) → IsCert c → text ≡ cert_text c → IsOfCert c r
of-cert text (Ok d) h c f e = one-cert text d c h.0 f h.1 e
of-cert text (Err (BadLine n)) h c f e = h.other c f e
of-cert text (Err NoMemory) h c f e = tt

pub of-bad : (text : Text) (r : Result Cert CertFault) → IsRead text r → (n : ℕ) → IsFirstBad text n → IsBadLine n r
of-bad text (Ok d) h n f = f.other d h.0 h.1
of-bad text (Err (BadLine m)) h n f = one-bad text m n h f
of-bad text (Err NoMemory) h n f = tt
