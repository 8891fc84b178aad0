use Rattle.std.proofs.Common.{◌≡◌, ◌≢◌, ◌+◌, ◌-◌, ◌^◌, min, take, append_assoc, append-nil, ◌<◌, ◌≤◌, ◌++◌, ◌∷◌, false, ℕ, List, [], Err, IsErrOf, length, sym, ap, ◌∙◌, arith}
use Rattle.std.proofs.lemmas.List.{length-append, length-take, take-append-le}
use Rattle.rt_io.specs.declared.files.ReadFail.TheVariants.{Failed, TooLong, NoMemory}
use Rattle.rt_io.specs.Gave.{reading_of}
use Rattle.rt_io.proofs.AddLemmas.{adds_all}
use Rattle.rt_io.proofs.GaveLemmas.{adds_none, adds_one, fits_none, fits_one, gave_end, gave_more, gave_piece}
use Rattle.rt_io.proofs.EdgeLemmas.{never, on_ok, at_name, rose_since, rises_on, longer}
use Rattle.rt_io.proofs.files.read_file.Goals as goal

failed_not_long : {T X : Type 0} → IsErrOf {T = T} (Err Failed) TooLong → X
failed_not_long h = cc

memory_not_long : {T X : Type 0} → IsErrOf {T = T} (Err NoMemory) TooLong → X
memory_not_long h = cc

memory_not_failed : {T X : Type 0} → IsErrOf {T = T} (Err NoMemory) Failed → X
memory_not_failed h = cc

long_not_failed : {T X : Type 0} → IsErrOf {T = T} (Err TooLong) Failed → X
long_not_failed h = cc

none_within : (taken max : ℕ) → taken ≡ 0 → taken ≤ max
none_within taken max is = omega arith

pub returns-in-Err-Failed : goal.returns-in-Err-Failed
returns-in-Err-Failed g c = record {
  ok = tt;
  there = tt;
  taken = tt;
  within = tt;
  failed = λ _. c.in-Err-Failed.ensures.failed (ap Err c.in-Err-Failed.field-0-is);
  failed_within = λ _. none_within _ _ c.begin.ensures.taken;
  too_long = failed_not_long;
  too_long_current = failed_not_long;
  begun = c.begin.ensures.begun;
  begun_ok = tt;
  begun_failed = λ _. c.in-Err-Failed.ensures.begun_failed (ap Err c.in-Err-Failed.field-0-is);
  begun_long = failed_not_long;
  longer = failed_not_long;
  gave = tt;
  gave_long = failed_not_long;
  adds = adds_none _ _ c.in-Err-Failed.ensures.gave_err;
  told = λ _. fits_none _ _ _ c.in-Err-Failed.ensures.gave_err;
  has = c.begin.ensures.has;
  held = c.begin.ensures.held;
  calm = tt;
  rises = c.begin.ensures.rises;
}

pub returns-in-Err-NoMemory : goal.returns-in-Err-NoMemory
returns-in-Err-NoMemory g c = record {
  ok = tt;
  there = tt;
  taken = tt;
  within = tt;
  failed = memory_not_failed;
  failed_within = memory_not_failed;
  too_long = memory_not_long;
  too_long_current = memory_not_long;
  begun = c.begin.ensures.begun;
  begun_ok = tt;
  begun_failed = memory_not_failed;
  begun_long = memory_not_long;
  longer = memory_not_long;
  gave = tt;
  gave_long = memory_not_long;
  adds = adds_none _ _ c.in-Err-NoMemory.ensures.gave_err;
  told = λ _. fits_none _ _ _ c.in-Err-NoMemory.ensures.gave_err;
  has = c.begin.ensures.has;
  held = c.begin.ensures.held;
  calm = tt;
  rises = c.begin.ensures.rises;
}

empty_told : (held bytes left : List ℕ) → left ≡ held → bytes ≡ [] → held ≡ bytes ++ left
empty_told held bytes left is empty = sym is ∙ ap (λ xs. xs ++ left) (sym empty)

empty_within : (bytes : List ℕ) (max : ℕ) → bytes ≡ [] → length bytes ≤ max + 1
empty_within bytes max empty = omega (arith, ap length empty)

pub reads-init : goal.reads-init
reads-init g c = record {
  current = c.in-Ok.ensures.current;
  begun = c.in-Ok.ensures.begun_ok;
  told = λ tells. empty_told _ _ _ (c.in-Ok.ensures.start tells) c.new-bytes.ensures;
  gave = c.in-Ok.ensures.gave ∙ ap (λ bytes. reading_of c.args.name.now bytes false ∷ g.F.Files.gave c.args.files.now) (sym c.new-bytes.ensures);
  there = c.in-Ok.ensures.there;
  taken = c.begin.ensures.taken ∙ sym (ap length c.new-bytes.ensures);
  within = empty_within _ _ c.new-bytes.ensures;
  has = c.begin.ensures.has;
  held = c.begin.ensures.held;
  calm = c.in-Ok.ensures.calm;
  rises = c.begin.ensures.rises;
}

still_within : (taken old_taken max len : ℕ) (bytes : List ℕ) → len ≡ length bytes → len ≤ max → taken ≡ old_taken → old_taken ≡ length bytes → taken ≤ max
still_within taken old_taken max len bytes is short same was = omega arith

pub returns-in-Err : goal.returns-in-Err
returns-in-Err g c = record {
  ok = tt;
  there = tt;
  taken = tt;
  within = tt;
  failed = λ _. rose_since _ _ _ (c.reads.invariant.calm c.args.name.now) (at_name _ _ _ c.reads.invariant.current c.in-Err.ensures.failed);
  failed_within = λ _. still_within _ _ _ _ _ c.len.ensures c.reads-test.true c.in-Err.ensures.err_taken c.reads.invariant.taken;
  too_long = failed_not_long;
  too_long_current = failed_not_long;
  begun = adds_all _ _ _ (c.read.ensures.begun ∙ c.reads.invariant.begun);
  begun_ok = tt;
  begun_failed = λ _. c.read.ensures.begun ∙ c.reads.invariant.begun;
  begun_long = failed_not_long;
  longer = failed_not_long;
  gave = tt;
  gave_long = failed_not_long;
  adds = adds_one _ _ _ (c.in-Err.ensures.gave_err ∙ c.reads.invariant.gave);
  told = λ tells. fits_one _ _ _ _ (c.in-Err.ensures.gave_err ∙ c.reads.invariant.gave) (_, c.reads.invariant.told tells);
  has = c.read.ensures.has ∙ c.reads.invariant.has;
  held = c.read.ensures.held ∙ c.reads.invariant.held;
  calm = tt;
  rises = rises_on _ _ _ _ _ c.reads.invariant.current c.reads.invariant.rises c.read.ensures.same c.read.ensures.rises;
}

all_told : (held bytes piece old_left left : List ℕ) (n : ℕ) → held ≡ bytes ++ old_left → old_left ≡ take n piece ++ left → n ≡ 0 → left ≡ [] → bytes ≡ held
all_told held bytes piece old_left left n told next none end = sym (told ∙ ap (λ xs. bytes ++ xs) (next ∙ ap (λ k. take k piece ++ left) none ∙ end) ∙ append-nil bytes)

len_within : (len max : ℕ) (bytes : List ℕ) → len ≡ length bytes → len ≤ max → length bytes ≤ max
len_within len max bytes is short = omega arith

same_taken : (taken old n max len : ℕ) (bytes : List ℕ) → max < 2 ^ 62 → taken ≡ min (old + n) (2 ^ 64 - 1) → n ≡ 0 → old ≡ length bytes → len ≡ length bytes → len ≤ max → taken ≡ length bytes
same_taken taken old n max len bytes bound is none was long short = omega arith

pub returns-then-n-eq0 : goal.returns-then-n-eq0
returns-then-n-eq0 g c =
    let end = gave_end _ _ _ _ _ _ _ _ c.reads.invariant.current c.reads.invariant.gave c.if-n-eq0.true c.in-Ok-read.ensures.gave
    (omega (arith, length-take c.min-want.result c.reads.buf)) in
    record {
      ok = λ tells. all_told _ _ _ _ _ _ (c.reads.invariant.told tells) (c.in-Ok-read.ensures.next tells) c.if-n-eq0.true (c.in-Ok-read.ensures.end tells c.if-n-eq0.true (omega (arith, length-take c.min-want.result c.reads.buf)));
      there = c.reads.invariant.there;
      taken = same_taken _ _ _ _ _ _ c.requires c.in-Ok-read.ensures.taken c.if-n-eq0.true c.reads.invariant.taken c.len.ensures c.reads-test.true;
      within = len_within _ _ _ c.len.ensures c.reads-test.true;
      failed = never _ _;
      failed_within = never _ _;
      too_long = never _ _;
      too_long_current = never _ _;
      begun = adds_all _ _ _ (c.read.ensures.begun ∙ c.reads.invariant.begun);
      begun_ok = c.read.ensures.begun ∙ c.reads.invariant.begun;
      begun_failed = never _ _;
      begun_long = never _ _;
      longer = never _ _;
      gave = end;
      gave_long = never _ _;
      adds = adds_one _ _ _ end;
      told = λ tells. fits_one _ _ _ _ end (sym (all_told _ _ _ _ _ _ (c.reads.invariant.told tells) (c.in-Ok-read.ensures.next tells) c.if-n-eq0.true (c.in-Ok-read.ensures.end tells c.if-n-eq0.true (omega (arith, length-take c.min-want.result c.reads.buf)))));
      has = c.read.ensures.has ∙ c.reads.invariant.has;
      held = c.read.ensures.held ∙ c.reads.invariant.held;
      calm = λ name. c.in-Ok-read.ensures.calm name ∙ c.reads.invariant.calm name;
      rises = rises_on _ _ _ _ _ c.reads.invariant.current c.reads.invariant.rises c.read.ensures.same c.read.ensures.rises;
    }

piece_told : (held bytes piece old_left left : List ℕ) (n : ℕ) → held ≡ bytes ++ old_left → old_left ≡ take n piece ++ left → held ≡ (bytes ++ take n piece) ++ left
piece_told held bytes piece old_left left n told next = told ∙ ap (λ xs. bytes ++ xs) next ∙ sym (append_assoc bytes (take n piece) left)

pub returns-then-is_err : goal.returns-then-is_err
returns-then-is_err g c =
    let piece = gave_piece _ _ _ _ _ _ _ _ c.reads.invariant.current c.reads.invariant.gave c.if-n-eq0.false c.in-Ok-read.ensures.gave in
    record {
      ok = tt;
      there = tt;
      taken = tt;
      within = tt;
      failed = memory_not_failed;
      failed_within = memory_not_failed;
      too_long = memory_not_long;
      too_long_current = memory_not_long;
      begun = adds_all _ _ _ (c.read.ensures.begun ∙ c.reads.invariant.begun);
      begun_ok = tt;
      begun_failed = memory_not_failed;
      begun_long = memory_not_long;
      longer = memory_not_long;
      gave = tt;
      gave_long = memory_not_long;
      adds = adds_one _ _ _ piece;
      told = λ tells. fits_one _ _ _ _ piece (_, piece_told _ _ _ _ _ _ (c.reads.invariant.told tells) (c.in-Ok-read.ensures.next tells));
      has = c.read.ensures.has ∙ c.reads.invariant.has;
      held = c.read.ensures.held ∙ c.reads.invariant.held;
      calm = tt;
      rises = rises_on _ _ _ _ _ c.reads.invariant.current c.reads.invariant.rises c.read.ensures.same c.read.ensures.rises;
    }

more_told : (held bytes old_left left piece rest new : List ℕ) (n : ℕ) → held ≡ bytes ++ old_left → old_left ≡ take n piece ++ left → n ≤ length piece → new ≡ bytes ++ take n (piece ++ rest) → held ≡ new ++ left
more_told held bytes old_left left piece rest new n told next bound grown =
    told ∙ ap (λ xs. bytes ++ xs) next ∙ sym (append_assoc bytes (take n piece) left) ∙ ap (λ xs. xs ++ left) (sym (grown ∙ ap (λ xs. bytes ++ xs) (take-append-le n piece rest bound)))

longer_by : (bytes piece rest new : List ℕ) (n : ℕ) → n ≤ length piece → new ≡ bytes ++ take n (piece ++ rest) → length new ≡ length bytes + n
longer_by bytes piece rest new n bound grown = omega (arith, ap length grown, length-append bytes (take n (piece ++ rest)), length-take n (piece ++ rest), length-append piece rest)

more_taken : (taken old n max : ℕ) (bytes new : List ℕ) → max < 2 ^ 62 → taken ≡ min (old + n) (2 ^ 64 - 1) → old ≡ length bytes → length new ≡ length bytes + n → length new ≤ max + 1 → taken ≡ length new
more_taken taken old n max bytes new bound is was long within = omega arith

pub reads-preserved : goal.reads-preserved
reads-preserved g c = let grown = on_ok c.extend.result _ c.is_err.ensures.value c.if-is_err.false c.extend.ensures.ok in let long = longer_by _ _ _ _ _ c.in-Ok-read.ensures.bound grown in let within : length c.extend.new.self ≤ c.args.max + 1 = omega (arith, c.in-Ok-read.ensures.bound, length-take c.min-want.result c.reads.buf) in record {
  current = c.read.ensures.current ∙ c.reads.invariant.current;
  begun = c.read.ensures.begun ∙ c.reads.invariant.begun;
  told = λ tells. more_told _ _ _ _ _ _ _ _ (c.reads.invariant.told tells) (c.in-Ok-read.ensures.next tells) c.in-Ok-read.ensures.bound grown;
  gave = gave_more _ _ _ _ _ _ _ _ _ _ c.reads.invariant.current c.reads.invariant.gave c.if-n-eq0.false c.in-Ok-read.ensures.bound grown c.in-Ok-read.ensures.gave;
  there = c.reads.invariant.there;
  taken = more_taken _ _ _ _ _ _ c.requires c.in-Ok-read.ensures.taken c.reads.invariant.taken long within;
  within = within;
  has = c.read.ensures.has ∙ c.reads.invariant.has;
  held = c.read.ensures.held ∙ c.reads.invariant.held;
  calm = λ name. c.in-Ok-read.ensures.calm name ∙ c.reads.invariant.calm name;
  rises = rises_on _ _ _ _ _ c.reads.invariant.current c.reads.invariant.rises c.read.ensures.same c.read.ensures.rises;
}

above : (max len : ℕ) (bytes : List ℕ) → len ≡ length bytes → max < len → max < length bytes
above max len bytes is more = omega arith

one_above : (max len taken : ℕ) (bytes : List ℕ) → len ≡ length bytes → max < len → taken ≡ length bytes → length bytes ≤ max + 1 → taken ≡ max + 1
one_above max len taken bytes is more all within = omega arith

fewer_left : (max n len : ℕ) (bytes new : List ℕ) → length new ≡ length bytes + n → n ≢ 0 → len ≡ length bytes → len ≤ max → max + 1 - length new < max + 1 - length bytes
fewer_left max n len bytes new long some is short = omega arith

pub reads-smaller : goal.reads-smaller
reads-smaller g c = let grown = on_ok c.extend.result _ c.is_err.ensures.value c.if-is_err.false c.extend.ensures.ok in fewer_left _ _ _ _ _ (longer_by _ _ _ _ _ c.in-Ok-read.ensures.bound grown) c.if-n-eq0.false c.len.ensures c.reads-test.true

pub returns : goal.returns
returns g c = record {
  ok = tt;
  there = tt;
  taken = tt;
  within = tt;
  failed = long_not_failed;
  failed_within = long_not_failed;
  too_long = λ _. one_above _ _ _ _ c.len.ensures c.reads-test.false c.reads.invariant.taken c.reads.invariant.within;
  too_long_current = λ _. c.reads.invariant.current;
  begun = adds_all _ _ _ c.reads.invariant.begun;
  begun_ok = tt;
  begun_failed = long_not_failed;
  begun_long = λ _. c.reads.invariant.begun;
  longer = λ _ tells. longer _ _ _ _ (above _ _ _ c.len.ensures c.reads-test.false) (c.reads.invariant.told tells);
  gave = tt;
  gave_long = λ _. (_, c.reads.invariant.gave, above _ _ _ c.len.ensures c.reads-test.false);
  adds = adds_one _ _ _ c.reads.invariant.gave;
  told = λ tells. fits_one _ _ _ _ c.reads.invariant.gave (_, c.reads.invariant.told tells);
  has = c.reads.invariant.has;
  held = c.reads.invariant.held;
  calm = tt;
  rises = c.reads.invariant.rises;
}
