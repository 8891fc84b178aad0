use Rattle.std.proofs.Common.{◌≡◌, Bool, false, IsTrue, Some, Err, IsErrOf, refl, sym, ap, ◌∙◌}
use Rattle.rt_io.specs.Counts.{count_in, name_at}
use Rattle.rt_io.specs.Failing.{is_named}
use Rattle.rt_io.specs.Held.{held_in, has_in}
use Rattle.rt_io.specs.declared.files.BeginFail.TheVariants.{Failed, NoMemory}
use Rattle.rt_io.proofs.AddLemmas.{adds_all, adds_none}
use Rattle.rt_io.proofs.EdgeLemmas.{never, on_err, on_ok, unchanged, rose_after, rises_after}
use Rattle.rt_io.proofs.mem_files.MemFilesFiles.begin.Goals as goal

memory_not_failed : {T X : Type 0} → IsErrOf {T = T} (Err NoMemory) Failed → X
memory_not_failed h = cc

missing : {X : Type 0} (test : Bool) → test ≡ false → IsTrue test → X
missing test not is = cc

pub returns : goal.returns
returns c =
    let named = on_ok c.enter.result _ c.is_err.ensures.value c.if-is_err.false c.enter.ensures.name in
    record {
      reads = refl;
      fails = λ fails. sym c.if-is_named.false ∙ c.is_named.ensures ∙ ap (λ names. is_named names c.args.name.now) c.as_slice.ensures.value ∙ fails;
      cause = never _ _;
      settings = record { piece = refl; begins = refl; reads = refl };
      current = ap Some (ap (name_at c.enter.new.entries.items) c.len-entry.ensures ∙ named);
      start = λ _. c.in-Ok.ensures ∙ c.as_slice-3.ensures ∙ c.in-Some.ensures.bytes ∙ ap (λ files. held_in files c.args.name.now) c.as_slice-2.ensures.value;
      there = λ _. sym (ap (λ files. has_in files c.args.name.now) c.as_slice-2.ensures.value) ∙ c.in-Some.ensures.has;
      err = tt;
      failed = never _ _;
      taken = refl;
      begun = adds_all _ _ _ (on_ok c.enter.result _ c.is_err.ensures.value c.if-is_err.false c.enter.ensures.entered);
      begun_ok = on_ok c.enter.result _ c.is_err.ensures.value c.if-is_err.false c.enter.ensures.entered;
      begun_failed = never _ _;
      has = refl;
      held = refl;
      gave = c.with-self.ensures;
      gave_err = tt;
      calm = c.enter.ensures.same;
      rises = unchanged _ _ _ c.enter.ensures.same;
    }

pub returns-then-is_err : goal.returns-then-is_err
returns-then-is_err c = record {
  reads = tt;
  fails = λ _. refl;
  cause = memory_not_failed;
  settings = record { piece = refl; begins = refl; reads = refl };
  current = tt;
  start = tt;
  there = tt;
  err = refl;
  failed = memory_not_failed;
  taken = refl;
  begun = adds_none _ _ _ (on_err c.enter.result _ c.is_err.ensures.value c.if-is_err.true c.enter.ensures.err);
  begun_ok = tt;
  begun_failed = memory_not_failed;
  has = refl;
  held = refl;
  gave = tt;
  gave_err = refl;
  calm = tt;
  rises = unchanged _ _ _ c.enter.ensures.same;
}

pub returns-then-is_named : goal.returns-then-is_named
returns-then-is_named c =
    let entered = on_ok c.enter.result _ c.is_err.ensures.value c.if-is_err.false c.enter.ensures.name in
    let named = ap (name_at c.enter.new.entries.items) c.len-entry.ensures ∙ entered in
    record {
      reads = tt;
      fails = λ _. refl;
      cause = λ _ _. sym (ap (λ names. is_named names c.args.name.now) c.as_slice.ensures.value) ∙ sym c.is_named.ensures ∙ c.if-is_named.true;
      settings = record { piece = refl; begins = refl; reads = refl };
      current = tt;
      start = tt;
      there = tt;
      err = refl;
      failed = λ _. rose_after _ _ (count_in c.args.self.now.entries.items) (count_in c.enter.new.entries.items) (count_in c.raise.new.entries.items) named c.enter.ensures.same c.raise.ensures.rose;
      taken = refl;
      begun = adds_all _ _ _ (c.raise.ensures.all ∙ on_ok c.enter.result _ c.is_err.ensures.value c.if-is_err.false c.enter.ensures.entered);
      begun_ok = tt;
      begun_failed = λ _. c.raise.ensures.all ∙ on_ok c.enter.result _ c.is_err.ensures.value c.if-is_err.false c.enter.ensures.entered;
      has = refl;
      held = refl;
      gave = tt;
      gave_err = refl;
      calm = tt;
      rises = rises_after _ _ (count_in c.args.self.now.entries.items) (count_in c.enter.new.entries.items) (count_in c.raise.new.entries.items) named c.enter.ensures.same c.raise.ensures.rises;
    }

pub returns-in_default : goal.returns-in_default
returns-in_default c =
    let entered = on_ok c.enter.result _ c.is_err.ensures.value c.if-is_err.false c.enter.ensures.name in
    let named = ap (name_at c.enter.new.entries.items) c.len-entry.ensures ∙ entered in
    record {
      reads = tt;
      fails = λ _. refl;
      cause = λ _. missing _ (sym (ap (λ files. has_in files c.args.name.now) c.as_slice-2.ensures.value) ∙ c.in_default.ensures.has);
      settings = record { piece = refl; begins = refl; reads = refl };
      current = tt;
      start = tt;
      there = tt;
      err = refl;
      failed = λ _. rose_after _ _ (count_in c.args.self.now.entries.items) (count_in c.enter.new.entries.items) (count_in c.raise-in_default.new.entries.items) named c.enter.ensures.same c.raise-in_default.ensures.rose;
      taken = refl;
      begun = adds_all _ _ _ (c.raise-in_default.ensures.all ∙ on_ok c.enter.result _ c.is_err.ensures.value c.if-is_err.false c.enter.ensures.entered);
      begun_ok = tt;
      begun_failed = λ _. c.raise-in_default.ensures.all ∙ on_ok c.enter.result _ c.is_err.ensures.value c.if-is_err.false c.enter.ensures.entered;
      has = refl;
      held = refl;
      gave = tt;
      gave_err = refl;
      calm = tt;
      rises = rises_after _ _ (count_in c.args.self.now.entries.items) (count_in c.enter.new.entries.items) (count_in c.raise-in_default.new.entries.items) named c.enter.ensures.same c.raise-in_default.ensures.rises;
    }

pub returns-in_default-from_slice : goal.returns-in_default-from_slice
returns-in_default-from_slice c = record {
  reads = tt;
  fails = λ _. refl;
  cause = memory_not_failed;
  settings = record { piece = refl; begins = refl; reads = refl };
  current = tt;
  start = tt;
  there = tt;
  err = refl;
  failed = memory_not_failed;
  taken = refl;
  begun = adds_all _ _ _ (on_ok c.enter.result _ c.is_err.ensures.value c.if-is_err.false c.enter.ensures.entered);
  begun_ok = tt;
  begun_failed = memory_not_failed;
  has = refl;
  held = refl;
  gave = tt;
  gave_err = refl;
  calm = tt;
  rises = unchanged _ _ _ c.enter.ensures.same;
}
