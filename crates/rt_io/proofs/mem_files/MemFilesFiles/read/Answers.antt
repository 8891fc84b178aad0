use Rattle.std.proofs.Common.{◌≡◌, ◌+◌, ◌-◌, ◌^◌, ◌<◌, ◌≤◌, ◌++◌, ◌↔◌, ℕ, min, Bool, true, false, IsTrue, List, [], Option, Some, None, IfSome, length, take, drop, refl, sym, ap, subst, ◌∙◌, arith, le_refl}
use Rattle.std.proofs.lemmas.List.{length-drop, drop_all}
use Rattle.std.specs.Option.{option_map, option_map_or}
use Rattle.rt_io.specs.Counts.{name_at}
use Rattle.rt_io.specs.Failing.{is_failing}
use Rattle.rt_io.proofs.GaveLemmas.{given_at, given_none}
use Rattle.rt_io.proofs.HeldLemmas.{reads_on, rest_of}
use Rattle.rt_io.proofs.mem_files.MemFilesFiles.read.Goals as goal

any_name : {X : Type 0} (o : Option (List ℕ)) → X → IfSome o (λ _. X)
any_name None h = tt
any_name (Some name) h = h

this_name : {C : Type 0} (o : Option C) (x : C) (f : C → List ℕ) (P : List ℕ → Type 0) → o ≡ Some x → P (f x) → IfSome (option_map f o) P
this_name o x f P is h = subst (λ o. IfSome (option_map f o) P) (sym is) h

part_of : {C D : Type 0} (o : Option C) (x : C) (f : C → D) (d : D) → o ≡ Some x → option_map_or f o d ≡ f x
part_of o x f d is = ap (λ o. option_map_or f o d) is

never_idle : {C X : Type 0} (o : Option C) (x : C) (f : C → List ℕ) → o ≡ Some x → option_map f o ≡ None → X
never_idle o x f is idle = let e : option_map f o ≡ Some (f x) = ap (option_map f) is in cc

not_failing : (test : Bool) → test ≡ false → (false ≡ true) ↔ (IsTrue test)
not_failing test not = (λ h. cc, λ h. sym not ∙ h)

within_piece : (n len buf piece : ℕ) → n ≡ min (min len buf) piece → n ≤ piece
within_piece n len buf piece is = omega arith

within_buf : (n len buf piece new : ℕ) → n ≡ min (min len buf) piece → new ≡ buf → n ≤ new
within_buf n len buf piece new is same = omega arith

gave : (left slice bytes new : List ℕ) (at n : ℕ) → slice ≡ bytes → left ≡ drop at bytes → take n new ≡ take n (take (length slice - at) (drop at slice)) → left ≡ take n new ++ drop (at + n) bytes
gave left slice bytes new at n is was front = was ∙ reads_on bytes new at n (front ∙ ap (take n) (rest_of slice at) ∙ ap (λ xs. take n (drop at xs)) is)

at_end : (slice bytes : List ℕ) (n at buf piece new : ℕ) → slice ≡ bytes → n ≡ min (min (length (take (length slice - at) (drop at slice))) buf) piece → 0 < piece → new ≡ buf → n ≡ 0 → 0 < new → drop (at + n) bytes ≡ []
at_end slice bytes n at buf piece new is count some same none more =
    drop_all (at + n) bytes (omega (arith, ap length is, ap length (rest_of slice at), length-drop at slice))

pub returns-else-is_failing : goal.returns-else-is_failing
returns-else-is_failing c =
    let test = sym (ap (λ fails. is_failing fails (name_at c.args.self.now.entries.items c.in-Some.current.entry) c.saturating_add-current.result) c.as_slice-in-Some.ensures.value) in
    let named = c.name_at-name.ensures ∙ ap (λ entries. name_at entries c.in-Some.current.entry) c.as_slice.ensures.value in
    let called = sym c.is_failing.ensures ∙ c.if-is_failing.false in
    let inside = c.args.self.now.in_range c.in-Some.current c.in-Some.is in
    record {
      piece = within_piece _ _ _ _ c.give-n.ensures.count;
      reads = any_name _ (c.saturating_add-current.ensures ∙ ap (λ reads. min (reads + 1) (2 ^ 64 - 1)) (sym (part_of _ _ (λ current. current.reads) 0 c.in-Some.is)));
      fails = this_name _ _ _ _ c.in-Some.is (not_failing _ (test ∙ ap (λ name. is_failing c.as_slice-in-Some.result.now name c.saturating_add-current.result) (sym named) ∙ called));
      settings = record { piece = refl; begins = refl; reads = refl };
      bound = within_buf _ _ _ _ _ c.give-n.ensures.count c.give-n.auto.buf;
      next = λ _. gave _ _ _ _ _ _ c.as_slice-in-Some-2.ensures (part_of _ _ (λ current. drop current.at current.bytes) [] c.in-Some.is) c.give-n.ensures.front;
      end = λ _. at_end _ _ _ _ _ _ _ c.as_slice-in-Some-2.ensures c.give-n.ensures.count c.args.self.now.some_piece c.give-n.auto.buf;
      idle = never_idle _ _ _ c.in-Some.is;
      taken = omega (arith, inside, part_of _ _ (λ current. current.at) 0 c.in-Some.is, c.give-n.ensures.count, ap length c.as_slice-in-Some-2.ensures, ap length (rest_of c.as_slice-in-Some-2.result.now c.in-Some.current.at), length-drop c.in-Some.current.at c.as_slice-in-Some-2.result.now, c.as_slice-in-Some-2.type_inv);
      failed = tt;
      err_left = tt;
      err_taken = tt;
      current = sym (ap (option_map (λ current. name_at c.args.self.now.entries.items current.entry)) c.in-Some.is);
      begun = refl;
      has = refl;
      held = refl;
      gave = given_at _ _ _ _ _ _ _ _ c.in-Some.is c.is_end-ended.ensures c.with-self.ensures;
      gave_err = tt;
      calm = λ _. refl;
      same = λ _ _. refl;
      rises = λ _. le_refl _;
    }

no_current : {C : Type 0} (o : Option C) (f : C → List ℕ) (P : List ℕ → Type 0) → o ≡ None → IfSome (option_map f o) P
no_current o f P is = subst (λ o. IfSome (option_map f o) P) (sym is) tt

none_of : {C D : Type 0} (o : Option C) (f : C → D) (d : D) → o ≡ None → option_map_or f o d ≡ d
none_of o f d is = ap (λ o. option_map_or f o d) is

least : (n : ℕ) → 0 ≤ n
least n = omega arith

none_taken : (taken : ℕ) → taken ≡ 0 → taken ≡ min (taken + 0) (2 ^ 64 - 1)
none_taken taken is = omega arith

pub returns-in-None : goal.returns-in-None
returns-in-None c = record {
  piece = least _;
  reads = no_current _ _ _ c.in-None.is;
  fails = no_current _ _ _ c.in-None.is;
  settings = record { piece = refl; begins = refl; reads = refl };
  bound = least _;
  next = λ _. refl;
  end = λ _ _ _. none_of _ (λ current. drop current.at current.bytes) [] c.in-None.is;
  idle = λ _. refl;
  taken = none_taken _ (none_of _ (λ current. current.at) 0 c.in-None.is);
  failed = tt;
  err_left = tt;
  err_taken = tt;
  current = refl;
  begun = refl;
  has = refl;
  held = refl;
  gave = given_none _ _ _ _ _ c.in-None.is;
  gave_err = tt;
  calm = λ _. refl;
  same = λ _ _. refl;
  rises = λ _. le_refl _;
}

pub returns-then-is_failing : goal.returns-then-is_failing
returns-then-is_failing c =
    let test = sym (ap (λ fails. is_failing fails (name_at c.args.self.now.entries.items c.in-Some.current.entry) c.saturating_add-current.result) c.as_slice-in-Some.ensures.value) in
    let named = c.name_at-name.ensures ∙ ap (λ entries. name_at entries c.in-Some.current.entry) c.as_slice.ensures.value in
    let called = sym c.is_failing.ensures ∙ c.if-is_failing.true in
    let told = ap (option_map (λ current. name_at c.args.self.now.entries.items current.entry)) c.in-Some.is in
    record {
      piece = tt;
      reads = any_name _ (c.saturating_add-current.ensures ∙ ap (λ reads. min (reads + 1) (2 ^ 64 - 1)) (sym (part_of _ _ (λ current. current.reads) 0 c.in-Some.is)));
      fails = this_name _ _ _ _ c.in-Some.is (λ _. test ∙ ap (λ name. is_failing c.as_slice-in-Some.result.now name c.saturating_add-current.result) (sym named) ∙ called, λ _. refl);
      settings = record { piece = refl; begins = refl; reads = refl };
      bound = tt;
      next = tt;
      end = tt;
      idle = never_idle _ _ _ c.in-Some.is;
      taken = tt;
      failed = this_name _ _ _ _ c.in-Some.is c.raise.ensures.rose;
      err_left = sym (part_of _ _ (λ current. drop current.at current.bytes) [] c.in-Some.is);
      err_taken = sym (part_of _ _ (λ current. current.at) 0 c.in-Some.is);
      current = ap Some (c.raise.ensures.names c.in-Some.current.entry) ∙ sym told;
      begun = c.raise.ensures.all;
      has = refl;
      held = refl;
      gave = tt;
      gave_err = refl;
      calm = tt;
      same = λ name other. c.raise.ensures.rises.same name (λ is. other (told ∙ ap Some (sym is)));
      rises = c.raise.ensures.rises.rises;
    }
