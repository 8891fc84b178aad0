-- What was read, compared with what `clap` holds.
use Rattle.std.proofs.Common.{◌≡◌, ◌∙◌, ◌<◌, ◌≤◌, List, [], ◌∷◌, ◌++◌, refl, Bool, true, false, Option, Some, None, codes, ap, sym, subst, length, length-append, arith}
use Rattle.std.proofs.lemmas.List.{append-nil}
use Rattle.std.specs.Str.{bytes_eq}
use Rattle.std.specs.Prelude.{if◌then◌else◌, not}
use Rattle.std.proofs.lemmas.Bool.Decides.{nat_tests}
use Rattle.clap.specs.Words.{Row}
use Rattle.clap.specs.Walk.{has_row, is_empty, with_values}
use Rattle.clap.proofs.OnLiterals.{clap_on_literals}
use Rattle.clap.specs.declared.builder.value_parser.Reading.TheVariants.{AsWritten}
use Rattle.clap.specs.declared.parser.matches.ValueSource.TheVariants.{CommandLine}
use Rattle.rt_io.specs.App.{command_app, values_in}
use Rattle.rt_io.specs.Reading.{Reading, Setting, Text, conflicts, name_of, with_value, with_word, work}
use Rattle.rt_io.proofs.Rows.{are_full, full-with, has-values, others-with, same_id, self_id, values-with, without-none}
use Rattle.rt_io.proofs.Walking.{Pending, filed, nothing, settling, value_of_it, word_of_it}

abbrev pub words_name : Text
words_name = codes "words"

abbrev pub values_of : Setting → Reading → List Text
values_of conflicts r = r.conflicts
values_of work r = r.work

-- the texts of an id that are not yet filed
abbrev pub unfiled : Text → Pending → List Text
unfiled id nothing = []
unfiled id (word_of_it v) = if bytes_eq (codes "words") id then v ∷ [] else []
unfiled id (value_of_it o v) = if bytes_eq (name_of o) id then v ∷ [] else []

-- `clap` holds what was read, and has filed no option twice
pub record Stands (r : Reading) (rows : List Row) (p : Pending) : Type 0 where
  pub plain : r.plain ≡ values_in (codes "words") rows ++ unfiled (codes "words") p
  pub given : (o : Setting) → values_of o r ≡ values_in (name_of o) rows ++ unfiled (name_of o) p
  pub full : are_full rows ≡ true
  pub once : (o : Setting) → length (values_in (name_of o) rows) ≤ 1

-- an option was given twice
pub record IsTwice (r : Reading) : Type 0 where
  pub option : Setting
  pub again : 1 < length (values_of option r)

-- what filing comes to
pub data Files (r : Reading) (rows : List Row) (p : Pending) : Type 0 where
  clean : settling rows p ≡ [] → Stands r (filed rows p) nothing → Files r rows p
  twice : (settling rows p ≡ [] → ⊥) → IsTwice r → Files r rows p

-- the rows with one value more
abbrev added : Text → Text → List Row → List Row
added id v rows = with_values id AsWritten CommandLine (v ∷ []) rows

added-values : (id other v : Text) (rows : List Row) (b : Bool) → bytes_eq id other ≡ b
    → values_in other (added id v rows) ≡ values_in other rows ++ (if b then v ∷ [] else [])
added-values id other v rows true e =
    let same = same_id id other e in
    subst (λ (x : Text). values_in x (added id v rows) ≡ values_in x rows ++ v ∷ []) same (values-with id AsWritten CommandLine v rows)
added-values id other v rows false e = others-with id AsWritten CommandLine v other e rows ∙ sym (append-nil (values_in other rows))

file-word : (r : Reading) (rows : List Row) (v : Text) → Stands r rows (word_of_it v) → Files r rows (word_of_it v)
unfolding clap_on_literals command_app
file-word r rows v h = clean refl (record {
  plain = h.plain ∙ sym (added-values words_name words_name v rows true refl) ∙ sym (append-nil _);
  given = λ o. elim o as (λ o. values_of o r ≡ values_in (name_of o) (added words_name v rows) ++ []) [
    | conflicts ↦ h.given conflicts ∙ sym (added-values words_name (codes "conflicts") v rows false refl) ∙ sym (append-nil _)
    | work ↦ h.given work ∙ sym (added-values words_name (codes "work") v rows false refl) ∙ sym (append-nil _)
  ];
  full = full-with words_name AsWritten CommandLine v rows h.full;
  once = λ o. elim o as (λ o. length (values_in (name_of o) (added words_name v rows)) ≤ 1) [
    | conflicts ↦ rw (others-with words_name AsWritten CommandLine v (codes "conflicts") refl rows) (h.once conflicts)
    | work ↦ rw (others-with words_name AsWritten CommandLine v (codes "work") refl rows) (h.once work)
  ];
})

none-of : (xs : List Text) → not (is_empty xs) ≡ false → xs ≡ []
none-of [] e = refl
none-of (x ∷ xs) e = let bad : ⊥ = grind (arith, nat_tests) in absurd bad

some-of : (xs : List Text) → not (is_empty xs) ≡ true → 0 < length xs
some-of [] e = cc e
some-of (x ∷ xs) e = omega arith

none-kept : (id : Text) (rows : List Row) → are_full rows ≡ true → has_row id rows ≡ false → values_in id rows ≡ []
none-kept id rows full e = none-of (values_in id rows) (sym (has-values id rows full) ∙ e)

some-kept : (id : Text) (rows : List Row) → are_full rows ≡ true → has_row id rows ≡ true → 0 < length (values_in id rows)
some-kept id rows full e = some-of (values_in id rows) (sym (has-values id rows full) ∙ e)

once-still : (id other v : Text) (rows : List Row) → values_in id rows ≡ [] → length (values_in other rows) ≤ 1 → (b : Bool) → bytes_eq id other ≡ b
    → length (values_in other (added id v rows)) ≤ 1
once-still id other v rows none once true e =
    let same : values_in other rows ≡ [] = subst (λ (x : Text). values_in x rows ≡ []) (same_id id other e) none in
    rw (added-values id other v rows true e, same) (omega arith)
once-still id other v rows none once false e = rw (others-with id AsWritten CommandLine v other e rows) once

-- an option's second value
given-again : (r : Reading) (rows : List Row) (o : Setting) (v : Text) → Stands r rows (value_of_it o v) → has_row (name_of o) rows ≡ true → IsTwice r
given-again r rows o v h e = record {
  option = o;
  again = rw (h.given o, self_id (name_of o)) (simp length-append (let some = some-kept (name_of o) rows h.full e in omega (arith, some)));
}

-- an option's first value is filed
value-filed : (r : Reading) (rows : List Row) (o : Setting) (v : Text) → Stands r rows (value_of_it o v) → has_row (name_of o) rows ≡ false
    → Stands r (added (name_of o) v rows) nothing
value-filed r rows o v h none = record {
  plain = h.plain ∙ sym (added-values (name_of o) words_name v rows _ refl) ∙ sym (append-nil _);
  given = λ q. h.given q ∙ sym (added-values (name_of o) (name_of q) v rows _ refl) ∙ sym (append-nil _);
  full = full-with (name_of o) AsWritten CommandLine v rows h.full;
  once = λ q. once-still (name_of o) (name_of q) v rows (none-kept (name_of o) rows h.full none) (h.once q) _ refl;
}

file-value-at : (r : Reading) (rows : List Row) (o : Setting) (v : Text) → Stands r rows (value_of_it o v) → (b : Bool) → has_row (name_of o) rows ≡ b → Files r rows (value_of_it o v)
unfolding clap_on_literals command_app
file-value-at r rows conflicts v h false e = clean (rw e refl) (rw (without-none (codes "conflicts") rows e) (value-filed r rows conflicts v h e))
file-value-at r rows work v h false e = clean (rw e refl) (rw (without-none (codes "work") rows e) (value-filed r rows work v h e))
file-value-at r rows conflicts v h true e = twice (λ q. cc (rw e at q)) (given-again r rows conflicts v h e)
file-value-at r rows work v h true e = twice (λ q. cc (rw e at q)) (given-again r rows work v h e)

pub files : (r : Reading) (rows : List Row) (p : Pending) → Stands r rows p → Files r rows p
files r rows nothing h = clean refl h
files r rows (word_of_it v) h = file-word r rows v h
files r rows (value_of_it o v) h = file-value-at r rows o v h _ refl

pub put-word : (r : Reading) (rows : List Row) (v : Text) → Stands r rows nothing → Stands (with_word v r) rows (word_of_it v)
put-word r rows v h = record {
  plain = ap (λ (xs : List Text). xs ++ v ∷ []) (h.plain ∙ append-nil _);
  given = λ o. elim o as (λ o. values_of o (with_word v r) ≡ values_in (name_of o) rows ++ (if bytes_eq words_name (name_of o) then v ∷ [] else [])) [
    | conflicts ↦ h.given conflicts
    | work ↦ h.given work
  ];
  full = h.full;
  once = h.once;
}

pub put-value : (r : Reading) (rows : List Row) (o : Setting) (v : Text) → Stands r rows nothing → Stands (with_value o v r) rows (value_of_it o v)
put-value r rows conflicts v h = record {
  plain = h.plain;
  given = λ o. elim o as (λ o. values_of o (with_value conflicts v r) ≡ values_in (name_of o) rows ++ (if bytes_eq (codes "conflicts") (name_of o) then v ∷ [] else [])) [
    | conflicts ↦ ap (λ (xs : List Text). xs ++ v ∷ []) (h.given conflicts ∙ append-nil _)
    | work ↦ h.given work
  ];
  full = h.full;
  once = h.once;
}
put-value r rows work v h = record {
  plain = h.plain;
  given = λ o. elim o as (λ o. values_of o (with_value work v r) ≡ values_in (name_of o) rows ++ (if bytes_eq (codes "work") (name_of o) then v ∷ [] else [])) [
    | conflicts ↦ h.given conflicts
    | work ↦ ap (λ (xs : List Text). xs ++ v ∷ []) (h.given work ∙ append-nil _)
  ];
  full = h.full;
  once = h.once;
}

-- a reading in which an option was given twice stays so
abbrev pub StaysTwice : Option Reading → Type 0
StaysTwice None = Unit {0}
StaysTwice (Some r) = IsTwice r
