-- Which files a reading begins, one step after the other.
use Rattle.std.proofs.Common.{◌≡◌, ◌∙◌, ◌<◌, ◌≤◌, ◌+◌, ◌∷◌, ◌++◌, ℕ, suc, Bool, List, [], Result, Ok, Err, length, take, drop, get_or, append_assoc, append-nil, add-zero, sym, ap, subst, arith, slice_set}
use Rattle.std.proofs.Math.Seq.{drop-cons}
use Rattle.std.proofs.lemmas.List.{take-append-drop, length-take-le, take_more}
use Rattle.rt_io.proofs.AddLemmas.{adds_all, adds_first, adds_none, adds_then, all_then}
use Rattle.rt_io.specs.Edge.{AddsPrefix}
use Rattle.rt_schema.specs.declared.table.Table.{Table as TableOf}
use Rattle.rt_schema.specs.Given.{Tables, places}
use Rattle.rt_input.specs.declared.first.First.{First}
use Rattle.rt_input.specs.declared.part.Part.TheVariants.{Schema, Table, Query1, Query2}
use Rattle.rt_input.specs.declared.source.Source.{Source}
use Rattle.std.specs.Prelude.{OnErr, OnOk}
use Rattle.rt_input.specs.Begun.{AddsAll, AddsSome, data_files, data_reached, first_files, first_reached, input_files, input_reached, part_files, table_files, tables_reached, then_files}
use Rattle.rt_input.specs.First.{first_judged}
use Rattle.rt_input.specs.Held.{Holding}
use Rattle.rt_input.specs.Judged.{Data, data_judged, no_rows, schema_judged, table_judged, tables_judged, then_read}
use Rattle.rt_input.specs.Source.{IsKnown, Text}

-- ---- tables

files-append : (source : Source) (at : ℕ) (xs ys : List TableOf) → table_files source at (xs ++ ys) ≡ table_files source at xs ++ table_files source (at + length xs) ys
files-append source at [] ys = ap (λ k. table_files source k ys) (sym (add-zero at))
files-append source at (x ∷ xs) ys =
    let same : (at + 1) + length xs ≡ at + length (x ∷ xs) = omega arith in
    let file = part_files source (Table at x.name) in
    ap (λ fs. file ++ fs) (files-append source (at + 1) xs ys)
    ∙ sym (append_assoc file (table_files source (at + 1) xs) (table_files source ((at + 1) + length xs) ys))
    ∙ ap (λ k. (file ++ table_files source (at + 1) xs) ++ table_files source k ys) same

-- the tables whose rows are read are all reached
reached-append : (source : Source) (held : Holding) (at : ℕ) (so_far tables : Tables) (xs ys : List TableOf) → tables_judged source held at so_far xs ≡ Ok tables
    → tables_reached source held at so_far (xs ++ ys) ≡ table_files source at xs ++ tables_reached source held (at + length xs) tables ys
reached-append source held at so_far tables [] ys ok =
    let same : so_far ≡ tables = cc in ap (λ ts. tables_reached source held at ts ys) same ∙ ap (λ k. tables_reached source held k tables ys) (sym (add-zero at))
reached-append source held at so_far tables (x ∷ xs) ys ok =
    let same : (at + 1) + length xs ≡ at + length (x ∷ xs) = omega arith in
    let file = part_files source (Table at x.name) in
    (elim (table_judged source held at x (places so_far)) as (λ r. then_read r (λ rows. tables_judged source held (at + 1) (slice_set so_far at rows) xs) ≡ Ok tables
    → file ++ then_files r (λ rows. tables_reached source held (at + 1) (slice_set so_far at rows) (xs ++ ys))
    ≡ (file ++ table_files source (at + 1) xs) ++ tables_reached source held (at + length (x ∷ xs)) tables ys) [
      | Ok rows ↦ λ is. ap (λ fs. file ++ fs) (reached-append source held (at + 1) (slice_set so_far at rows) tables xs ys is)
          ∙ sym (append_assoc file (table_files source (at + 1) xs) (tables_reached source held ((at + 1) + length xs) tables ys))
          ∙ ap (λ k. (file ++ table_files source (at + 1) xs) ++ tables_reached source held k tables ys) same
      | Err e ↦ λ is. absurd cc
    ]) ok

module _ (source : Source) (schema : List TableOf) (at : ℕ) (table : TableOf) (within : at < length schema) (is : table ≡ get_or schema at table) where
  abbrev file : List Text
  file = part_files source (Table at table.name)

  abbrev before : List Text
  before = table_files source 0 (take at schema)

  upto : 0 + length (take at schema) ≡ at
  upto = let short : at ≤ length schema = omega arith in omega (arith, length-take-le at schema short)

  split : schema ≡ take at schema ++ table ∷ drop (suc at) schema
  split = sym (take-append-drop at schema) ∙ ap (λ xs. take at schema ++ xs) (drop-cons schema at table within) ∙ ap (λ x. take at schema ++ x ∷ drop (suc at) schema) (sym is)

  -- the files of the tables up to this one, and then those behind it
  pub files-from : table_files source 0 schema ≡ (before ++ file) ++ table_files source (at + 1) (drop (suc at) schema)
  files-from =
      ap (table_files source 0) split ∙ files-append source 0 (take at schema) (table ∷ drop (suc at) schema)
      ∙ ap (λ k. before ++ table_files source k (table ∷ drop (suc at) schema)) upto
      ∙ sym (append_assoc before file (table_files source (at + 1) (drop (suc at) schema)))

  pub files-more : table_files source 0 (take (at + 1) schema) ≡ before ++ file
  files-more =
      ap (table_files source 0) (take_more schema at table within ∙ ap (λ x. take at schema ++ x ∷ []) (sym is)) ∙ files-append source 0 (take at schema) (table ∷ [])
      ∙ ap (λ k. before ++ table_files source k (table ∷ [])) upto ∙ ap (λ fs. before ++ fs) (append-nil file)

  module _ (held : Holding) (start tables : Tables) (told : tables_judged source held 0 start (take at schema) ≡ Ok tables) where
    abbrev behind : List Text
    behind = then_files (table_judged source held at table (places tables)) (λ rows. tables_reached source held (at + 1) (slice_set tables at rows) (drop (suc at) schema))

    pub reached-from : tables_reached source held 0 start schema ≡ (before ++ file) ++ behind
    reached-from =
        ap (tables_reached source held 0 start) split ∙ reached-append source held 0 start tables (take at schema) (table ∷ drop (suc at) schema) told
        ∙ ap (λ k. before ++ tables_reached source held k tables (table ∷ drop (suc at) schema)) upto
        ∙ sym (append_assoc before file behind)

-- all tables are reached where none is refused
pub reached-all : (source : Source) (held : Holding) (start tables : Tables) (schema : List TableOf) → tables_judged source held 0 start schema ≡ Ok tables
    → tables_reached source held 0 start schema ≡ table_files source 0 schema
reached-all source held start tables schema told =
    ap (tables_reached source held 0 start) (sym (append-nil schema)) ∙ reached-append source held 0 start tables schema [] told ∙ append-nil (table_files source 0 schema)

-- the reading stops at the file of this table
pub table_begun : (old mid new before file behind all : List Text) → all ≡ (before ++ file) ++ behind → mid ≡ old ++ before → AddsPrefix mid new file → AddsPrefix old new all
table_begun old mid new before file behind all is first adds =
    subst (λ (fs : List Text). AddsPrefix old new fs) (sym is) (adds_first old new (before ++ file) behind (adds_then old mid new before file first adds))

-- ---- a reading by its steps

pub some_of_all : (known : Type 0) (files : List TableOf → List Text) (reached old new : List Text) → AddsAll known files reached old new → AddsSome known files reached old new
some_of_all known files reached old new all =
    record { named = (all.named.0, adds_all old new (files all.named.0) all.named.1); told = λ t. adds_all old new reached (all.told t) }

-- the step before is the last one
pub some_first : (known : Type 0) (files : List TableOf → List Text) (reached behind more old new : List Text)
    → AddsSome known files reached old new → AddsSome known (λ tables. files tables ++ behind) (reached ++ more) old new
some_first known files reached behind more old new some = record {
  named = (some.named.0, adds_first old new (files some.named.0) behind some.named.1);
  told = λ t. adds_first old new reached more (some.told t);
}

-- one more step
pub some_then : (known : Type 0) (files : List TableOf → List Text) (reached behind more old mid new : List Text)
    → AddsAll known files reached old mid → AddsPrefix mid new behind → (known → AddsPrefix mid new more)
    → AddsSome known (λ tables. files tables ++ behind) (reached ++ more) old new
some_then known files reached behind more old mid new all adds told = record {
  named = (all.named.0, adds_then old mid new (files all.named.0) behind all.named.1 adds);
  told = λ t. adds_then old mid new reached more (all.told t) (told t);
}

-- the files of a step that is reached
pub when_reached : {T E : Type 0} (r : Result T E) (x : T) (files : T → List Text) (old new : List Text) → r ≡ Ok x → AddsPrefix old new (files x) → AddsPrefix old new (then_files r files)
when_reached r x files old new is adds = subst (λ (q : List Text). AddsPrefix old new q) (sym (ap (λ r. then_files r files) is)) adds

pub every_then : (known : Type 0) (files : List TableOf → List Text) (reached behind more old mid new : List Text)
    → AddsAll known files reached old mid → new ≡ mid ++ behind → (known → more ≡ behind)
    → AddsAll known (λ tables. files tables ++ behind) (reached ++ more) old new
every_then known files reached behind more old mid new all is same = record {
  named = (all.named.0, all_then old mid new (files all.named.0) behind all.named.1 is);
  told = λ t. all_then old mid new reached more (all.told t) (is ∙ ap (λ fs. mid ++ fs) (sym (same t)));
}

module _ (tells : Bool) (source : Source) (held : Holding) (old mid new : List Text) where
  -- the schema stops the reading
  pub schema_begun : AddsPrefix old new (part_files source Schema) → AddsSome (IsKnown tells source) (data_files source) (data_reached source held) old new
  schema_begun adds = record {
    named = ([], adds_first old new (part_files source Schema) [] adds);
    told = λ t. adds_first old new (part_files source Schema) (then_files (schema_judged source held) (λ schema. tables_reached source held 0 (no_rows schema) schema)) adds;
  }

  module _ (schema : List TableOf) (read : mid ≡ old ++ part_files source Schema) (judged : IsKnown tells source → schema_judged source held ≡ Ok schema) where
    after : IsKnown tells source
        → then_files (schema_judged source held) (λ schema. tables_reached source held 0 (no_rows schema) schema) ≡ tables_reached source held 0 (no_rows schema) schema
    after t = ap (λ r. then_files r (λ schema. tables_reached source held 0 (no_rows schema) schema)) (judged t)

    -- a table does
    pub tables_begun : (later : Holding) → later ≡ held → AddsPrefix mid new (table_files source 0 schema)
        → (IsKnown tells source → AddsPrefix mid new (tables_reached source later 0 (no_rows schema) schema))
        → AddsSome (IsKnown tells source) (data_files source) (data_reached source held) old new
    tables_begun later same adds told = record {
      named = (schema, adds_then old mid new (part_files source Schema) (table_files source 0 schema) read adds);
      told = λ t. adds_then old mid new (part_files source Schema) _ read (subst (λ (fs : List Text). AddsPrefix mid new fs) (sym (after t))
          (subst (λ (h : Holding). AddsPrefix mid new (tables_reached source h 0 (no_rows schema) schema)) same (told t)));
    }

    -- none does
    pub data_begun : (later : Holding) (tables : Tables) → later ≡ held → new ≡ mid ++ table_files source 0 schema
        → (IsKnown tells source → tables_judged source later 0 (no_rows schema) schema ≡ Ok tables)
        → AddsAll (IsKnown tells source) (data_files source) (data_reached source held) old new
    data_begun later tables same is told = record {
      named = (schema, all_then old mid new (part_files source Schema) (table_files source 0 schema) read is);
      told = λ t. all_then old mid new (part_files source Schema) _ read
          (is ∙ ap (λ fs. mid ++ fs) (sym (after t ∙ reached-all source held (no_rows schema) tables schema
          (ap (λ (h : Holding). tables_judged source h 0 (no_rows schema) schema) (sym same) ∙ told t))));
    }

  -- the tables stop the reading
  pub left_stops : AddsSome (IsKnown tells source) (data_files source) (data_reached source held) old new
      → AddsSome (IsKnown tells source) (first_files source) (first_reached source held) old new
  left_stops some =
      some_first (IsKnown tells source) (data_files source) (data_reached source held) (part_files source Query1) (then_files (data_judged source held) (λ d. part_files source Query1)) old new some

  -- or the first query, after them
  pub left_begun : (d : Data) → (IsKnown tells source → data_judged source held ≡ Ok d) → AddsAll (IsKnown tells source) (data_files source) (data_reached source held) old mid
      → AddsPrefix mid new (part_files source Query1) → AddsSome (IsKnown tells source) (first_files source) (first_reached source held) old new
  left_begun d told all adds =
      some_then (IsKnown tells source) (data_files source) (data_reached source held) (part_files source Query1) (then_files (data_judged source held) (λ d. part_files source Query1)) old mid new all adds
      (λ t. when_reached (data_judged source held) d (λ d. part_files source Query1) mid new (told t) adds)

  pub first_begun : (d : Data) → (IsKnown tells source → data_judged source held ≡ Ok d) → AddsAll (IsKnown tells source) (data_files source) (data_reached source held) old mid
      → new ≡ mid ++ part_files source Query1 → AddsAll (IsKnown tells source) (first_files source) (first_reached source held) old new
  first_begun d told all is =
      every_then (IsKnown tells source) (data_files source) (data_reached source held) (part_files source Query1) (then_files (data_judged source held) (λ d. part_files source Query1)) old mid new all is
      (λ t. ap (λ r. then_files r (λ (d : Data). part_files source Query1)) (told t))

  -- what comes before the second query stops the reading
  pub right_stops : AddsSome (IsKnown tells source) (first_files source) (first_reached source held) old new
      → AddsSome (IsKnown tells source) (input_files source) (input_reached source held) old new
  right_stops some =
      some_first (IsKnown tells source) (first_files source) (first_reached source held) (part_files source Query2) (then_files (first_judged source held) (λ first. part_files source Query2)) old new some

  -- or the second query
  pub right_begun : (first : First) → (IsKnown tells source → first_judged source held ≡ Ok first) → AddsAll (IsKnown tells source) (first_files source) (first_reached source held) old mid
      → AddsPrefix mid new (part_files source Query2) → AddsSome (IsKnown tells source) (input_files source) (input_reached source held) old new
  right_begun first told all adds =
      some_then (IsKnown tells source) (first_files source) (first_reached source held) (part_files source Query2) (then_files (first_judged source held) (λ first. part_files source Query2)) old mid new all adds
      (λ t. when_reached (first_judged source held) first (λ first. part_files source Query2) mid new (told t) adds)

  pub input_begun : (first : First) → (IsKnown tells source → first_judged source held ≡ Ok first) → AddsAll (IsKnown tells source) (first_files source) (first_reached source held) old mid
      → new ≡ mid ++ part_files source Query2 → AddsAll (IsKnown tells source) (input_files source) (input_reached source held) old new
  input_begun first told all is =
      every_then (IsKnown tells source) (first_files source) (first_reached source held) (part_files source Query2) (then_files (first_judged source held) (λ first. part_files source Query2)) old mid new all is
      (λ t. ap (λ r. then_files r (λ (first : First). part_files source Query2)) (told t))

-- of a result, whichever it is
pub when_ok : {T E P : Type 0} (r : Result T E) → P → OnOk r P
when_ok (Ok x) p = p
when_ok (Err e) p = tt

pub when_err : {T E P : Type 0} (r : Result T E) → P → OnErr r P
when_err (Ok x) p = tt
when_err (Err e) p = p

-- a reading that begins no file
pub none_begun : (known : Type 0) (files : List TableOf → List Text) (reached old new : List Text) → new ≡ old → AddsSome known files reached old new
none_begun known files reached old new same = record { named = ([], adds_none old new (files []) same); told = λ t. adds_none old new reached same }
