-- A name that is given twice is among the names so far.
use Rattle.std.proofs.Common.{◌≡◌, ◌∙◌, ◌+◌, ◌<◌, sym, ap, ℕ, List, [], ◌∷◌, ◌++◌, length, get_or, take, drop, Bool, false, Option, Some, None}
use Rattle.std.proofs.lemmas.List.{drop_more, map-append, take_more}
use Rattle.rt_token.specs.Terminals.{Word}
use Rattle.rt_schema.specs.declared.table.Column.{Column}
use Rattle.rt_ddl.specs.Meaning.{given, has_name, or_else, part_twice, parts_twice, table_twice, tables_twice}
use Rattle.rt_ddl.specs.Places.{column_names, table_names}
use Rattle.rt_ddl.specs.declared.parts.Part.{Part}
use Rattle.rt_ddl.specs.declared.parts.Part.TheVariants as part
use Rattle.rt_ddl.specs.declared.parts.TableText.{TableText}
use Rattle.rt_ddl.proofs.PlaceLemmas.{column-named, names-append, table-named}

module _ {A : Type 0} (xs : List A) (i : ℕ) (x : A) (l : i < length xs) (e : x ≡ get_or xs i x) where
  one-more : take (i + 1) xs ≡ take i xs ++ x ∷ []
  one-more = take_more xs i x l ∙ ap (λ (y : A). take i xs ++ y ∷ []) (sym e)

  one-less : drop i xs ≡ x ∷ drop (i + 1) xs
  one-less = drop_more xs i x l ∙ ap (λ (y : A). y ∷ drop (i + 1) xs) (sym e)

-- ---- parts

pub column-twice : (table : Word) (before : List Part) (columns : List Word) (c : Column) (p : Part) (b : Bool)
    → columns ≡ column_names before → p ≡ part.Column c → has_name columns c.name ≡ b → given b c.name ≡ part_twice table before p
column-twice table before columns c p b n e h =
    ap (λ (b : Bool). given b c.name) (sym h ∙ ap (λ (ns : List Word). has_name ns c.name) n ∙ column-named before c.name)
    ∙ ap (λ (p : Part). part_twice table before p) (sym e)

pub columns-step : (ps : List Part) (i : ℕ) (p : Part) → i < length ps → p ≡ get_or ps i p → column_names (take (i + 1) ps) ≡ column_names (take i ps) ++ column_names (p ∷ [])
columns-step ps i p l e = ap (λ (qs : List Part). column_names qs) (one-more ps i p l e) ∙ names-append (take i ps) (p ∷ [])

pub parts-step : (table : Word) (ps : List Part) (i : ℕ) (p : Part) → i < length ps → p ≡ get_or ps i p → part_twice table (take i ps) p ≡ None
    → parts_twice table (take (i + 1) ps) (drop (i + 1) ps) ≡ parts_twice table (take i ps) (drop i ps)
parts-step table ps i p l e none =
    ap (λ (qs : List Part). parts_twice table qs (drop (i + 1) ps)) (one-more ps i p l e)
    ∙ ap (λ (o : Option Word). or_else o (parts_twice table (take i ps ++ p ∷ []) (drop (i + 1) ps))) (sym none)
    ∙ ap (λ (qs : List Part). parts_twice table (take i ps) qs) (sym (one-less ps i p l e))

-- ---- tables

pub names-step : (ts : List TableText) (i : ℕ) (t : TableText) → i < length ts → t ≡ get_or ts i t → table_names (take (i + 1) ts) ≡ table_names (take i ts) ++ t.name ∷ []
names-step ts i t l e = ap (λ (us : List TableText). table_names us) (one-more ts i t l e) ∙ map-append (λ (t : TableText). t.name) (take i ts) (t ∷ [])

abbrev later : List TableText → ℕ → Option Word
later ts i = tables_twice (take (i + 1) ts) (drop (i + 1) ts)

pub tables-now : (ts : List TableText) (i : ℕ) (t : TableText) (names : List Word) (b : Bool) → i < length ts → t ≡ get_or ts i t
    → names ≡ table_names (take i ts) → has_name names t.name ≡ b
    → tables_twice (take i ts) (drop i ts) ≡ or_else (or_else (given b t.name) (parts_twice t.name [] t.parts)) (later ts i)
tables-now ts i t names b l e n h =
    ap (λ (us : List TableText). tables_twice (take i ts) us) (one-less ts i t l e)
    ∙ ap (λ (us : List TableText). or_else (table_twice (take i ts) t) (tables_twice us (drop (i + 1) ts))) (sym (one-more ts i t l e))
    ∙ ap (λ (b : Bool). or_else (or_else (given b t.name) (parts_twice t.name [] t.parts)) (later ts i))
    (sym (table-named (take i ts) t.name) ∙ ap (λ (ns : List Word). has_name ns t.name) (sym n) ∙ h)

pub tables-some : (ts : List TableText) (i : ℕ) (t : TableText) (names : List Word) (name : Word) → i < length ts → t ≡ get_or ts i t
    → names ≡ table_names (take i ts) → has_name names t.name ≡ false → Some name ≡ parts_twice t.name [] t.parts
    → Some name ≡ tables_twice (take i ts) (drop i ts)
tables-some ts i t names name l e n h found =
    ap (λ (o : Option Word). or_else o (later ts i)) found ∙ sym (tables-now ts i t names false l e n h)

pub tables-none : (ts : List TableText) (i : ℕ) (t : TableText) (names : List Word) → i < length ts → t ≡ get_or ts i t
    → names ≡ table_names (take i ts) → has_name names t.name ≡ false → None ≡ parts_twice t.name [] t.parts
    → tables_twice (take (i + 1) ts) (drop (i + 1) ts) ≡ tables_twice (take i ts) (drop i ts)
tables-none ts i t names l e n h none =
    ap (λ (o : Option Word). or_else o (later ts i)) none ∙ sym (tables-now ts i t names false l e n h)
