-- Names found at their first places.
use Rattle.std.proofs.Common.{◌≡◌, ◌∙◌, sym, ap, subst, ℕ, suc, List, [], ◌∷◌, ◌++◌, length, refl, Bool, true, false, cond, map, Option, Some, None, inl, inr}
use Rattle.std.proofs.lemmas.Bool.{cases_Bool}
use Rattle.std.proofs.lemmas.Map.Text.{is_eq-slice_cmp}
use Rattle.std.proofs.lemmas.Map.Lookups.{exact_bytes}
use Rattle.std.specs.BTreeMap.{is_at}
use Rattle.std.specs.Cmp.Lexicographic.{slice_cmp}
use Rattle.std.specs.Ordering.{is_eq, nat_cmp}
use Rattle.std.specs.declared.cmp.Ordering.{Ordering}
use Rattle.std.specs.declared.cmp.Ordering.TheVariants.{Less, Equal, Greater}
use Rattle.std.specs.Prelude.{bytes_eq, is_some, option_map, slice_get, ◌||◌}
use Rattle.std.specs.Option.{option_and_then, unwrap_or}
use Rattle.rt_token.specs.Terminals.{Word}
use Rattle.rt_schema.specs.declared.table.Column.{Column}
use Rattle.rt_ddl.specs.Meaning.{column_at, columns_of, given, has_column, has_name, has_table, or_else, table_at, table_named}
use Rattle.rt_ddl.specs.Places.{ArePlacesOf, Placed, column_names, place_of, placed_at, table_names}
use Rattle.rt_ddl.specs.declared.parts.Part.{Part}
use Rattle.rt_ddl.specs.declared.parts.Part.TheVariants as part
use Rattle.rt_ddl.specs.declared.parts.TableText.{TableText}

-- ---- choices

or-none : {A : Type 0} (o : Option A) → or_else o None ≡ o
or-none None = refl
or-none (Some x) = refl

or-some : {A : Type 0} (o p : Option A) → is_some o ≡ true → or_else o p ≡ o
or-some None p h = cc h
or-some (Some x) p h = refl

or-is-none : {A : Type 0} (o p : Option A) → is_some o ≡ false → or_else o p ≡ p
or-is-none None p h = refl
or-is-none (Some x) p h = cc h

equal_of : (o : Ordering) → is_eq o ≡ true → o ≡ Equal
equal_of Equal h = refl
equal_of Less h = cc h
equal_of Greater h = cc h

same : (m n : Word) → bytes_eq m n ≡ true → m ≡ n
same m n h = exact_bytes m n (equal_of (slice_cmp nat_cmp m n) (is_eq-slice_cmp m n ∙ h))

-- ---- the places of names

pub kept : (name : Word) (place : ℕ) (old : Placed) → is_some (placed_at old name) ≡ true → (n : Word) → placed_at old n ≡ or_else (placed_at old n) (given (bytes_eq name n) place)
kept name place old h n = elim (cases_Bool (bytes_eq name n)) [
  | inl e ↦ sym (or-some (placed_at old n) (given (bytes_eq name n) place) (subst (λ (m : Word). is_some (placed_at old m) ≡ true) (same name n e) h))
  | inr e ↦ rw e (sym (or-none (placed_at old n)))
]

pub put : (name : Word) (place : ℕ) (old new : Placed) → is_some (placed_at old name) ≡ false
    → ((n : Word) → placed_at new n ≡ cond (is_at (slice_cmp nat_cmp name) n) (Some place) (placed_at old n))
    → (n : Word) → placed_at new n ≡ or_else (placed_at old n) (given (bytes_eq name n) place)
put name place old new h inserted n =
    inserted n ∙ ap (λ b. cond b (Some place) (placed_at old n)) (is_eq-slice_cmp name n) ∙ go (bytes_eq name n) refl
  where
    go : (b : Bool) → bytes_eq name n ≡ b → cond b (Some place) (placed_at old n) ≡ or_else (placed_at old n) (given b place)
    go true e = sym (or-is-none (placed_at old n) (Some place) (subst (λ (m : Word). is_some (placed_at old m) ≡ false) (same name n e) h))
    go false e = sym (or-none (placed_at old n))

more : (b c : Bool) (o : Option ℕ) (k : ℕ)
    → cond {A = Option ℕ} b (Some 0) (option_map (λ (i : ℕ). suc i) (or_else o (given c k))) ≡ or_else (cond {A = Option ℕ} b (Some 0) (option_map (λ (i : ℕ). suc i) o)) (given c (suc k))
more true c o k = refl
more false c (Some i) k = refl
more false true None k = refl
more false false None k = refl

place-more : (ms : List Word) (m n : Word) → place_of (ms ++ m ∷ []) n ≡ or_else (place_of ms n) (given (bytes_eq m n) (length ms))
place-more [] m n = go (bytes_eq m n)
  where
    go : (b : Bool) → cond {A = Option ℕ} b (Some 0) None ≡ given b 0
    go true = refl
    go false = refl
place-more (k ∷ ms) m n =
    ap (λ (o : Option ℕ). cond {A = Option ℕ} (bytes_eq k n) (Some 0) (option_map (λ (i : ℕ). suc i) o)) (place-more ms m n) ∙ more (bytes_eq k n) (bytes_eq m n) (place_of ms n) (length ms)

pub places-more : (ms : List Word) (m : Word) (old new : Placed) → ArePlacesOf ms old
    → ((n : Word) → placed_at new n ≡ or_else (placed_at old n) (given (bytes_eq m n) (length ms)))
    → ArePlacesOf (ms ++ m ∷ []) new
places-more ms m old new h put n = put n ∙ ap (λ (o : Option ℕ). or_else o (given (bytes_eq m n) (length ms))) (h n) ∙ sym (place-more ms m n)

-- ---- the names that have a place

some-if : (b : Bool) (o : Option ℕ) → is_some (cond b (Some 0) (option_map (λ (i : ℕ). suc i) o)) ≡ (b || is_some o)
some-if true o = refl
some-if false None = refl
some-if false (Some i) = refl

has-place : (ms : List Word) (n : Word) → is_some (place_of ms n) ≡ has_name ms n
has-place [] n = refl
has-place (m ∷ ms) n = some-if (bytes_eq m n) (place_of ms n) ∙ ap (λ b. bytes_eq m n || b) (has-place ms n)

pub has : (ms : List Word) (placed : Placed) (n : Word) → ArePlacesOf ms placed → is_some (placed_at placed n) ≡ has_name ms n
has ms placed n h = ap (λ (o : Option ℕ). is_some o) (h n) ∙ has-place ms n

-- ---- the names of columns and tables

pub names-append : (ps qs : List Part) → column_names (ps ++ qs) ≡ column_names ps ++ column_names qs
names-append [] qs = refl
names-append (part.Column c ∷ ps) qs = ap (λ (ns : List Word). c.name ∷ ns) (names-append ps qs)
names-append (part.Rule t r ∷ ps) qs = names-append ps qs

pub column-named : (ps : List Part) (n : Word) → has_name (column_names ps) n ≡ has_column ps n
column-named [] n = refl
column-named (part.Column c ∷ ps) n = ap (λ b. bytes_eq c.name n || b) (column-named ps n)
column-named (part.Rule t r ∷ ps) n = column-named ps n

pub table-named : (ts : List TableText) (n : Word) → has_name (table_names ts) n ≡ has_table ts n
table-named [] n = refl
table-named (t ∷ ts) n = ap (λ b. bytes_eq t.name n || b) (table-named ts n)

-- ---- where columns and tables are

at-more : (b : Bool) (k m : ℕ) (o : Option ℕ) → k ≡ unwrap_or o m → cond {A = ℕ} b 0 (suc k) ≡ unwrap_or (cond {A = Option ℕ} b (Some 0) (option_map (λ (i : ℕ). suc i) o)) (suc m)
at-more true k m o h = refl
at-more false k m None h = ap (λ (i : ℕ). suc i) h
at-more false k m (Some i) h = ap (λ (i : ℕ). suc i) h

column-at : (cs : List Column) (n : Word) → column_at cs n ≡ unwrap_or (place_of (map (λ c. c.name) cs) n) (length (map (λ c. c.name) cs))
column-at [] n = refl
column-at (c ∷ cs) n = at-more (bytes_eq c.name n) (column_at cs n) (length (map (λ c. c.name) cs)) (place_of (map (λ c. c.name) cs) n) (column-at cs n)

column-place : (ps : List Part) (n : Word) → column_at (columns_of ps) n ≡ unwrap_or (place_of (column_names ps) n) (length (column_names ps))
column-place ps n = column-at (columns_of ps) n

table-place : (ts : List TableText) (n : Word) → table_at ts n ≡ unwrap_or (place_of (table_names ts) n) (length ts)
table-place [] n = refl
table-place (t ∷ ts) n = at-more (bytes_eq t.name n) (table_at ts n) (length ts) (place_of (table_names ts) n) (table-place ts n)

named-more : {A : Type 0} (b : Bool) (x : A) (xs : List A) (o : Option ℕ)
    → cond b (Some x) (option_and_then (slice_get xs) o) ≡ option_and_then (slice_get (x ∷ xs)) (cond {A = Option ℕ} b (Some 0) (option_map (λ (i : ℕ). suc i) o))
named-more true x xs o = refl
named-more false x xs None = refl
named-more false x xs (Some i) = refl

table-found : (ts : List TableText) (n : Word) → table_named ts n ≡ option_and_then (slice_get ts) (place_of (table_names ts) n)
table-found [] n = refl
table-found (t ∷ ts) n = ap (λ (o : Option TableText). cond (bytes_eq t.name n) (Some t) o) (table-found ts n) ∙ named-more (bytes_eq t.name n) t ts (place_of (table_names ts) n)

-- a place that was looked up, or the number of names where there is none
pub column-here : (t u : TableText) (names : List Word) (n : Word) (o : Option ℕ) (k : ℕ) → o ≡ place_of names n → k ≡ unwrap_or o (length names)
    → names ≡ column_names t.parts → t ≡ u → k ≡ column_at (columns_of u.parts) n
column-here t u names n o k p q e f =
    q ∙ ap (λ (o : Option ℕ). unwrap_or o (length names)) p ∙ ap (λ (ns : List Word). unwrap_or (place_of ns n) (length ns)) e
    ∙ sym (column-place t.parts n) ∙ ap (λ (t : TableText). column_at (columns_of t.parts) n) f

pub table-here : (ts us : List TableText) (names : List Word) (n : Word) (o : Option ℕ) (k : ℕ) → o ≡ place_of names n → k ≡ unwrap_or o (length ts)
    → names ≡ table_names ts → ts ≡ us → k ≡ table_at us n
table-here ts us names n o k p q e f =
    q ∙ ap (λ (o : Option ℕ). unwrap_or o (length ts)) p ∙ ap (λ (ns : List Word). unwrap_or (place_of ns n) (length ts)) e
    ∙ sym (table-place ts n) ∙ ap (λ (ts : List TableText). table_at ts n) f

pub table-there : (ts us : List TableText) (names : List Word) (n : Word) (o : Option ℕ) → o ≡ place_of names n
    → names ≡ table_names ts → ts ≡ us → option_and_then (slice_get ts) o ≡ table_named us n
table-there ts us names n o p e f =
    ap (λ (o : Option ℕ). option_and_then (slice_get ts) o) p ∙ ap (λ (ns : List Word). option_and_then (slice_get ts) (place_of ns n)) e
    ∙ sym (table-found ts n) ∙ ap (λ (ts : List TableText). table_named ts n) f
