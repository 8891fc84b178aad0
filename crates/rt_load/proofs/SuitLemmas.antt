-- The rows that a file gives suit its table and have room in an instance.
use Rattle.std.proofs.Common.{◌≡◌, ◌<◌, ◌≤◌, ◌+◌, ◌^◌, ◌-◌, ◌∙◌, ap, sym, subst, arith, ℕ, zero, suc, List, [], ◌∷◌, length, get_or, refl, true, false, Bool, Result, Ok, Err, Option, Some, None, ◌&&◌, IsTrue, ℤ, pos, ◌-ℤ◌, if◌then◌else◌, nat_le, nat_lt, slice_index_or, option_map, ◌==◌}
use Rattle.std.specs.Str.{is_utf8}
use Rattle.std.proofs.lemmas.Bool.Decides.{nat_tests}
use Rattle.std.proofs.lemmas.Int.{ints}
use Rattle.std.proofs.lemmas.List.{length-map}
use Rattle.rt_value.specs.Numeral.{all_digits, decimal}
use Rattle.rt_value.specs.declared.value.Value.{Value}
use Rattle.rt_value.specs.declared.value.Value.TheVariants as v
use Rattle.rt_schema.specs.declared.table.ColKind.{ColKind}
use Rattle.rt_schema.specs.declared.table.ColKind.TheVariants.{Whole, Text}
use Rattle.rt_schema.specs.declared.table.Column.{Column}
use Rattle.rt_schema.specs.declared.table.Table.{Table}
use Rattle.rt_schema.specs.Given.{Instance, Rows, Tables, in_64_bits, is_instance, places, row_suits, rows_suit, tables_suit, value_suits, row_limit}
use Rattle.rt_schema.specs.Schema.{kinds_of, schema_kinds}
use Rattle.rt_load.specs.Integer.{integer, signed, trimmed, with_sign}
use Rattle.rt_load.specs.Loaded.{Field, ◌>>=◌, begins_with_mark, cell, cells, columns_at, is_header, loaded, number_or, row_at, rows_behind_header, rows_from, text_cell, whole_cell}
use Rattle.rt_load.specs.declared.fault.LoadFault.{LoadFault}
use Rattle.rt_load.specs.declared.fault.LoadFault.TheVariants.{BadHeader, FieldCount, TooManyRows}

-- what is said of the value, if there is one
abbrev pub OfOk : {T : Type 0} → (T → Type 0) → Result T LoadFault → Type 0
OfOk P (Ok x) = P x
OfOk P (Err e) = Unit {0}

abbrev pub OfSome : {T : Type 0} → (T → Type 0) → Option T → Type 0
OfSome P None = Unit {0}
OfSome P (Some x) = P x

then-ok : {A B : Type 0} (P : A → Type 0) (Q : B → Type 0) (r : Result A LoadFault) (f : A → Result B LoadFault) → OfOk P r → ((x : A) → P x → OfOk Q (f x)) → OfOk Q (r >>= f)
then-ok P Q (Ok x) f h k = k x h
then-ok P Q (Err e) f h k = tt

-- ---- fields

minus-fits : (n : ℕ) (b : Bool) → nat_le n (2 ^ 63) ≡ b → OfSome (λ z. IsTrue (in_64_bits z)) (option_map (λ k. pos 0 -ℤ pos k) (if b then Some n else None))
minus-fits n true e = let h : n ≤ 2 ^ 63 = grind (arith, nat_tests) in grind (arith, ints)
minus-fits n false e = tt

plus-fits : (n : ℕ) (b : Bool) → nat_le n (2 ^ 63 - 1) ≡ b → OfSome (λ z. IsTrue (in_64_bits z)) (option_map pos (if b then Some n else None))
plus-fits n true e = let h : n < 2 ^ 63 = grind (arith, nat_tests) in grind (arith, ints)
plus-fits n false e = tt

sign-fits : (minus : Bool) (n : ℕ) → OfSome (λ z. IsTrue (in_64_bits z)) (with_sign minus n)
sign-fits true n = minus-fits n (nat_le n (2 ^ 63)) refl
sign-fits false n = plus-fits n (nat_le n (2 ^ 63 - 1)) refl

signed-if : (minus b : Bool) (n : ℕ) → OfSome (λ z. IsTrue (in_64_bits z)) (if b then with_sign minus n else None)
signed-if minus true n = sign-fits minus n
signed-if minus false n = tt

signed-fits : (minus : Bool) (ds : List ℕ) → OfSome (λ z. IsTrue (in_64_bits z)) (signed minus ds)
signed-fits minus [] = tt
signed-fits minus (d ∷ ds) = signed-if minus (all_digits (d ∷ ds)) (decimal (d ∷ ds))

either : (b : Bool) (x y : Option ℤ) → OfSome (λ z. IsTrue (in_64_bits z)) x → OfSome (λ z. IsTrue (in_64_bits z)) y → OfSome (λ z. IsTrue (in_64_bits z)) (if b then x else y)
either true x y h k = h
either false x y h k = k

integer-fits : (bs : List ℕ) → OfSome (λ z. IsTrue (in_64_bits z)) (integer bs)
integer-fits [] = tt
integer-fits (b ∷ bs) = either (b == 45) _ _ (signed-fits true bs) (either (b == 43) _ _ (signed-fits false bs) (signed-fits false (b ∷ bs)))

number-suits : (fault : LoadFault) (o : Option ℤ) → OfSome (λ z. IsTrue (in_64_bits z)) o → OfOk (λ x. IsTrue (value_suits Whole x)) (number_or fault o)
number-suits fault None h = tt
number-suits fault (Some n) h = h

whole-suits : (fault : LoadFault) (field : Field) → OfOk (λ x. IsTrue (value_suits Whole x)) (whole_cell fault field)
whole-suits fault [] = refl
whole-suits fault (b ∷ bs) = number-suits fault (integer (b ∷ bs)) (integer-fits (b ∷ bs))

text-if : (fault : LoadFault) (field : Field) (b : Bool) → OfOk (λ x. IsTrue (value_suits Text x)) (if b then Ok (v.Text field) else Err fault)
text-if fault field true = refl
text-if fault field false = tt

text-suits : (fault : LoadFault) (field : Field) → OfOk (λ x. IsTrue (value_suits Text x)) (text_cell fault field)
text-suits fault [] = refl
text-suits fault (b ∷ bs) = text-if fault (b ∷ bs) (is_utf8 (b ∷ bs))

cell-suits : (k : ColKind) (n c : ℕ) (field : Field) → OfOk (λ x. IsTrue (value_suits k x)) (cell k n c field)
cell-suits Whole n c field = whole-suits _ (trimmed field)
cell-suits Text n c field = text-suits _ field

-- ---- records

and-true : (a b : Bool) → a ≡ true → b ≡ true → (a && b) ≡ true
and-true a b e f = rw (e, f) refl

cells-suit : (columns : List Column) (n c : ℕ) (fields : List Field) → length fields ≡ length columns → OfOk (λ row. IsTrue (row_suits (kinds_of columns) row)) (cells columns n c fields)
unfolding cells
cells-suit [] n c fields l = refl
cells-suit (k ∷ ks) n c [] l = absurd (omega arith)
cells-suit (k ∷ ks) n c (f ∷ fs) l =
    then-ok (λ x. IsTrue (value_suits k.kind x)) (λ row. IsTrue (row_suits (kinds_of (k ∷ ks)) row)) (cell k.kind n c f) _ (cell-suits k.kind n c f)
    (λ x s. then-ok (λ row. IsTrue (row_suits (kinds_of ks) row)) (λ row. IsTrue (row_suits (kinds_of (k ∷ ks)) row)) (cells ks n (c + 1) fs) _ (cells-suit ks n (c + 1) fs (omega arith)) (λ xs t. and-true _ _ s t))

-- a row suits the table, and there was room for it
abbrev pub IsPlaced : List Column → ℕ → List Value → Type 0
IsPlaced columns before row = IsTrue (row_suits (kinds_of columns) row) × (before < row_limit)

row-if : (columns : List Column) (n before : ℕ) (fields : List Field) (a b : Bool) → (length fields == length columns) ≡ a → nat_lt before row_limit ≡ b
    → OfOk (IsPlaced columns before) (if a then (if b then cells columns n 1 fields else Err TooManyRows) else Err (FieldCount n))
row-if columns n before fields true true e h =
    let l : length fields ≡ length columns = grind (arith, nat_tests) in
    let r : before < row_limit = grind (arith, nat_tests) in
    weaker (λ row. IsTrue (row_suits (kinds_of columns) row)) (IsPlaced columns before) (cells columns n 1 fields) (λ row s. (s, r)) (cells-suit columns n 1 fields l)
  where
    weaker : {T : Type 0} (P Q : T → Type 0) (r : Result T LoadFault) → ((x : T) → P x → Q x) → OfOk P r → OfOk Q r
    weaker P Q (Ok x) f h = f x h
    weaker P Q (Err e) f h = tt
row-if columns n before fields true false e h = tt
row-if columns n before fields false b e h = tt

row-suits : (columns : List Column) (n before : ℕ) (fields : List Field) → OfOk (IsPlaced columns before) (row_at columns n before fields)
unfolding row_at
row-suits columns n before fields = row-if columns n before fields (length fields == length columns) (nat_lt before row_limit) refl refl

-- the rows suit the table, and there is room for them
abbrev pub ArePlaced : List Column → ℕ → Rows → Type 0
ArePlaced columns before rows = IsTrue (rows_suit (kinds_of columns) rows) × (before ≤ 2000 → before + length rows ≤ 2000)

rows-suit : (columns : List Column) (n before : ℕ) (rs : List (List Field)) → OfOk (ArePlaced columns before) (rows_from columns n before rs)
unfolding rows_from
rows-suit columns n before [] = (refl, λ h. omega arith)
rows-suit columns n before (r ∷ rs) =
    then-ok (IsPlaced columns before) (ArePlaced columns before) (row_at columns n before r) _ (row-suits columns n before r)
    (λ row s. then-ok (ArePlaced columns (before + 1)) (ArePlaced columns before) (rows_from columns (n + 1) (before + 1) rs) _ (rows-suit columns (n + 1) (before + 1) rs)
    (λ rows t. (and-true _ _ s.0 t.0, λ h. let w = t.1 (let b = s.1 in omega arith) in omega (arith, w))))

rows-if : (columns : List Column) (before : ℕ) (rs : List (List Field)) (b : Bool) → OfOk (ArePlaced columns before) (if b then rows_from columns 2 before rs else Err BadHeader)
rows-if columns before rs true = rows-suit columns 2 before rs
rows-if columns before rs false = tt

behind-suit : (columns : List Column) (before : ℕ) (rs : List (List Field)) → OfOk (ArePlaced columns before) (rows_behind_header columns before rs)
unfolding rows_behind_header
behind-suit columns before [] = tt
behind-suit columns before (h ∷ rs) = rows-if columns before rs (is_header columns h)

marked-if : (b : Bool) (columns : List Column) (before : ℕ) (r : Result Rows LoadFault) → OfOk (ArePlaced columns before) r → OfOk (ArePlaced columns before) (if b then Err BadHeader else r)
marked-if true columns before r h = tt
marked-if false columns before r h = h

loaded-suit : (columns : List Column) (bytes : List ℕ) (before : ℕ) → OfOk (ArePlaced columns before) (loaded columns bytes before)
unfolding loaded
loaded-suit columns bytes before = marked-if (begins_with_mark bytes) columns before _ (behind-suit columns before _)

pub placed : (columns : List Column) (bytes : List ℕ) (before : ℕ) (rows : Rows) → loaded columns bytes before ≡ Ok rows → ArePlaced columns before rows
placed columns bytes before rows e = subst (OfOk (ArePlaced columns before)) e (loaded-suit columns bytes before)

-- ---- the schema

pub columns-are : (tables : List Table) (at : ℕ) (t : Table) → at < length tables → columns_at tables at ≡ (get_or tables at t).columns
columns-are [] at t l = absurd (omega arith)
columns-are (u ∷ us) zero t l = refl
columns-are (u ∷ us) (suc at) t l = columns-are us at t (omega arith)

pub kinds-are : (tables : List Table) (at : ℕ) → slice_index_or (schema_kinds tables) at [] ≡ kinds_of (columns_at tables at)
kinds-are [] at = refl
kinds-are (t ∷ ts) zero = refl
kinds-are (t ∷ ts) (suc at) = kinds-are ts at

suit-lengths : (kinds : List (List ColKind)) (tables : Tables) → tables_suit kinds tables ≡ true → length kinds ≡ length tables
suit-lengths [] [] h = refl
suit-lengths [] (rows ∷ tables) h = cc
suit-lengths (k ∷ ks) [] h = cc
suit-lengths (k ∷ ks) (rows ∷ tables) h = ap (λ (n : ℕ). suc n) (suit-lengths ks tables (right (rows_suit k rows) (tables_suit ks tables) h)) where
  right : (a b : Bool) → (a && b) ≡ true → b ≡ true
  right true b h = h
  right false b h = cc

pub same-length : (schema : List Table) (given : Instance) → given.kinds ≡ schema_kinds schema → IsTrue (is_instance given) → length given.tables ≡ length schema
same-length schema given k s =
    sym (suit-lengths given.kinds given.tables (left (tables_suit given.kinds given.tables) (nat_le (places given.tables) 2000) s)) ∙ ap length k ∙ length-map schema _ where
      left : (a b : Bool) → (a && b) ≡ true → a ≡ true
      left true b h = refl
      left false b h = cc
