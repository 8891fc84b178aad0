-- Rows that all have as many cells, and the names and numbers of columns.
use Rattle.std.proofs.Common.{◌≡◌, ℕ, suc, ◌+◌, Bool, true, false, cond, List, [], ◌∷◌, ◌++◌, map, length, refl, ap, ap₂, arith, length-append}
use Rattle.std.specs.Prelude.{if◌then◌else◌}
use Rattle.std.specs.List.{filter, flat_map}
use Rattle.rt_algebra.specs.Answer.{join_each, pairs}
use Rattle.rt_schema.specs.Given.{Rows}
use Rattle.rt_value.specs.declared.value.Value.{Value}
use Rattle.rt_ra.specs.OperatorAnswers.{cells, further_cells}
use Rattle.rt_relation.specs.Columns.{Text, further_columns, further_names, has, names}
use Rattle.rt_ra.specs.OperatorMeaning.{Wide}
use Rattle.rt_relation.specs.declared.column.Column.{Column}

pub wide-filter : (n : ℕ) (f : List Value → Bool) (rows : Rows) → Wide n rows → Wide n (filter f rows)
wide-filter n f [] w = tt
wide-filter n f (r ∷ rs) w = by (wide-filter n f rs w.1) (f r)
  where
    by : Wide n (filter f rs) → (b : Bool) → Wide n (cond b (r ∷ filter f rs) (filter f rs))
    by rest true = (w.0, rest)
    by rest false = rest

pub wide-append : (n : ℕ) (xs ys : Rows) → Wide n xs → Wide n ys → Wide n (xs ++ ys)
wide-append n [] ys v w = w
wide-append n (x ∷ xs) ys v w = (v.0, wide-append n xs ys v.1 w)

pub wide-map : (m n : ℕ) (f : List Value → List Value) (rows : Rows) → ((r : List Value) → length r ≡ m → length (f r) ≡ n) → Wide m rows → Wide n (map f rows)
wide-map m n f [] h w = tt
wide-map m n f (r ∷ rs) h w = (h r w.0, wide-map m n f rs h w.1)

pub wide-each : (n m : ℕ) (f : List Value → Rows) (rows : Rows) → ((r : List Value) → length r ≡ n → Wide m (f r)) → Wide n rows → Wide m (flat_map f rows)
wide-each n m f [] h w = tt
wide-each n m f (r ∷ rs) h w = wide-append m (f r) (flat_map f rs) (h r w.0) (wide-each n m f rs h w.1)

wide-joined : (m n : ℕ) (r : List Value) (rows : Rows) → length r ≡ m → Wide n rows → Wide (m + n) (join_each r rows)
wide-joined m n r [] h w = tt
wide-joined m n r (s ∷ ss) h w = (omega (arith, length-append r s, h, w.0), wide-joined m n r ss h w.1)

pub wide-pairs : (m n : ℕ) (xs ys : Rows) → Wide m xs → Wide n ys → Wide (m + n) (pairs xs ys)
wide-pairs m n [] ys v w = tt
wide-pairs m n (x ∷ xs) ys v w = wide-append (m + n) (join_each x ys) (pairs xs ys) (wide-joined m n x ys v.0 w) (wide-pairs m n xs ys v.1 w)

-- tests that agree on all rows keep the same
pub filter-wide : (n : ℕ) (f g : List Value → Bool) (rows : Rows) → ((r : List Value) → length r ≡ n → f r ≡ g r) → Wide n rows → filter f rows ≡ filter g rows
filter-wide n f g [] h w = refl
filter-wide n f g (r ∷ rs) h w = ap₂ (λ (b : Bool) (rest : Rows). cond b (r ∷ rest) rest) (h r w.0) (filter-wide n f g rs h w.1)

pub map-wide : (n : ℕ) (f g : List Value → List Value) (rows : Rows) → ((r : List Value) → length r ≡ n → f r ≡ g r) → Wide n rows → map f rows ≡ map g rows
map-wide n f g [] h w = refl
map-wide n f g (r ∷ rs) h w = ap₂ (λ (x : List Value) (rest : Rows). x ∷ rest) (h r w.0) (map-wide n f g rs h w.1)

-- ---- names and cells

pub names-length : (cs : List Column) → length (names cs) ≡ length cs
names-length [] = refl
names-length (c ∷ cs) = ap suc (names-length cs)

pub names-append : (cs ds : List Column) → names (cs ++ ds) ≡ names cs ++ names ds
names-append [] ds = refl
names-append (c ∷ cs) ds = ap (λ (ns : List Text). c.name ∷ ns) (names-append cs ds)

pub names-further : (cs os : List Column) → names (further_columns cs os) ≡ further_names (names cs) (names os)
names-further [] os = refl
names-further (c ∷ cs) os = by (names-further cs os) (has c.name (names os))
  where
    by : names (further_columns cs os) ≡ further_names (names cs) (names os) → (b : Bool) → names (if b then further_columns cs os else c ∷ further_columns cs os) ≡ (if b then further_names (names cs) (names os) else c.name ∷ further_names (names cs) (names os))
    by rest true = rest
    by rest false = ap (λ (ns : List Text). c.name ∷ ns) rest

pub further-length : (cs os : List Column) (r : List Value) → length r ≡ length cs → length (further_cells (names cs) (names os) r) ≡ length (further_columns cs os)
further-length [] os r h = refl
further-length (c ∷ cs) os [] h = absurd (omega arith)
further-length (c ∷ cs) os (x ∷ r) h = by (further-length cs os r (omega (arith, h))) (has c.name (names os))
  where
    by : length (further_cells (names cs) (names os) r) ≡ length (further_columns cs os) → (b : Bool) → length (if b then further_cells (names cs) (names os) r else x ∷ further_cells (names cs) (names os) r) ≡ length (if b then further_columns cs os else c ∷ further_columns cs os)
    by rest true = rest
    by rest false = ap suc rest

pub cells-length : (ns ms : List Text) (r : List Value) → length (cells ns ms r) ≡ length ms
cells-length ns [] r = refl
cells-length ns (m ∷ ms) r = ap suc (cells-length ns ms r)
