-- What the nodes of rows by their first value say of a value among the rows.
use Rattle.std.proofs.Common.{◌≡◌, Bool, true, false, cond, not, ◌&&◌, ◌||◌, List, [], ◌∷◌, refl, sym, ap, ap₂, ◌∙◌}
use Rattle.std.specs.List.{list_any}
use Rattle.std.specs.Ordering.{is_eq}
use Rattle.std.specs.declared.cmp.Ordering.{Ordering}
use Rattle.std.specs.declared.cmp.Ordering.TheVariants.{Less, Equal, Greater}
use Rattle.rt_value.specs.declared.value.Op.TheVariants.{Eq}
use Rattle.rt_value.specs.declared.value.Value.{Value}
use Rattle.rt_value.specs.declared.value.Value.TheVariants.{Null, Int, Text}
use Rattle.rt_value.specs.declared.truth.Truth.TheVariants.{Unknown}
use Rattle.rt_value.specs.Value.{value_eq, value_cmp, value_truth, op_truth, null_truth}
use Rattle.rt_value.specs.Order.{value_ties}
use Rattle.rt_schema.specs.Given.{Rows}
use Rattle.rt_algebra.specs.Answer.{is_yes, some_truth, cell_truth, member_truth}
use Rattle.rt_formula.specs.Shared.{Shared, val}
use Rattle.rt_formula.specs.Groups.{nodes_where}
use Rattle.rt_formula.specs.declared.noted.Noted.{Noted}
use Rattle.rt_noted.specs.Entries.{is_no, rows_at}
use Rattle.rt_noted.specs.Annotated.{entries_of}
use Rattle.rt_noted.specs.Known.{first_of, has_first}
use Rattle.rt_noted.proofs.Exact.{yes_or, no_or}

-- some row that passes the test is there
pub where_rows : (d : Shared) (s : List Bool) (t : List Value → Bool) (ns : List Noted) → list_any (val d s) (nodes_where t ns) ≡ list_any t (rows_at s (entries_of d ns))
where_rows d s t [] = refl
where_rows d s t (n ∷ ns) = go (t n.row) (val d s n.node) refl refl (where_rows d s t ns) where
  go : (b v : Bool) → t n.row ≡ b → val d s n.node ≡ v → list_any (val d s) (nodes_where t ns) ≡ list_any t (rows_at s (entries_of d ns))
      → list_any (val d s) (cond b (n.node ∷ nodes_where t ns) (nodes_where t ns)) ≡ list_any t (cond v (n.row ∷ rows_at s (entries_of d ns)) (rows_at s (entries_of d ns)))
  go true true e f h = ap₂ ◌||◌ (f ∙ sym e) h
  go true false e f h = ap (λ x. x || list_any (val d s) (nodes_where t ns)) f ∙ h
  go false true e f h = h ∙ ap (λ x. x || list_any t (rows_at s (entries_of d ns))) (sym e)
  go false false e f h = h

-- NULL is at no choice surely among rows, and surely not where there are none
pub null_yes : (x : Value) (rows : Rows) → is_yes (null_truth x) ≡ true → false ≡ is_yes (member_truth x rows)
null_yes Null [] h = refl
null_yes Null (r ∷ rs) h = null_yes Null rs h ∙ yes_or Unknown (member_truth Null rs)
null_yes (Int n) rows h = absurd (cc)
null_yes (Text t) rows h = absurd (cc)

pub null_no : (x : Value) (rows : Rows) → is_yes (null_truth x) ≡ true → is_no (some_truth rows) ≡ is_no (member_truth x rows)
null_no Null [] h = refl
null_no Null (r ∷ rs) h = no_or Unknown (member_truth Null rs)
null_no (Int n) rows h = absurd (cc)
null_no (Text t) rows h = absurd (cc)

-- a value that is not NULL compares equal to those that are the same, and unknown to NULL
yes_eq : (o : Ordering) → is_yes (op_truth Eq o) ≡ is_eq o
yes_eq Less = refl
yes_eq Equal = refl
yes_eq Greater = refl

no_eq : (o : Ordering) → is_no (op_truth Eq o) ≡ not (is_eq o || false)
no_eq Less = refl
no_eq Equal = refl
no_eq Greater = refl

same_not : (a b : Value) → not (is_eq (value_cmp a b) || false) ≡ not (value_eq a b || false)
same_not a b = ap (λ t. not (t || false)) (sym (value_ties a b))

cell_yes : (x c : Value) → is_yes (null_truth x) ≡ false → is_yes (value_truth Eq x c) ≡ value_eq x c
cell_yes Null c h = absurd (cc)
cell_yes (Int m) Null h = refl
cell_yes (Int m) (Int n) h = yes_eq (value_cmp (Int m) (Int n)) ∙ sym (value_ties (Int m) (Int n))
cell_yes (Int m) (Text t) h = refl
cell_yes (Text s) Null h = refl
cell_yes (Text s) (Int n) h = refl
cell_yes (Text s) (Text t) h = yes_eq (value_cmp (Text s) (Text t)) ∙ sym (value_ties (Text s) (Text t))

cell_no : (x c : Value) → is_yes (null_truth x) ≡ false → is_no (value_truth Eq x c) ≡ not (value_eq x c || value_eq Null c)
cell_no Null c h = absurd (cc)
cell_no (Int m) Null h = refl
cell_no (Int m) (Int n) h = no_eq (value_cmp (Int m) (Int n)) ∙ same_not (Int m) (Int n)
cell_no (Int m) (Text t) h = refl
cell_no (Text s) Null h = refl
cell_no (Text s) (Int n) h = refl
cell_no (Text s) (Text t) h = no_eq (value_cmp (Text s) (Text t)) ∙ same_not (Text s) (Text t)

none_of : (a b c d : Bool) → (not (a || c) && not (b || d)) ≡ not ((a || b) || (c || d))
none_of true b c d = refl
none_of false b true d = go b where
  go : (y : Bool) → false ≡ not (y || true)
  go true = refl
  go false = refl
none_of false true false d = refl
none_of false false false d = refl

module _ (x : Value) (h : is_yes (null_truth x) ≡ false) where
  pub among_yes : (rows : Rows) → has_first x rows ≡ is_yes (member_truth x rows)
  among_yes [] = refl
  among_yes (r ∷ rs) = ap₂ ◌||◌ (sym (cell_yes x (first_of r) h)) (among_yes rs) ∙ yes_or (cell_truth x r) (member_truth x rs)

  pub among_no : (rows : Rows) → not (has_first x rows || has_first Null rows) ≡ is_no (member_truth x rows)
  among_no [] = refl
  among_no (r ∷ rs) = sym (none_of (value_eq x (first_of r)) (has_first x rs) (value_eq Null (first_of r)) (has_first Null rs))
      ∙ ap₂ ◌&&◌ (sym (cell_no x (first_of r) h)) (among_no rs) ∙ no_or (cell_truth x r) (member_truth x rs)

pub or_false : (b : Bool) → (b || false) ≡ b
or_false true = refl
or_false false = refl
