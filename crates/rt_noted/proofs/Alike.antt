-- What a query's layers make of lists with the same rows.
use Rattle.std.proofs.Common.{◌≡◌, Bool, true, false, cond, not, ◌&&◌, ◌||◌, List, [], ◌∷◌, ◌++◌, map, refl, sym, ap, ap₂, ◌∙◌}
use mathlib.Core.Path.{fun_ext}
use Rattle.std.proofs.lemmas.List.Folds.{list_any-append}
use Rattle.std.specs.List.{filter, list_all, list_any}
use Rattle.rt_value.specs.declared.value.Value.{Value}
use Rattle.rt_value.specs.Row.{row_eq}
use Rattle.rt_schema.specs.Given.{Rows}
use Rattle.rt_algebra.specs.Answer.{is_yes, some_truth, has_row, cell_truth, member_truth, join_each, pairs}
use Rattle.rt_split.specs.Join.{product_rows}
use Rattle.rt_noted.specs.Entries.{is_no}
use Rattle.rt_noted.specs.Annotated.{SameRows}
use Rattle.rt_noted.proofs.Exact.{yes_or, no_or}
use Rattle.rt_noted.proofs.SameRows.{any_is, all_is}

module _ (p : List Value → Bool) where
  any_filter : (t : List Value → Bool) (xs : Rows) → list_any p (filter t xs) ≡ list_any (λ x. t x && p x) xs
  any_filter t [] = refl
  any_filter t (x ∷ xs) = go (t x) (any_filter t xs) where
    go : (b : Bool) → list_any p (filter t xs) ≡ list_any (λ y. t y && p y) xs
        → list_any p (cond b (x ∷ filter t xs) (filter t xs)) ≡ ((b && p x) || list_any (λ y. t y && p y) xs)
    go true h = ap (λ b. p x || b) h
    go false h = h

  any_map : (f : List Value → List Value) (xs : Rows) → list_any p (map f xs) ≡ list_any (λ x. p (f x)) xs
  any_map f [] = refl
  any_map f (x ∷ xs) = ap (λ b. p (f x) || b) (any_map f xs)

  any_each : (x : List Value) (ys : Rows) → list_any p (join_each x ys) ≡ list_any (λ y. p (x ++ y)) ys
  any_each x [] = refl
  any_each x (y ∷ ys) = ap (λ b. p (x ++ y) || b) (any_each x ys)

  any_pairs : (xs ys : Rows) → list_any p (pairs xs ys) ≡ list_any (λ x. list_any (λ y. p (x ++ y)) ys) xs
  any_pairs [] ys = refl
  any_pairs (x ∷ xs) ys = list_any-append p (join_each x ys) (pairs xs ys) ∙ ap₂ ◌||◌ (any_each x ys) (any_pairs xs ys)

pub same_filter : (t : List Value → Bool) (xs ys : Rows) → SameRows xs ys → SameRows (filter t xs) (filter t ys)
same_filter t xs ys h r = any_filter (row_eq r) t xs ∙ any_is (λ x. t x && row_eq r x) xs ys h ∙ sym (any_filter (row_eq r) t ys)

pub same_map : (f : List Value → List Value) (xs ys : Rows) → SameRows xs ys → SameRows (map f xs) (map f ys)
same_map f xs ys h r = any_map (row_eq r) f xs ∙ any_is (λ x. row_eq r (f x)) xs ys h ∙ sym (any_map (row_eq r) f ys)

pub same_append : (xs ys us vs : Rows) → SameRows xs ys → SameRows us vs → SameRows (xs ++ us) (ys ++ vs)
same_append xs ys us vs h k r = list_any-append (row_eq r) xs us ∙ ap₂ ◌||◌ (h r) (k r) ∙ sym (list_any-append (row_eq r) ys vs)

same_pairs : (xs ys us vs : Rows) → SameRows xs ys → SameRows us vs → SameRows (pairs xs us) (pairs ys vs)
same_pairs xs ys us vs h k r =
    let p = λ (ws : Rows) (x : List Value). list_any (λ w. row_eq r (x ++ w)) ws in
    let e : p us ≡ p vs = fun_ext (λ x. any_is (λ w. row_eq r (x ++ w)) us vs k) in
    any_pairs (row_eq r) xs us ∙ any_is (p us) xs ys h ∙ ap (λ (t : List Value → Bool). list_any t ys) e ∙ sym (any_pairs (row_eq r) ys vs)

pub same_product : (xs ys : List Rows) → map has_row xs ≡ map has_row ys → (front back : Rows) → SameRows front back → SameRows (product_rows front xs) (product_rows back ys)
same_product [] [] e front back h = h
same_product [] (y ∷ ys) e front back h = absurd (cc)
same_product (x ∷ xs) [] e front back h = absurd (cc)
same_product (x ∷ xs) (y ∷ ys) e front back h =
    let first : has_row x ≡ has_row y = cc in
    let later : map has_row xs ≡ map has_row ys = cc in
    same_product xs ys later (pairs front x) (pairs back y) (same_pairs front back x y h (λ r. ap (λ (has : List Value → Bool). has r) first))

pub same_except : (xs ys us vs : Rows) → SameRows xs ys → SameRows us vs → SameRows (filter (λ r. not (has_row us r)) xs) (filter (λ r. not (has_row vs r)) ys)
same_except xs ys us vs h k r =
    let e : has_row us ≡ has_row vs = fun_ext k in
    same_filter (λ x. not (has_row us x)) xs ys h r ∙ ap (λ (has : List Value → Bool). has_row (filter (λ x. not (has x)) ys) r) e

pub same_intersect : (xs ys us vs : Rows) → SameRows xs ys → SameRows us vs → SameRows (filter (has_row us) xs) (filter (has_row vs) ys)
same_intersect xs ys us vs h k r =
    let e : has_row us ≡ has_row vs = fun_ext k in
    same_filter (has_row us) xs ys h r ∙ ap (λ (has : List Value → Bool). has_row (filter has ys) r) e

-- EXISTS, and IN with a query
some_yes : (xs : Rows) → is_yes (some_truth xs) ≡ list_any (λ x. true) xs
some_yes [] = refl
some_yes (x ∷ xs) = refl

some_no : (xs : Rows) → is_no (some_truth xs) ≡ not (list_any (λ x. true) xs)
some_no [] = refl
some_no (x ∷ xs) = refl

member_yes : (v : Value) (xs : Rows) → is_yes (member_truth v xs) ≡ list_any (λ x. is_yes (cell_truth v x)) xs
member_yes v [] = refl
member_yes v (x ∷ xs) = sym (yes_or (cell_truth v x) (member_truth v xs)) ∙ ap (λ b. is_yes (cell_truth v x) || b) (member_yes v xs)

member_no : (v : Value) (xs : Rows) → is_no (member_truth v xs) ≡ list_all (λ x. is_no (cell_truth v x)) xs
member_no v [] = refl
member_no v (x ∷ xs) = sym (no_or (cell_truth v x) (member_truth v xs)) ∙ ap (λ b. is_no (cell_truth v x) && b) (member_no v xs)

module _ (xs ys : Rows) (h : SameRows xs ys) where
  pub same_some_yes : is_yes (some_truth xs) ≡ is_yes (some_truth ys)
  same_some_yes = some_yes xs ∙ any_is (λ x. true) xs ys h ∙ sym (some_yes ys)

  pub same_some_no : is_no (some_truth xs) ≡ is_no (some_truth ys)
  same_some_no = some_no xs ∙ ap not (any_is (λ x. true) xs ys h) ∙ sym (some_no ys)

  pub same_member_yes : (v : Value) → is_yes (member_truth v xs) ≡ is_yes (member_truth v ys)
  same_member_yes v = member_yes v xs ∙ any_is (λ x. is_yes (cell_truth v x)) xs ys h ∙ sym (member_yes v ys)

  pub same_member_no : (v : Value) → is_no (member_truth v xs) ≡ is_no (member_truth v ys)
  same_member_no v = member_no v xs ∙ all_is (λ x. is_no (cell_truth v x)) (λ x. is_no (cell_truth v x)) xs ys (λ x. refl) h ∙ sym (member_no v ys)
