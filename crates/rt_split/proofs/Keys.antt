-- Rows that match by keys are those whose key columns are the same without NULL.
use Rattle.std.proofs.Common.{◌≡◌, ℕ, ◌+◌, Bool, true, false, not, cond, ◌&&◌, ◌||◌, List, [], ◌∷◌, ◌++◌, map, Bor, Some, refl, sym, ap, ap₂, ◌∙◌, slice_index_or, Result, Ok, Err, IfOk}
use Rattle.std.proofs.lemmas.List.{append-nil}
use Rattle.std.proofs.lemmas.Map.Lookups.{CmpEqualImpliesEq, exact_signed, exact_bytes}
use Rattle.std.specs.declared.cmp.Ordering.{Ordering}
use Rattle.std.specs.declared.cmp.Ordering.TheVariants.{Less, Equal, Greater}
use Rattle.std.specs.Map.{lookup}
use Rattle.std.specs.BTreeMap.{is_at}
use Rattle.std.specs.Option.{unwrap_or}
use Rattle.std.specs.Ordering.{ordering_then, is_eq}
use Rattle.rt_value.specs.declared.value.Op.TheVariants.{Eq}
use Rattle.rt_value.specs.declared.value.Value.{Value}
use Rattle.rt_value.specs.declared.value.Value.TheVariants.{Null, Int, Text}
use Rattle.rt_value.specs.Value.{value_cmp, value_eq, value_truth, op_truth}
use Rattle.rt_value.specs.Row.{row_cmp, row_eq}
use Rattle.rt_value.specs.Order.{row_ties, row_eq_equiv, value_ties}
use Rattle.rt_schema.specs.Given.{Rows}
use Rattle.rt_algebra.specs.Answer.{is_yes}
use Rattle.rt_split.specs.Index.{Placed, places_at}
use Rattle.rt_schema.specs.Cells.{is_null}
use Rattle.rt_split.specs.Join.{matches, places_where, own_key, before_key, has_null}
use Rattle.rt_split.specs.Split.{keys_yes}
use Rattle.rt_split.specs.declared.parts.KeyPair.{KeyPair}

-- rows that compare as equal are equal
both_equal : (a b : Ordering) → ordering_then a b ≡ Equal → (a ≡ Equal) × (b ≡ Equal)
both_equal Equal b h = (refl, h)
both_equal Less b h = absurd (cc)
both_equal Greater b h = absurd (cc)

value_exact : CmpEqualImpliesEq value_cmp
value_exact Null Null h = refl
value_exact Null (Int y) h = absurd (cc)
value_exact Null (Text t) h = absurd (cc)
value_exact (Int x) Null h = absurd (cc)
value_exact (Int x) (Int y) h = ap Int (exact_signed x y h)
value_exact (Int x) (Text t) h = absurd (cc)
value_exact (Text s) Null h = absurd (cc)
value_exact (Text s) (Int y) h = absurd (cc)
value_exact (Text s) (Text t) h = ap Text (exact_bytes s t h)

pub row_exact : CmpEqualImpliesEq row_cmp
row_exact [] [] h = refl
row_exact [] (y ∷ ys) h = absurd (cc)
row_exact (x ∷ xs) [] h = absurd (cc)
row_exact (x ∷ xs) (y ∷ ys) h = let b = both_equal (value_cmp x y) (row_cmp xs ys) h in ap₂ ◌∷◌ (value_exact x y b.0) (row_exact xs ys b.1)

pub equal_of : (o : Ordering) → is_eq o ≡ true → o ≡ Equal
equal_of Equal h = refl
equal_of Less h = absurd (cc)
equal_of Greater h = absurd (cc)

at_same : (k q : List Value) → is_at (row_cmp k) q ≡ true → k ≡ q
at_same k q h = row_exact k q (equal_of (row_cmp k q) h)

at_is : (k q : List Value) → is_at (row_cmp k) q ≡ row_eq q k
at_is k q = sym (row_ties k q) ∙ row_eq_equiv.symm k q

-- a place joins those of a key
pub place_joins : (old new : Placed) (k : List Value) (places : List ℕ) (n : ℕ) → places ≡ places_at old k
    → ((q : List Value) → lookup (is_at (row_cmp q)) new ≡ cond (is_at (row_cmp k) q) (Some (places ++ n ∷ [])) (lookup (is_at (row_cmp q)) old))
    → (q : List Value) → places_at new q ≡ places_at old q ++ cond (row_eq q k) (n ∷ []) []
place_joins old new k places n were joined q =
    ap (λ o. unwrap_or o []) (joined q ∙ ap (λ b. cond b (Some (places ++ n ∷ [])) (lookup (is_at (row_cmp q)) old)) (at_is k q)) ∙ by (row_eq q k) refl where
      by : (b : Bool) → row_eq q k ≡ b → unwrap_or (cond b (Some (places ++ n ∷ [])) (lookup (is_at (row_cmp q)) old)) [] ≡ places_at old q ++ cond b (n ∷ []) []
      by true h = ap (λ ks. ks ++ n ∷ []) (were ∙ ap (places_at old) (at_same k q (at_is k q ∙ h)))
      by false h = sym (append-nil (places_at old q))

-- keys that compare Yes
equal_yes : (x y : Value) → is_null x ≡ false → is_yes (op_truth Eq (value_cmp x y)) ≡ value_eq x y
equal_yes x y h = go (value_cmp x y) ∙ sym (value_ties x y)
  where
    go : (o : Ordering) → is_yes (op_truth Eq o) ≡ is_eq o
    go Less = refl
    go Equal = refl
    go Greater = refl

cell_yes : (x y : Value) → is_yes (value_truth Eq x y) ≡ (not (is_null x) && value_eq x y)
cell_yes Null y = refl
cell_yes (Int x) Null = refl
cell_yes (Int x) (Int y) = equal_yes (Int x) (Int y) refl
cell_yes (Int x) (Text t) = refl
cell_yes (Text s) Null = refl
cell_yes (Text s) (Int y) = refl
cell_yes (Text s) (Text t) = equal_yes (Text s) (Text t) refl

sorted : (n e m f : Bool) → ((not n && e) && (not m && f)) ≡ (not (n || m) && (e && f))
sorted true e m f = refl
sorted false true m f = refl
sorted false false true f = refl
sorted false false false f = refl

pub keys_are : (ks : List KeyPair) (before row : List Value) → keys_yes ks before row ≡ (not (has_null (before_key ks before)) && row_eq (before_key ks before) (own_key ks row))
keys_are [] before row = refl
keys_are (k ∷ ks) before row =
    let x = slice_index_or before k.before Null in
    let y = slice_index_or row k.own Null in
    ap₂ (λ b c. b && c) (cell_yes x y) (keys_are ks before row) ∙ sorted (is_null x) (value_eq x y) (has_null (before_key ks before)) (row_eq (before_key ks before) (own_key ks row))

-- the places of the rows that match
none_where : (n : ℕ) (rows : Rows) → places_where (λ row. false) n rows ≡ []
none_where n [] = refl
none_where n (row ∷ rows) = none_where (n + 1) rows

pub where_same : (f g : List Value → Bool) → ((row : List Value) → f row ≡ g row) → (n : ℕ) (rows : Rows) → places_where f n rows ≡ places_where g n rows
where_same f g e n [] = refl
where_same f g e n (row ∷ rows) = ap₂ (λ (b : Bool) (ps : List ℕ). cond b (n ∷ ps) ps) (e row) (where_same f g e (n + 1) rows)

pub found_where : (ks : List KeyPair) (before : List Value) (rows : Rows) (places : List ℕ)
    → places ≡ places_where (λ row. row_eq (before_key ks before) (own_key ks row)) 0 rows
    → cond (has_null (before_key ks before)) [] places ≡ places_where (keys_yes ks before) 0 rows
found_where ks before rows places h = go (has_null (before_key ks before)) refl
  where
    go : (b : Bool) → has_null (before_key ks before) ≡ b → cond b [] places ≡ places_where (keys_yes ks before) 0 rows
    go true e = sym (where_same (keys_yes ks before) (λ row. false) (λ row. keys_are ks before row ∙ ap (λ b. not b && row_eq (before_key ks before) (own_key ks row)) e) 0 rows ∙ none_where 0 rows)
    go false e = h ∙ sym (where_same (keys_yes ks before) (λ row. row_eq (before_key ks before) (own_key ks row)) (λ row. keys_are ks before row ∙ ap (λ b. not b && row_eq (before_key ks before) (own_key ks row)) e) 0 rows)

pub found_all : (ks : List KeyPair) (befores : List (Bor (List Value))) (rows : Rows) (index : Placed)
    → ((key : List Value) → places_at index key ≡ places_where (λ row. row_eq key (own_key ks row)) 0 rows)
    → map (λ b. cond (has_null (before_key ks b.now)) [] (places_at index (before_key ks b.now))) befores ≡ matches ks (map (λ r. r.now) befores) rows
found_all ks [] rows index h = refl
found_all ks (b ∷ bs) rows index h = ap₂ (λ (x : List ℕ) (xs : List (List ℕ)). x ∷ xs) (found_where ks b.now rows _ (h (before_key ks b.now))) (found_all ks bs rows index h)

pub all_found : (E : Type 0) (ks : List KeyPair) (befores : List (Bor (List Value))) (rows : Rows) (index : Placed) (out : Result (List (List ℕ)) E)
    → ((key : List Value) → places_at index key ≡ places_where (λ row. row_eq key (own_key ks row)) 0 rows)
    → IfOk out (λ o. o ≡ map (λ b. cond (has_null (before_key ks b.now)) [] (places_at index (before_key ks b.now))) befores)
    → IfOk out (λ o. o ≡ matches ks (map (λ r. r.now) befores) rows)
all_found E ks befores rows index (Ok o) h e = e ∙ found_all ks befores rows index h
all_found E ks befores rows index (Err x) h e = e
