-- One more noted row joins the group of its row.
use Rattle.std.proofs.Common.{◌≡◌, ℕ, ◌+◌, ◌<◌, Bool, true, false, cond, List, [], ◌∷◌, ◌++◌, length, take, get_or, None, Some, refl, sym, ap, ap₂, ◌∙◌, inl, inr}
use Rattle.std.proofs.lemmas.Bool.{cases_Bool}
use Rattle.std.proofs.lemmas.List.{take_more, append-nil}
use Rattle.std.proofs.lemmas.Map.Lookups.{CmpEqualImpliesEq, exact_signed, exact_bytes}
use Rattle.std.specs.declared.cmp.Ordering.{Ordering}
use Rattle.std.specs.declared.cmp.Ordering.TheVariants.{Less, Equal, Greater}
use Rattle.std.specs.Map.{lookup}
use Rattle.std.specs.BTreeMap.{is_at}
use Rattle.std.specs.Option.{unwrap_or}
use Rattle.std.specs.Ordering.{ordering_then, is_eq}
use Rattle.rt_value.specs.declared.value.Value.{Value}
use Rattle.rt_value.specs.declared.value.Value.TheVariants.{Null, Int, Text}
use Rattle.rt_value.specs.Value.{value_cmp}
use Rattle.rt_value.specs.Row.{row_cmp, row_eq}
use Rattle.rt_value.specs.Order.{row_ties, row_eq_equiv}
use Rattle.rt_formula.specs.declared.noted.Noted.{Noted}
use Rattle.rt_formula.specs.Groups.{Grouped, group_at, nodes_where, standing}

both_equal : (a b : Ordering) → ordering_then a b ≡ Equal → (a ≡ Equal) × (b ≡ Equal)
both_equal Equal b h = (refl, h)
both_equal Less b h = absurd (cc)
both_equal Greater b h = absurd (cc)

value_exact : CmpEqualImpliesEq value_cmp
value_exact Null Null h = refl
value_exact Null (Int y) h = absurd (cc)
value_exact Null (Text t) h = absurd (cc)
value_exact (Int x) Null h = absurd (cc)
value_exact (Int x) (Int y) h = ap Int (exact_signed x y h)
value_exact (Int x) (Text t) h = absurd (cc)
value_exact (Text s) Null h = absurd (cc)
value_exact (Text s) (Int y) h = absurd (cc)
value_exact (Text s) (Text t) h = ap Text (exact_bytes s t h)

-- rows that compare as equal are equal
pub row_exact : CmpEqualImpliesEq row_cmp
row_exact [] [] h = refl
row_exact [] (y ∷ ys) h = absurd (cc)
row_exact (x ∷ xs) [] h = absurd (cc)
row_exact (x ∷ xs) (y ∷ ys) h = let b = both_equal (value_cmp x y) (row_cmp xs ys) h in ap₂ ◌∷◌ (value_exact x y b.0) (row_exact xs ys b.1)

equal_of : (o : Ordering) → is_eq o ≡ true → o ≡ Equal
equal_of Equal h = refl
equal_of Less h = absurd (cc)
equal_of Greater h = absurd (cc)

pub at_same : (k q : List Value) → is_at (row_cmp k) q ≡ true → k ≡ q
at_same k q h = row_exact k q (equal_of (row_cmp k q) h)

pub at_is : (k q : List Value) → is_at (row_cmp k) q ≡ row_eq q k
at_is k q = sym (row_ties k q) ∙ row_eq_equiv.symm k q

where_append : (t : List Value → Bool) (ms ns : List Noted) → nodes_where t (ms ++ ns) ≡ nodes_where t ms ++ nodes_where t ns
where_append t [] ns = refl
where_append t (m ∷ ms) ns = rw (where_append t ms ns) (elim (t m.row) as (λ b. cond b (m.node ∷ (nodes_where t ms ++ nodes_where t ns)) (nodes_where t ms ++ nodes_where t ns)
    ≡ cond b (m.node ∷ nodes_where t ms) (nodes_where t ms) ++ nodes_where t ns) [ true ↦ refl | false ↦ refl ])

module _ (ns : List Noted) (i : ℕ) (n : Noted) (l : i < length ns) (e : n ≡ get_or ns i n) where
  taken : take (i + 1) ns ≡ take i ns ++ n ∷ []
  taken = take_more ns i n l ∙ ap (λ m. take i ns ++ m ∷ []) (sym e)

  pub standing_more : (r : List Value) → standing r (take (i + 1) ns) ≡ standing r (take i ns) ++ cond (row_eq r n.row) (n.node ∷ []) []
  standing_more r = ap (standing r) taken ∙ where_append (row_eq r) (take i ns) (n ∷ [])

-- a node becomes the group of a row
pub group_is : (old new : Grouped) (k : List Value) (group : List ℕ) → ((q : List Value) → lookup (is_at (row_cmp q)) new ≡ cond (is_at (row_cmp k) q) (Some group) (lookup (is_at (row_cmp q)) old))
    → (q : List Value) → group_at new q ≡ cond (row_eq q k) group (group_at old q)
group_is old new k group inserted q =
    ap (λ g. unwrap_or g []) (inserted q ∙ ap (λ b. cond b (Some group) (lookup (is_at (row_cmp q)) old)) (at_is k q)) ∙ by (row_eq q k) where
      by : (b : Bool) → unwrap_or (cond b (Some group) (lookup (is_at (row_cmp q)) old)) [] ≡ cond b group (group_at old q)
      by true = refl
      by false = refl

-- a node joins the group of a row, in place
pub group_grows : (old new : Grouped) (k : List Value) (group : List ℕ) (n : ℕ) → group ≡ group_at old k → ((q : List Value) → group_at new q ≡ cond (row_eq q k) (group ++ n ∷ []) (group_at old q))
    → (q : List Value) → group_at new q ≡ group_at old q ++ cond (row_eq q k) (n ∷ []) []
group_grows old new k group n g joined q = joined q ∙ by (row_eq q k) refl where
  by : (b : Bool) → row_eq q k ≡ b → cond b (group ++ n ∷ []) (group_at old q) ≡ group_at old q ++ cond b (n ∷ []) []
  by true h = ap (λ ks. ks ++ n ∷ []) (g ∙ ap (group_at old) (at_same k q (at_is k q ∙ h)))
  by false h = sym (append-nil (group_at old q))

-- the same where the group is taken out and put back
pub group_joins : (old less new : Grouped) (k : List Value) (group : List ℕ) (n : ℕ) → group ≡ group_at old k
    → ((q : List Value) → lookup (is_at (row_cmp q)) less ≡ cond (is_at (row_cmp k) q) None (lookup (is_at (row_cmp q)) old))
    → ((q : List Value) → lookup (is_at (row_cmp q)) new ≡ cond (is_at (row_cmp k) q) (Some (group ++ n ∷ [])) (lookup (is_at (row_cmp q)) less))
    → (q : List Value) → group_at new q ≡ group_at old q ++ cond (row_eq q k) (n ∷ []) []
group_joins old less new k group n g removed inserted q = elim (cases_Bool (is_at (row_cmp k) q)) [
  | inl h ↦
      let same : k ≡ q = at_same k q h in
      let found : lookup (is_at (row_cmp q)) new ≡ Some (group ++ n ∷ []) = inserted q ∙ ap (λ b. cond b (Some (group ++ n ∷ [])) (lookup (is_at (row_cmp q)) less)) h in
      let here : row_eq q k ≡ true = sym (at_is k q) ∙ h in
      rw (found, here) (ap (λ ks. ks ++ n ∷ []) (g ∙ ap (group_at old) same))
  | inr h ↦
      let apart : lookup (is_at (row_cmp q)) new ≡ lookup (is_at (row_cmp q)) old =
      inserted q ∙ ap (λ b. cond b (Some (group ++ n ∷ [])) (lookup (is_at (row_cmp q)) less)) h ∙ removed q ∙ ap (λ b. cond b None (lookup (is_at (row_cmp q)) old)) h in
      let other : row_eq q k ≡ false = sym (at_is k q) ∙ h in
      rw (apart, other) (sym (append-nil (group_at old q)))
]
