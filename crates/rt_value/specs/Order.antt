-- The laws of the order and of the sameness of values and rows, which the impls cite.
use Rattle.std.specs.Prelude.{Bool, true, false, ◌&&◌}
use Rattle.std.proofs.Common.{◌≡◌, refl, List, [], ◌∷◌, rules}
use Rattle.std.specs.declared.cmp.Ordering.{Ordering}
use Rattle.std.specs.declared.cmp.Ordering.TheVariants.{Less, Equal, Greater}
use Rattle.std.specs.Ordering.{ordering_reverse, ordering_then, is_eq}
use Rattle.std.specs.Cmp.{IsTotalOrder, IsEquivalence}
use Rattle.std.specs.Cmp.Rules.{comparing}
use Rattle.std.proofs.lemmas.Cmp.{lists_total, lists_equiv, int_cmp_total, int_eq_equiv, nat_list_cmp_total, nat_list_eq_equiv}
use Rattle.rt_value.specs.declared.value.Value.{Value}
use Rattle.rt_value.specs.declared.value.Value.TheVariants.{Null, Int, Text}
use Rattle.rt_value.specs.Value.{value_eq, value_cmp}
use Rattle.rt_value.specs.Row.{row_eq, row_cmp}

antisymm : (x y : Value) → value_cmp x y ≡ ordering_reverse (value_cmp y x)
antisymm Null Null = refl
antisymm Null (Int y) = refl
antisymm Null (Text t) = refl
antisymm (Int x) Null = refl
antisymm (Int x) (Int y) = int_cmp_total.antisymm x y
antisymm (Int x) (Text t) = refl
antisymm (Text s) Null = refl
antisymm (Text s) (Int y) = refl
antisymm (Text s) (Text t) = nat_list_cmp_total.antisymm s t

trans : (x y z : Value) → value_cmp x y ≡ Less → value_cmp y z ≡ Less → value_cmp x z ≡ Less
trans Null Null z p q = absurd (cc)
trans Null (Int y) Null p q = absurd (cc)
trans Null (Int y) (Int z) p q = refl
trans Null (Int y) (Text u) p q = refl
trans Null (Text t) Null p q = absurd (cc)
trans Null (Text t) (Int z) p q = absurd (cc)
trans Null (Text t) (Text u) p q = refl
trans (Int x) Null z p q = absurd (cc)
trans (Int x) (Int y) Null p q = absurd (cc)
trans (Int x) (Int y) (Int z) p q = int_cmp_total.trans x y z p q
trans (Int x) (Int y) (Text u) p q = refl
trans (Int x) (Text t) Null p q = absurd (cc)
trans (Int x) (Text t) (Int z) p q = absurd (cc)
trans (Int x) (Text t) (Text u) p q = refl
trans (Text s) Null z p q = absurd (cc)
trans (Text s) (Int y) z p q = absurd (cc)
trans (Text s) (Text t) Null p q = absurd (cc)
trans (Text s) (Text t) (Int z) p q = absurd (cc)
trans (Text s) (Text t) (Text u) p q = nat_list_cmp_total.trans s t u p q

congr : (x y z : Value) → value_cmp x y ≡ Equal → value_cmp x z ≡ value_cmp y z
congr Null Null z p = refl
congr Null (Int y) z p = absurd (cc)
congr Null (Text t) z p = absurd (cc)
congr (Int x) Null z p = absurd (cc)
congr (Int x) (Int y) Null p = refl
congr (Int x) (Int y) (Int z) p = int_cmp_total.congr x y z p
congr (Int x) (Int y) (Text u) p = refl
congr (Int x) (Text t) z p = absurd (cc)
congr (Text s) Null z p = absurd (cc)
congr (Text s) (Int y) z p = absurd (cc)
congr (Text s) (Text t) Null p = refl
congr (Text s) (Text t) (Int z) p = refl
congr (Text s) (Text t) (Text u) p = nat_list_cmp_total.congr s t u p

pub value_cmp_total : IsTotalOrder value_cmp
value_cmp_total = record { antisymm = antisymm; trans = trans; congr = congr }

pub row_cmp_total : IsTotalOrder row_cmp
row_cmp_total = lists_total value_cmp_total

same_refl : (x : Value) → value_eq x x ≡ true
same_refl Null = refl
same_refl (Int x) = int_eq_equiv.refl x
same_refl (Text s) = nat_list_eq_equiv.refl s

same_symm : (x y : Value) → value_eq x y ≡ value_eq y x
same_symm Null Null = refl
same_symm Null (Int y) = refl
same_symm Null (Text t) = refl
same_symm (Int x) Null = refl
same_symm (Int x) (Int y) = int_eq_equiv.symm x y
same_symm (Int x) (Text t) = refl
same_symm (Text s) Null = refl
same_symm (Text s) (Int y) = refl
same_symm (Text s) (Text t) = nat_list_eq_equiv.symm s t

same_congr : (x y z : Value) → value_eq x y ≡ true → value_eq x z ≡ value_eq y z
same_congr Null Null z p = refl
same_congr Null (Int y) z p = absurd (cc)
same_congr Null (Text t) z p = absurd (cc)
same_congr (Int x) Null z p = absurd (cc)
same_congr (Int x) (Int y) Null p = refl
same_congr (Int x) (Int y) (Int z) p = int_eq_equiv.congr x y z p
same_congr (Int x) (Int y) (Text u) p = refl
same_congr (Int x) (Text t) z p = absurd (cc)
same_congr (Text s) Null z p = absurd (cc)
same_congr (Text s) (Int y) z p = absurd (cc)
same_congr (Text s) (Text t) Null p = refl
same_congr (Text s) (Text t) (Int z) p = refl
same_congr (Text s) (Text t) (Text u) p = nat_list_eq_equiv.congr s t u p

pub value_eq_equiv : IsEquivalence value_eq
value_eq_equiv = record { refl = same_refl; symm = same_symm; congr = same_congr }

pub row_eq_equiv : IsEquivalence row_eq
row_eq_equiv = lists_equiv value_eq_equiv

-- equal is the same
pub value_ties : (x y : Value) → value_eq x y ≡ is_eq (value_cmp x y)
value_ties Null Null = refl
value_ties Null (Int y) = refl
value_ties Null (Text t) = refl
value_ties (Int x) Null = refl
value_ties (Int x) (Int y) = search (comparing, rules)
value_ties (Int x) (Text t) = refl
value_ties (Text s) Null = refl
value_ties (Text s) (Int y) = refl
value_ties (Text s) (Text t) = search (comparing, rules)

both : (b c : Bool) (o p : Ordering) → b ≡ is_eq o → c ≡ is_eq p → (b && c) ≡ is_eq (ordering_then o p)
both true c Equal p h k = k
both false c Less p h k = refl
both false c Greater p h k = refl
both true c Less p h k = absurd (cc)
both true c Greater p h k = absurd (cc)
both false c Equal p h k = absurd (cc)

pub row_ties : (xs ys : List Value) → row_eq xs ys ≡ is_eq (row_cmp xs ys)
row_ties [] [] = refl
row_ties [] (y ∷ ys) = refl
row_ties (x ∷ xs) [] = refl
row_ties (x ∷ xs) (y ∷ ys) = both (value_eq x y) (row_eq xs ys) (value_cmp x y) (row_cmp xs ys) (value_ties x y) (row_ties xs ys)
