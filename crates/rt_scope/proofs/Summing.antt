-- Each sum that has a meaning is typed under the rows in scope.
use Rattle.std.proofs.Common.{◌≡◌, ◌∙◌, ℕ, ◌+◌, ◌-◌, ◌^◌, ◌*◌, Bool, true, false, List, [], ◌∷◌, ◌++◌, map, Option, None, Some, Ok, Err, refl, sym, ap, subst}
use Rattle.std.specs.Prelude.{IfOk, if◌then◌else◌, nat_le, is_some, ◌==◌}
use Rattle.std.specs.Option.{option_and_then}
use Rattle.std.proofs.lemmas.List.{map-append}
use Rattle.rt_algebra.specs.Columns as algebra
use Rattle.rt_algebra.specs.Columns.{term_column, sum_bound, mul_bound, member_bound, step_bound, whole_column, kind_bound}
use Rattle.rt_algebra.proofs.Columned.{column-Int, column-Mul, column-Null, column-Sum, column-Text, column-term}
use Rattle.rt_token.specs.declared.terminal.Name.{Name}
use Rattle.rt_schema.specs.declared.table.ColKind.{ColKind}
use Rattle.rt_schema.specs.declared.table.ColKind.TheVariants.{Whole, Text as Texts}
use Rattle.rt_scope.specs.Fault.{◌>>=◌}
use Rattle.rt_scope.specs.Lookup.{Scopes}
use Rattle.rt_scope.specs.Sums.{Meaning, Link, term, added, no_terms, sum_of, added_all, has_more, sum_more, multiplied, no_factors, product_of, multiplied_all, product_more, is_odd, negative, signed, column_named, leaf_step, factor_step, mul_step, sum_step, link_step, leaf, factor, mul, sum, link}
use Rattle.rt_scope.specs.declared.fault.NameFault.TheVariants.{ArithWidth, TypeMismatch}
use Rattle.rt_scope.specs.declared.scalar.Scalar.{Scalar}
use Rattle.rt_scope.specs.declared.sums.Factors.{Factors}
use Rattle.rt_scope.specs.declared.sums.Terms.{Terms}
use Rattle.rt_scope.proofs.Standing.{ScopesStand, IsTypedScalar, column-typed, qualified-typed, rows-from-first}
use Rattle.rt_scope.proofs.Steps.{then-ok, if-ok}
use Rattle.rt_tree.specs.declared.tree.Factor.{Factor}
use Rattle.rt_tree.specs.declared.tree.Leaf.{Leaf}
use Rattle.rt_tree.specs.declared.tree.Mul.{Mul}
use Rattle.rt_tree.specs.declared.tree.Sum.{Sum}
use Rattle.rt_tree.specs.declared.tree.SumLink.{SumLink}
use Rattle.rt_tree.specs.declared.tree.Leaf.TheOpen.{Sum-F, SumLink-F, Mul-F, Factor-F, Leaf-F, Number, Str, Null, Col, Paren}
use Rattle.rt_tree.specs.declared.tree.Leaf.TheViews.{roll-Leaf, roll-Factor, roll-Mul, roll-Sum, roll-SumLink}
use Rattle.rt_tree.specs.declared.tree.Leaf.TheFolds.{ind-Sum, map-Leaf, map-Factor, map-Mul, map-Sum, map-SumLink, fold-roll-Leaf, fold-roll-Factor, fold-roll-Mul, fold-roll-Sum, fold-roll-SumLink}

-- ---- one member more

abbrev Typing : Type 0
Typing = algebra.Scopes → Option algebra.Column

-- two computations that go on from the same value
onward : (o : Option ℕ) (f g : ℕ → Option ℕ) (a : ℕ) (r : Option ℕ) → ((b : ℕ) → f b ≡ Some a → g b ≡ r) → option_and_then f o ≡ Some a → option_and_then g o ≡ r
onward None f g a r k e = absurd (cc)
onward (Some b) f g a r k e = k b e

module _ (rows : algebra.Scopes) (f : Typing) (a : ℕ) where
  abbrev with_term : Option ℕ
  with_term = option_and_then (λ b. option_and_then (λ n. Some n) (step_bound (a + b))) (member_bound (f rows))

  abbrev with_factor : Option ℕ
  with_factor = option_and_then (λ b. option_and_then (λ n. Some n) (step_bound (a * b))) (member_bound (f rows))

  sum-one-more : (gs : List Typing) (s : ℕ) → sum_bound s gs rows ≡ Some a → sum_bound s (gs ++ f ∷ []) rows ≡ with_term
  sum-one-more [] s e = let same : s ≡ a = cc in rw same refl
  sum-one-more (g ∷ gs) s e =
      onward (member_bound (g rows)) (λ b. option_and_then (λ n. sum_bound n gs rows) (step_bound (s + b))) (λ b. option_and_then (λ n. sum_bound n (gs ++ f ∷ []) rows) (step_bound (s + b))) a with_term
      (λ b h. onward (step_bound (s + b)) (λ n. sum_bound n gs rows) (λ n. sum_bound n (gs ++ f ∷ []) rows) a with_term (λ n k. sum-one-more gs n k) h) e

  mul-one-more : (gs : List Typing) (s : ℕ) → mul_bound s gs rows ≡ Some a → mul_bound s (gs ++ f ∷ []) rows ≡ with_factor
  mul-one-more [] s e = let same : s ≡ a = cc in rw same refl
  mul-one-more (g ∷ gs) s e =
      onward (member_bound (g rows)) (λ b. option_and_then (λ n. mul_bound n gs rows) (step_bound (s * b))) (λ b. option_and_then (λ n. mul_bound n (gs ++ f ∷ []) rows) (step_bound (s * b))) a with_factor
      (λ b h. onward (step_bound (s * b)) (λ n. mul_bound n gs rows) (λ n. mul_bound n (gs ++ f ∷ []) rows) a with_factor (λ n k. mul-one-more gs n k) h) e

-- a member that is no text has its bound, and so has a step that is allowed
numeric : (k : Option ColKind) (n : ℕ) → is_some (kind_bound k n) ≡ true → kind_bound k n ≡ Some n
numeric None n h = refl
numeric (Some Whole) n h = refl
numeric (Some Texts) n h = cc

chosen : (b : Bool) (n : ℕ) → is_some (if b then Some n else None) ≡ true → (if b then Some n else None) ≡ Some n
chosen true n h = refl
chosen false n h = cc

small-step : (n : ℕ) → is_some (step_bound n) ≡ true → step_bound n ≡ Some n
small-step n h = chosen (nat_le n (2 ^ 127 - 1)) n h

abbrev pub TermsTyped : algebra.Scopes → Terms → Type 0
TermsTyped rows all = sum_bound 0 (map term_column all.terms) rows ≡ Some all.bound

abbrev pub FactorsTyped : algebra.Scopes → Factors → Type 0
FactorsTyped rows all = mul_bound 1 (map algebra.column_of all.factors) rows ≡ Some all.bound

added-typed : (rows : algebra.Scopes) (all : Terms) (minus : Bool) (x : Scalar) → TermsTyped rows all → IsTypedScalar rows x → IfOk (added all minus x) (TermsTyped rows)
added-typed rows all minus x s t =
    if-ok (TermsTyped rows) (is_some (kind_bound x.kind x.bound)) _ (Err TypeMismatch) (λ plain. if-ok (TermsTyped rows) (is_some (step_bound (all.bound + x.bound))) _ (Err ArithWidth) (λ small. step plain small) tt) tt
  where
    step : is_some (kind_bound x.kind x.bound) ≡ true → is_some (step_bound (all.bound + x.bound)) ≡ true → TermsTyped rows (record { terms = all.terms ++ term minus x.expr ∷ []; bound = all.bound + x.bound })
    step plain small =
        ap (λ (fs : List Typing). sum_bound 0 fs rows) (map-append term_column all.terms (term minus x.expr ∷ []))
        ∙ sum-one-more rows (term_column (term minus x.expr)) all.bound (map term_column all.terms) 0 s
        ∙ ap (λ o. option_and_then (λ b. option_and_then (λ n. Some n) (step_bound (all.bound + b))) (member_bound o)) (column-term rows minus x.expr ∙ t)
        ∙ ap (λ o. option_and_then (λ b. option_and_then (λ n. Some n) (step_bound (all.bound + b))) o) (numeric x.kind x.bound plain)
        ∙ ap (option_and_then (λ n. Some n)) (small-step (all.bound + x.bound) small)

multiplied-typed : (rows : algebra.Scopes) (all : Factors) (x : Scalar) → FactorsTyped rows all → IsTypedScalar rows x → IfOk (multiplied all x) (FactorsTyped rows)
multiplied-typed rows all x s t =
    if-ok (FactorsTyped rows) (is_some (kind_bound x.kind x.bound)) _ (Err TypeMismatch) (λ plain. if-ok (FactorsTyped rows) (is_some (step_bound (all.bound * x.bound))) _ (Err ArithWidth) (λ small. step plain small) tt) tt
  where
    step : is_some (kind_bound x.kind x.bound) ≡ true → is_some (step_bound (all.bound * x.bound)) ≡ true → FactorsTyped rows (record { factors = all.factors ++ x.expr ∷ []; bound = all.bound * x.bound })
    step plain small =
        ap (λ (fs : List Typing). mul_bound 1 fs rows) (map-append algebra.column_of all.factors (x.expr ∷ []))
        ∙ mul-one-more rows (algebra.column_of x.expr) all.bound (map algebra.column_of all.factors) 1 s
        ∙ ap (λ o. option_and_then (λ b. option_and_then (λ n. Some n) (step_bound (all.bound * b))) (member_bound o)) t
        ∙ ap (λ o. option_and_then (λ b. option_and_then (λ n. Some n) (step_bound (all.bound * b))) o) (numeric x.kind x.bound plain)
        ∙ ap (option_and_then (λ n. Some n)) (small-step (all.bound * x.bound) small)

sum-of-typed : (rows : algebra.Scopes) (all : Terms) → TermsTyped rows all → IsTypedScalar rows (sum_of all)
sum-of-typed rows all s = column-Sum rows all.terms ∙ ap whole_column s

product-of-typed : (rows : algebra.Scopes) (all : Factors) → FactorsTyped rows all → IsTypedScalar rows (product_of all)
product-of-typed rows all s = column-Mul rows all.factors ∙ ap whole_column s

-- ---- one layer of a sum, with the laws of its parts

abbrev pub IsTypedMeaning : Meaning → Type 0
IsTypedMeaning f = (scopes : Scopes) (rows : algebra.Scopes) → ScopesStand scopes rows → IfOk (f scopes) (IsTypedScalar rows)

abbrev AreTypedMeanings : List Meaning → Type 0
AreTypedMeanings [] = Unit {0}
AreTypedMeanings (f ∷ fs) = IsTypedMeaning f × AreTypedMeanings fs

abbrev AreTypedLinks : List Link → Type 0
AreTypedLinks [] = Unit {0}
AreTypedLinks (l ∷ ls) = IsTypedMeaning l.1 × AreTypedLinks ls

added-all-typed : (ls : List Link) → AreTypedLinks ls → (all : Terms) (scopes : Scopes) (rows : algebra.Scopes) → ScopesStand scopes rows → TermsTyped rows all
    → IfOk (added_all all ls scopes) (TermsTyped rows)
added-all-typed [] t all scopes rows s h = h
added-all-typed (l ∷ ls) t all scopes rows s h =
    then-ok (IsTypedScalar rows) (TermsTyped rows) (l.1 scopes) (λ x. added all l.0 x >>= λ more. added_all more ls scopes) (t.0 scopes rows s)
    (λ x k. then-ok (TermsTyped rows) (TermsTyped rows) (added all l.0 x) (λ more. added_all more ls scopes) (added-typed rows all l.0 x h k) (λ more m. added-all-typed ls t.1 more scopes rows s m))

multiplied-all-typed : (fs : List Meaning) → AreTypedMeanings fs → (all : Factors) (scopes : Scopes) (rows : algebra.Scopes) → ScopesStand scopes rows → FactorsTyped rows all
    → IfOk (multiplied_all all fs scopes) (FactorsTyped rows)
multiplied-all-typed [] t all scopes rows s h = h
multiplied-all-typed (f ∷ fs) t all scopes rows s h =
    then-ok (IsTypedScalar rows) (FactorsTyped rows) (f scopes) (λ x. multiplied all x >>= λ more. multiplied_all more fs scopes) (t.0 scopes rows s)
    (λ x k. then-ok (FactorsTyped rows) (FactorsTyped rows) (multiplied all x) (λ more. multiplied_all more fs scopes) (multiplied-typed rows all x h k) (λ more m. multiplied-all-typed fs t.1 more scopes rows s m))

sum-more-typed : (x : Scalar) (ls : List Link) → AreTypedLinks ls → (scopes : Scopes) (rows : algebra.Scopes) → ScopesStand scopes rows → IsTypedScalar rows x
    → IfOk (sum_more x ls scopes) (IsTypedScalar rows)
sum-more-typed x ls t scopes rows s h =
    then-ok (TermsTyped rows) (IsTypedScalar rows) (added no_terms false x) (λ first. added_all first ls scopes >>= λ all. Ok (sum_of all)) (added-typed rows no_terms false x refl h)
    (λ first f. then-ok (TermsTyped rows) (IsTypedScalar rows) (added_all first ls scopes) (λ all. Ok (sum_of all)) (added-all-typed ls t first scopes rows s f) (λ all a. sum-of-typed rows all a))

product-more-typed : (x : Scalar) (fs : List Meaning) → AreTypedMeanings fs → (scopes : Scopes) (rows : algebra.Scopes) → ScopesStand scopes rows → IsTypedScalar rows x
    → IfOk (product_more x fs scopes) (IsTypedScalar rows)
product-more-typed x fs t scopes rows s h =
    then-ok (FactorsTyped rows) (IsTypedScalar rows) (multiplied no_factors x) (λ first. multiplied_all first fs scopes >>= λ all. Ok (product_of all)) (multiplied-typed rows no_factors x refl h)
    (λ first f. then-ok (FactorsTyped rows) (IsTypedScalar rows) (multiplied_all first fs scopes) (λ all. Ok (product_of all)) (multiplied-all-typed fs t first scopes rows s f) (λ all a. product-of-typed rows all a))

negative-typed : (rows : algebra.Scopes) (x : Scalar) → IsTypedScalar rows x → IfOk (negative x) (IsTypedScalar rows)
negative-typed rows x h = then-ok (TermsTyped rows) (IsTypedScalar rows) (added no_terms true x) (λ all. Ok (sum_of all)) (added-typed rows no_terms true x refl h) (λ all a. sum-of-typed rows all a)

signed-typed : (rows : algebra.Scopes) (n : ℕ) (x : Scalar) → IsTypedScalar rows x → IfOk (signed n x) (IsTypedScalar rows)
signed-typed rows n x h =
    if-ok (IsTypedScalar rows) (n == 0) (Ok x) _ (λ z. h)
    (if-ok (IsTypedScalar rows) (is_some (kind_bound x.kind x.bound)) _ (Err TypeMismatch) (λ plain. if-ok (IsTypedScalar rows) (is_odd n) (negative x) (Ok x) (λ odd. negative-typed rows x h) h) tt)

column-named-typed : (source : Option Name) (name : Name) → IsTypedMeaning (column_named source name)
column-named-typed None name scopes rows s = column-typed rows 0 name.text scopes rows (rows-from-first rows) s
column-named-typed (Some source) name scopes rows s = qualified-typed rows 0 source.text name.text scopes rows (rows-from-first rows) s

-- ---- the induction

abbrev LeafLaw : Leaf → Type 0
LeafLaw t = IsTypedMeaning (leaf t)

abbrev FactorLaw : Factor → Type 0
FactorLaw t = IsTypedMeaning (factor t)

abbrev MulLaw : Mul → Type 0
MulLaw t = IsTypedMeaning (mul t)

abbrev SumLaw : Sum → Type 0
SumLaw t = IsTypedMeaning (sum t)

abbrev LinkLaw : SumLink → Type 0
LinkLaw t = IsTypedMeaning (link t).1

abbrev SuchLeaf : Type 0
SuchLeaf = (t : Leaf) × LeafLaw t

abbrev SuchFactor : Type 0
SuchFactor = (t : Factor) × FactorLaw t

abbrev SuchMul : Type 0
SuchMul = (t : Mul) × MulLaw t

abbrev SuchSum : Type 0
SuchSum = (t : Sum) × SumLaw t

abbrev SuchLink : Type 0
SuchLink = (t : SumLink) × LinkLaw t

abbrev below_leaf : Leaf-F SuchLeaf SuchFactor SuchMul SuchSum SuchLink → Leaf-F Leaf Factor Mul Sum SumLink
below_leaf = map-Leaf SuchLeaf SuchFactor SuchMul SuchSum SuchLink Leaf Factor Mul Sum SumLink (λ t. t.0) (λ t. t.0) (λ t. t.0) (λ t. t.0) (λ t. t.0)

abbrev below_factor : Factor-F SuchLeaf SuchFactor SuchMul SuchSum SuchLink → Factor-F Leaf Factor Mul Sum SumLink
below_factor = map-Factor SuchLeaf SuchFactor SuchMul SuchSum SuchLink Leaf Factor Mul Sum SumLink (λ t. t.0) (λ t. t.0) (λ t. t.0) (λ t. t.0) (λ t. t.0)

abbrev below_mul : Mul-F SuchLeaf SuchFactor SuchMul SuchSum SuchLink → Mul-F Leaf Factor Mul Sum SumLink
below_mul = map-Mul SuchLeaf SuchFactor SuchMul SuchSum SuchLink Leaf Factor Mul Sum SumLink (λ t. t.0) (λ t. t.0) (λ t. t.0) (λ t. t.0) (λ t. t.0)

abbrev below_sum : Sum-F SuchLeaf SuchFactor SuchMul SuchSum SuchLink → Sum-F Leaf Factor Mul Sum SumLink
below_sum = map-Sum SuchLeaf SuchFactor SuchMul SuchSum SuchLink Leaf Factor Mul Sum SumLink (λ t. t.0) (λ t. t.0) (λ t. t.0) (λ t. t.0) (λ t. t.0)

abbrev below_link : SumLink-F SuchLeaf SuchFactor SuchMul SuchSum SuchLink → SumLink-F Leaf Factor Mul Sum SumLink
below_link = map-SumLink SuchLeaf SuchFactor SuchMul SuchSum SuchLink Leaf Factor Mul Sum SumLink (λ t. t.0) (λ t. t.0) (λ t. t.0) (λ t. t.0) (λ t. t.0)

leaf-layer : (y : Leaf-F SuchLeaf SuchFactor SuchMul SuchSum SuchLink) → IsTypedMeaning (leaf_step (map-Leaf Leaf Factor Mul Sum SumLink Meaning Meaning Meaning Meaning Link leaf factor mul sum link (below_leaf y)))
leaf-layer (Number n) scopes rows s = column-Int rows n
leaf-layer (Str t) scopes rows s = column-Text rows t
leaf-layer Null scopes rows s = column-Null rows
leaf-layer (Col source name) scopes rows s = column-named-typed source name scopes rows s
leaf-layer (Paren t) scopes rows s = t.1 scopes rows s

such-factors : (fs : List SuchFactor) → AreTypedMeanings (map factor (map (λ t. t.0) fs))
such-factors [] = tt
such-factors (f ∷ fs) = (f.1, such-factors fs)

such-links : (ls : List SuchLink) → AreTypedLinks (map link (map (λ t. t.0) ls))
such-links [] = tt
such-links (l ∷ ls) = (l.1, such-links ls)

factor-layer : (y : Factor-F SuchLeaf SuchFactor SuchMul SuchSum SuchLink) → IsTypedMeaning (factor_step (map-Factor Leaf Factor Mul Sum SumLink Meaning Meaning Meaning Meaning Link leaf factor mul sum link (below_factor y)))
factor-layer y scopes rows s =
    then-ok (IsTypedScalar rows) (IsTypedScalar rows) (leaf y.of.0 scopes) (signed y.minuses) (y.of.1 scopes rows s) (λ x h. signed-typed rows y.minuses x h)

mul-layer : (y : Mul-F SuchLeaf SuchFactor SuchMul SuchSum SuchLink) → IsTypedMeaning (mul_step (map-Mul Leaf Factor Mul Sum SumLink Meaning Meaning Meaning Meaning Link leaf factor mul sum link (below_mul y)))
mul-layer y scopes rows s =
    let fs : List Meaning = map factor (map (λ (t : SuchFactor). t.0) y.tail) in
    then-ok (IsTypedScalar rows) (IsTypedScalar rows) (factor y.head.0 scopes) (λ x. if has_more fs then product_more x fs scopes else Ok x) (y.head.1 scopes rows s)
    (λ x h. if-ok (IsTypedScalar rows) (has_more fs) (product_more x fs scopes) (Ok x) (λ m. product-more-typed x fs (such-factors y.tail) scopes rows s h) h)

sum-layer : (y : Sum-F SuchLeaf SuchFactor SuchMul SuchSum SuchLink) → IsTypedMeaning (sum_step (map-Sum Leaf Factor Mul Sum SumLink Meaning Meaning Meaning Meaning Link leaf factor mul sum link (below_sum y)))
sum-layer y scopes rows s =
    let ls : List Link = map link (map (λ (t : SuchLink). t.0) y.tail) in
    then-ok (IsTypedScalar rows) (IsTypedScalar rows) (mul y.head.0 scopes) (λ x. if has_more ls then sum_more x ls scopes else Ok x) (y.head.1 scopes rows s)
    (λ x h. if-ok (IsTypedScalar rows) (has_more ls) (sum_more x ls scopes) (Ok x) (λ m. sum-more-typed x ls (such-links y.tail) scopes rows s h) h)

link-layer : (y : SumLink-F SuchLeaf SuchFactor SuchMul SuchSum SuchLink) → IsTypedMeaning (link_step (map-SumLink Leaf Factor Mul Sum SumLink Meaning Meaning Meaning Meaning Link leaf factor mul sum link (below_link y))).1
link-layer y = y.of.1

leaf-rolls : (x : Leaf-F Leaf Factor Mul Sum SumLink) → IsTypedMeaning (leaf_step (map-Leaf Leaf Factor Mul Sum SumLink Meaning Meaning Meaning Meaning Link leaf factor mul sum link x)) → LeafLaw (roll-Leaf x)
leaf-rolls x h = subst IsTypedMeaning (sym (fold-roll-Leaf Meaning Meaning Meaning Meaning Link leaf_step factor_step mul_step sum_step link_step x)) h

factor-rolls : (x : Factor-F Leaf Factor Mul Sum SumLink) → IsTypedMeaning (factor_step (map-Factor Leaf Factor Mul Sum SumLink Meaning Meaning Meaning Meaning Link leaf factor mul sum link x)) → FactorLaw (roll-Factor x)
factor-rolls x h = subst IsTypedMeaning (sym (fold-roll-Factor Meaning Meaning Meaning Meaning Link leaf_step factor_step mul_step sum_step link_step x)) h

mul-rolls : (x : Mul-F Leaf Factor Mul Sum SumLink) → IsTypedMeaning (mul_step (map-Mul Leaf Factor Mul Sum SumLink Meaning Meaning Meaning Meaning Link leaf factor mul sum link x)) → MulLaw (roll-Mul x)
mul-rolls x h = subst IsTypedMeaning (sym (fold-roll-Mul Meaning Meaning Meaning Meaning Link leaf_step factor_step mul_step sum_step link_step x)) h

sum-rolls : (x : Sum-F Leaf Factor Mul Sum SumLink) → IsTypedMeaning (sum_step (map-Sum Leaf Factor Mul Sum SumLink Meaning Meaning Meaning Meaning Link leaf factor mul sum link x)) → SumLaw (roll-Sum x)
sum-rolls x h = subst IsTypedMeaning (sym (fold-roll-Sum Meaning Meaning Meaning Meaning Link leaf_step factor_step mul_step sum_step link_step x)) h

link-rolls : (x : SumLink-F Leaf Factor Mul Sum SumLink) → IsTypedMeaning (link_step (map-SumLink Leaf Factor Mul Sum SumLink Meaning Meaning Meaning Meaning Link leaf factor mul sum link x)).1 → LinkLaw (roll-SumLink x)
link-rolls x h = subst (λ m. IsTypedMeaning m.1) (sym (fold-roll-SumLink Meaning Meaning Meaning Meaning Link leaf_step factor_step mul_step sum_step link_step x)) h

-- an expression over sources that are in the rows is typed under the rows
pub sum-typed : (t : Sum) → IsTypedMeaning (sum t)
sum-typed = ind-Sum LeafLaw FactorLaw MulLaw SumLaw LinkLaw
    (λ x y is. subst (λ z. LeafLaw (roll-Leaf z)) is (leaf-rolls (below_leaf y) (leaf-layer y)))
    (λ x y is. subst (λ z. FactorLaw (roll-Factor z)) is (factor-rolls (below_factor y) (factor-layer y)))
    (λ x y is. subst (λ z. MulLaw (roll-Mul z)) is (mul-rolls (below_mul y) (mul-layer y)))
    (λ x y is. subst (λ z. SumLaw (roll-Sum z)) is (sum-rolls (below_sum y) (sum-layer y)))
    (λ x y is. subst (λ z. LinkLaw (roll-SumLink z)) is (link-rolls (below_link y) (link-layer y)))
