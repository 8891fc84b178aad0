-- The expression of a sum, with its kind and its bound (ISO/IEC 9075-2, numeric value expression).
--
-- The walk goes from the left and the first error ends it: after each part TypeMismatch where it is
-- a text in arithmetic, then ArithWidth where the algebra allows no such step.
use Rattle.std.specs.Prelude.{ℕ, ◌+◌, ◌*◌, ◌==◌, ◌%◌, Bool, true, false, is_some, unsigned_abs, List, [], ◌∷◌, ◌++◌, Option, Some, None, Result, Ok, Err, if◌then◌else◌}
use Rattle.rt_algebra.specs.Columns.{kind_bound, step_bound}
use Rattle.rt_algebra.specs.declared.expr.Expr.{Expr}
use Rattle.rt_algebra.specs.declared.expr.Expr.TheVariants as e
use Rattle.rt_algebra.specs.declared.expr.Term.{Term, roll-Term}
use Rattle.rt_token.specs.declared.terminal.Name.{Name}
use Rattle.rt_schema.specs.declared.table.ColKind.TheVariants as kind
use Rattle.rt_scope.specs.Fault.{◌>>=◌}
use Rattle.rt_scope.specs.Lookup.{Scopes, find_column, find_qualified}
use Rattle.rt_scope.specs.declared.fault.NameFault.{NameFault}
use Rattle.rt_scope.specs.declared.fault.NameFault.TheVariants.{ArithWidth, TypeMismatch}
use Rattle.rt_scope.specs.declared.scalar.Scalar.{Scalar}
use Rattle.rt_scope.specs.declared.sums.Factors.{Factors}
use Rattle.rt_scope.specs.declared.sums.Terms.{Terms}
use Rattle.rt_tree.specs.declared.tree.Factor.{Factor}
use Rattle.rt_tree.specs.declared.tree.Leaf.{Leaf}
use Rattle.rt_tree.specs.declared.tree.Mul.{Mul}
use Rattle.rt_tree.specs.declared.tree.Sum.{Sum}
use Rattle.rt_tree.specs.declared.tree.SumLink.{SumLink}
use Rattle.rt_tree.specs.declared.tree.Leaf.TheOpen.{Sum-F, SumLink-F, Mul-F, Factor-F, Leaf-F, Number, Str, Null, Col, Paren}
use Rattle.rt_tree.specs.declared.tree.Leaf.TheFolds.{fold-Leaf, fold-Factor, fold-Mul, fold-Sum, fold-SumLink}

-- what a part of a sum means, over the sources in scope
abbrev pub Meaning : Type 0
Meaning = Scopes → Result Scalar NameFault

-- a term after the first, with its sign
abbrev pub Link : Type 0
Link = Bool × Meaning

abbrev pub term : Bool → Expr → Term
term minus of = roll-Term (record { minus = minus; of = of })

-- a sum with one more term
abbrev pub added : Terms → Bool → Scalar → Result Terms NameFault
added sum minus x =
    if is_some (kind_bound x.kind x.bound)
    then (if is_some (step_bound (sum.bound + x.bound)) then Ok (record { terms = sum.terms ++ term minus x.expr ∷ []; bound = sum.bound + x.bound }) else Err ArithWidth)
    else Err TypeMismatch

abbrev pub no_terms : Terms
no_terms = record { terms = []; bound = 0 }

abbrev pub sum_of : Terms → Scalar
sum_of sum = record { expr = e.Sum sum.terms; kind = Some kind.Whole; bound = sum.bound }

abbrev pub added_all : Terms → List Link → Scopes → Result Terms NameFault
added_all sum [] scopes = Ok sum
added_all sum (l ∷ ls) scopes = l.1 scopes >>= λ x. added sum l.0 x >>= λ more. added_all more ls scopes

abbrev pub has_more : {X : Type 0} → List X → Bool
has_more [] = false
has_more (x ∷ xs) = true

-- the sum of a head and more terms
abbrev pub sum_more : Scalar → List Link → Meaning
sum_more x ls scopes = added no_terms false x >>= λ first. added_all first ls scopes >>= λ all. Ok (sum_of all)

-- a product with one more factor
abbrev pub multiplied : Factors → Scalar → Result Factors NameFault
multiplied product x =
    if is_some (kind_bound x.kind x.bound)
    then (if is_some (step_bound (product.bound * x.bound)) then Ok (record { factors = product.factors ++ x.expr ∷ []; bound = product.bound * x.bound }) else Err ArithWidth)
    else Err TypeMismatch

abbrev pub no_factors : Factors
no_factors = record { factors = []; bound = 1 }

abbrev pub product_of : Factors → Scalar
product_of product = record { expr = e.Mul product.factors; kind = Some kind.Whole; bound = product.bound }

abbrev pub multiplied_all : Factors → List Meaning → Scopes → Result Factors NameFault
multiplied_all product [] scopes = Ok product
multiplied_all product (f ∷ fs) scopes = f scopes >>= λ x. multiplied product x >>= λ more. multiplied_all more fs scopes

-- the product of a head and more factors
abbrev pub product_more : Scalar → List Meaning → Meaning
product_more x fs scopes = multiplied no_factors x >>= λ first. multiplied_all first fs scopes >>= λ all. Ok (product_of all)

abbrev pub is_odd : ℕ → Bool
is_odd n = n % 2 == 1

-- a sum of one term with a minus
abbrev pub negative : Scalar → Result Scalar NameFault
negative x = added no_terms true x >>= λ all. Ok (sum_of all)

-- an operand behind so many minus signs; an even number of them is the operand itself
abbrev pub signed : ℕ → Scalar → Result Scalar NameFault
signed n x =
    if n == 0 then Ok x
    else if is_some (kind_bound x.kind x.bound) then (if is_odd n then negative x else Ok x)
    else Err TypeMismatch

abbrev pub column_named : Option Name → Name → Meaning
column_named None name scopes = find_column 0 name.text scopes
column_named (Some source) name scopes = find_qualified 0 source.text name.text scopes

abbrev pub leaf_step : Leaf-F Meaning Meaning Meaning Meaning Link → Meaning
leaf_step (Number n) scopes = Ok (record { expr = e.Int n; kind = Some kind.Whole; bound = unsigned_abs n })
leaf_step (Str t) scopes = Ok (record { expr = e.Text t; kind = Some kind.Text; bound = 0 })
leaf_step Null scopes = Ok (record { expr = e.Null; kind = None; bound = 0 })
leaf_step (Col source name) scopes = column_named source name scopes
leaf_step (Paren s) scopes = s scopes

abbrev pub factor_step : Factor-F Meaning Meaning Meaning Meaning Link → Meaning
factor_step f scopes = f.of scopes >>= signed f.minuses

-- a head alone is itself
abbrev pub mul_step : Mul-F Meaning Meaning Meaning Meaning Link → Meaning
mul_step m scopes = m.head scopes >>= λ x. if has_more m.tail then product_more x m.tail scopes else Ok x

abbrev pub sum_step : Sum-F Meaning Meaning Meaning Meaning Link → Meaning
sum_step s scopes = s.head scopes >>= λ x. if has_more s.tail then sum_more x s.tail scopes else Ok x

abbrev pub link_step : SumLink-F Meaning Meaning Meaning Meaning Link → Link
link_step l = (l.minus, l.of)

-- ---- the meaning of each part

abbrev pub leaf : Leaf → Meaning
leaf = fold-Leaf Meaning Meaning Meaning Meaning Link leaf_step factor_step mul_step sum_step link_step

abbrev pub factor : Factor → Meaning
factor = fold-Factor Meaning Meaning Meaning Meaning Link leaf_step factor_step mul_step sum_step link_step

abbrev pub mul : Mul → Meaning
mul = fold-Mul Meaning Meaning Meaning Meaning Link leaf_step factor_step mul_step sum_step link_step

abbrev pub sum : Sum → Meaning
sum = fold-Sum Meaning Meaning Meaning Meaning Link leaf_step factor_step mul_step sum_step link_step

abbrev pub link : SumLink → Link
link = fold-SumLink Meaning Meaning Meaning Meaning Link leaf_step factor_step mul_step sum_step link_step
