-- Conditions and queries made of parts: one part alone is itself (ISO/IEC 9075-2, search condition,
-- from clause, query expression).
use Rattle.std.specs.Prelude.{List, [], ◌∷◌}
use Rattle.rt_algebra.specs.declared.query.Pred.{Pred}
use Rattle.rt_algebra.specs.declared.query.Pred.TheVariants as p
use Rattle.rt_algebra.specs.declared.query.Query.{Query}
use Rattle.rt_algebra.specs.declared.query.Query.TheVariants as q
use Rattle.rt_algebra.specs.declared.set_op.SetOp.{SetOp}
use Rattle.rt_algebra.specs.declared.set_op.SetOp.TheVariants as op

abbrev pub all_of : List Pred → Pred
all_of [] = p.And []
all_of (c ∷ []) = c
all_of (c ∷ d ∷ rest) = p.And (c ∷ d ∷ rest)

abbrev pub any_of : List Pred → Pred
any_of [] = p.Or []
any_of (c ∷ []) = c
any_of (c ∷ d ∷ rest) = p.Or (c ∷ d ∷ rest)

abbrev pub product_of : List Query → Query
product_of [] = q.Product []
product_of (a ∷ []) = a
product_of (a ∷ b ∷ rest) = q.Product (a ∷ b ∷ rest)

-- no condition is no selection
abbrev pub selected : Query → List Pred → Query
selected of [] = of
selected of (c ∷ cs) = q.Select of (all_of (c ∷ cs))

-- a set operator over two queries
abbrev pub combined : SetOp → Query → Query → Query
combined op.Union a b = q.Union a b
combined op.Except a b = q.Except a b
combined op.Intersect a b = q.Intersect a b
