-- The sources of a SELECT, the conditions on their rows, and its items over these rows (ISO/IEC
-- 9075-2, from clause, query specification).
use Rattle.std.specs.Prelude.{ℕ, ◌+◌, length, is_some, List, [], ◌∷◌, ◌++◌, map, Result, Ok, Err, if◌then◌else◌, Vec}
use Rattle.std.specs.Borrow.{Bor}
use Rattle.std.specs.declared.alloc.Global.{Global}
use Rattle.rt_algebra.specs.Parts.{product_of, selected}
use Rattle.rt_algebra.specs.declared.expr.Expr.{Expr}
use Rattle.rt_algebra.specs.declared.query.Pred.{Pred}
use Rattle.rt_algebra.specs.declared.query.Query.{Query}
use Rattle.rt_algebra.specs.declared.query.Query.TheVariants as q
use Rattle.rt_scope.specs.declared.from.FromClause.{FromClause}
use Rattle.rt_scope.specs.declared.relation.Relation.{Relation}
use Rattle.rt_scope.specs.declared.relation.TableRef.{TableRef}
use Rattle.rt_scope.specs.Lookup.{Scopes, source_named}
use Rattle.rt_scope.specs.declared.fault.NameFault.{NameFault}
use Rattle.rt_scope.specs.declared.fault.NameFault.TheVariants as fault
use Rattle.rt_scope.specs.declared.select.SelectList.{SelectList}
use Rattle.rt_scope.specs.declared.source.Source.{Source}

-- the scopes behind the references of a vector
abbrev pub scopes_in : Result (Vec (Bor (List Source)) Global) NameFault → Result Scopes NameFault
scopes_in (Ok v) = Ok (map (λ s. s.now) v.items)
scopes_in (Err e) = Err e

abbrev pub no_sources : FromClause
no_sources = record { sources = []; queries = []; conds = []; width = 0 }

-- one more source, the number of columns then being this
abbrev pub extended : FromClause → TableRef → ℕ → FromClause
extended from b total = record {
  sources = from.sources ++ record { name = b.name; columns = b.relation.columns; start = from.width } ∷ [];
  queries = from.queries ++ b.relation.query ∷ [];
  conds = from.conds;
  width = total;
}

-- no two sources of a SELECT have the same name
abbrev pub with_base : FromClause → TableRef → Result FromClause NameFault
with_base from b =
    if is_some (source_named b.name from.sources) then Err (fault.DuplicateAlias b.name)
    else Ok (extended from b (from.width + length b.relation.columns))

abbrev pub with_cond : FromClause → Pred → FromClause
with_cond from c = record from { conds = from.conds ++ c ∷ [] }

-- the rows of all sources that meet the conditions, and the items over them
abbrev pub query_of : List Query → List Pred → List Expr → Query
query_of queries conds exprs = q.Project (selected (product_of queries) conds) exprs

abbrev pub select_of : FromClause → SelectList → Relation
select_of from list = record { query = query_of from.queries from.conds list.exprs; columns = list.columns }
