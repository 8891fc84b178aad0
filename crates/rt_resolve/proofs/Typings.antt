-- Each query that has a meaning over the tables of a schema is typed over them.
use Rattle.std.proofs.Common.{◌∙◌, [], Result, Ok, Err, sym, subst}
use Rattle.std.specs.Prelude.{IfOk}
use Rattle.std.proofs.lemmas.List.{length-map}
use Rattle.rt_algebra.specs.Typed.{IsTypedOf}
use Rattle.rt_algebra.specs.declared.typed.Typed.{Typed}
use Rattle.rt_algebra.proofs.Fitting.{all-fit}
use Rattle.rt_resolve.specs.Chains.{chain, lowered}
use Rattle.rt_scope.specs.Relations.{Tables, typed_of}
use Rattle.rt_scope.specs.declared.relation.Relation.{Relation}
use Rattle.rt_resolve.proofs.Inductive.{chain-typed}
use Rattle.rt_scope.proofs.Sets.{IsTypedRelation}
use Rattle.rt_scope.proofs.FromLaws.{tables_of}
use Rattle.rt_scope.specs.Fault.{is_memory}
use Rattle.rt_scope.specs.declared.column.Column.{Column}
use Rattle.rt_scope.specs.declared.fault.NameFault.{NameFault}
use Rattle.rt_scope.proofs.Steps.{then-ok}
use Rattle.rt_tree.specs.declared.tree.Sql.{Sql}
use Rattle.rt_value.specs.Gives.{Gives}

relation-typed : (db : Tables) (r : Relation) → IsTypedRelation (tables_of db) [] r → IsTypedOf db (typed_of r)
relation-typed db r h = record {
  columns = rw h (all-fit Column (λ c. c.kind) (λ c. c.bound) r.columns);
  names = length-map r.columns (λ c. c.name) ∙ sym (length-map r.columns (λ c. c.kind));
}

pub lowered-typed : (sql : Sql) (db : Tables) → IfOk (lowered sql db) (IsTypedOf db)
lowered-typed sql db =
    then-ok (IsTypedRelation (tables_of db) []) (IsTypedOf db) (chain sql.chain db []) (λ r. Ok (typed_of r)) (chain-typed db sql.chain [] [] tt) (λ r h. relation-typed db r h)

pub given-typed : (sql : Sql) (db : Tables) (r : Result Typed NameFault) → Gives is_memory r (lowered sql db) → IfOk r (IsTypedOf db)
given-typed sql db (Ok t) g = subst (λ (d : Result Typed NameFault). IfOk d (IsTypedOf db)) g (lowered-typed sql db)
given-typed sql db (Err e) g = tt
