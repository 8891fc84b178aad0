-- What the goals of a reference and other queries mean.
use Rattle.std.proofs.Common.{◌≡◌, ◌∙◌, Bool, not, ◌&&◌, List, length, refl, ap}
use Rattle.rt_schema.specs.declared.table.Table.{Table}
use Rattle.rt_schema.specs.Given.{Instance, Rows}
use Rattle.rt_schema.specs.Kept.{kept}
use Rattle.rt_schema.specs.Law.{lawful}
use Rattle.rt_algebra.specs.Answer.{has_row, plain, same_rows}
use Rattle.rt_algebra.specs.declared.typed.Typed.{Typed}
use Rattle.rt_formula.specs.Shared.{Shared, IsGrown, val}
use Rattle.rt_formula.proofs.Meaning.{val-grown}
use Rattle.rt_rules.proofs.Meanings.{below-grown}
use Rattle.rt_noted.specs.Ann.{rows_of}
use Rattle.rt_annot.specs.Reference.{IsReference, StandsOn}
use Rattle.rt_annot.specs.declared.reference.Reference.{Reference}
use Rattle.rt_noted.proofs.SameRows.{mapped_stay, rows_stay, same_rows_is}

-- a reference stays one as the Dag grows
pub stands_still : (r : Reference) (old new : Shared) → IsGrown old new → StandsOn old r → StandsOn new r
stands_still r old new g s = record { lawful = below-grown old new g r.lawful s.lawful; rows = mapped_stay g r.rows s.rows }

pub reference_stays : (schema : List Table) (given : Instance) (query : Typed) (r : Reference) (old new : Shared) → IsGrown old new → IsReference schema given query old r → IsReference schema given query new r
reference_stays schema given query r old new g is = record {
  stands = stands_still r old new g is.stands;
  law = λ keep l. val-grown old new g keep r.lawful is.stands.lawful ∙ is.law keep (l ∙ g.rows);
  answer = λ keep row. ap (λ rows. has_row rows row) (rows_stay g keep r.rows is.stands.rows) ∙ is.answer keep row;
}

-- the goal of the reference and a query, where the reference is that of a schema and a query
module _ (schema : List Table) (given : Instance) (left : Typed) (old : Shared) (r : Reference) (is : IsReference schema given left old r) (keep : List Bool) (l : length keep ≡ old.rows) where
  pub goal_parts : (goal differs : Bool) → goal ≡ (val old keep r.lawful && differs) → goal ≡ (lawful schema (kept given.tables keep) && differs)
  goal_parts goal differs e = e ∙ ap (λ b. b && differs) (is.law keep l)

  pub goal_means : (right : Rows) (goal differs : Bool) → goal ≡ (val old keep r.lawful && differs) → differs ≡ not (same_rows (rows_of old keep r.rows) right)
      → goal ≡ (lawful schema (kept given.tables keep) && not (same_rows (plain left.query (kept given.tables keep)) right))
  goal_means right goal differs e d =
      goal_parts goal differs e
      ∙ ap (λ b. lawful schema (kept given.tables keep) && b) (d ∙ ap not (same_rows_is _ _ _ _ (is.answer keep) (λ row. refl)))
