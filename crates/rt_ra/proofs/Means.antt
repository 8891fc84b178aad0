-- Where a text becomes a query, the query answers just the rows of the text: by induction over the
-- tree, each layer being the law of its operator.
use Rattle.std.proofs.Common.{◌≡◌, List, [], ◌∷◌, Bool, Result, Ok, Err, IsTrue, sym, subst}
use Rattle.std.specs.Prelude.{IfOk}
use Rattle.rt_algebra.specs.Answer.{plain}
use Rattle.rt_algebra.specs.declared.typed.Typed.{Typed}
use Rattle.rt_ra.proofs.ConditionLaws.{then-ok}
use Rattle.rt_ra.proofs.Meant.{project-keeps, rename-keeps, select-keeps, table-ok, two-ok}
use Rattle.rt_ra.specs.OperatorAnswers as answers
use Rattle.rt_relation.specs.Columns.{texts}
use Rattle.rt_relation.specs.Fault.{◌>>=◌}
use Rattle.rt_ra.specs.OperatorMeaning.{Fit, Means}
use Rattle.rt_relation.specs.Operators.{two, typed_of}
use Rattle.rt_ra.specs.Unary.{project, rename, select}
use Rattle.rt_ra.proofs.Kept.{kept-fit}
use Rattle.rt_ra.specs.Answer.{Meaning, named}
use Rattle.rt_ra.specs.Answer as answer
use Rattle.rt_ra.specs.Lowered.{Lowering, ra_lowered, relation}
use Rattle.rt_ra.specs.Lowered as lowered
use Rattle.rt_ra.specs.Meaning.{MeansSame}
use Rattle.rt_ra_tree.specs.Refusals.{is_memory}
use Rattle.rt_ra_tree.specs.declared.fault.RaFault.{RaFault}
use Rattle.rt_ra_tree.specs.declared.tree.Ra.{Ra}
use Rattle.rt_ra_tree.specs.declared.tree.Ra.TheFolds.{fold-roll-Ra, ind-Ra, map-Ra}
use Rattle.rt_ra_tree.specs.declared.tree.Ra.TheOpen as open_
use Rattle.rt_ra_tree.specs.declared.tree.Ra.TheViews.{roll-Ra}
use Rattle.rt_ra_tree.specs.declared.tree.RaText.{RaText}
use Rattle.rt_schema.specs.Given.{Instance, IsOf, Tables, is_instance}
use Rattle.rt_schema.specs.Kept.{kept}
use Rattle.rt_schema.specs.declared.table.Table.{Table}
use Rattle.rt_value.specs.Gives.{Gives}

module _ (db : Tables) (tables : List Table) (fit : Fit db 0 tables) where
  abbrev RaLaw : Ra → Type 0
  RaLaw a = IfOk (relation a tables) (Means db (named a tables db))

  abbrev Such : Type 0
  Such = (a : Ra) × RaLaw a

  abbrev inner : open_.Ra-F Such → open_.Ra-F Ra
  inner y = map-Ra Such Ra (λ t. t.0) y

  ra-layer : (y : open_.Ra-F Such) → IfOk (lowered.ra_step (map-Ra Ra Lowering relation (inner y)) tables) (Means db (answer.ra_step (map-Ra Ra Meaning named (inner y)) tables db))
  ra-layer (open_.Table n) = table-ok db n.text 0 tables fit
  ra-layer (open_.Select a ts) = then-ok (Means db (named a.0 tables db)) (Means db (answers.select (named a.0 tables db) (ts.head ∷ ts.tail))) (relation a.0 tables) (λ t. select t ts) a.1
      (λ t h. select-keeps t ts db (named a.0 tables db) h)
  ra-layer (open_.Project a ns) = then-ok (Means db (named a.0 tables db)) (Means db (answers.project (named a.0 tables db) (texts ns))) (relation a.0 tables) (λ t. project t (texts ns)) a.1
      (λ t h. project-keeps t (texts ns) db (named a.0 tables db) h)
  ra-layer (open_.Rename a ns) = then-ok (Means db (named a.0 tables db)) (Means db (answers.rename (named a.0 tables db) (texts ns))) (relation a.0 tables) (λ t. rename t (texts ns)) a.1
      (λ t h. rename-keeps t (texts ns) db (named a.0 tables db) h)
  ra-layer (open_.Two o a b) = then-ok (Means db (named a.0 tables db)) (Means db (answers.two o (named a.0 tables db) (named b.0 tables db))) (relation a.0 tables) (λ t. relation b.0 tables >>= λ u. two o t u) a.1
      (λ t h. then-ok (Means db (named b.0 tables db)) (Means db (answers.two o (named a.0 tables db) (named b.0 tables db))) (relation b.0 tables) (λ u. two o t u) b.1
      (λ u k. two-ok db o t u (named a.0 tables db) (named b.0 tables db) h k))

  ra-rolls : (x : open_.Ra-F Ra) → IfOk (lowered.ra_step (map-Ra Ra Lowering relation x) tables) (Means db (answer.ra_step (map-Ra Ra Meaning named x) tables db)) → RaLaw (roll-Ra x)
  ra-rolls x h =
      subst (λ (f : Lowering). IfOk (f tables) (Means db (named (roll-Ra x) tables db))) (sym (fold-roll-Ra Lowering lowered.ra_step x))
      (subst (λ (g : Meaning). IfOk (lowered.ra_step (map-Ra Ra Lowering relation x) tables) (Means db (g tables db))) (sym (fold-roll-Ra Meaning answer.ra_step x)) h)

  ra-means : (a : Ra) → RaLaw a
  ra-means = ind-Ra RaLaw (λ x y is. subst (λ z. RaLaw (roll-Ra z)) is (ra-rolls (inner y) (ra-layer y)))

abbrev AnswersAs : RaText → List Table → Tables → Typed → Type 0
AnswersAs text schema db typed = plain typed.query db ≡ answer.ra_answer text schema db

text-answers : (text : RaText) (schema : List Table) (db : Tables) → Fit db 0 schema → IfOk (ra_lowered text schema) (AnswersAs text schema db)
text-answers text schema db fit = then-ok (Means db (named text.of schema db)) (AnswersAs text schema db) (relation text.of schema) (λ r. Ok (typed_of r)) (ra-means db schema fit text.of) (λ r h. h.has.same [])

-- the query that a text becomes means what the text does
pub lowered-means : (text : RaText) (schema : List Table) → IfOk (ra_lowered text schema) (MeansSame text schema)
lowered-means text schema = by (ra_lowered text schema) (λ given keep of is. text-answers text schema (kept given.tables keep) (kept-fit schema given keep of is))
  where
    by : (r : Result Typed RaFault) → ((given : Instance) (keep : List Bool) → IsOf schema given → IsTrue (is_instance given) → IfOk r (AnswersAs text schema (kept given.tables keep))) → IfOk r (MeansSame text schema)
    by (Ok q) h = λ given keep of is. h given keep of is
    by (Err e) h = tt

pub given-means : (text : RaText) (schema : List Table) (r : Result Typed RaFault) → Gives is_memory r (ra_lowered text schema) → IfOk r (MeansSame text schema)
given-means text schema (Ok q) g = subst (λ (d : Result Typed RaFault). IfOk d (MeansSame text schema)) g (lowered-means text schema)
given-means text schema (Err e) g = tt
