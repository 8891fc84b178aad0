use Rattle.std.proofs.Common.{◌∙◌, ◌≡◌, List, Bool, IsTrue, [], ap}
use Rattle.std.proofs.lemmas.Result.{IfOk-weaker}
use Rattle.rt_schema.specs.Given.{Instance, Tables, is_instance}
use Rattle.rt_schema.specs.Kept.{kept}
use Rattle.rt_algebra.specs.Answer.{answer_by, plain, has_row}
use Rattle.rt_algebra.specs.Expression.{wrapped}
use Rattle.rt_algebra.specs.Typed.{IsTyped}
use Rattle.rt_algebra.specs.declared.query.Query.{Query}
use Rattle.rt_algebra.specs.declared.typed.Typed.{Typed}
use Rattle.rt_algebra.proofs.Exact.{typed_exact}
use Rattle.rt_annot.proofs.annotation.annotate.Goals as goal

exact_on : (given : Instance) (tables : Tables) (query : Query) (typed : Typed) → query ≡ typed.query → tables ≡ given.tables → IsTrue (is_instance given) → IsTyped given.kinds typed
    → (keep : List Bool) → answer_by wrapped query (kept tables keep) [] ≡ plain typed.query (kept given.tables keep)
exact_on given tables query typed q e h t keep =
    ap (λ q. answer_by wrapped q (kept tables keep) []) q ∙ ap (λ ts. answer_by wrapped typed.query (kept ts keep) []) e ∙ typed_exact given keep typed h t

pub returns-clause-rows : goal.returns-clause-rows
returns-clause-rows c =
    IfOk-weaker c.wrapped_annotation.result _ _
    (λ a h keep r. h keep r
    ∙ ap (λ rows. has_row rows r) (exact_on c.args.given.now c.tables.result.now c.get.result.now c.args.typed.now c.get.ensures c.tables.ensures.same c.tables.ensures.sound c.requires.typed keep))
    c.wrapped_annotation.ensures.rows

pub returns-clause-entries : goal.returns-clause-entries
returns-clause-entries c =
    IfOk-weaker c.wrapped_annotation.result _ _
    (λ a h keep r. h keep r
    ∙ ap (λ rows. has_row rows r) (exact_on c.args.given.now c.tables.result.now c.get.result.now c.args.typed.now c.get.ensures c.tables.ensures.same c.tables.ensures.sound c.requires.typed keep))
    c.wrapped_annotation.ensures.entries
