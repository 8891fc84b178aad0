-- Queries that were graded, with their grades.
use Rattle.std.specs.Prelude.{◌≡◌, List}
use Rattle.std.specs.List.{All as Each}
use Rattle.rt_algebra.specs.declared.query.Query.{Query}
use Rattle.rt_algebra.specs.declared.typed.Typed.{Typed}
use Rattle.rt_algebra.specs.Typed.{IsTypedOf}
use Rattle.rt_io.specs.Ranges.{Command}
use Rattle.rt_input.specs.declared.first.First.{First}
use Rattle.rt_input.specs.Judged.{within_limit}
use Rattle.rt_grade.specs.Grades.{IsGrade, beside}
use Rattle.rt_grade.specs.declared.grade.Grade.{Grade}
use Rattle.rt_grade.specs.declared.known.Known.{Known}

-- the grade of each candidate that has this query
pub record IsQueryGrade (c : Command) (first : First) (query : Query) (grade : Grade) : Type 0 where
  pub each : (right : Typed) → IsTypedOf first.schema right → right.kinds ≡ first.left.kinds → right.query ≡ query → IsGrade (within_limit (beside c first right)) grade

abbrev pub AreKnown : Command → First → List Known → Type 0
AreKnown c first known = Each (λ k. IsQueryGrade c first k.query k.grade) known
