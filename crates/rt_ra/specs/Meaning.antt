-- A query means what an algebra text does.
use Rattle.std.specs.Prelude.{◌≡◌, Bool, IsTrue, List}
use Rattle.rt_algebra.specs.Answer.{plain}
use Rattle.rt_algebra.specs.declared.typed.Typed.{Typed}
use Rattle.rt_ra.specs.Answer.{ra_answer}
use Rattle.rt_ra_tree.specs.declared.tree.RaText.{RaText}
use Rattle.rt_schema.specs.Given.{Instance, IsOf, is_instance}
use Rattle.rt_schema.specs.Kept.{kept}
use Rattle.rt_schema.specs.declared.table.Table.{Table}

-- on every choice of rows of every instance of the schema it answers just the rows of the text
abbrev pub MeansSame : RaText → List Table → Typed → Type 0
MeansSame text schema typed =
    (given : Instance) (keep : List Bool) → IsOf schema given → IsTrue (is_instance given)
    → plain typed.query (kept given.tables keep) ≡ ra_answer text schema (kept given.tables keep)
