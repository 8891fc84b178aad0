-- The verdicts on a row, and what stops a call that grades, as outcomes of a tool.
use Rattle.rt_row.specs.declared.outcome.RowVerdict.{RowVerdict}
use Rattle.rt_row.specs.declared.outcome.RowVerdict.TheVariants as row
use Rattle.rt_grade.specs.declared.grade_fault.GradeFault.{GradeFault}
use Rattle.rt_grade.specs.declared.grade_fault.GradeFault.TheVariants as grade
use Rattle.rt_tools.specs.declared.outcome.ToolOutcome.{ToolOutcome}
use Rattle.rt_tools.specs.declared.outcome.ToolOutcome.TheVariants.{RowWitness, RowNever, RowSpent, RowRefused, BadList, TooManyPaths, ListLong, FileRead, Verdict}

abbrev pub of_verdict : RowVerdict → ToolOutcome
of_verdict (row.Witness keep) = RowWitness keep
of_verdict row.Never = RowNever
of_verdict (row.Spent s) = RowSpent s
of_verdict (row.Refused fault) = RowRefused fault

abbrev pub of_fault : GradeFault → ToolOutcome
of_fault (grade.BadList at) = BadList at
of_fault grade.TooManyPaths = TooManyPaths
of_fault grade.ListLong = ListLong
of_fault (grade.FileRead name) = FileRead name
of_fault (grade.Verdict o) = Verdict o
