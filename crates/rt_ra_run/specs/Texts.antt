-- The text of each outcome, the sink that it belongs to, and the status of the program.
use Rattle.std.specs.Prelude.{ℕ, Bool, List, [], ◌++◌, codes}
use Rattle.rt_eval.specs.Distinct.{distinct}
use Rattle.rt_io.specs.declared.place.Place.{Place}
use Rattle.rt_io.specs.declared.place.Place.TheVariants as at
use Rattle.rt_print.specs.Texts.{spent_text, witness_text}
use Rattle.rt_scope.specs.declared.fault.NameFault.TheVariants as name
use Rattle.rt_sql.specs.declared.fault.SqlFault.TheVariants as sql
use Rattle.rt_ra_tree.specs.declared.fault.RaFault.{RaFault}
use Rattle.rt_ra_tree.specs.declared.fault.RaFault.TheVariants as fault
use Rattle.rt_input.specs.declared.part.Part.{Part}
use Rattle.rt_input.specs.declared.outcome.Outcome.{Outcome}
use Rattle.rt_input.specs.declared.outcome.Outcome.TheVariants as outcome
use Rattle.rt_input.specs.declared.outcome.Spent.{Spent}
use Rattle.rt_input.specs.Texts as texts
use Rattle.rt_input.specs.Texts.{lex_text, name_text, part_text, sql_text}
use Rattle.rt_ra_run.specs.declared.asked.Asked.{Asked}
use Rattle.rt_ra_run.specs.declared.outcome.RaOutcome.{RaOutcome}
use Rattle.rt_ra_run.specs.declared.outcome.RaOutcome.TheVariants.{Verdict, Refused}
use Rattle.rt_ra_run.specs.Smallest.{answer_at}

-- errors of equal names have the text that they have in a query of SQL
abbrev pub fault_text : RaFault → List ℕ
fault_text (fault.Lex f) = lex_text f
fault_text fault.TooDeep = sql_text sql.TooDeep
fault_text (fault.Syntax at) = sql_text (sql.Syntax at)
fault_text (fault.UnknownTable n) = name_text (name.UnknownTable n)
fault_text (fault.UnknownColumn n) = name_text (name.UnknownColumn n)
fault_text (fault.DuplicateColumn n) = codes "column twice: " ++ n
fault_text fault.TypeMismatch = name_text name.TypeMismatch
fault_text fault.Columns = name_text name.Columns
fault_text fault.NoMemory = []

abbrev pub usage_text : List ℕ
usage_text = codes "usage: ratest_plus ra SCHEMA DATADIR RA1 RA2 [--conflicts N] [--work N]\n"

-- the text of a verdict that is none on the two texts; `most` is the work limit in force
abbrev pub verdict_text : ℕ → Outcome → List ℕ
verdict_text most outcome.Usage = usage_text
verdict_text most o = texts.refusal_line most o

-- the line of an algebra text that is refused
abbrev pub refused_line : Part → RaFault → List ℕ
refused_line part f = codes "ratest: " ++ (part_text part ++ (codes ": " ++ (fault_text f ++ codes "\n")))

-- the text of an outcome that is no verdict on the two texts
abbrev pub refusal_text : ℕ → RaOutcome → List ℕ
refusal_text most (Verdict o) = verdict_text most o
refusal_text most (Refused part f) = refused_line part f

-- verdicts on the two texts belong to the first sink, all other texts to the second
abbrev pub place : RaOutcome → Place
place (Verdict o) = texts.place o
place (Refused part f) = at.Err

abbrev pub status_of : RaOutcome → ℕ
status_of (Verdict o) = texts.status_of o
status_of (Refused part f) = 3

-- ---- verdicts on the two texts

abbrev pub agree_text : List ℕ
agree_text = codes "agree\n"

-- the kept rows, and the answers of the two texts on them as sets
abbrev pub witness_of : Asked → List Bool → List ℕ
witness_of a keep = witness_text a.input.schema a.input.given.tables keep (distinct (answer_at a a.left keep)) (distinct (answer_at a a.right keep))

abbrev pub spent_of : Asked → Spent → List ℕ
spent_of a s = spent_text a.input.schema a.input.given.tables s.budget s.best
