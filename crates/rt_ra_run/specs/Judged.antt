-- What is asked by a command, or the first refusal in the order of its parts: the arguments, the
-- schema, the tables in schema order, query 1, query 2, the pair of queries, the work.
use Rattle.std.specs.Prelude.{List, [], ◌∷◌, Option, None, Some, Result, Ok, Err, IsOk, IsOkAnd, ⊤}
use Rattle.rt_schema.specs.declared.table.Table.{Table}
use Rattle.rt_token.specs.Lexed.{lexed}
use Rattle.rt_token.specs.declared.token.Token.{Token}
use Rattle.rt_ra_tree.specs.Whole.{ra_read}
use Rattle.rt_ra_tree.specs.declared.fault.RaFault.TheVariants as fault
use Rattle.rt_ra_tree.specs.declared.tree.RaText.{RaText}
use Rattle.rt_ra.specs.Lowered.{ra_lowered}
use Rattle.rt_input.specs.declared.outcome.Outcome.{Outcome}
use Rattle.rt_input.specs.declared.outcome.Outcome.TheVariants as outcome
use Rattle.rt_input.specs.declared.part.Part.{Part}
use Rattle.rt_input.specs.declared.part.Part.TheVariants as parts
use Rattle.rt_input.specs.declared.tables.Tables.{Tables}
use Rattle.rt_input.specs.Accepted.{Accepted}
use Rattle.rt_input.specs.Judged as top
use Rattle.rt_input.specs.Judged.{Data, like_left, then_read, within_limit}
use Rattle.rt_input.specs.Held.{Holding, text_of}
use Rattle.rt_input.specs.Source.{Text, file_of, source_from, tables_in}
use Rattle.rt_ra_run.specs.declared.asked.Asked.{Asked}
use Rattle.rt_ra_run.specs.declared.command.RaCommand.{RaCommand}
use Rattle.rt_ra_run.specs.declared.outcome.RaOutcome.{RaOutcome}
use Rattle.rt_ra_run.specs.declared.outcome.RaOutcome.TheVariants.{Verdict}
use Rattle.rt_ra_run.specs.declared.query.Lowered.{Lowered}
use Rattle.rt_ra_run.specs.Faults.{fault_outcome, or_outcome}
use Rattle.rt_ra_run.specs.Words.{ra_command}

-- the paths of a command, the name of the file of a part, and the texts of the parts
abbrev pub paths_of : RaCommand → List Text
paths_of k = k.schema ∷ k.dir ∷ k.query1 ∷ k.query2 ∷ []

abbrev pub file_at : RaCommand → Part → Option Text
file_at k part = file_of (source_from None (paths_of k)) part

abbrev pub texts_of : RaCommand → Holding → Part → Result Text Outcome
texts_of k held part = text_of (source_from None (paths_of k)) held part

-- ---- one query

-- a tree, and the query that it becomes
abbrev pub query_of_tree : Part → List Table → RaText → Result Lowered RaOutcome
query_of_tree part schema text = then_read (or_outcome (fault_outcome part) (ra_lowered text schema)) (λ typed. Ok (record { text = text; typed = typed }))

abbrev pub query_of_tokens : Part → List Table → List Token → Result Lowered RaOutcome
query_of_tokens part schema tokens = then_read (or_outcome (fault_outcome part) (ra_read tokens)) (query_of_tree part schema)

abbrev pub query_of : Part → List Table → Text → Result Lowered RaOutcome
query_of part schema text = then_read (or_outcome (λ f. fault_outcome part (fault.Lex f)) (lexed text)) (query_of_tokens part schema)

-- ---- the parts of a command

abbrev pub data_judged : RaCommand → Holding → Result Data RaOutcome
data_judged k held = or_outcome Verdict (top.data_judged (tables_in k.schema k.dir) held)

abbrev pub text_judged : RaCommand → Holding → Part → Result Text RaOutcome
text_judged k held part = or_outcome Verdict (texts_of k held part)

abbrev pub query_judged : RaCommand → Holding → Part → List Table → Result Lowered RaOutcome
query_judged k held part schema = then_read (text_judged k held part) (query_of part schema)

-- the second query, where its columns are as the first's
abbrev pub beside : Lowered → Lowered → Result Lowered RaOutcome
beside left right = then_read (or_outcome Verdict (like_left left.typed right.typed)) (λ typed. Ok right)

abbrev pub right_judged : RaCommand → Holding → List Table → Lowered → Result Lowered RaOutcome
right_judged k held schema left = then_read (query_judged k held parts.Query2 schema) (beside left)

-- ---- all of it

abbrev pub data_in : Tables → Data
data_in t = record { schema = t.schema; given = t.given }

abbrev pub input_of : RaCommand → Data → Lowered → Lowered → Accepted
input_of k d left right = record { schema = d.schema; given = d.given; left = left.typed; right = right.typed; conflicts = k.conflicts; work_limit = k.work_limit; made = None }

abbrev pub asked_of : RaCommand → Data → Lowered → Lowered → Asked
asked_of k d left right = record { input = input_of k d left right; left = left.text; right = right.text }

abbrev pub within_judged : Asked → Result Asked RaOutcome
within_judged a = then_read (or_outcome Verdict (within_limit a.input)) (λ same. Ok a)

abbrev pub queries_judged : RaCommand → Holding → Data → Result Asked RaOutcome
queries_judged k held d =
    then_read (query_judged k held parts.Query1 d.schema) (λ left.
    then_read (right_judged k held d.schema left) (λ right.
    within_judged (asked_of k d left right)))

abbrev pub asked_judged : RaCommand → Holding → Result Asked RaOutcome
asked_judged k held = then_read (data_judged k held) (queries_judged k held)

abbrev pub command_judged : Option RaCommand → Holding → Result Asked RaOutcome
command_judged None held = Err (Verdict outcome.Usage)
command_judged (Some k) held = asked_judged k held

abbrev pub ra_judged : List Text → Holding → Result Asked RaOutcome
ra_judged words held = command_judged (ra_command words) held

-- ---- how far the reading comes

-- of the two queries, where the schema and the tables are read
abbrev pub QueryReached : RaCommand → Holding → Data → Part → Type 0
QueryReached k held d parts.Schema = ⊥
QueryReached k held d (parts.Table at name) = ⊥
QueryReached k held d parts.Query1 = ⊤
QueryReached k held d parts.Query2 = IsOk (query_judged k held parts.Query1 d.schema)
QueryReached k held d parts.Queries = ⊥

-- the reading comes to this part with no refusal before it
abbrev pub Reaches : RaCommand → Holding → Part → Type 0
Reaches k held parts.Schema = ⊤
Reaches k held (parts.Table at name) = top.Reaches (tables_in k.schema k.dir) held (parts.Table at name)
Reaches k held parts.Query1 = IsOk (data_judged k held)
Reaches k held parts.Query2 = IsOkAnd (data_judged k held) (λ d. IsOk (query_judged k held parts.Query1 d.schema))
Reaches k held parts.Queries = ⊥
