-- The outcome of a tool is the one that is judged, and over files and sinks that don't fail there
-- is no error.
use Rattle.std.proofs.Common.{◌≡◌, ◌∙◌, Bool, List, Result, Ok, Err, refl, ap, inl, inr, arith}
use Rattle.std.specs.Prelude.{◌<◌, ◌≤◌, ◌^◌, ℕ, IsOk, IsSome, IsSomeAnd, IsTrue, Option, None, Some, ⊤}
use Rattle.std.specs.Option.{ForSome}
use Rattle.rt_io.specs.Logs.{Log, NoSinkRose, at_place}
use Rattle.rt_schema.specs.Given.{places}
use Rattle.rt_io.specs.Command.{command}
use Rattle.rt_io.specs.Ranges.{Command}
use Rattle.rt_row.specs.Rows.{row_read}
use Rattle.rt_input.specs.declared.first.First.{First}
use Rattle.rt_input.specs.declared.outcome.Fault.{Fault}
use Rattle.rt_input.specs.declared.outcome.Limit.{Limit}
use Rattle.rt_input.specs.declared.outcome.Outcome.{Outcome}
use Rattle.rt_input.specs.declared.outcome.Outcome.TheVariants as outcome
use Rattle.rt_input.specs.declared.outcome.Spent.{Spent}
use Rattle.rt_input.specs.declared.part.Part.{Part}
use Rattle.rt_input.specs.Accepted.{Accepted, HasOptions}
use Rattle.rt_input.specs.Reading.{Call, ReadFaultAt}
use Rattle.rt_input.specs.Faults.{placeless}
use Rattle.rt_input.specs.declared.part.Part.TheVariants as parts
use Rattle.rt_input.specs.declared.source.Source.{Source}
use Rattle.rt_input.specs.Held.{Holding}
use Rattle.rt_input.specs.Judged.{Reaches, ReachesFirst, command_judged}
use Rattle.rt_input.proofs.RowLemmas.{named_from_reached}
use Rattle.rt_io.specs.Edge.{Rose}
use Rattle.rt_input.specs.Source.{IsKnown, Text, file_of, source_from, source_of}
use Rattle.rt_input.specs.Steps.{Failed, IsFirstPart, Seen}
use Rattle.rt_row.specs.RowVerdicts.{IsRowAnswer, Judges}
use Rattle.rt_row.specs.declared.outcome.RowVerdict.{RowVerdict}
use Rattle.rt_row.specs.declared.outcome.RowVerdict.TheVariants as rows
use Rattle.rt_grade.specs.declared.grade.Grade.{Grade}
use Rattle.rt_grade.specs.GradeAnswers.{AreGradedBy, FailsToRead, RefusesList, Stops, StopsFirst, StopsOf}
use Rattle.rt_grade.specs.GradeWords.{grade_words}
use Rattle.rt_grade.specs.declared.grade_fault.GradeFault.{GradeFault}
use Rattle.rt_grade.specs.declared.grade_fault.GradeFault.TheVariants as faults
use Rattle.rt_grade.specs.declared.grade_words.GradeWords.{GradeWords}
use Rattle.rt_tools.specs.declared.outcome.ToolOutcome.{ToolOutcome}
use Rattle.rt_tools.specs.declared.outcome.ToolOutcome.TheVariants.{RowWitness, RowNever, RowSpent, RowRefused, BadList, TooManyPaths, ListLong, FileRead, Grades, Verdict}
use Rattle.rt_tools.specs.Answers.{Ends, EndsGrades, StopsTool, in_tools, with_words}
use Rattle.rt_writing.specs.Writing.{WritesTo}
use Rattle.rt_writing.proofs.WriteLemmas.{no_sink_fault, spoken}
use Rattle.rt_tools.specs.Judged.{HasRoomFor, IsAsJudged, IsNoFault, IsToldTool, IsUsageOrFault, NamesPart, NoNamedRose, IsGradeFile, cells_refusal, grade_refusal, list_refusal, paths_refusal, refusal_of, row_refusal}
use Rattle.rt_tools.specs.Outcomes.{of_fault}
use Rattle.rt_tools.specs.Texts.{fault_line, place}
use Rattle.rt_tools.specs.Words.{IsGradeAnd, IsRowAnd, IsUsage, Tool, grade, neither, row, tool_of}

known : (tells : Bool) (k : Command) → IsTrue tells → IsKnown tells (source_of k)
known tells k told = by_case k.made
  where
    by_case : (made : Option ℕ) → IsKnown tells (source_from made k.paths)
    by_case None = told
    by_case (Some n) = tt

-- ---- a row

-- what a verdict on a row says of refusals
abbrev refused_row : RowVerdict → Option ToolOutcome
refused_row (rows.Witness keep) = None
refused_row rows.Never = None
refused_row (rows.Spent s) = None
refused_row (rows.Refused fault) = Some (RowRefused fault)

of_cells : (input : Accepted) (text : Text) (v : RowVerdict) → Judges input text v → cells_refusal (row_read text input.left.kinds) ≡ refused_row v
of_cells input text (rows.Witness keep) j = ap cells_refusal j.1
of_cells input text rows.Never j = ap cells_refusal j.1
of_cells input text (rows.Spent s) j = ap cells_refusal j.1
of_cells input text (rows.Refused fault) j = ap cells_refusal j.1

of_row : (c : Call) (t : Tool) (v : RowVerdict) (said : Text) → IsRowAnd t (λ text args. IsRowAnswer (with_words c args) text (record { verdict = v; text = said }))
    → IsToldTool c t → refusal_of t c.files.held ≡ refused_row v
of_row c (row text args) v said answer told = ap (row_refusal text) (answer.read.told told) ∙ of_cells answer.input text v answer.judges
of_row c (grade args) v said answer told = absurd answer
of_row c neither v said answer told = absurd answer

-- ---- a list of candidates

of_paths : (first : Result First Outcome) (list : Result (List Text) GradeFault) (fault : GradeFault) → IsOk first → list ≡ Err fault
    → list_refusal list first ≡ Some (of_fault fault)
of_paths (Ok first) list fault ok is = ap paths_refusal is
of_paths (Err o) list fault ok is = absurd (cc)

of_list : (s : Seen) (fault : GradeFault) (w : Option GradeWords) → IsSomeAnd w (RefusesList s fault) → IsTrue s.tells → grade_refusal s.held w ≡ Some (of_fault fault)
of_list s fault None refuses told = absurd refuses
of_list s fault (Some w) refuses told = of_paths _ _ fault (refuses.accepted told) (refuses.judged told)

no_refusal : (first : Result First Outcome) (list : Result (List Text) GradeFault) (paths : List Text) → IsOk first → list ≡ Ok paths → list_refusal list first ≡ None
no_refusal (Ok first) list paths ok is = ap paths_refusal is
no_refusal (Err o) list paths ok is = absurd (cc)

of_grades : (c : Call) (t : Tool) (grades : List Grade) (said : Text) → IsGradeAnd t (EndsGrades c grades said) → IsToldTool c t → refusal_of t c.files.held ≡ None
of_grades c (row text args) grades said ends told = absurd ends
of_grades c (grade args) grades said ends told = by_words (grade_words args) ends.graded
  where
    by_words : (w : Option GradeWords) → IsSomeAnd w (AreGradedBy c.files (record { paths = ends.paths; grades = grades })) → grade_refusal c.files.held w ≡ None
    by_words None graded = absurd graded
    by_words (Some w) graded = no_refusal _ _ ends.paths (graded.accepted told) (graded.listed told)
of_grades c neither grades said ends told = absurd ends

-- ---- what `ratest` too ends with

of_usage : (c : Call) (t : Tool) → IsUsage t → refusal_of t c.files.held ≡ Some (Verdict outcome.Usage)
of_usage c (row text args) is = ap (λ k. row_refusal text (command_judged c.files.held k)) is
of_usage c (grade args) is = ap (grade_refusal c.files.held) is
of_usage c neither is = refl

first_refused : (s : Seen) (part : Part) (fault : Fault) (w : Option GradeWords) → IsSomeAnd w (StopsFirst s (outcome.Refused part fault)) → IsTrue s.tells
    → grade_refusal s.held w ≡ Some (Verdict (outcome.Refused part (placeless fault)))
first_refused s part fault None stops told = absurd stops
first_refused s part fault (Some w) stops told = ap (list_refusal _) (stops.stops.1 (known s.tells w.command told))

of_refused : (c : Call) (part : Part) (fault : Fault) (said : Text) (t : Tool) → StopsTool c (outcome.Refused part fault) said t → IsToldTool c t
    → refusal_of t c.files.held ≡ Some (Verdict (outcome.Refused part (placeless fault)))
of_refused c part fault said (row text args) stops told = ap (row_refusal text) (stops.0.2 told)
of_refused c part fault said (grade args) stops told = first_refused c.files part fault (grade_words args) stops.0 told
of_refused c part fault said neither stops told = absurd stops

first_limited : (s : Seen) (limit : Limit) (w : Option GradeWords) → IsSomeAnd w (StopsFirst s (outcome.Limit limit)) → IsTrue s.tells
    → grade_refusal s.held w ≡ Some (Verdict (outcome.Limit limit))
first_limited s limit None stops told = absurd stops
first_limited s limit (Some w) stops told = ap (list_refusal _) (stops.stops.1 (known s.tells w.command told))

of_limited : (c : Call) (limit : Limit) (said : Text) (t : Tool) → StopsTool c (outcome.Limit limit) said t → IsToldTool c t
    → refusal_of t c.files.held ≡ Some (Verdict (outcome.Limit limit))
of_limited c limit said (row text args) stops told = ap (row_refusal text) (stops.0.1 told)
of_limited c limit said (grade args) stops told = first_limited c.files limit (grade_words args) stops.0 told
of_limited c limit said neither stops told = absurd stops

-- ---- each outcome

of_fault_list : (c : Call) (fault : GradeFault) (said : Text) (t : Tool) → (IsGradeAnd t (λ args. IsSomeAnd (grade_words args) (RefusesList c.files fault))) → IsToldTool c t
    → refusal_of t c.files.held ≡ Some (of_fault fault)
of_fault_list c fault said (row text args) stops told = absurd stops
of_fault_list c fault said (grade args) stops told = of_list c.files fault (grade_words args) stops told
of_fault_list c fault said neither stops told = absurd stops

-- the arguments of a list that is too long are those of a list that is refused
long_refused : (c : Call) (t : Tool) (said : Text) → IsGradeAnd t (λ args. Stops (with_words c args) faults.ListLong × (said ≡ fault_line faults.ListLong))
    → IsGradeAnd t (λ args. IsSomeAnd (grade_words args) (RefusesList c.files faults.ListLong))
long_refused c (row text args) said ends = ends
long_refused c (grade args) said ends = by_words (grade_words args) ends.0
  where
    by_words : (w : Option GradeWords) → IsSomeAnd w (StopsOf c.files faults.ListLong) → IsSomeAnd w (RefusesList c.files faults.ListLong)
    by_words None stops = stops
    by_words (Some w) stops = stops.1
long_refused c neither said ends = ends

own_refused : (c : Call) (fault : GradeFault) (t : Tool) (said : Text) → IsGradeAnd t (λ args. IsSomeAnd (grade_words args) (RefusesList c.files fault) × (said ≡ fault_line fault))
    → IsGradeAnd t (λ args. IsSomeAnd (grade_words args) (RefusesList c.files fault))
own_refused c fault (row text args) said ends = ends
own_refused c fault (grade args) said ends = ends.0
own_refused c fault neither said ends = ends

pub as_judged : (c : Call) (o : ToolOutcome) (said : Text) → Ends c o said → IsToldTool c (tool_of c.words) → IsAsJudged (refusal_of (tool_of c.words) c.files.held) o
as_judged c (RowWitness keep) said ends told = of_row c _ (rows.Witness keep) said ends told
as_judged c RowNever said ends told = of_row c _ rows.Never said ends told
as_judged c (RowSpent s) said ends told = of_row c _ (rows.Spent s) said ends told
as_judged c (RowRefused fault) said ends told = of_row c _ (rows.Refused fault) said ends told
as_judged c (BadList at) said ends told = of_fault_list c (faults.BadList at) said _ (own_refused c (faults.BadList at) _ said ends) told
as_judged c TooManyPaths said ends told = of_fault_list c faults.TooManyPaths said _ (own_refused c faults.TooManyPaths _ said ends) told
as_judged c ListLong said ends told = of_fault_list c faults.ListLong said _ (long_refused c _ said ends) told
as_judged c (FileRead name) said ends told = tt
as_judged c (Grades grades) said ends told = of_grades c _ grades said ends told
as_judged c (Verdict outcome.Agree) said ends told = ends
as_judged c (Verdict (outcome.Witness keep)) said ends told = ends
as_judged c (Verdict outcome.Usage) said ends told = of_usage c _ ends.0
as_judged c (Verdict (outcome.Refused part fault)) said ends told = of_refused c part fault said _ ends told
as_judged c (Verdict (outcome.Spent s)) said ends told = ends
as_judged c (Verdict (outcome.Limit limit)) said ends told = of_limited c limit said _ ends told
as_judged c (Verdict (outcome.ReadFault part)) said ends told = tt
as_judged c (Verdict outcome.WriteFault) said ends told = tt
as_judged c (Verdict outcome.NoMemory) said ends told = tt

-- ---- arguments of no tool

not_none : {T : Type 0} (P : T → Type 0) (o : Option T) → IsSomeAnd o P → o ≡ None → ⊥
not_none P None is none = is
not_none P (Some x) is none = cc

not_nothing : {T : Type 0} (o : Option T) → IsSome o → o ≡ None → ⊥
not_nothing None is none = cc
not_nothing (Some x) is none = cc

no_row : (c : Call) (t : Tool) (v : RowVerdict) (said : Text) → IsRowAnd t (λ text args. IsRowAnswer (with_words c args) text (record { verdict = v; text = said })) → IsUsage t → ⊥
no_row c (row text args) v said answer none = not_none (λ k. HasOptions k answer.input) (command args) answer.read.options none
no_row c (grade args) v said answer none = answer
no_row c neither v said answer none = answer

no_stop : (c : Call) (fault : GradeFault) (t : Tool) (said : Text) → IsGradeAnd t (λ args. IsSomeAnd (grade_words args) (StopsOf c.files fault) × (said ≡ fault_line fault)) → IsUsage t → ⊥
no_stop c fault (row text args) said ends none = ends
no_stop c fault (grade args) said ends none = not_none (StopsOf c.files fault) (grade_words args) ends.0 none
no_stop c fault neither said ends none = ends

no_grades : (c : Call) (t : Tool) (grades : List Grade) (said : Text) → IsGradeAnd t (EndsGrades c grades said) → IsUsage t → ⊥
no_grades c (row text args) grades said ends none = ends
no_grades c (grade args) grades said ends none = not_none (AreGradedBy c.files (record { paths = ends.paths; grades = grades })) (grade_words args) ends.graded none
no_grades c neither grades said ends none = ends

no_refused : (c : Call) (part : Part) (fault : Fault) (said : Text) (t : Tool) → StopsTool c (outcome.Refused part fault) said t → IsUsage t → ⊥
no_refused c part fault said (row text args) stops none = not_nothing (command args) stops.0.0 none
no_refused c part fault said (grade args) stops none = not_none (StopsFirst c.files (outcome.Refused part fault)) (grade_words args) stops.0 none
no_refused c part fault said neither stops none = stops

no_limited : (c : Call) (limit : Limit) (said : Text) (t : Tool) → StopsTool c (outcome.Limit limit) said t → IsUsage t → ⊥
no_limited c limit said (row text args) stops none = not_none _ (command args) stops.0.0 none
no_limited c limit said (grade args) stops none = not_none (StopsFirst c.files (outcome.Limit limit)) (grade_words args) stops.0 none
no_limited c limit said neither stops none = stops

no_failed : (c : Call) (part : Part) (said : Text) (t : Tool) → StopsTool c (outcome.ReadFault part) said t → IsUsage t → ⊥
no_failed c part said (row text args) stops none = not_none (ReadFaultAt c.files part) (command args) stops.0 none
no_failed c part said (grade args) stops none = not_none (StopsFirst c.files (outcome.ReadFault part)) (grade_words args) stops.0 none
no_failed c part said neither stops none = stops

pub usage_ends : (c : Call) (o : ToolOutcome) (said : Text) → Ends c o said → IsUsage (tool_of c.words) → IsUsageOrFault o
usage_ends c (RowWitness keep) said ends none = no_row c _ (rows.Witness keep) said ends none
usage_ends c RowNever said ends none = no_row c _ rows.Never said ends none
usage_ends c (RowSpent s) said ends none = no_row c _ (rows.Spent s) said ends none
usage_ends c (RowRefused fault) said ends none = no_row c _ (rows.Refused fault) said ends none
usage_ends c (BadList at) said ends none = no_stop c (faults.BadList at) _ said ends none
usage_ends c TooManyPaths said ends none = no_stop c faults.TooManyPaths _ said ends none
usage_ends c ListLong said ends none = no_stop c faults.ListLong _ said ends none
usage_ends c (FileRead name) said ends none = no_stop c (faults.FileRead name) _ said ends none
usage_ends c (Grades grades) said ends none = no_grades c _ grades said ends none
usage_ends c (Verdict outcome.Agree) said ends none = ends
usage_ends c (Verdict (outcome.Witness keep)) said ends none = ends
usage_ends c (Verdict outcome.Usage) said ends none = tt
usage_ends c (Verdict (outcome.Refused part fault)) said ends none = no_refused c part fault said _ ends none
usage_ends c (Verdict (outcome.Spent s)) said ends none = ends
usage_ends c (Verdict (outcome.Limit limit)) said ends none = no_limited c limit said _ ends none
usage_ends c (Verdict (outcome.ReadFault part)) said ends none = no_failed c part said _ ends none
usage_ends c (Verdict outcome.WriteFault) said ends none = tt
usage_ends c (Verdict outcome.NoMemory) said ends none = tt

-- ---- where nothing fails

no_room : (conflicts : Option ℕ) (budget most : ℕ) → conflicts ≡ Some budget → budget < most → ForSome conflicts (λ b. most ≤ b) → ⊥
no_room None budget most is small room = cc
no_room (Some b) budget most is small room = let same : b ≡ budget = cc in omega (arith, same, small, room)

not_spent : (c : Call) (t : Tool) (s : Spent) (said : Text) → IsRowAnd t (λ text args. IsRowAnswer (with_words c args) text (record { verdict = rows.Spent s; text = said })) → HasRoomFor c t → ⊥
not_spent c (row text args) s said answer room =
    no_room answer.input.conflicts s.budget (2 ^ places answer.input.given.tables) answer.judges.2.0 answer.judges.2.1.small (room answer.input answer.read)
not_spent c (grade args) s said answer room = answer
not_spent c neither s said answer room = answer

-- the file of a part that the reading comes to is one that is named
names_part : (s : Seen) (source : Source) (Among : Part → Type 0) (part : Part) → Among part → (IsKnown s.tells source → Reaches source s.held part)
    → ((name : Text) → NamesPart s source Among name → Rose (s.before name) (s.after name) → ⊥) → Failed s (file_of source part) → ⊥
names_part s source Among part among reached calm failed = by_name (file_of source part) refl failed
  where
    by_name : (o : Option Text) → file_of source part ≡ o → Failed s o → ⊥
    by_name None is rose = rose
    by_name (Some name) is rose = calm name (record { part = part; among = among; file = is; named = λ k. named_from_reached source s.held part (reached k) }) rose

first_is_reached : (source : Source) (held : Holding) (part : Part) → ReachesFirst source held part → Reaches source held part
first_is_reached source held parts.Schema reached = tt
first_is_reached source held (parts.Table at name) reached = reached
first_is_reached source held parts.Query1 reached = reached
first_is_reached source held parts.Query2 reached = absurd reached
first_is_reached source held parts.Queries reached = absurd reached

row_calm : (c : Call) (part : Part) (o : Option Command) → IsSomeAnd o (ReadFaultAt c.files part)
    → ((name : Text) → IsSomeAnd o (λ k. NamesPart c.files (source_of k) (λ p. ⊤) name) → Rose (c.files.before name) (c.files.after name) → ⊥) → ⊥
row_calm c part None at calm = at
row_calm c part (Some k) at calm = names_part c.files (source_of k) (λ p. ⊤) part tt at.reached calm at.failed

grade_calm : (c : Call) (part : Part) (o : Option GradeWords) → IsSomeAnd o (StopsFirst c.files (outcome.ReadFault part))
    → ((name : Text) → IsSomeAnd o (IsGradeFile c.files name) → Rose (c.files.before name) (c.files.after name) → ⊥) → ⊥
grade_calm c part None at calm = at
grade_calm c part (Some w) at calm =
    names_part c.files (source_of w.command) IsFirstPart part at.speaks (λ k. first_is_reached (source_of w.command) c.files.held part (at.stops.1 k)) (λ name named. calm name (inl named)) at.stops.0

not_failed : (c : Call) (part : Part) (said : Text) (t : Tool) → StopsTool c (outcome.ReadFault part) said t → NoNamedRose c t → ⊥
not_failed c part said (row text args) stops calm = row_calm c part (command args) stops.0 calm
not_failed c part said (grade args) stops calm = grade_calm c part (grade_words args) stops.0 calm
not_failed c part said neither stops calm = stops

list_calm : (c : Call) (name : Text) (o : Option GradeWords) → IsSomeAnd o (FailsToRead c.files name)
    → ((name : Text) → IsSomeAnd o (IsGradeFile c.files name) → Rose (c.files.before name) (c.files.after name) → ⊥) → ⊥
list_calm c name None fails calm = fails
list_calm c name (Some w) fails calm = calm name (inr fails.named) fails.rose

not_unread : (c : Call) (name : Text) (said : Text) (t : Tool) → IsGradeAnd t (λ args. IsSomeAnd (grade_words args) (StopsOf c.files (faults.FileRead name)) × (said ≡ fault_line (faults.FileRead name)))
    → NoNamedRose c t → ⊥
not_unread c name said (row text args) ends calm = ends
not_unread c name said (grade args) ends calm = list_calm c name (grade_words args) ends.0 calm
not_unread c name said neither ends calm = ends

no_fault : (c : Call) (o : ToolOutcome) (said : Text) → Ends c o said → NoNamedRose c (tool_of c.words) → HasRoomFor c (tool_of c.words) → IsNoFault o
no_fault c (RowWitness keep) said ends calm room = tt
no_fault c RowNever said ends calm room = tt
no_fault c (RowSpent s) said ends calm room = not_spent c _ s said ends room
no_fault c (RowRefused fault) said ends calm room = tt
no_fault c (BadList at) said ends calm room = tt
no_fault c TooManyPaths said ends calm room = tt
no_fault c ListLong said ends calm room = tt
no_fault c (FileRead name) said ends calm room = not_unread c name said _ ends calm
no_fault c (Grades grades) said ends calm room = tt
no_fault c (Verdict outcome.Agree) said ends calm room = tt
no_fault c (Verdict (outcome.Witness keep)) said ends calm room = tt
no_fault c (Verdict outcome.Usage) said ends calm room = tt
no_fault c (Verdict (outcome.Refused part fault)) said ends calm room = tt
no_fault c (Verdict (outcome.Spent s)) said ends calm room = tt
no_fault c (Verdict (outcome.Limit limit)) said ends calm room = tt
no_fault c (Verdict (outcome.ReadFault part)) said ends calm room = not_failed c part said _ ends calm
no_fault c (Verdict outcome.WriteFault) said ends calm room = ends
no_fault c (Verdict outcome.NoMemory) said ends calm room = tt

-- ---- what was written of it

module _ (c : Call) (out err : Log) (o : ToolOutcome) (said : Text) (result : ToolOutcome) (ends : Ends c o said) (wrote : WritesTo in_tools (at_place (place o) out err) o said result) where
  pub written_as_judged : IsToldTool c (tool_of c.words) → IsAsJudged (refusal_of (tool_of c.words) c.files.held) result
  written_as_judged told = spoken in_tools (IsAsJudged (refusal_of (tool_of c.words) c.files.held)) (at_place (place o) out err) o said result (λ b. tt) tt (as_judged c o said ends told) wrote

  pub written_usage : IsUsage (tool_of c.words) → IsUsageOrFault result
  written_usage none = spoken in_tools IsUsageOrFault (at_place (place o) out err) o said result (λ b. tt) tt (usage_ends c o said ends none) wrote

  pub written_complete : NoNamedRose c (tool_of c.words) → NoSinkRose out err → HasRoomFor c (tool_of c.words) → IsNoFault result
  written_complete calm sinks room =
      spoken in_tools IsNoFault (at_place (place o) out err) o said result (λ b. absurd (no_sink_fault out err (place o) sinks b)) tt (no_fault c o said ends calm room) wrote
