-- From what is said of a row or of a list of candidates to the outcome of the call.
use Rattle.std.proofs.Common.{◌≡◌, ◌∙◌, ◌≤◌, ◌-◌, Bool, true, List, [], ◌∷◌, Result, Ok, Err, length, take, drop, get_or, refl, sym, ap, subst, inl, inr, arith}
use Rattle.std.proofs.lemmas.List.{take_all}
use Rattle.std.specs.Prelude.{IfOk, codes}
use Rattle.std.specs.Str.{bytes_eq}
use Rattle.rt_io.specs.Command.{command}
use Rattle.rt_input.specs.declared.outcome.Outcome.{Outcome}
use Rattle.rt_input.specs.declared.outcome.Outcome.TheVariants as outcome
use Rattle.rt_input.specs.Reading.{Call, Stop, limit_of}
use Rattle.rt_input.specs.Source.{Text}
use Rattle.rt_value.specs.declared.no_memory.NoMemory.{NoMemory}
use Rattle.rt_tools.specs.declared.run.ToolAnswer.{ToolAnswer}
use Rattle.rt_row.specs.RowVerdicts.{IsRowAnswer}
use Rattle.rt_row.specs.declared.outcome.RowVerdict.{RowVerdict}
use Rattle.rt_row.specs.declared.outcome.RowVerdict.TheVariants as rows
use Rattle.rt_grade.specs.GradeAnswers.{Stops}
use Rattle.rt_grade.specs.declared.grade_fault.GradeFault.{GradeFault}
use Rattle.rt_grade.specs.declared.grade_fault.GradeFault.TheVariants as faults
use Rattle.rt_tools.specs.declared.outcome.ToolOutcome.{ToolOutcome}
use Rattle.rt_tools.specs.declared.outcome.ToolOutcome.TheVariants.{Verdict}
use Rattle.rt_tools.specs.Answers.{Ends, EndsGrades, EndsGrading, IsOwn, SaysGrade, SaysRow, StopsTool, with_words}
use Rattle.rt_tools.specs.Outcomes.{of_fault, of_verdict}
use Rattle.rt_tools.specs.Texts.{fault_line, verdict_text}
use Rattle.rt_tools.specs.Words.{IsGradeAnd, IsRowAnd, IsUsage, Tool, grade, row, tool_of}

-- ---- the arguments

pub row_words : (first text : Text) (args : List Text) → bytes_eq first (codes "row") ≡ true → tool_of (first ∷ text ∷ args) ≡ row text args
row_words first text args is = rw is refl

-- ---- a row

module _ (c : Call) (text : Text) (args : List Text) (is : tool_of c.words ≡ row text args) where
  found : (verdict : RowVerdict) (said : Text) → IsRowAnswer (with_words c args) text (record { verdict = verdict; text = said }) → Ends c (of_verdict verdict) said
  found (rows.Witness keep) said answer = subst (λ (t : Tool). IsRowAnd t (λ text args. IsRowAnswer (with_words c args) text (record { verdict = rows.Witness keep; text = said }))) (sym is) answer
  found rows.Never said answer = subst (λ (t : Tool). IsRowAnd t (λ text args. IsRowAnswer (with_words c args) text (record { verdict = rows.Never; text = said }))) (sym is) answer
  found (rows.Spent s) said answer = subst (λ (t : Tool). IsRowAnd t (λ text args. IsRowAnswer (with_words c args) text (record { verdict = rows.Spent s; text = said }))) (sym is) answer
  found (rows.Refused fault) said answer = subst (λ (t : Tool). IsRowAnd t (λ text args. IsRowAnswer (with_words c args) text (record { verdict = rows.Refused fault; text = said }))) (sym is) answer

  stopped : (o : Outcome) (said : Text) → Stop (with_words c args) o → (o ≡ outcome.NoMemory → ⊥) → said ≡ verdict_text (limit_of (command args)) o → Ends c (Verdict o) said
  stopped outcome.Agree said stop other says = absurd stop
  stopped (outcome.Witness keep) said stop other says = absurd stop
  stopped outcome.Usage said stop other says = (subst IsUsage (sym is) stop, says)
  stopped (outcome.Refused part fault) said stop other says = subst (StopsTool c (outcome.Refused part fault) said) (sym is) (stop, says)
  stopped (outcome.Spent s) said stop other says = absurd stop
  stopped (outcome.Limit l) said stop other says = subst (StopsTool c (outcome.Limit l) said) (sym is) (stop, says)
  stopped (outcome.ReadFault part) said stop other says = subst (StopsTool c (outcome.ReadFault part) said) (sym is) (stop, says)
  stopped outcome.WriteFault said stop other says = absurd stop
  stopped outcome.NoMemory said stop other says = absurd (other refl)

  pub row_ends : (o : ToolOutcome) (said : Text) → SaysRow (with_words c args) text o said → Ends c o said
  row_ends o said says = elim says [
    | inl h ↦ subst (λ (o : ToolOutcome). Ends c o said) (sym h.1) (found h.0 said h.2)
    | inr h ↦ subst (λ (o : ToolOutcome). Ends c o said) (sym h.2.0) (stopped h.0 said h.1 h.2.1 h.2.2)
  ]

-- ---- a list of candidates

module _ (c : Call) (args : List Text) (is : tool_of c.words ≡ grade args) where
  grading : (fault : GradeFault) (said : Text) → Stops (with_words c args) fault → said ≡ fault_line fault → EndsGrading c fault said
  grading fault said stop says = subst (λ (t : Tool). IsGradeAnd t (λ args. Stops (with_words c args) fault × (said ≡ fault_line fault))) (sym is) (stop, says)

  own : (fault : GradeFault) (said : Text) → IsOwn fault → Stops (with_words c args) fault → said ≡ fault_line fault → Ends c (of_fault fault) said
  own (faults.BadList at) said o stop says = grading (faults.BadList at) said stop says
  own faults.TooManyPaths said o stop says = grading faults.TooManyPaths said stop says
  own faults.ListLong said o stop says = grading faults.ListLong said stop says
  own (faults.FileRead name) said o stop says = grading (faults.FileRead name) said stop says
  own (faults.Verdict v) said o stop says = absurd o

  stopped_list : (o : Outcome) (said : Text) → Stops (with_words c args) (faults.Verdict o) → (o ≡ outcome.NoMemory → ⊥) → said ≡ verdict_text (limit_of (command args)) o → Ends c (Verdict o) said
  stopped_list outcome.Agree said stop other says = absurd stop
  stopped_list (outcome.Witness keep) said stop other says = absurd stop
  stopped_list outcome.Usage said stop other says = (subst IsUsage (sym is) stop, says)
  stopped_list (outcome.Refused part fault) said stop other says = subst (StopsTool c (outcome.Refused part fault) said) (sym is) (stop, says)
  stopped_list (outcome.Spent s) said stop other says = absurd stop
  stopped_list (outcome.Limit l) said stop other says = subst (StopsTool c (outcome.Limit l) said) (sym is) (stop, says)
  stopped_list (outcome.ReadFault part) said stop other says = subst (StopsTool c (outcome.ReadFault part) said) (sym is) (stop, says)
  stopped_list outcome.WriteFault said stop other says = absurd stop
  stopped_list outcome.NoMemory said stop other says = absurd (other refl)

  pub grade_ends : (o : ToolOutcome) (said : Text) → SaysGrade (with_words c args) o said → Ends c o said
  grade_ends o said says = elim says [
    | inl h ↦ subst (λ (o : ToolOutcome). Ends c o said) (sym h.1) (subst (λ (t : Tool). IsGradeAnd t (EndsGrades c h.0 said)) (sym is)
        (record { paths = h.2.paths; graded = h.2.graded; printed = h.2.printed }))
    | inr m ↦ elim m [
      | inl h ↦ subst (λ (o : ToolOutcome). Ends c o said) (sym h.1) (own h.0 said h.2 h.3 h.4)
      | inr h ↦ subst (λ (o : ToolOutcome). Ends c o said) (sym h.2.0) (stopped_list h.0 said h.1 h.2.1 h.2.2)
    ]
  ]

-- ---- from the arguments after the name of the tool

pub row_prepared : (words : List Text) (c : Call) (name text word : Text) (b : Bool) (r : Result ToolAnswer NoMemory) → 2 ≤ length words → name ≡ get_or words 0 name → text ≡ get_or words 1 text
    → b ≡ true → b ≡ bytes_eq word (codes "row") → word ≡ name
    → IfOk r (λ a. SaysRow (with_words c (take (length words - 2) (drop 2 words))) text a.outcome a.text) → IfOk r (λ a. Ends (with_words c words) a.outcome a.text)
row_prepared [] c name text word b r long first second equal eq same says = absurd (omega (arith, long))
row_prepared (x ∷ []) c name text word b r long first second equal eq same says = absurd (omega (arith, long))
row_prepared (x ∷ y ∷ rest) c name text word b r long first second equal eq same says =
    let whole : take (length (x ∷ y ∷ rest) - 2) rest ≡ rest = take_all (length (x ∷ y ∷ rest) - 2) rest (omega arith) in
    let named : bytes_eq x (codes "row") ≡ true = ap (λ (t : Text). bytes_eq t (codes "row")) (sym (same ∙ first)) ∙ sym eq ∙ equal in
    let said : IfOk r (λ a. SaysRow (with_words c rest) y a.outcome a.text) =
    subst (λ (ws : List Text). IfOk r (λ a. SaysRow (with_words c ws) y a.outcome a.text)) whole
    (subst (λ (q : Text). IfOk r (λ a. SaysRow (with_words c (take (length (x ∷ y ∷ rest) - 2) rest)) q a.outcome a.text)) second says) in
    by_case r said (row_words x y rest named)
  where
    by_case : (r : Result ToolAnswer NoMemory) → IfOk r (λ a. SaysRow (with_words c rest) y a.outcome a.text)
        → tool_of (x ∷ y ∷ rest) ≡ row y rest → IfOk r (λ a. Ends (with_words c (x ∷ y ∷ rest)) a.outcome a.text)
    by_case (Ok a) says is = row_ends (with_words c (x ∷ y ∷ rest)) y rest is a.outcome a.text says
    by_case (Err e) says is = tt
