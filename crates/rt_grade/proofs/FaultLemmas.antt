-- From what the steps of a call that grades find, or are stopped by, to what the call answers.
use Rattle.std.proofs.Common.{◌≡◌, ◌∙◌, ℕ, Bool, List, Result, Ok, Err, refl, sym, ap, subst, IsTrue, arith}
use Rattle.std.specs.Prelude.{Some, IfErr, IfOk, IsOk}
use Rattle.std.specs.List.{AllZip}
use Rattle.rt_io.specs.Edge.{NoneFell, Rose}
use Rattle.rt_input.specs.declared.first.First.{First}
use Rattle.rt_input.specs.declared.outcome.Limit.{Limit}
use Rattle.rt_input.specs.declared.outcome.Outcome.{Outcome}
use Rattle.rt_input.specs.declared.outcome.Outcome.TheVariants as outcome
use Rattle.rt_input.specs.declared.part.Part.TheVariants.{Query2}
use Rattle.rt_input.specs.First.{first_judged}
use Rattle.rt_input.specs.Judged.{ReachesFirst}
use Rattle.rt_input.specs.Held.{Holding, text_of, text_read}
use Rattle.rt_input.specs.Placed.{Placed}
use Rattle.rt_input.specs.Source.{IsKnown, Text, source_of}
use Rattle.rt_input.specs.Steps.{IsFirstPart, Seen, SpeaksOf, Stops as StopsReading, seen}
use Rattle.rt_io.specs.Ranges.{Command}
use Rattle.rt_grade.specs.Grades.{IsGrade, IsPlacedIn, candidate_judged, outcome_of}
use Rattle.rt_grade.specs.declared.grade.Grade.{Grade}
use Rattle.rt_grade.specs.declared.grade.Grade.TheVariants.{Agree, Witness, Undecided, Refused, Work, TooLong}
use Rattle.rt_grade.specs.declared.grade_fault.GradeFault.{GradeFault}
use Rattle.rt_grade.specs.declared.grade_fault.GradeFault.TheVariants.{BadList, TooManyPaths, ListLong, FileRead, Verdict}
use Rattle.rt_grade.specs.declared.grade_run.Graded.{Graded}
use Rattle.rt_grade.specs.declared.grade_words.GradeWords.{GradeWords}
use Rattle.rt_grade.specs.GradeAnswers.{AreGradedBeside, AreGradedBy, IsNamedIn, IsReferenceRead, StopsBeside, StopsOf}
use Rattle.rt_grade.specs.Candidates.{IsGradeOf}
use Rattle.rt_grade.specs.Listing.{list_judged}
use Rattle.rt_grade.specs.GradeWords.{IsSpelled, grade_words}
use Rattle.rt_grade.proofs.GradeLemmas.{answers_alone}
use Rattle.rt_grade.proofs.WordLemmas.{has_words, known}

-- ---- the list

-- ---- a candidate

pub of_text : (tells : Bool) (held : Holding) (c : Command) (first : First) (path text : Text) (grade : Grade) → (IsTrue tells → text_read Query2 (held path) ≡ Ok text)
    → IsGrade (candidate_judged c first text) grade → IsPlacedIn text (outcome_of grade) → IsGradeOf tells held c first path grade
of_text tells held c first path text Agree has is placed = (text, has, is, placed)
of_text tells held c first path text (Witness keep) has is placed = (text, has, is, placed)
of_text tells held c first path text (Undecided s) has is placed = (text, has, is, placed)
of_text tells held c first path text (Refused part fault) has is placed = (text, has, is, placed)
of_text tells held c first path text (Work work) has is placed = (text, has, is, placed)
of_text tells held c first path text TooLong has is placed = absurd is

-- ---- the whole

is_ok : {T E : Type 0} (r : Result T E) (x : T) → r ≡ Ok x → IsOk r
is_ok r x e = rw e refl

-- of arguments that are read
pub first_stops : (s : Seen) (w : GradeWords) (o : Outcome)
    → StopsReading s (source_of w.command) (first_judged (source_of w.command) s.held) (ReachesFirst (source_of w.command) s.held) o → SpeaksOf IsFirstPart o
    → (IsKnown s.tells (source_of w.command) → Placed (text_of (source_of w.command) s.held) o) → StopsOf s (Verdict o) w
first_stops s w outcome.Agree stop speaks placed = stop
first_stops s w (outcome.Witness keep) stop speaks placed = stop
first_stops s w outcome.Usage stop speaks placed = stop
first_stops s w (outcome.Refused part fault) stop speaks placed = record { stops = stop; speaks = speaks; placed = placed }
first_stops s w (outcome.Spent spent) stop speaks placed = stop
first_stops s w (outcome.Limit l) stop speaks placed = record { stops = stop; speaks = speaks; placed = placed }
first_stops s w (outcome.ReadFault part) stop speaks placed = record { stops = stop; speaks = speaks; placed = placed }
first_stops s w outcome.WriteFault stop speaks placed = stop
first_stops s w outcome.NoMemory stop speaks placed = tt

memory_of : (s : Seen) (w : GradeWords) (o : Outcome) → o ≡ outcome.NoMemory → StopsOf s (Verdict o) w
memory_of s w o e = subst (λ (x : Outcome). StopsOf s (Verdict x) w) (sym e) tt

-- a later step
abbrev pub later : Seen → Holding → (Text → ℕ) → Seen
later s held mid = seen s.tells held mid s.after s.current s.taken

rises : (s : Seen) (mid : Text → ℕ) (name : Text) → NoneFell s.before mid → Rose (mid name) (s.after name) → Rose (s.before name) (s.after name)
rises s mid name grew rose = let less = grew name in omega (arith, less, rose)

-- the reference is accepted
module _ (s : Seen) (w : GradeWords) (first : First) (read : IsKnown s.tells (source_of w.command) → first_judged (source_of w.command) s.held ≡ Ok first)
    (held : Holding) (mid : Text → ℕ) (same : held ≡ s.held) where
  told : IsTrue s.tells → first_judged (source_of w.command) s.held ≡ Ok first
  told t = read (known s.tells w.command t)

  accepted : IsTrue s.tells → IsReferenceRead s w
  accepted t = is_ok (first_judged (source_of w.command) s.held) first (told t)

  named_in : (name : Text) → IsNamedIn (later s held mid) w name → IsNamedIn s w name
  named_in name named = subst (λ (h : Holding). IsNamedIn (later s h mid) w name) same named

  pub beside_stops : (fault : GradeFault) → NoneFell s.before mid → StopsBeside (later s held mid) w fault → StopsOf s fault w
  beside_stops (BadList at) grew stop = record { accepted = accepted; judged = λ t. ap (λ (h : Holding). list_judged (h w.list)) (sym same) ∙ stop t }
  beside_stops TooManyPaths grew stop = record { accepted = accepted; judged = λ t. ap (λ (h : Holding). list_judged (h w.list)) (sym same) ∙ stop t }
  beside_stops ListLong grew stop = (stop.0, record { accepted = accepted; judged = λ t. ap (λ (h : Holding). list_judged (h w.list)) (sym same) ∙ stop.1 t })
  beside_stops (FileRead name) grew stop = record { accepted = accepted; rose = rises s mid name grew stop.0; named = named_in name stop.1 }
  beside_stops (Verdict o) grew stop = memory_of s w o stop

  pub beside_graded : (words : List Text) → grade_words words ≡ Some w → (g : Graded) → AreGradedBeside (later s held mid) w first g → AreGradedBy s g w
  beside_graded words is g beside = record {
    accepted = accepted;
    listed = λ t. ap (λ (h : Holding). list_judged (h w.list)) (sym same) ∙ beside.listed t;
    grades = answers_alone s w (has_words words w is) first told g.paths g.grades
        (subst (λ (h : Holding). AllZip (IsGradeOf s.tells h w.command first) g.paths g.grades) same beside.grades);
  }

  pub beside_fault : (r : Result Graded GradeFault) → NoneFell s.before mid → IfErr r (StopsBeside (later s held mid) w) → IfErr r (λ fault. StopsOf s fault w)
  beside_fault (Ok g) grew stop = tt
  beside_fault (Err fault) grew stop = beside_stops fault grew stop

  pub beside_result : (r : Result Graded GradeFault) → IsSpelled w → IfOk r (AreGradedBeside (later s held mid) w first) → IfOk r (λ g. AreGradedBy s g w)
  beside_result (Ok g) spelled beside = beside_graded spelled.0 spelled.1 g beside
  beside_result (Err fault) spelled beside = tt

-- ---- the call
