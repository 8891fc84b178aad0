-- The recorded steps of a search.
use Rattle.std.proofs.Common.{◌≡◌, ◌∙◌, ℕ, Bool, true, false, List, [], ◌∷◌, ◌++◌, map, refl, sym, ap, subst, append_assoc, Result, Ok, Err}
use Rattle.std.specs.Prelude.{Option, IfOk}
use Rattle.std.specs.List.{AllByRecursion as Each}
use Rattle.std.proofs.lemmas.List.{append-nil}
use Rattle.rt_clause.specs.Literal.{Literal}
use Rattle.rt_clause.specs.Refuting.{IsRefuted}
use Rattle.rt_recorder.specs.Certificate.{IsStep}
use Rattle.rt_recorder.specs.declared.cert.Step.{Step}
use Rattle.rt_recorder.specs.Checking.{AreAccepted, clauses}
use Rattle.rt_recorder.specs.Recording.{AreSteps, AreStepsBehind}
use Rattle.rt_solver.specs.Answers.{IsFound}
use Rattle.rt_solver.specs.declared.solver.Found.{Found}
use Rattle.rt_solver.specs.declared.solver.Found.TheVariants as found

abbrev Lines : Type 0
Lines = List (List Literal)

abbrev given_flags : Lines → List Bool
given_flags lines = map (λ line. false) lines

abbrev derived_flags : Lines → List Bool
derived_flags lines = map (λ line. true) lines

-- the steps of derived lines
record AreStepsOf (before more : Lines) (steps : List Step) : Type 0 where
  clauses_are : clauses steps ≡ more
  accepted : AreAccepted before steps
  spelled : Each IsStep steps

derived-steps : (before more : Lines) (steps : List Step) → AreStepsBehind before more (derived_flags more) steps → AreStepsOf before more steps
derived-steps before [] [] h = record { clauses_are = refl; accepted = tt; spelled = tt }
derived-steps before [] (s ∷ steps) h = absurd h
derived-steps before (line ∷ more) [] h = absurd h
derived-steps before (line ∷ more) (s ∷ steps) h =
    let r = derived-steps (before ++ line ∷ []) more steps h.3 in
    record {
      clauses_are = ap (λ (l : List Literal). l ∷ clauses steps) h.0 ∙ ap (λ (ls : Lines). line ∷ ls) r.clauses_are;
      accepted = (h.1, subst (λ (l : List Literal). AreAccepted (before ++ l ∷ []) steps) (sym h.0) r.accepted);
      spelled = (h.2, r.spelled);
    }

steps-behind : (before given more : Lines) (steps : List Step) → AreStepsBehind before (given ++ more) (given_flags given ++ derived_flags more) steps → AreStepsOf (before ++ given) more steps
steps-behind before [] more steps h = subst (λ (ls : Lines). AreStepsOf ls more steps) (sym (append-nil before)) (derived-steps before more steps h)
steps-behind before (l ∷ given) more steps h =
    subst (λ (ls : Lines). AreStepsOf ls more steps) (append_assoc before (l ∷ []) given) (steps-behind (before ++ l ∷ []) given more steps h)

-- what a search that refutes leaves
pub record Refutes (given : Lines) (assume : Option Literal) (steps : List Step) : Type 0 where
  pub accepted : AreAccepted given steps
  pub refuted : IsRefuted (given ++ clauses steps) assume
  pub spelled : Each IsStep steps

pub steps-refute : (given new more : Lines) (old_flags flags : List Bool) (assume : Option Literal) (steps : List Step) → old_flags ≡ given_flags given → new ≡ given ++ more → flags ≡ old_flags ++ derived_flags more
    → AreSteps new flags steps → IsRefuted new assume → Refutes given assume steps
steps-refute given new more old_flags flags assume steps begun lines derived are refuted =
    let flags_are : flags ≡ given_flags given ++ derived_flags more = derived ∙ ap (λ (bs : List Bool). bs ++ derived_flags more) begun in
    let behind : AreStepsBehind [] (given ++ more) (given_flags given ++ derived_flags more) steps =
    subst (λ (ls : Lines). AreStepsBehind [] ls (given_flags given ++ derived_flags more) steps) lines (subst (λ (bs : List Bool). AreStepsBehind [] new bs steps) flags_are are) in
    let of = steps-behind [] given more steps behind in
    record {
      accepted = of.accepted;
      refuted = subst (λ (ls : Lines). IsRefuted ls assume) (lines ∙ ap (λ (ls : Lines). given ++ ls) (sym of.clauses_are)) refuted;
      spelled = of.spelled;
    }

pub if_ok : {X E : Type 0} (P Q : X → Type 0) (r : Result X E) → ((x : X) → P x → Q x) → IfOk r P → IfOk r Q
if_ok P Q (Ok x) f p = f x p
if_ok P Q (Err e) f p = tt

pub found-refuted : (old new : Lines) (assume : Option Literal) (first m : ℕ) (budget : Option ℕ) (f : Found) → f ≡ found.Refuted → IsFound old new assume first m budget f → IsRefuted new assume
found-refuted old new assume first m budget f is h = subst (IsFound old new assume first m budget) is h
