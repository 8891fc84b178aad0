-- The steps along the lines, when a line is added or derived.
use Rattle.std.proofs.Common.{◌≡◌, ℕ, ◌<◌, Bool, true, false, List, [], ◌∷◌, ◌++◌, length, refl, sym, ap, ◌∙◌, subst, append_assoc}
use Rattle.std.specs.Prelude.{Result, Ok, Err, OnOk, OnErr}
use Rattle.std.specs.List.{All}
use Rattle.rt_clause.specs.Literal.{Literal}
use Rattle.rt_clause.specs.Lists.{follows}
use Rattle.rt_recorder.specs.Certificate.{IsStep}
use Rattle.rt_recorder.specs.declared.cert.Step.{Step}
use Rattle.rt_recorder.specs.Recording.{AreSteps, AreStepsBehind, IsAccepted}

abbrev Lines : Type 0
Lines = List (List Literal)

along-add : (before lines : Lines) (line : List Literal) (ds : List Bool) (ss : List Step) → AreStepsBehind before lines ds ss → AreStepsBehind before (lines ++ line ∷ []) (ds ++ false ∷ []) ss
along-add before [] line [] [] h = tt
along-add before [] line [] (s ∷ ss) h = absurd h
along-add before [] line (d ∷ ds) ss h = absurd h
along-add before (l ∷ lines) line [] ss h = absurd h
along-add before (l ∷ lines) line (false ∷ ds) ss h = along-add (before ++ l ∷ []) lines line ds ss h
along-add before (l ∷ lines) line (true ∷ ds) [] h = absurd h
along-add before (l ∷ lines) line (true ∷ ds) (s ∷ ss) h = (h.0, h.1, h.2, along-add (before ++ l ∷ []) lines line ds ss h.3)

nil : (ls : Lines) → ls ++ [] ≡ ls
nil [] = refl
nil (l ∷ ls) = ap (λ (t : Lines). l ∷ t) (nil ls)

along-derive : (before lines : Lines) (ds : List Bool) (ss : List Step) (s : Step) → IsAccepted (before ++ lines) s → IsStep s → AreStepsBehind before lines ds ss
    → AreStepsBehind before (lines ++ s.lits ∷ []) (ds ++ true ∷ []) (ss ++ s ∷ [])
along-derive before [] [] [] s a f h = (refl, subst (λ (ls : Lines). IsAccepted ls s) (nil before) a, f, tt)
along-derive before [] [] (t ∷ ss) s a f h = absurd h
along-derive before [] (d ∷ ds) ss s a f h = absurd h
along-derive before (l ∷ lines) [] ss s a f h = absurd h
along-derive before (l ∷ lines) (false ∷ ds) ss s a f h =
    along-derive (before ++ l ∷ []) lines ds ss s (subst (λ (ls : Lines). IsAccepted ls s) (sym (append_assoc before (l ∷ []) lines)) a) f h
along-derive before (l ∷ lines) (true ∷ ds) [] s a f h = absurd h
along-derive before (l ∷ lines) (true ∷ ds) (t ∷ ss) s a f h =
    (h.0, h.1, h.2, along-derive (before ++ l ∷ []) lines ds ss s (subst (λ (ls : Lines). IsAccepted ls s) (sym (append_assoc before (l ∷ []) lines)) a) f h.3)

pub steps-added : {T E : Type 0} (r : Result T E) (lines new : Lines) (line : List Literal) (ds dnew : List Bool) (ss : List Step) → AreSteps lines ds ss
    → OnOk r (new ≡ lines ++ line ∷ []) → OnOk r (dnew ≡ ds ++ false ∷ []) → OnErr r (new ≡ lines) → OnErr r (dnew ≡ ds) → AreSteps new dnew ss
steps-added (Ok x) lines new line ds dnew ss h e f g k = subst (λ (ls : Lines). AreSteps ls dnew ss) (sym e) (subst (λ (bs : List Bool). AreSteps (lines ++ line ∷ []) bs ss) (sym f) (along-add [] lines line ds ss h))
steps-added (Err x) lines new line ds dnew ss h e f g k = subst (λ (ls : Lines). AreSteps ls dnew ss) (sym g) (subst (λ (bs : List Bool). AreSteps lines bs ss) (sym k) h)

pub steps-derived : (lines new : Lines) (lits : List Literal) (hints : List ℕ) (ds dnew : List Bool) (ss : List Step) (s : Step) → AreSteps lines ds ss → IsStep s → s.lits ≡ lits → s.hints ≡ hints
    → All (λ h. h < length lines) hints → follows lines lits hints ≡ true → new ≡ lines ++ lits ∷ [] → dnew ≡ ds ++ true ∷ [] → AreSteps new dnew (ss ++ s ∷ [])
steps-derived lines new lits hints ds dnew ss s h f a b known fol e g =
    let accepted : IsAccepted lines s = record {
      known = subst (λ (hs : List ℕ). All (λ h. h < length lines) hs) (sym b) known;
      follows = ap (λ (ls : List Literal). follows lines ls s.hints) a ∙ ap (λ (hs : List ℕ). follows lines lits hs) b ∙ fol;
    } in
    subst (λ (ls : Lines). AreSteps ls dnew (ss ++ s ∷ [])) (sym (e ∙ ap (λ (l : List Literal). lines ++ l ∷ []) (sym a)))
    (subst (λ (bs : List Bool). AreSteps (lines ++ s.lits ∷ []) bs (ss ++ s ∷ [])) (sym g) (along-derive [] lines ds ss s accepted f h))
