-- From the least choice at which the goal is true to the smallest counterexample.
use Rattle.std.proofs.Common.{◌≡◌, ◌∙◌, sym, ap, subst, refl, ℕ, Bool, true, false, not, List, length, ◌&&◌, Result, Ok, Err}
use Rattle.std.specs.Prelude.{Option, Some, None, IfOk, IfSome, IsSomeAnd, ◌<◌, ◌^◌}
use Rattle.rt_clause.specs.Literal.{Literal}
use Rattle.rt_value.specs.declared.no_memory.NoMemory.{NoMemory}
use Rattle.rt_schema.specs.declared.table.Table.{Table}
use Rattle.rt_schema.specs.Given.{Instance, places}
use Rattle.rt_schema.specs.Kept.{kept}
use Rattle.rt_schema.specs.Law.{lawful}
use Rattle.rt_algebra.specs.Answer.{plain, same_rows}
use Rattle.rt_algebra.specs.declared.typed.Typed.{Typed}
use Rattle.rt_formula.specs.Cut.{cut}
use Rattle.rt_formula.specs.Shared.{IsGrown, Shared, val}
use Rattle.rt_formula.proofs.Cutting.{cut-length}
use Rattle.rt_least.specs.Least.{HasFewest as HasFewestRows, IsBest, IsEnough, IsGoal, IsSpentBest}
use Rattle.rt_least.specs.Nogoods.{IsSpentBy}
use Rattle.rt_least.proofs.Targets.{spent-narrowed}
use Rattle.rt_least.specs.declared.best.Best.{Best}
use Rattle.rt_least.specs.declared.best.Best.TheVariants.{Least, Never, Spent}
use Rattle.rt_input.specs.Accepted.{Accepted}
use Rattle.rt_top.specs.Smallest.{HasFewest, IsCounterexample, IsFirst, is_counterexample, differ_at, lawful_at}
use Rattle.rt_top.specs.GivenUp.{IsGivenUp, IsVerdict}

-- the node is true at just the counterexamples
abbrev pub Means : Accepted → Shared → ℕ → Type 0
Means input d goal = (keep : List Bool) → length keep ≡ d.rows → val d keep goal ≡ is_counterexample input keep

pub means : (input : Accepted) (d : Shared) (goal rows : ℕ) → d.rows ≡ rows
    → ((keep : List Bool) → length keep ≡ rows → val d keep goal ≡ (lawful_at input keep && differ_at input keep)) → Means input d goal
unfolding is_counterexample
means input d goal rows same h keep l = h keep (l ∙ same)

to_goal : (input : Accepted) (d : Shared) (goal : ℕ) → d.rows ≡ places input.given.tables → Means input d goal
    → (keep : List Bool) → IsCounterexample input keep → IsGoal d goal keep
to_goal input d goal rows m keep c = let l : length keep ≡ d.rows = c.0 ∙ sym rows in (l, m keep l ∙ c.1)

to_counterexample : (input : Accepted) (d : Shared) (goal : ℕ) → d.rows ≡ places input.given.tables → Means input d goal
    → (keep : List Bool) → IsGoal d goal keep → IsCounterexample input keep
to_counterexample input d goal rows m keep g = (g.0 ∙ rows, sym (m keep g.0) ∙ g.1)

spent : (input : Accepted) (d : Shared) (goal budget : ℕ) (best : Option (List Bool)) (least : Bool) (nogoods : List (List Literal)) → d.rows ≡ places input.given.tables → Means input d goal
    → IsSpentBy d.rows (IsGoal d goal) best least budget nogoods → IsSpentBy (places input.given.tables) (IsCounterexample input) best least budget nogoods
spent input d goal budget best least nogoods rows m s =
    subst (λ (r : ℕ). IsSpentBy r (IsCounterexample input) best least budget nogoods) rows
    (spent-narrowed d.rows (IsGoal d goal) (IsCounterexample input) best least budget nogoods (to_goal input d goal rows m) s)

best_counterexample : (input : Accepted) (d : Shared) (goal : ℕ) (best : Option (List Bool)) → d.rows ≡ places input.given.tables → Means input d goal
    → IfSome best (IsGoal d goal) → IfSome best (IsCounterexample input)
best_counterexample input d goal None rows m h = tt
best_counterexample input d goal (Some keep) rows m h = to_counterexample input d goal rows m keep h

fewest_counterexample : (input : Accepted) (d : Shared) (goal : ℕ) (best : Option (List Bool)) → d.rows ≡ places input.given.tables → Means input d goal
    → IsSomeAnd best (HasFewestRows (IsGoal d goal)) → IsSomeAnd best (HasFewest input)
fewest_counterexample input d goal None rows m h = h
fewest_counterexample input d goal (Some keep) rows m h = λ t c. h t (to_goal input d goal rows m t c)

given_up : (input : Accepted) (d : Shared) (goal budget : ℕ) (best : Option (List Bool)) (least : Bool) (nogoods : List (List Literal)) → d.rows ≡ places input.given.tables → Means input d goal
    → IsSpentBest d.rows (IsGoal d goal) budget best least nogoods → IsGivenUp input budget best least nogoods
given_up input d goal budget best least nogoods rows m s = record {
  small = subst (λ (r : ℕ). budget < 2 ^ r) rows s.small;
  best_is = best_counterexample input d goal best rows m s.best_is;
  least_is = λ t. fewest_counterexample input d goal best rows m (s.least_is t);
  spent = spent input d goal budget best least nogoods rows m s.spent;
}

spent_verdict : (input : Accepted) (d : Shared) (goal : ℕ) (conflicts : Option ℕ) (best : Option (List Bool)) (least : Bool) (nogoods : List (List Literal)) → d.rows ≡ places input.given.tables → Means input d goal
    → IsSomeAnd conflicts (λ b. IsSpentBest d.rows (IsGoal d goal) b best least nogoods) → IsSomeAnd conflicts (λ b. IsGivenUp input b best least nogoods)
spent_verdict input d goal None best least nogoods rows m h = h
spent_verdict input d goal (Some b) best least nogoods rows m h = given_up input d goal b best least nogoods rows m h

-- what the search finds is the verdict
pub verdict_from : (input : Accepted) (d : Shared) (goal : ℕ) (best : Best) → d.rows ≡ places input.given.tables → Means input d goal
    → IsBest d goal input.conflicts best → IsVerdict input best
unfolding IsFirst
verdict_from input d goal (Least keep) rows m l = record {
  counterexample = to_counterexample input d goal rows m keep l.is_target;
  smallest = λ t c. l.least t (to_goal input d goal rows m t c);
  first = λ t c. l.first t (to_goal input d goal rows m t c);
}
verdict_from input d goal Never rows m n = λ t c. let l : length t ≡ d.rows = c ∙ sym rows in sym (m t l) ∙ n t l
verdict_from input d goal (Spent s) rows m h = spent_verdict input d goal input.conflicts s.best s.least s.nogoods rows m h

-- the same, from what is known of the parts of an input
pub verdict_of : (input : Accepted) (schema : List Table) (given : Instance) (left right : Typed) (conflicts : Option ℕ) (old d : Shared) (goal total : ℕ) (found : Result Best NoMemory)
    → schema ≡ input.schema → given ≡ input.given → left ≡ input.left → right ≡ input.right → conflicts ≡ input.conflicts
    → IsGrown old d → old.rows ≡ total → total ≡ places given.tables
    → ((keep : List Bool) → length keep ≡ old.rows → val d keep goal ≡ (lawful schema (kept given.tables keep) && not (same_rows (plain left.query (kept given.tables keep)) (plain right.query (kept given.tables keep)))))
    → IfOk found (IsBest d goal conflicts) → IfOk found (IsVerdict input)
verdict_of input schema given left right conflicts old d goal total found s g l r c grown rows all h best =
    let same : d.rows ≡ old.rows = grown.rows in
    let count : d.rows ≡ places input.given.tables = same ∙ rows ∙ all ∙ ap (λ (x : Instance). places x.tables) g in
    let m : Means input d goal = means input d goal old.rows same (λ keep n.
    h keep n ∙ parts input schema given left right keep s g l r) in
    then_verdict found (λ b is. verdict_from input d goal b count m (subst (λ (o : Option ℕ). IsBest d goal o b) c is)) best
  where
    parts : (input : Accepted) (schema : List Table) (given : Instance) (left right : Typed) (keep : List Bool)
        → schema ≡ input.schema → given ≡ input.given → left ≡ input.left → right ≡ input.right
        → (lawful schema (kept given.tables keep) && not (same_rows (plain left.query (kept given.tables keep)) (plain right.query (kept given.tables keep))))
        ≡ (lawful_at input keep && differ_at input keep)
    parts input schema given left right keep s g l r = rw (s, g, l, r) refl

    then_verdict : (found : Result Best NoMemory) → ((b : Best) → IsBest d goal conflicts b → IsVerdict input b) → IfOk found (IsBest d goal conflicts) → IfOk found (IsVerdict input)
    then_verdict (Ok b) f h = f b h
    then_verdict (Err e) f h = tt

-- whatever else the input says
pub whatever_else : (found : Result Best NoMemory) (P : ℕ → Option ℕ → Best → Type 0) → ((limit : ℕ) (made : Option ℕ) → IfOk found (P limit made))
    → IfOk found (λ best. (limit : ℕ) (made : Option ℕ) → P limit made best)
whatever_else (Ok best) P h = h
whatever_else (Err e) P h = tt

-- the verdict on the parts of an input is that on the input
pub of_input : (input : Accepted) (schema : List Table) (given : Instance) (left right : Typed) (conflicts : Option ℕ) (found : Result Best NoMemory)
    → schema ≡ input.schema → given ≡ input.given → left ≡ input.left → right ≡ input.right → conflicts ≡ input.conflicts
    → IfOk found (λ best. (limit : ℕ) (made : Option ℕ) → IsVerdict (record { schema = schema; given = given; left = left; right = right; conflicts = conflicts; work_limit = limit; made = made }) best)
    → IfOk found (IsVerdict input)
of_input input schema given left right conflicts (Ok best) s g l r c h =
    let same : record { schema = schema; given = given; left = left; right = right; conflicts = conflicts; work_limit = input.work_limit; made = input.made } ≡ input = rw (s, g, l, r, c) refl in
    subst (λ (i : Accepted). IsVerdict i best) same (h input.work_limit input.made)
of_input input schema given left right conflicts (Err e) s g l r c h = tt

-- wherever the goal is true, it is true where no row outside of the cone is kept
pub enough : (old d : Shared) (goal differs : ℕ) (cone : List Bool) (law : List Bool → Bool) → IsGrown old d → ((keep : List Bool) → length keep ≡ old.rows → val d keep goal ≡ (law keep && val d keep differs))
    → ((keep : List Bool) → length keep ≡ d.rows → law keep ≡ true → law (cut keep cone) ≡ true) → ((keep : List Bool) → val d (cut keep cone) differs ≡ val d keep differs) → IsEnough d goal cone
enough old d goal differs cone law grown parts lawful same keep g =
    let l : length keep ≡ old.rows = g.0 ∙ grown.rows in
    let q : (law keep && val d keep differs) ≡ true = sym (parts keep l) ∙ g.1 in
    parts (cut keep cone) (cut-length keep cone ∙ l)
    ∙ both (law keep) (law (cut keep cone)) (val d keep differs) (val d (cut keep cone) differs) q (lawful keep g.0) (same keep) where
      both : (a b x y : Bool) → (a && x) ≡ true → (a ≡ true → b ≡ true) → y ≡ x → (b && y) ≡ true
      both false b x y q f e = absurd (cc)
      both true b x y q f e = rw (f refl, e) q
