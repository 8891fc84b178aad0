-- Why a search within the cone is enough, and that a budget is at least one.
use Rattle.std.proofs.Common.{◌≡◌, ◌∙◌, sym, refl, ℕ, ◌≤◌, Bool, true, false, List, length, ◌&&◌}
use Rattle.std.specs.Prelude.{Option, Some, None, IfSome}
use Rattle.std.specs.Option.{ForSome}
use Rattle.rt_formula.specs.Cut.{cut}
use Rattle.rt_formula.specs.Shared.{IsGrown, Shared, val}
use Rattle.rt_formula.proofs.Cutting.{cut-length}
use Rattle.rt_least.specs.Least.{IsEnough}
use Rattle.rt_io.specs.Ranges.{IsWithin, most_conflicts}

both : (a b x y : Bool) → (a && x) ≡ true → (a ≡ true → b ≡ true) → y ≡ x → (b && y) ≡ true
both false b x y q f e = absurd (cc)
both true b x y q f e = rw (f refl, e) q

pub enough : (old d : Shared) (goal differs : ℕ) (cone : List Bool) (law : List Bool → Bool) → IsGrown old d → ((keep : List Bool) → length keep ≡ old.rows → val d keep goal ≡ (law keep && val d keep differs)) → ((keep : List Bool) → length keep ≡ d.rows → law keep ≡ true → law (cut keep cone) ≡ true) → ((keep : List Bool) → val d (cut keep cone) differs ≡ val d keep differs) → IsEnough d goal cone
enough old d goal differs cone law grown parts lawful same keep g =
    let l : length keep ≡ old.rows = g.0 ∙ grown.rows in
    let q : (law keep && val d keep differs) ≡ true = sym (parts keep l) ∙ g.1 in
    parts (cut keep cone) (cut-length keep cone ∙ l)
    ∙ both (law keep) (law (cut keep cone)) (val d keep differs) (val d (cut keep cone) differs) q (lawful keep g.0) (same keep)

pub some_clause : (o : Option ℕ) → ForSome o (IsWithin most_conflicts) → IfSome o (λ b. 1 ≤ b)
some_clause None w = tt
some_clause (Some b) w = (w b refl).0
