use Rattle.std.proofs.Common.{ℕ, ◌≤◌, sym, subst}
use Rattle.std.specs.Prelude.{Option, IfSome}
use Rattle.rt_schema.specs.Kept.{kept}
use Rattle.rt_schema.specs.Law.{lawful}
use Rattle.measure.proofs.Enough.{enough, some_clause}
use Rattle.measure.proofs.measure_search.Goals as goal

pub search_within-said-requires-clause-cone : goal.search_within-said-requires-clause-cone
search_within-said-requires-clause-cone g c =
    enough c.in_ok-dag.dag c.goal.new.dag c.in_ok-aim.aim.goal c.in_ok-aim.aim.differs c.in_ok-cone.cone (λ keep. lawful c.schema-schema.result.now (kept c.given-given.result.now.tables keep))
    c.in_ok-aim.ensures.grown c.in_ok-aim.ensures.parts c.in_ok-cone.ensures.lawful c.in_ok-cone.ensures.same

pub search_within-said-requires-clause-budget : goal.search_within-said-requires-clause-budget
search_within-said-requires-clause-budget g c =
    let I : Option ℕ → Type 0 = λ o. IfSome o (λ b. 1 ≤ b) in
    subst I (sym c.conflicts.ensures) (some_clause c.args.input.now.conflicts c.schema-schema.ensures.sound.conflicts)
