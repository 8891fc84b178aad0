use Rattle.std.proofs.Common.{Bool, cond, None, Some, sym, subst, ◌∙◌}
use Rattle.rt_formula.specs.Shared.{val}
use Rattle.rt_formula.specs.Gathering.{IsSifted}
use Rattle.rt_formula.proofs.Gates.{contrary-decides}
use Rattle.rt_formula.proofs.dag.Dag.gather_by.Goals as goal
use Rattle.rt_formula.proofs.dag.Dag.gather_by.Goals.{then-branch-via-then-branch, then-branch-via-else-branch+then-is_contrary}

pub returns-then-branch : goal.returns-then-branch
returns-then-branch c keep =
    let S : Bool → Type 0 = λ b. IsSifted c.args.self.now c.args.gate c.args.of.now (cond b None (Some c.sift.new.kept)) in
    elim c.then-branch.branch [
      | then-branch-via-then-branch w ↦ subst S w.if-branch.true c.in_ok-sift.ensures keep
      | then-branch-via-else-branch+then-is_contrary w ↦ (
          let found = w.is_contrary.ensures w.if-is_contrary.true in
          let sifted = subst S w.if-branch.false c.in_ok-sift.ensures in
          sym (sifted.1 keep) ∙ contrary-decides c.args.gate (val c.args.self.now keep) c.sift.new.kept found.one found.other found.has_one found.has_other (found.contrary keep))
    ]
