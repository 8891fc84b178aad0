use Rattle.std.proofs.Common.{◌+◌, ◌≤◌, sym, ap, ◌∙◌, subst, List, ℕ, Bool, length}
use Rattle.rt_solver.specs.Marking.{mark_at, steps_marked}
use Rattle.rt_solver.specs.Analysis.{IsWalkedBy}
use Rattle.rt_solver.proofs.Walks.{visit-line, visit-assumed}
use Rattle.rt_solver.proofs.explain.resolve.Goals as goal

pub returns-in_ok-mark-in-Line-clause-walked : goal.returns-in_ok-mark-in-Line-clause-walked
returns-in_ok-mark-in-Line-clause-walked g c assume vars rest a o n w =
    let H : List ℕ → Type 0 = λ hs. IsWalkedBy (g.L.Adds.lines c.args.base.now.0) assume vars rest c.mark.new.self c.args.walk.now.found.items hs in
    subst H (sym c.in_ok-push-in-Line.ensures.items)
    (visit-line (g.L.Adds.lines c.args.base.now.0) assume vars rest c.args.step c.args.walk.now.marks c.mark.new.self c.visit.new.self.due c.args.walk.now.found.items c.args.walk.now.hints.items c.in-Line.r
    c.requires.marked c.visit.ensures.due (let P : List Bool → Type 0 = λ ms. steps_marked c.mark.new.self.marks rest + c.visit.new.self.due ≤ steps_marked ms rest + c.mark.new.self.due in subst P c.visit.ensures.marks (c.in_ok-mark-in-Line.ensures.counted vars rest a.2))
    o c.in-Line.is (c.in_ok-mark-in-Line.ensures.len ∙ ap length c.visit.ensures.marks) (λ v h. c.in_ok-mark-in-Line.ensures.kept v (ap (λ ms. mark_at ms v) c.visit.ensures.marks ∙ h)) (λ k h. c.in_ok-mark-in-Line.ensures.set k (c.at.ensures.to k h)) w)

pub returns-in-Decided-clause-walked : goal.returns-in-Decided-clause-walked
returns-in-Decided-clause-walked g c assume vars rest a o n w = absurd (n c.in-Decided.is)

pub returns-in-Assumed-clause-walked : goal.returns-in-Assumed-clause-walked
returns-in-Assumed-clause-walked g c assume vars rest a o n w =
    visit-assumed (g.L.Adds.lines c.args.base.now.0) assume vars rest c.args.step c.args.walk.now.marks c.visit.new.self c.args.walk.now.found.items c.args.walk.now.hints.items
    c.requires.marked c.visit.ensures.marks c.visit.ensures.due o c.in-Assumed.is w
