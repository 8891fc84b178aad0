use Rattle.std.proofs.Common.{sym, ◌∙◌}
use Rattle.rt_clause.proofs.Following.{follows-true}
use Rattle.rt_derive.proofs.checker.CheckerLines.derive.Goals as goal

pub returns-in_ok-put-clause-true_where : goal.returns-in_ok-put-clause-true_where
returns-in_ok-put-clause-true_where c said bools m =
    follows-true c.args.self.now.lines c.args.lits.now c.args.hints.now c.requires (sym c.in_ok-yes.ensures ∙ said) bools m
