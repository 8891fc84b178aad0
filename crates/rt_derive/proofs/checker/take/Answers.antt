use Rattle.std.proofs.Common.{sym, ◌∙◌}
use Rattle.rt_clause.proofs.Propagating.{step-nothing}
use Rattle.rt_derive.proofs.Left.{step-put, step-several}
use Rattle.rt_derive.proofs.Spending.{all-stay, one-more, skip}
use Rattle.rt_derive.proofs.checker.take.Goals as goal

pub returns-then-contains-clause-takes : goal.returns-then-contains-clause-takes
returns-then-contains-clause-takes c hints =
    skip c.args.lines.now c.args.held.now c.args.h (c.requires.spent c.args.h (sym c.contains.ensures ∙ c.if-contains.true)) hints

pub returns-in-Nothing-clause-takes : goal.returns-in-Nothing-clause-takes
returns-in-Nothing-clause-takes c hints =
    step-nothing c.args.lines.now c.args.held.now c.args.h hints c.in-Nothing.ensures

pub returns-in-Several-clause-takes : goal.returns-in-Several-clause-takes
returns-in-Several-clause-takes c hints = let s = c.in-Several.ensures in
    step-several c.args.lines.now c.args.held.now c.args.h hints s

pub returns-in_ok-insert-in-One-clause-takes : goal.returns-in_ok-insert-in-One-clause-takes
returns-in_ok-insert-in-One-clause-takes c hints = let m = c.in-One.ensures in
    step-put c.args.lines.now c.args.held.now c.put.new.self c.args.h hints c.in-One.l m c.in_ok-put-in-One.ensures.ok

pub returns-in_ok-insert-in-One-clause-spent : goal.returns-in_ok-insert-in-One-clause-spent
returns-in_ok-insert-in-One-clause-spent c = let m = c.in-One.ensures in
    one-more c.args.held.now c.put.new.self c.in-One.l c.in_ok-put-in-One.ensures.ok c.args.lines.now c.args.used.now.keys c.insert.new.self.keys c.args.h m.0
    m.1 m.2 c.requires.spent (λ q. c.in_ok-insert-in-One.ensures.updates.0 q)

pub returns-else-is_long-2-clause-takes : goal.returns-else-is_long-2-clause-takes
returns-else-is_long-2-clause-takes c hints = let m = c.in-One.ensures in
    step-put c.args.lines.now c.args.held.now c.put.new.self c.args.h hints c.in-One.l m c.in_ok-put-in-One.ensures.ok

pub returns-else-is_long-2-clause-spent : goal.returns-else-is_long-2-clause-spent
returns-else-is_long-2-clause-spent c = let m = c.in-One.ensures in
    all-stay c.args.held.now c.put.new.self c.in-One.l c.in_ok-put-in-One.ensures.ok c.args.lines.now c.args.used.now.keys c.args.h m.0
    m.1 c.requires.spent
