use Rattle.rt_token.proofs.Loops.{after-ends, after-fails, passed-on}
use Rattle.rt_ddl_tree.proofs.MemberLemmas.{behind-more, behind-shorter}
use Rattle.rt_ddl_tree.proofs.member.more.Goals as goal

pub returns-in_err-item : goal.returns-in_err-item
returns-in_err-item g c = passed-on c.from_residual.result c.in_err-item.field-0.0 _ c.from_residual.ensures.1
    (after-fails c.args.separator g.T.Member.parser c.items.items c.items.rest.now c.in-Some.next.now c.args.terminals.now c.in_err-item.field-0.0 c.items.invariant c.in-Some.ensures c.in_err-item.ensures)

pub items-smaller : goal.items-smaller
items-smaller g c = behind-shorter c.args.separator c.items.rest.now c.in-Some.next.now c.in_ok-item.more.now c.in-Some.ensures
    (c.requires c.in-Some.next.now c.in_ok-item.more.now c.in_ok-item.item c.in_ok-item.ensures)

pub items-preserved : goal.items-preserved
items-preserved g c = rw c.in_ok-push.ensures.ok
    (behind-more c.args.separator g.T.Member.parser c.items.items c.items.rest.now c.in-Some.next.now c.args.terminals.now c.in_ok-item.more.now c.in_ok-item.item c.items.invariant c.in-Some.ensures c.in_ok-item.ensures
    (c.requires c.in-Some.next.now c.in_ok-item.more.now c.in_ok-item.item c.in_ok-item.ensures))

pub returns : goal.returns
returns g c = after-ends c.args.separator g.T.Member.parser c.items.items c.items.rest.now c.args.terminals.now c.items.invariant c.in_default.ensures
