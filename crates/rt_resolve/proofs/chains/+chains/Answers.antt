use Rattle.std.proofs.Common.{map}
use Rattle.std.proofs.lemmas.List.{drop_all}
use Rattle.rt_resolve.specs.Chains.{chain_link, conj, join, meet_link, neg, source_of}
use Rattle.rt_resolve.proofs.Linking.{chain_done, chain_fails, chain_linked, chain_unlinked, chain_unread, cond_done, cond_head_fails, cond_tail_fails, conj_ends, conj_fails, conj_head_fails, gathered_fails, joined_fails, linked_fails, meet_done, meet_fails, meet_linked, meet_unlinked, meet_unread, neg_fails, next_gathered, next_joined, next_linked, next_sourced, pick_done, pick_head_fails, pick_list_fails, pick_tail_fails, pick_where_fails, source_base_fails, source_done, sources_fail}
use Rattle.rt_resolve.proofs.chains.+chains.Goals as goal

pub chain_links-loop-next-preserved : goal.chain_links-loop-next-preserved
chain_links-loop-next-preserved t c =
    next_linked chain_link c.args.members.now c.loop-next.next-index c.next-item.result c.args.tables.now (map (λ s. s.now) c.args.scopes.now) c.loop-next.all c.in_ok-all.all _
    c.loop-next-test.true c.next-item.is
    (chain_linked c.next-item.result c.loop-next.all c.in_ok-other.other c.in_ok-all.all _ _ c.in_ok-other.ensures c.in_ok-all.ensures)
    c.loop-next.invariant

pub chain_links-returns-in_err-other : goal.chain_links-returns-in_err-other
chain_links-returns-in_err-other t c =
    linked_fails chain_link c.args.members.now c.loop-next.next-index c.next-item.result c.args.tables.now (map (λ s. s.now) c.args.scopes.now) c.loop-next.all _ c.from_residual.result c.in_err-other.field-0.0
    c.loop-next-test.true c.next-item.is c.loop-next.invariant c.from_residual.ensures.1
    (chain_unread c.next-item.result c.loop-next.all c.args.tables.now (map (λ s. s.now) c.args.scopes.now) c.in_err-other.field-0.0 c.in_err-other.ensures)

pub chain_links-returns-in_err-all : goal.chain_links-returns-in_err-all
chain_links-returns-in_err-all t c =
    linked_fails chain_link c.args.members.now c.loop-next.next-index c.next-item.result c.args.tables.now (map (λ s. s.now) c.args.scopes.now) c.loop-next.all _ c.from_residual-in_err-all.result c.in_err-all.field-0.0
    c.loop-next-test.true c.next-item.is c.loop-next.invariant c.from_residual-in_err-all.ensures.1
    (chain_unlinked c.next-item.result c.loop-next.all c.in_ok-other.other c.args.tables.now (map (λ s. s.now) c.args.scopes.now) c.in_err-all.field-0.0 c.in_ok-other.ensures c.in_err-all.ensures)

pub meet_links-loop-next-preserved : goal.meet_links-loop-next-preserved
meet_links-loop-next-preserved t c =
    next_linked meet_link c.args.members.now c.loop-next.next-index c.next-item.result c.args.tables.now (map (λ s. s.now) c.args.scopes.now) c.loop-next.all c.in_ok-all.all _
    c.loop-next-test.true c.next-item.is
    (meet_linked c.next-item.result c.loop-next.all c.in_ok-other.other c.in_ok-all.all _ _ c.in_ok-other.ensures c.in_ok-all.ensures)
    c.loop-next.invariant

pub meet_links-returns-in_err-other : goal.meet_links-returns-in_err-other
meet_links-returns-in_err-other t c =
    linked_fails meet_link c.args.members.now c.loop-next.next-index c.next-item.result c.args.tables.now (map (λ s. s.now) c.args.scopes.now) c.loop-next.all _ c.from_residual.result c.in_err-other.field-0.0
    c.loop-next-test.true c.next-item.is c.loop-next.invariant c.from_residual.ensures.1
    (meet_unread c.next-item.result c.loop-next.all c.args.tables.now (map (λ s. s.now) c.args.scopes.now) c.in_err-other.field-0.0 c.in_err-other.ensures)

pub meet_links-returns-in_err-all : goal.meet_links-returns-in_err-all
meet_links-returns-in_err-all t c =
    linked_fails meet_link c.args.members.now c.loop-next.next-index c.next-item.result c.args.tables.now (map (λ s. s.now) c.args.scopes.now) c.loop-next.all _ c.from_residual-in_err-all.result c.in_err-all.field-0.0
    c.loop-next-test.true c.next-item.is c.loop-next.invariant c.from_residual-in_err-all.ensures.1
    (meet_unlinked c.next-item.result c.loop-next.all c.in_ok-other.other c.args.tables.now (map (λ s. s.now) c.args.scopes.now) c.in_err-all.field-0.0 c.in_ok-other.ensures c.in_err-all.ensures)

pub joins-loop-next-preserved : goal.joins-loop-next-preserved
joins-loop-next-preserved t c =
    next_joined join c.args.members.now c.loop-next.next-index c.next-item.result c.args.own c.args.tables.now (map (λ s. s.now) c.args.scopes.now) c.loop-next.from c.in_ok-from.from _
    c.loop-next-test.true c.next-item.is c.loop-next.invariant c.in_ok-from.ensures

pub joins-returns-in_err-from : goal.joins-returns-in_err-from
joins-returns-in_err-from t c =
    joined_fails join c.args.members.now c.loop-next.next-index c.next-item.result c.args.own c.args.tables.now (map (λ s. s.now) c.args.scopes.now) c.loop-next.from _ c.from_residual.result c.in_err-from.field-0.0
    c.loop-next-test.true c.next-item.is c.loop-next.invariant c.from_residual.ensures.1 c.in_err-from.ensures

pub sources-loop-next-preserved : goal.sources-loop-next-preserved
sources-loop-next-preserved t c =
    next_sourced source_of c.args.members.now c.loop-next.next-index c.next-item.result c.args.tables.now (map (λ s. s.now) c.args.scopes.now) c.loop-next.from c.in_ok-from.from _
    c.loop-next-test.true c.next-item.is c.loop-next.invariant c.in_ok-from.ensures

pub sources-returns-in_err-from : goal.sources-returns-in_err-from
sources-returns-in_err-from t c =
    sources_fail source_of c.args.members.now c.loop-next.next-index c.next-item.result c.args.tables.now (map (λ s. s.now) c.args.scopes.now) c.loop-next.from _ c.from_residual.result c.in_err-from.field-0.0
    c.loop-next-test.true c.next-item.is c.loop-next.invariant c.from_residual.ensures.1 c.in_err-from.ensures

pub conjs-loop-next-preserved : goal.conjs-loop-next-preserved
conjs-loop-next-preserved t c =
    next_gathered conj c.args.members.now c.loop-next.next-index c.next-item.result c.in_ok-c.c c.args.tables.now (map (λ s. s.now) c.args.scopes.now) c.loop-next.all c.in_ok-all.all _
    c.loop-next-test.true c.next-item.is c.loop-next.invariant c.in_ok-c.ensures c.in_ok-all.ensures

pub conjs-returns-in_err-c : goal.conjs-returns-in_err-c
conjs-returns-in_err-c t c =
    gathered_fails conj c.args.members.now c.loop-next.next-index c.next-item.result c.args.tables.now (map (λ s. s.now) c.args.scopes.now) c.loop-next.all _ c.from_residual.result c.in_err-c.field-0.0
    c.loop-next-test.true c.next-item.is c.loop-next.invariant c.from_residual.ensures.1 c.in_err-c.ensures

pub conj-loop-next-preserved : goal.conj-loop-next-preserved
conj-loop-next-preserved t c =
    next_gathered neg c.as_slice-members.result.now c.loop-next.next-index c.next-item.result c.in_ok-more.more c.args.tables.now (map (λ s. s.now) c.args.scopes.now) c.loop-next.all c.in_ok-all-2.all _
    c.loop-next-test.true c.next-item.is c.loop-next.invariant c.in_ok-more.ensures c.in_ok-all-2.ensures

pub conj-returns-in_err-c : goal.conj-returns-in_err-c
conj-returns-in_err-c t c =
    conj_head_fails c.args.of.now c.args.tables.now (map (λ s. s.now) c.args.scopes.now) c.from_residual.result c.in_err-c.field-0.0 c.from_residual.ensures.1 c.in_err-c.ensures

pub conj-returns-in_err-more : goal.conj-returns-in_err-more
conj-returns-in_err-more t c =
    conj_fails c.args.of.now c.in_ok-c.c c.in_ok-all.all c.loop-next.all c.as_slice-members.result.now c.loop-next.next-index c.next-item.result c.args.tables.now (map (λ s. s.now) c.args.scopes.now)
    c.from_residual-in_err-more.result c.in_err-more.field-0.0 c.in_ok-c.ensures c.in_ok-all.ensures c.as_slice-members.ensures
    c.loop-next-test.true c.next-item.is c.loop-next.invariant c.from_residual-in_err-more.ensures.1 c.in_err-more.ensures

pub conj-returns : goal.conj-returns
conj-returns t c =
    conj_ends c.args.of.now c.in_ok-c.c c.in_ok-all.all c.loop-next.all c.as_slice-members.result.now c.loop-next.next-index c.args.tables.now (map (λ s. s.now) c.args.scopes.now) c.all_of.result
    c.in_ok-c.ensures c.in_ok-all.ensures c.as_slice-members.ensures (drop_all c.loop-next.next-index c.as_slice-members.result.now c.loop-next-test.false) c.loop-next.invariant c.all_of.ensures

pub pick-returns-in_err-first : goal.pick-returns-in_err-first
pick-returns-in_err-first t c =
    pick_head_fails c.args.of.now c.no_sources.result c.args.tables.now (map (λ s. s.now) c.args.scopes.now) c.from_residual.result c.in_err-first.field-0.0
    c.no_sources.ensures c.from_residual.ensures.1 c.in_err-first.ensures

pub pick-returns-in_err-from : goal.pick-returns-in_err-from
pick-returns-in_err-from t c =
    pick_tail_fails c.args.of.now c.no_sources.result c.in_ok-first.first c.as_slice.result.now c.args.tables.now (map (λ s. s.now) c.args.scopes.now) c.from_residual-in_err-from.result c.in_err-from.field-0.0
    c.no_sources.ensures c.in_ok-first.ensures c.as_slice.ensures c.from_residual-in_err-from.ensures.1 c.in_err-from.ensures

pub pick-returns-in_err-all : goal.pick-returns-in_err-all
pick-returns-in_err-all t c =
    pick_where_fails c.args.of.now c.no_sources.result c.in_ok-first.first c.in_ok-from.from c.as_slice.result.now c.args.tables.now (map (λ s. s.now) c.args.scopes.now) c.from_residual-in_err-all.result c.in_err-all.field-0.0
    c.no_sources.ensures c.in_ok-first.ensures c.as_slice.ensures c.in_ok-from.ensures c.from_residual-in_err-all.ensures.1 c.in_err-all.ensures

pub pick-returns-in_err-list : goal.pick-returns-in_err-list
pick-returns-in_err-list t c =
    pick_list_fails c.args.of.now c.no_sources.result c.in_ok-first.first c.in_ok-from.from c.in_ok-all.all c.as_slice.result.now c.as_slice-2.result.now c.args.tables.now (map (λ s. s.now) c.args.scopes.now) c.from_residual-in_err-list.result c.in_err-list.field-0.0
    c.no_sources.ensures c.in_ok-first.ensures c.as_slice.ensures c.in_ok-from.ensures c.in_ok-all.ensures c.as_slice-2.ensures c.from_residual-in_err-list.ensures.1 c.in_err-list.ensures

pub pick-returns : goal.pick-returns
pick-returns t c =
    pick_done c.args.of.now c.no_sources.result c.in_ok-first.first c.in_ok-from.from c.in_ok-all.all c.as_slice.result.now c.as_slice-2.result.now c.in_ok-list.list c.args.tables.now (map (λ s. s.now) c.args.scopes.now) c.select_of.result
    c.no_sources.ensures c.in_ok-first.ensures c.as_slice.ensures c.in_ok-from.ensures c.in_ok-all.ensures c.as_slice-2.ensures c.in_ok-list.ensures c.select_of.ensures

pub neg-returns-in_err-inner : goal.neg-returns-in_err-inner
neg-returns-in_err-inner t c =
    neg_fails c.args.of.now c.args.tables.now (map (λ s. s.now) c.args.scopes.now) c.from_residual.result c.in_err-inner.field-0.0 c.from_residual.ensures.1 c.in_err-inner.ensures

pub chain-returns-in_err-head : goal.chain-returns-in_err-head
chain-returns-in_err-head t c =
    chain_fails c.args.of.now c.args.tables.now (map (λ s. s.now) c.args.scopes.now) c.from_residual.result c.in_err-head.field-0.0 c.from_residual.ensures.1 c.in_err-head.ensures

pub meet-returns-in_err-head : goal.meet-returns-in_err-head
meet-returns-in_err-head t c =
    meet_fails c.args.of.now c.args.tables.now (map (λ s. s.now) c.args.scopes.now) c.from_residual.result c.in_err-head.field-0.0 c.from_residual.ensures.1 c.in_err-head.ensures

pub cond-returns-in_err-c : goal.cond-returns-in_err-c
cond-returns-in_err-c t c =
    cond_head_fails c.args.of.now c.args.tables.now (map (λ s. s.now) c.args.scopes.now) c.from_residual.result c.in_err-c.field-0.0 c.from_residual.ensures.1 c.in_err-c.ensures

pub source-returns-in_err-more : goal.source-returns-in_err-more
source-returns-in_err-more t c =
    source_base_fails c.args.of.now c.args.from c.args.tables.now (map (λ s. s.now) c.args.scopes.now) c.from_residual.result c.in_err-more.field-0.0 c.from_residual.ensures.1 c.in_err-more.ensures

pub source-returns : goal.source-returns
source-returns t c =
    source_done c.args.of.now c.args.from c.in_ok-more.more c.len-own.result c.as_slice.result.now c.args.tables.now (map (λ s. s.now) c.args.scopes.now) c.joins.result
    c.len-own.ensures c.in_ok-more.ensures c.as_slice.ensures c.joins.ensures

pub cond-returns : goal.cond-returns
cond-returns t c =
    cond_done c.args.of.now c.in_ok-c.c c.in_ok-first.first c.in_ok-all.all c.as_slice.result.now c.any_of.result c.args.tables.now (map (λ s. s.now) c.args.scopes.now)
    c.in_ok-c.ensures c.in_ok-first.ensures c.as_slice.ensures c.in_ok-all.ensures c.any_of.ensures

pub chain-returns : goal.chain-returns
chain-returns t c =
    chain_done c.args.of.now c.in_ok-head.head c.as_slice.result.now c.args.tables.now (map (λ s. s.now) c.args.scopes.now) c.chain_links.result
    c.in_ok-head.ensures c.as_slice.ensures c.chain_links.ensures

pub meet-returns : goal.meet-returns
meet-returns t c =
    meet_done c.args.of.now c.in_ok-head.head c.as_slice.result.now c.args.tables.now (map (λ s. s.now) c.args.scopes.now) c.meet_links.result
    c.in_ok-head.ensures c.as_slice.ensures c.meet_links.ensures

pub cond-returns-in_err-all : goal.cond-returns-in_err-all
cond-returns-in_err-all t c =
    cond_tail_fails c.args.of.now c.in_ok-c.c c.in_ok-first.first c.as_slice.result.now c.args.tables.now (map (λ s. s.now) c.args.scopes.now) c.from_residual-in_err-all.result c.in_err-all.field-0.0
    c.in_ok-c.ensures c.in_ok-first.ensures c.as_slice.ensures c.from_residual-in_err-all.ensures.1 c.in_err-all.ensures
