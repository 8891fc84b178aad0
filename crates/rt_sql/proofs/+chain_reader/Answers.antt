use Rattle.std.proofs.Common.{◌∙◌, sym, refl}
use Rattle.rt_token.proofs.Loops.{after-ends, after-fails, after-more, after-shorter, passed-on, when-ends, when-fails, when-more, when-shorter}
use Rattle.rt_token.specs.Readers.{starts}
use Rattle.rt_token.specs.declared.fixed.Fixed.TheVariants as fixed
use Rattle.rt_sql.specs.Reads.{is_join, is_union, level, read_chain_link, read_conj, read_join, read_meet_link, read_neg, read_source}
use Rattle.rt_sql.proofs.CondLaws.{conj-step-law, neg-step-law}
use Rattle.rt_sql.proofs.ChainLaws.{chain-step-law, join-step-law, level-chain, level-cond, level-law, level-none, meet-step-law, source-step-law}
use Rattle.rt_sql.proofs.+chain_reader.Goals as goal

pub conditions::more_negs-returns-in_err-item : goal.conditions::more_negs-returns-in_err-item
conditions::more_negs-returns-in_err-item t c = passed-on c.from_residual.result c.in_err-item.field-0.0 _ c.from_residual.ensures.1
    (after-fails fixed.And (read_neg (level c.args.depth)) c.items.items c.items.rest.now c.in-Some.next.now c.args.terminals.now c.in_err-item.field-0.0 c.items.invariant c.in-Some.ensures c.in_err-item.ensures)

pub conditions::more_negs-items-smaller : goal.conditions::more_negs-items-smaller
conditions::more_negs-items-smaller t c = after-shorter fixed.And (read_neg (level c.args.depth)) _ _ _ _ (neg-step-law (level c.args.depth) c.args.depth (level-law c.args.depth)) c.items.rest.now c.in-Some.next.now c.in_ok-item.more.now c.in_ok-item.item c.in-Some.ensures c.in_ok-item.ensures

pub conditions::more_negs-items-preserved : goal.conditions::more_negs-items-preserved
conditions::more_negs-items-preserved t c = rw c.in_ok-push.ensures.ok
    (after-more fixed.And (read_neg (level c.args.depth)) _ _ _ _ (neg-step-law (level c.args.depth) c.args.depth (level-law c.args.depth)) c.items.items c.items.rest.now c.in-Some.next.now c.args.terminals.now c.in_ok-item.more.now c.in_ok-item.item c.items.invariant c.in-Some.ensures c.in_ok-item.ensures)

pub conditions::more_negs-returns : goal.conditions::more_negs-returns
conditions::more_negs-returns t c = after-ends fixed.And (read_neg (level c.args.depth)) c.items.items c.items.rest.now c.args.terminals.now c.items.invariant c.in_default.ensures

pub conditions::more_conjs-returns-in_err-item : goal.conditions::more_conjs-returns-in_err-item
conditions::more_conjs-returns-in_err-item t c = passed-on c.from_residual.result c.in_err-item.field-0.0 _ c.from_residual.ensures.1
    (after-fails fixed.Or (read_conj (level c.args.depth)) c.items.items c.items.rest.now c.in-Some.next.now c.args.terminals.now c.in_err-item.field-0.0 c.items.invariant c.in-Some.ensures c.in_err-item.ensures)

pub conditions::more_conjs-items-smaller : goal.conditions::more_conjs-items-smaller
conditions::more_conjs-items-smaller t c = after-shorter fixed.Or (read_conj (level c.args.depth)) _ _ _ _ (conj-step-law (level c.args.depth) c.args.depth (level-law c.args.depth)) c.items.rest.now c.in-Some.next.now c.in_ok-item.more.now c.in_ok-item.item c.in-Some.ensures c.in_ok-item.ensures

pub conditions::more_conjs-items-preserved : goal.conditions::more_conjs-items-preserved
conditions::more_conjs-items-preserved t c = rw c.in_ok-push.ensures.ok
    (after-more fixed.Or (read_conj (level c.args.depth)) _ _ _ _ (conj-step-law (level c.args.depth) c.args.depth (level-law c.args.depth)) c.items.items c.items.rest.now c.in-Some.next.now c.args.terminals.now c.in_ok-item.more.now c.in_ok-item.item c.items.invariant c.in-Some.ensures c.in_ok-item.ensures)

pub conditions::more_conjs-returns : goal.conditions::more_conjs-returns
conditions::more_conjs-returns t c = after-ends fixed.Or (read_conj (level c.args.depth)) c.items.items c.items.rest.now c.args.terminals.now c.items.invariant c.in_default.ensures

pub sources::more_sources-returns-in_err-item : goal.sources::more_sources-returns-in_err-item
sources::more_sources-returns-in_err-item t c = passed-on c.from_residual.result c.in_err-item.field-0.0 _ c.from_residual.ensures.1
    (after-fails fixed.Comma (read_source (level c.args.depth)) c.items.items c.items.rest.now c.in-Some.next.now c.args.terminals.now c.in_err-item.field-0.0 c.items.invariant c.in-Some.ensures c.in_err-item.ensures)

pub sources::more_sources-items-smaller : goal.sources::more_sources-items-smaller
sources::more_sources-items-smaller t c = after-shorter fixed.Comma (read_source (level c.args.depth)) _ _ _ _ (source-step-law (level c.args.depth) c.args.depth (level-law c.args.depth)) c.items.rest.now c.in-Some.next.now c.in_ok-item.more.now c.in_ok-item.item c.in-Some.ensures c.in_ok-item.ensures

pub sources::more_sources-items-preserved : goal.sources::more_sources-items-preserved
sources::more_sources-items-preserved t c = rw c.in_ok-push.ensures.ok
    (after-more fixed.Comma (read_source (level c.args.depth)) _ _ _ _ (source-step-law (level c.args.depth) c.args.depth (level-law c.args.depth)) c.items.items c.items.rest.now c.in-Some.next.now c.args.terminals.now c.in_ok-item.more.now c.in_ok-item.item c.items.invariant c.in-Some.ensures c.in_ok-item.ensures)

pub sources::more_sources-returns : goal.sources::more_sources-returns
sources::more_sources-returns t c = after-ends fixed.Comma (read_source (level c.args.depth)) c.items.items c.items.rest.now c.args.terminals.now c.items.invariant c.in_default.ensures

pub sources::joins-returns-in_err-item : goal.sources::joins-returns-in_err-item
sources::joins-returns-in_err-item t c = passed-on c.from_residual.result c.in_err-item.field-0.0 _ c.from_residual.ensures.1
    (when-fails is_join (read_join (level c.args.depth)) c.items.items c.items.rest.now c.args.terminals.now c.in_err-item.field-0.0 c.items.invariant refl (sym c.is_join.ensures ∙ c.items-test.true) c.in_err-item.ensures)

pub sources::joins-items-smaller : goal.sources::joins-items-smaller
sources::joins-items-smaller t c = when-shorter is_join (read_join (level c.args.depth)) _ _ _ _ (join-step-law (level c.args.depth) c.args.depth (level-law c.args.depth)) c.items.rest.now c.in_ok-item.more.now c.in_ok-item.item (sym c.is_join.ensures ∙ c.items-test.true) c.in_ok-item.ensures

pub sources::joins-items-preserved : goal.sources::joins-items-preserved
sources::joins-items-preserved t c = rw c.in_ok-push.ensures.ok
    (when-more is_join (read_join (level c.args.depth)) _ _ _ _ (join-step-law (level c.args.depth) c.args.depth (level-law c.args.depth)) c.items.items c.items.rest.now c.args.terminals.now c.in_ok-item.more.now c.in_ok-item.item c.items.invariant (sym c.is_join.ensures ∙ c.items-test.true) c.in_ok-item.ensures)

pub sources::joins-returns : goal.sources::joins-returns
sources::joins-returns t c = when-ends is_join (read_join (level c.args.depth)) c.items.items c.items.rest.now c.args.terminals.now c.items.invariant (sym c.is_join.ensures ∙ c.items-test.false)

pub chains::meet_links-returns-in_err-item : goal.chains::meet_links-returns-in_err-item
chains::meet_links-returns-in_err-item t c = passed-on c.from_residual.result c.in_err-item.field-0.0 _ c.from_residual.ensures.1
    (when-fails (starts fixed.Intersect) (read_meet_link (level c.args.depth)) c.items.items c.items.rest.now c.args.terminals.now c.in_err-item.field-0.0 c.items.invariant refl (sym c.starts.ensures ∙ c.items-test.true) c.in_err-item.ensures)

pub chains::meet_links-items-smaller : goal.chains::meet_links-items-smaller
chains::meet_links-items-smaller t c = when-shorter (starts fixed.Intersect) (read_meet_link (level c.args.depth)) _ _ _ _ (meet-step-law (level c.args.depth) c.args.depth (level-law c.args.depth)) c.items.rest.now c.in_ok-item.more.now c.in_ok-item.item (sym c.starts.ensures ∙ c.items-test.true) c.in_ok-item.ensures

pub chains::meet_links-items-preserved : goal.chains::meet_links-items-preserved
chains::meet_links-items-preserved t c = rw c.in_ok-push.ensures.ok
    (when-more (starts fixed.Intersect) (read_meet_link (level c.args.depth)) _ _ _ _ (meet-step-law (level c.args.depth) c.args.depth (level-law c.args.depth)) c.items.items c.items.rest.now c.args.terminals.now c.in_ok-item.more.now c.in_ok-item.item c.items.invariant (sym c.starts.ensures ∙ c.items-test.true) c.in_ok-item.ensures)

pub chains::meet_links-returns : goal.chains::meet_links-returns
chains::meet_links-returns t c = when-ends (starts fixed.Intersect) (read_meet_link (level c.args.depth)) c.items.items c.items.rest.now c.args.terminals.now c.items.invariant (sym c.starts.ensures ∙ c.items-test.false)

pub chains::chain_links-returns-in_err-item : goal.chains::chain_links-returns-in_err-item
chains::chain_links-returns-in_err-item t c = passed-on c.from_residual.result c.in_err-item.field-0.0 _ c.from_residual.ensures.1
    (when-fails is_union (read_chain_link (level c.args.depth)) c.items.items c.items.rest.now c.args.terminals.now c.in_err-item.field-0.0 c.items.invariant refl (sym c.is_union.ensures ∙ c.items-test.true) c.in_err-item.ensures)

pub chains::chain_links-items-smaller : goal.chains::chain_links-items-smaller
chains::chain_links-items-smaller t c = when-shorter is_union (read_chain_link (level c.args.depth)) _ _ _ _ (chain-step-law (level c.args.depth) c.args.depth (level-law c.args.depth)) c.items.rest.now c.in_ok-item.more.now c.in_ok-item.item (sym c.is_union.ensures ∙ c.items-test.true) c.in_ok-item.ensures

pub chains::chain_links-items-preserved : goal.chains::chain_links-items-preserved
chains::chain_links-items-preserved t c = rw c.in_ok-push.ensures.ok
    (when-more is_union (read_chain_link (level c.args.depth)) _ _ _ _ (chain-step-law (level c.args.depth) c.args.depth (level-law c.args.depth)) c.items.items c.items.rest.now c.args.terminals.now c.in_ok-item.more.now c.in_ok-item.item c.items.invariant (sym c.is_union.ensures ∙ c.items-test.true) c.in_ok-item.ensures)

pub chains::chain_links-returns : goal.chains::chain_links-returns
chains::chain_links-returns t c = when-ends is_union (read_chain_link (level c.args.depth)) c.items.items c.items.rest.now c.args.terminals.now c.items.invariant (sym c.is_union.ensures ∙ c.items-test.false)

pub chains::inner_chain-returns : goal.chains::inner_chain-returns
chains::inner_chain-returns t c = level-chain c.args.depth c.args.terminals.now c.chain.result c.if-depth-eq0.false c.chain.ensures

pub conditions::inner_cond-returns : goal.conditions::inner_cond-returns
conditions::inner_cond-returns t c = level-cond c.args.depth c.args.terminals.now c.cond.result c.if-depth-eq0.false c.cond.ensures

pub chains::inner_chain-returns-then-depth-eq0 : goal.chains::inner_chain-returns-then-depth-eq0
chains::inner_chain-returns-then-depth-eq0 t c = (level-none c.args.depth c.args.terminals.now c.if-depth-eq0.true).0

pub conditions::inner_cond-returns-then-depth-eq0 : goal.conditions::inner_cond-returns-then-depth-eq0
conditions::inner_cond-returns-then-depth-eq0 t c = (level-none c.args.depth c.args.terminals.now c.if-depth-eq0.true).1
