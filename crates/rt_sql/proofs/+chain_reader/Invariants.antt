use Rattle.std.proofs.Common.{length, ◌+◌, ◌*◌}
use Rattle.rt_token.proofs.Loops.{Goes}
use Rattle.rt_sql.specs.Reads.{chain_step, conj_step, join_step, level, meet_step, neg_step, source_step}
use Rattle.rt_sql.proofs.+chain_reader.Given as goal

abbrev pub decreases-chains::inner_chain : goal.decreases-chains::inner_chain
decreases-chains::inner_chain l = 40 * l.depth + 0

abbrev pub decreases-chains::chain_in_parens : goal.decreases-chains::chain_in_parens
decreases-chains::chain_in_parens l = 40 * l.depth + 1

abbrev pub decreases-conditions::range : goal.decreases-conditions::range
decreases-conditions::range l = 40 * l.depth + 2

abbrev pub decreases-conditions::test : goal.decreases-conditions::test
decreases-conditions::test l = 40 * l.depth + 3

abbrev pub decreases-conditions::inner_cond : goal.decreases-conditions::inner_cond
decreases-conditions::inner_cond l = 40 * l.depth + 1

abbrev pub decreases-conditions::cond_in_parens : goal.decreases-conditions::cond_in_parens
decreases-conditions::cond_in_parens l = 40 * l.depth + 4

abbrev pub decreases-conditions::atom : goal.decreases-conditions::atom
decreases-conditions::atom l = 40 * l.depth + 5

abbrev pub decreases-conditions::neg : goal.decreases-conditions::neg
decreases-conditions::neg l = 40 * l.depth + 6

abbrev pub decreases-conditions::more_negs : goal.decreases-conditions::more_negs
decreases-conditions::more_negs l = 40 * l.depth + 7

abbrev pub decreases-conditions::conj : goal.decreases-conditions::conj
decreases-conditions::conj l = 40 * l.depth + 8

abbrev pub decreases-conditions::more_conjs : goal.decreases-conditions::more_conjs
decreases-conditions::more_conjs l = 40 * l.depth + 9

abbrev pub decreases-conditions::cond : goal.decreases-conditions::cond
decreases-conditions::cond l = 40 * l.depth + 10

abbrev pub decreases-sources::base : goal.decreases-sources::base
decreases-sources::base l = 40 * l.depth + 11

abbrev pub decreases-sources::on : goal.decreases-sources::on
decreases-sources::on l = 40 * l.depth + 12

abbrev pub decreases-sources::join : goal.decreases-sources::join
decreases-sources::join l = 40 * l.depth + 13

abbrev pub decreases-sources::joins : goal.decreases-sources::joins
decreases-sources::joins l = 40 * l.depth + 14

abbrev pub decreases-sources::source : goal.decreases-sources::source
decreases-sources::source l = 40 * l.depth + 15

abbrev pub decreases-sources::more_sources : goal.decreases-sources::more_sources
decreases-sources::more_sources l = 40 * l.depth + 16

abbrev pub decreases-sources::maybe_where : goal.decreases-sources::maybe_where
decreases-sources::maybe_where l = 40 * l.depth + 17

abbrev pub decreases-sources::sources : goal.decreases-sources::sources
decreases-sources::sources l = 40 * l.depth + 18

abbrev pub decreases-sources::sources_where : goal.decreases-sources::sources_where
decreases-sources::sources_where l = 40 * l.depth + 19

abbrev pub decreases-chains::pick : goal.decreases-chains::pick
decreases-chains::pick l = 40 * l.depth + 20

abbrev pub decreases-chains::primary : goal.decreases-chains::primary
decreases-chains::primary l = 40 * l.depth + 21

abbrev pub decreases-chains::meet_link : goal.decreases-chains::meet_link
decreases-chains::meet_link l = 40 * l.depth + 22

abbrev pub decreases-chains::meet_links : goal.decreases-chains::meet_links
decreases-chains::meet_links l = 40 * l.depth + 23

abbrev pub decreases-chains::meet : goal.decreases-chains::meet
decreases-chains::meet l = 40 * l.depth + 24

abbrev pub decreases-chains::chain_link : goal.decreases-chains::chain_link
decreases-chains::chain_link l = 40 * l.depth + 25

abbrev pub decreases-chains::chain_links : goal.decreases-chains::chain_links
decreases-chains::chain_links l = 40 * l.depth + 26

abbrev pub decreases-chains::chain : goal.decreases-chains::chain
decreases-chains::chain l = 40 * l.depth + 28

abbrev pub invariant-conditions::more_negs-items : goal.invariant-conditions::more_negs-items
invariant-conditions::more_negs-items l = Goes (neg_step (level l.depth)) l.items l.rest l.terminals

abbrev pub decreases-conditions::more_negs-items : goal.decreases-conditions::more_negs-items
decreases-conditions::more_negs-items l = length l.rest

abbrev pub invariant-conditions::more_conjs-items : goal.invariant-conditions::more_conjs-items
invariant-conditions::more_conjs-items l = Goes (conj_step (level l.depth)) l.items l.rest l.terminals

abbrev pub decreases-conditions::more_conjs-items : goal.decreases-conditions::more_conjs-items
decreases-conditions::more_conjs-items l = length l.rest

abbrev pub invariant-sources::more_sources-items : goal.invariant-sources::more_sources-items
invariant-sources::more_sources-items l = Goes (source_step (level l.depth)) l.items l.rest l.terminals

abbrev pub decreases-sources::more_sources-items : goal.decreases-sources::more_sources-items
decreases-sources::more_sources-items l = length l.rest

abbrev pub invariant-sources::joins-items : goal.invariant-sources::joins-items
invariant-sources::joins-items l = Goes (join_step (level l.depth)) l.items l.rest l.terminals

abbrev pub decreases-sources::joins-items : goal.decreases-sources::joins-items
decreases-sources::joins-items l = length l.rest

abbrev pub invariant-chains::meet_links-items : goal.invariant-chains::meet_links-items
invariant-chains::meet_links-items l = Goes (meet_step (level l.depth)) l.items l.rest l.terminals

abbrev pub decreases-chains::meet_links-items : goal.decreases-chains::meet_links-items
decreases-chains::meet_links-items l = length l.rest

abbrev pub invariant-chains::chain_links-items : goal.invariant-chains::chain_links-items
invariant-chains::chain_links-items l = Goes (chain_step (level l.depth)) l.items l.rest l.terminals

abbrev pub decreases-chains::chain_links-items : goal.decreases-chains::chain_links-items
decreases-chains::chain_links-items l = length l.rest
