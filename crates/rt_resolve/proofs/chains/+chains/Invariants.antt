use Rattle.std.proofs.Common.{◌≡◌, drop, map}
use Rattle.rt_resolve.specs.Chains.{chain_link, conj, gathered, join, joined_all, linked_all, meet_link, neg, source_of, sources_all}
use Rattle.rt_resolve.proofs.chains.+chains.Given as goal

abbrev pub invariant-conj-loop-next : goal.invariant-conj-loop-next
invariant-conj-loop-next l = gathered l.all (map neg (drop l.next-index l.members)) l.tables (map (λ s. s.now) l.scopes) ≡ gathered l.initial.all (map neg l.members) l.tables (map (λ s. s.now) l.scopes)

abbrev pub invariant-conjs-loop-next : goal.invariant-conjs-loop-next
invariant-conjs-loop-next l = gathered l.all (map conj (drop l.next-index l.members)) l.tables (map (λ s. s.now) l.scopes) ≡ gathered l.fn.start (map conj l.members) l.tables (map (λ s. s.now) l.scopes)

abbrev pub invariant-joins-loop-next : goal.invariant-joins-loop-next
invariant-joins-loop-next l = joined_all l.from l.own (map join (drop l.next-index l.members)) l.tables (map (λ s. s.now) l.scopes) ≡ joined_all l.fn.start l.own (map join l.members) l.tables (map (λ s. s.now) l.scopes)

abbrev pub invariant-sources-loop-next : goal.invariant-sources-loop-next
invariant-sources-loop-next l = sources_all l.from (map source_of (drop l.next-index l.members)) l.tables (map (λ s. s.now) l.scopes) ≡ sources_all l.fn.start (map source_of l.members) l.tables (map (λ s. s.now) l.scopes)

abbrev pub invariant-meet_links-loop-next : goal.invariant-meet_links-loop-next
invariant-meet_links-loop-next l = linked_all l.all (map meet_link (drop l.next-index l.members)) l.tables (map (λ s. s.now) l.scopes) ≡ linked_all l.fn.start (map meet_link l.members) l.tables (map (λ s. s.now) l.scopes)

abbrev pub invariant-chain_links-loop-next : goal.invariant-chain_links-loop-next
invariant-chain_links-loop-next l = linked_all l.all (map chain_link (drop l.next-index l.members)) l.tables (map (λ s. s.now) l.scopes) ≡ linked_all l.fn.start (map chain_link l.members) l.tables (map (λ s. s.now) l.scopes)
