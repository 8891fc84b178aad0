use Rattle.std.proofs.Common.{◌∙◌}
use Rattle.rt_eval.proofs.DistinctLaws.{strict, same, sorted_distinct, unrepeated, distinct_unrepeated}
use Rattle.rt_eval.proofs.rows.Rows.of.Goals as goal

pub invariant_of-result : goal.invariant_of-result
invariant_of-result c = strict c.sort.new.self.items c.dedup-2.new.self.items c.in_ok-sort.ensures.sorted c.dedup-2.ensures.filtered

pub returns-clause-listed : goal.returns-clause-listed
returns-clause-listed c = rw (← c.into_vec-items.ensures) (sorted_distinct c.dedup.new.self.items c.sort.new.self.items c.dedup-2.new.self.items
    c.in_ok-sort.ensures.permutation c.in_ok-sort.ensures.sorted c.dedup-2.ensures.filtered
    ∙ distinct_unrepeated c.into_vec-items.result.items c.dedup.new.self.items c.dedup.ensures.filtered)

pub returns-clause-members : goal.returns-clause-members
returns-clause-members c x = rw (← c.into_vec-items.ensures) (same c.dedup.new.self.items c.sort.new.self.items c.dedup-2.new.self.items x
    c.in_ok-sort.ensures.permutation c.dedup-2.ensures.filtered ∙ unrepeated c.into_vec-items.result.items c.dedup.new.self.items x c.dedup.ensures.filtered)
