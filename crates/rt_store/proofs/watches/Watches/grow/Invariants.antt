use Rattle.std.proofs.Common.{◌≡◌, ℕ, ◌≤◌, ◌^◌, ◌-◌, length, map}
use Rattle.std.specs.Prelude.{vec_items}
use Rattle.rt_store.specs.Watching.{list_at}
use Rattle.rt_store.proofs.watches.Watches.grow.Given as goal

abbrev pub invariant-lists : goal.invariant-lists
invariant-lists l = record {
  kept : (k : ℕ) → list_at (map vec_items l.self-inside.lists.items) k ≡ list_at l.fn.self.lists k;
  longer : length l.fn.self.lists ≤ length l.self-inside.lists.items;
  few : length l.fn.self.lists ≤ 2 ^ 32 → length l.self-inside.lists.items ≤ 2 ^ 32;
}

abbrev pub decreases-lists : goal.decreases-lists
decreases-lists l = l.lists - l.self-inside.lists.len
