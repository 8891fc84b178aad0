use Rattle.std.proofs.Common.{◌≡◌, ℕ, ◌≤◌, ◌-◌, ◌++◌, false, length, replicate, vec_capacity}
use Rattle.rt_store.specs.Members.{members}
use Rattle.rt_store.specs.Places.{IsInverse}
use Rattle.rt_store.proofs.places.HeapOrder.grow.Given as goal

abbrev pub invariant-loop-var : goal.invariant-loop-var
invariant-loop-var l =
    (length l.self-inside.places.items ≡ l.var)
    × IsInverse l.self-inside.places.items l.self-inside.items.items
    × ((n : ℕ) → n ≤ l.len → members n l.self-inside.places.items ≡ members n l.fn.self ++ replicate (l.var - l.len) false)
    × (l.count ≤ vec_capacity l.self-inside.places) × (l.count ≤ vec_capacity l.self-inside.items)
