use Rattle.std.proofs.Common.{◌≡◌, ◌+◌, ◌-◌, ◌≤◌, length, drop}
use Rattle.std.specs.List.{prefix_len}
use Rattle.rt_token.specs.Lexed.{is_before_line_end}
use Rattle.rt_token.proofs.bytes.line_len.Given as goal

abbrev pub invariant-loop-n : goal.invariant-loop-n
invariant-loop-n l = (l.n + prefix_len is_before_line_end (drop l.n l.z) ≡ prefix_len is_before_line_end l.z) × (l.n ≤ length l.z)

abbrev pub decreases-loop-n : goal.decreases-loop-n
decreases-loop-n l = length l.z - l.n
