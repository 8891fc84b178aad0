use Rattle.std.proofs.Common.{ℕ, ◌<◌, List, map, get_or}
use Rattle.std.specs.Str.{IsUtf8}
use Rattle.rt_io.proofs.matches.texts_are_valid.Given as goal

abbrev pub invariant-loop-word : goal.invariant-loop-word
invariant-loop-word l = (k : ℕ) (d : List ℕ) → k < l.word-index → IsUtf8 (get_or (map (λ s. s.now) l.words) k d)
