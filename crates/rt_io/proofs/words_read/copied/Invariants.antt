use Rattle.std.proofs.Common.{◌≡◌, ◌++◌, drop, map}
use Rattle.rt_io.proofs.words_read.copied.Given as goal

abbrev pub invariant-loop-word : goal.invariant-loop-word
invariant-loop-word l = l.texts ++ map (λ s. s.now) (drop l.word-index l.words) ≡ map (λ s. s.now) l.words
