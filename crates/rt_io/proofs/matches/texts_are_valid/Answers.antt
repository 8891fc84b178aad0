use Rattle.std.proofs.Common.{◌∙◌, ℕ, [], map, get_or, below_more, subst, sym}
use Rattle.std.specs.Str.{IsUtf8}
use Rattle.std.proofs.lemmas.List.{get_or-map}
use Rattle.rt_io.proofs.matches.texts_are_valid.Goals as goal

pub loop-word-preserved : goal.loop-word-preserved
loop-word-preserved c = λ k d h.
    let here = subst IsUtf8 (c.same_text-text.ensures ∙ sym (get_or-map (λ s. s.now) c.args.words.now c.loop-word.word-index (record { ref_ptr = (0, 0); now = [] }) d c.loop-word-test.true)) c.same_text-text.utf8 in
    below_more (λ (k : ℕ). IsUtf8 (get_or (map (λ s. s.now) c.args.words.now) k d)) c.loop-word.word-index (λ j lt. c.loop-word.invariant j d lt) here k h
