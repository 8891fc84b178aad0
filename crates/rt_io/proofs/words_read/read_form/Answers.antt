use Rattle.std.proofs.Common.{[], None, Err, List, codes, map, Some}
use Rattle.clap.specs.Words.{found_of, rows_of}
use Rattle.rt_io.specs.Command.{of_form}
use Rattle.rt_io.specs.Reading.{Text, read}
use Rattle.rt_io.specs.declared.word_fault.WordFault.TheVariants.{Usage}
use Rattle.rt_io.proofs.Found.{formed, no_words, values-are}
use Rattle.rt_io.proofs.words_read.read_form.Goals as goal

pub returns-in-Some-get_raw : goal.returns-in-Some-get_raw
returns-in-Some-get_raw c =
    let plain : List Text = map (λ s. s.now) c.in-Some-get_raw.plain.now in
    formed (of_form c.args.made) (read (map (λ s. s.now) c.args.words.now)) (rows_of (found_of c.in_ok-matches.matches)) c.in-Some.limits plain c.form_command.result
    c.in_ok-matches.ensures.ok c.in-Some.ensures.value (values-are (codes "words") c.in_ok-matches.matches (Some plain) c.in-Some-get_raw.ensures) c.form_command.ensures

pub returns : goal.returns
returns c =
    formed (of_form c.args.made) (read (map (λ s. s.now) c.args.words.now)) (rows_of (found_of c.in_ok-matches.matches)) c.in-Some.limits [] (Err Usage)
    c.in_ok-matches.ensures.ok c.in-Some.ensures.value (values-are (codes "words") c.in_ok-matches.matches None c.in-None.ensures) (no_words c.args.made c.in-Some.limits)
