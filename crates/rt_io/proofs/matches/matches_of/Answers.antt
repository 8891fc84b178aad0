use Rattle.std.proofs.Common.{◌∙◌, ap, map, subst, sym, List}
use Rattle.clap.specs.Words.{App, HasKind, fault_of, is_simple, is_simple_and_free, matches_of}
use Rattle.rt_io.specs.App.{faults, rows_read}
use Rattle.rt_io.specs.Reading.{Text}
use Rattle.rt_io.proofs.CommandLemmas.{app_is_free, app_is_simple}
use Rattle.rt_io.proofs.Parsing.{parsed, refused-words}
use Rattle.rt_io.proofs.matches.matches_of.Goals as goal

pub returns-in-Ok-try_get_matches_from-clause-ok : goal.returns-in-Ok-try_get_matches_from-clause-ok
unfolding rows_read faults
returns-in-Ok-try_get_matches_from-clause-ok c =
    let words : List Text = map (λ s. s.now) c.args.words.now in
    let rows = (c.in-Ok-try_get_matches_from.ensures.matches (ap is_simple c.in-Ok.ensures ∙ app_is_simple)).0 ∙ ap (λ (a : App). matches_of a words) c.in-Ok.ensures in
    let passes = sym (ap (λ (a : App). fault_of a words) c.in-Ok.ensures) ∙ c.in-Ok-try_get_matches_from.ensures.kinds (ap is_simple_and_free c.in-Ok.ensures ∙ app_is_free) in
    parsed words c.texts_are_valid.ensures passes _ rows

pub returns-in-Err-clause-err : goal.returns-in-Err-clause-err
unfolding faults
returns-in-Err-clause-err c =
    let words : List Text = map (λ s. s.now) c.args.words.now in
    let kinds = subst (λ (a : App). HasKind (fault_of a words) c.in-Err.e) c.in-Ok.ensures (c.in-Err.ensures.kinds (ap is_simple_and_free c.in-Ok.ensures ∙ app_is_free)) in
    refused-words words c.texts_are_valid.ensures c.in-Err.e c.fault_of.result kinds (rw (← c.kind.ensures) c.fault_of.ensures)
