use Rattle.std.proofs.lemmas.Bool.Decides.{same_from_decides}
use Rattle.std.proofs.lemmas.Slice.Eq.{bytes_eq-Decides}
use Rattle.std.specs.Str.{str_to_ascii_lowercase}
use Rattle.rt_load.specs.Integer.{trimmed}
use Rattle.rt_load.proofs.header.is_name.Goals as goal

pub returns : goal.returns
returns c =
    let same = bytes_eq-Decides (str_to_ascii_lowercase (trimmed c.args.field.now)) (str_to_ascii_lowercase c.args.name.now) in
    let test = c.eq_ignore_ascii_case.ensures.test in
    let bytes = c.as_bytes.ensures in
    same_from_decides _ _ (λ e. rw (← c.trimmed.ensures, ← bytes) (test.0 e), λ e. test.1 (rw (c.trimmed.ensures, bytes) e)) same
