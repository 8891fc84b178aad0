-- The arguments as `clap` reads them.
use Rattle.std.specs.Prelude.{◌≡◌, ◌≢◌, List, [], ◌∷◌, Some, None, true, codes, if◌then◌else◌, option_and_then}
use Rattle.std.specs.Str.{bytes_eq}
use Rattle.clap.specs.declared.error.kind.ErrorKind.{ErrorKind}
use Rattle.clap.specs.declared.error.kind.ErrorKind.TheVariants as kinds
use Rattle.rt_io.specs.declared.word_fault.WordFault.{WordFault}
use Rattle.rt_io.specs.declared.word_fault.WordFault.TheVariants.{Usage, NoMemory}
use Rattle.clap.specs.Words.{App, Kinds, Row, Rule, fault_of, matches_of, new_app, new_rule, with_rule}
use Rattle.clap.specs.Simple.{on_top}
use Rattle.clap.specs.declared.builder.action.ArgAction.TheVariants.{Append}
use Rattle.rt_io.specs.Reading.{Reading, Text, read}
use Rattle.rt_io.specs.Command.{limits}

abbrev pub plain_rule : Rule
plain_rule = record (new_rule (codes "words")) { action = Some Append }

abbrev pub conflicts_rule : Rule
conflicts_rule = record (new_rule (codes "conflicts")) { long = Some (codes "conflicts") }

abbrev pub work_rule : Rule
work_rule = record (new_rule (codes "work")) { long = Some (codes "work") }

abbrev pub empty_app : App
empty_app = on_top (λ s. record s { no_binary_name = true; disable_help_flag = true }) (new_app (codes "ratest"))

unfoldable pub command_app : App
command_app = with_rule (with_rule (with_rule empty_app plain_rule) conflicts_rule) work_rule

-- the errors of the arguments, and what is read of them
unfoldable pub faults : List Text → Kinds
faults texts = fault_of command_app texts

unfoldable pub rows_read : List Text → List Row
rows_read texts = matches_of command_app texts

-- the values of the first row of the id
abbrev pub values_in : Text → List Row → List Text
values_in id [] = []
values_in id (r ∷ rest) = if bytes_eq r.id id then r.values else values_in id rest

abbrev pub reading_in : List Row → Reading
reading_in rows = record {
  plain = values_in (codes "words") rows;
  conflicts = values_in (codes "conflicts") rows;
  work = values_in (codes "work") rows;
}

abbrev pub IsFaultOf : ErrorKind → WordFault → Type 0
IsFaultOf kind Usage = kind ≢ kinds.OutOfMemory
IsFaultOf kind NoMemory = Unit {0}

-- no limits can be read
abbrev pub IsRefused : List Text → WordFault → Type 0
IsRefused texts Usage = option_and_then limits (read texts) ≡ None
IsRefused texts NoMemory = Unit {0}
