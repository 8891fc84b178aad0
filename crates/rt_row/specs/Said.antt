-- The text of a verdict on a row.
use Rattle.std.specs.Prelude.{ℕ, List, [], ◌++◌, codes}
use Rattle.rt_print.specs.Texts.{spent_text}
use Rattle.rt_row.specs.declared.fault.RowFault.{RowFault}
use Rattle.rt_row.specs.declared.fault.RowFault.TheVariants.{Lex, RowSyntax, RowWidth, RowKind, NoMemory}
use Rattle.rt_input.specs.Accepted.{Accepted}
use Rattle.rt_input.specs.Texts.{lex_text}
use Rattle.rt_top.specs.Texts.{rows_text}
use Rattle.rt_row.specs.declared.outcome.RowVerdict.{RowVerdict}
use Rattle.rt_row.specs.declared.outcome.RowVerdict.TheVariants.{Witness, Never, Spent, Refused}

abbrev pub fault_text : RowFault → List ℕ
fault_text (Lex fault) = lex_text fault
fault_text RowSyntax = codes "syntax fault"
fault_text RowWidth = codes "numbers of columns differ"
fault_text RowKind = codes "types do not match"
fault_text NoMemory = []

abbrev pub fault_line : RowFault → List ℕ
fault_line fault = codes "ratest: row: " ++ (fault_text fault ++ codes "\n")

-- over a generated input too the rows are printed, and no summary
abbrev pub row_text : Accepted → RowVerdict → List ℕ
row_text input (Witness keep) = rows_text input keep
row_text input Never = codes "never\n"
row_text input (Spent s) = spent_text input.schema input.given.tables s.budget s.best
row_text input (Refused fault) = fault_line fault
