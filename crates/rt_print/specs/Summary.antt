-- The text that is printed of a search over a generated input, in place of its rows.
use Rattle.std.specs.Prelude.{ℕ, ◌*◌, ◌++◌, codes}
use Rattle.std.specs.Fmt.{decimal}
use Rattle.rt_print.specs.declared.verdict.MadeVerdict.{MadeVerdict}
use Rattle.rt_print.specs.declared.verdict.MadeVerdict.TheVariants.{Agree, Size, Undecided}
use Rattle.rt_print.specs.Texts.{Text, budget_line, count_line, line}

abbrev pub verdict_line : MadeVerdict → Text
verdict_line Agree = line (codes "agree")
verdict_line (Size rows) = count_line (codes "witness") rows
verdict_line (Undecided budget) = budget_line budget

-- the input for n students has 5 * n rows
abbrev pub made_text : ℕ → MadeVerdict → Text
made_text n verdict = line (codes "made " ++ decimal n) ++ (line (codes "rows " ++ decimal (5 * n)) ++ verdict_line verdict)
