-- The three truth values (ISO/IEC 9075-2, boolean value expression; Kleene's tables).
use Rattle.std.specs.Prelude.{List, [], ◌∷◌}
use Rattle.rt_value.specs.declared.truth.Truth.{Truth}
use Rattle.rt_value.specs.declared.truth.Truth.TheVariants.{Yes, No, Unknown}

abbrev pub truth_and : Truth → Truth → Truth
truth_and No t = No
truth_and Yes t = t
truth_and Unknown No = No
truth_and Unknown Yes = Unknown
truth_and Unknown Unknown = Unknown

abbrev pub truth_or : Truth → Truth → Truth
truth_or Yes t = Yes
truth_or No t = t
truth_or Unknown Yes = Yes
truth_or Unknown No = Unknown
truth_or Unknown Unknown = Unknown

abbrev pub truth_not : Truth → Truth
truth_not Yes = No
truth_not No = Yes
truth_not Unknown = Unknown

-- And of the members of a list
abbrev pub truth_all : List Truth → Truth
truth_all [] = Yes
truth_all (t ∷ ts) = truth_and t (truth_all ts)

-- Or of the members of a list
abbrev pub truth_any : List Truth → Truth
truth_any [] = No
truth_any (t ∷ ts) = truth_or t (truth_any ts)
