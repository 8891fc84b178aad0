-- The signs of comparisons (ISO/IEC 9075-2, comparison predicate), and their reader.
use Rattle.std.specs.Prelude.{ℕ, ◌==◌, if◌then◌else◌, Option, Some, None, option_map}
use Rattle.rt_value.specs.declared.value.Op.{Op}
use Rattle.rt_value.specs.declared.value.Op.TheVariants as op
use Rattle.rt_token.specs.Readers.{Parser}
use Rattle.rt_token.specs.Terminals.{code, front, tail_of}
use Rattle.rt_token.specs.declared.fixed.Fixed.{Fixed}
use Rattle.rt_token.specs.declared.fixed.Fixed.TheVariants as fixed

abbrev pub op_sign : Op → Fixed
op_sign op.Eq = fixed.Equal
op_sign op.Ne = fixed.NotEqual
op_sign op.Lt = fixed.Below
op_sign op.Le = fixed.AtMost
op_sign op.Gt = fixed.Above
op_sign op.Ge = fixed.AtLeast

-- the comparison whose sign has this code
abbrev pub op_at : ℕ → Option Op
op_at c =
    if c == code fixed.Equal then Some op.Eq else if c == code fixed.NotEqual then Some op.Ne
    else if c == code fixed.Below then Some op.Lt else if c == code fixed.AtMost then Some op.Le
    else if c == code fixed.Above then Some op.Gt else if c == code fixed.AtLeast then Some op.Ge else None

abbrev pub read_op : Parser Op
read_op ks = option_map (λ o. (o, tail_of ks)) (op_at (front ks))
