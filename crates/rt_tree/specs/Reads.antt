-- Names, sums and items of a query, as readers of terminals from the left.
--
-- Contracts of readers alone cite them; `Spelled` defines what a query is.
use Rattle.std.specs.Prelude.{ℕ, zero, suc, ◌+◌, ◌&&◌, ◌||◌, Bool, true, false, List, [], ◌∷◌, length, Option, Some, None}
use Rattle.rt_token.specs.Readers.{Parser, Step, both, either, flagged, lead, list_of, made, optional, paren, read_name, repeated, starts, starts_name, step_after, step_when, ◌>>=◌}
use Rattle.rt_token.specs.Terminals.{Kinds, after, tail_of}
use Rattle.rt_token.specs.declared.fixed.Fixed.TheVariants as fixed
use Rattle.rt_token.specs.declared.terminal.Name.{Name}
use Rattle.rt_token.specs.declared.terminal.Terminal.TheVariants as terminal
use Rattle.rt_tree.specs.declared.tree.Alias.{Alias}
use Rattle.rt_tree.specs.declared.tree.Factor.{Factor, roll-Factor}
use Rattle.rt_tree.specs.declared.tree.Item.{Item}
use Rattle.rt_tree.specs.declared.tree.Item.TheVariants as item
use Rattle.rt_tree.specs.declared.tree.Items.{Items}
use Rattle.rt_tree.specs.declared.tree.Items.TheVariants as items
use Rattle.rt_tree.specs.declared.tree.Leaf.{Leaf}
use Rattle.rt_tree.specs.declared.tree.Leaf.TheVariants as leaf
use Rattle.rt_tree.specs.declared.tree.Mul.{Mul, roll-Mul}
use Rattle.rt_tree.specs.declared.tree.Sum.{Sum, roll-Sum}
use Rattle.rt_tree.specs.declared.tree.SumLink.{SumLink, roll-SumLink}

-- ---- aliases

abbrev pub alias_of : Bool × Name → Alias
alias_of x = record { as_word = x.0; name = x.1 }

unfoldable pub read_alias : Parser Alias
read_alias = made alias_of (flagged fixed.As read_name)

abbrev pub is_alias : Kinds → Bool
is_alias ks = starts fixed.As ks || starts_name ks

-- ---- sums, over a reader of what is in parentheses

abbrev pub col_from : Name → Kinds → Option Kinds → Option (Leaf × Kinds)
col_from n ks None = Some (leaf.Col None n, ks)
col_from q ks (Some r) = read_name r >>= λ m. Some (leaf.Col (Some q) m.0, m.1)

abbrev pub read_col : Parser Leaf
read_col ks = read_name ks >>= λ n. col_from n.0 n.1 (after fixed.Dot n.1)

abbrev pub read_literal : Parser Leaf
read_literal [] = None
read_literal (terminal.Number n ∷ ks) = Some (leaf.Number n, ks)
read_literal (terminal.Str t ∷ ks) = Some (leaf.Str t, ks)
read_literal (k ∷ ks) = None

abbrev pub read_null_leaf : Parser Leaf
read_null_leaf ks = after fixed.Null ks >>= λ r. Some (leaf.Null, r)

abbrev pub read_col_or_literal : Parser Leaf
read_col_or_literal = either starts_name read_col read_literal

abbrev pub read_plain_leaf : Parser Leaf
read_plain_leaf = either (starts fixed.Null) read_null_leaf read_col_or_literal

unfoldable pub read_leaf : Parser Sum → Parser Leaf
read_leaf inner = either (starts fixed.OpenParen) (made leaf.Paren (paren inner)) read_plain_leaf

abbrev pub factor_of : ℕ × Leaf → Factor
factor_of x = roll-Factor (record { minuses = x.0; of = x.1 })

unfoldable pub read_factor : Parser Sum → Parser Factor
read_factor inner = made factor_of (repeated fixed.Minus (read_leaf inner))

abbrev pub mul_of : Factor × List Factor → Mul
mul_of x = roll-Mul (record { head = x.0; tail = x.1 })

abbrev pub factor_step : Parser Sum → Step Factor
factor_step inner = step_after fixed.Star (read_factor inner)

unfoldable pub read_mul : Parser Sum → Parser Mul
read_mul inner = made mul_of (both (read_factor inner) (list_of (factor_step inner)))

abbrev pub sum_link_of : Bool → Mul → SumLink
sum_link_of b m = roll-SumLink (record { minus = b; of = m })

abbrev pub is_sign : Kinds → Bool
is_sign ks = starts fixed.Plus ks || starts fixed.Minus ks

unfoldable pub read_sum_link : Parser Sum → Parser SumLink
read_sum_link inner = either (starts fixed.Minus) (made (sum_link_of true) (lead fixed.Minus (read_mul inner))) (made (sum_link_of false) (lead fixed.Plus (read_mul inner)))

abbrev pub sum_of : Mul × List SumLink → Sum
sum_of x = roll-Sum (record { head = x.0; tail = x.1 })

abbrev pub sum_step : Parser Sum → Step SumLink
sum_step inner = step_when is_sign (read_sum_link inner)

unfoldable pub read_sum_over : Parser Sum → Parser Sum
read_sum_over inner = made sum_of (both (read_mul inner) (list_of (sum_step inner)))

-- with at most n parentheses in one another
unfoldable pub read_sum : ℕ → Parser Sum
read_sum zero ks = None
read_sum (suc n) ks = read_sum_over (read_sum n) ks

unfoldable pub sum_at : Parser Sum
sum_at ks = read_sum (length ks + 1) ks

-- ---- items

-- a name, a dot and a star
abbrev pub is_all : Kinds → Bool
is_all ks = starts_name ks && (starts fixed.Dot (tail_of ks) && starts fixed.Star (tail_of (tail_of ks)))

abbrev pub read_all : Parser Item
read_all ks = read_name ks >>= λ n. after fixed.Dot n.1 >>= λ r. after fixed.Star r >>= λ s. Some (item.All n.0, s)

abbrev pub one_of : Sum × Option Alias → Item
one_of x = item.One x.0 x.1

unfoldable pub read_item : Parser Item
read_item = either is_all read_all (made one_of (both sum_at (optional is_alias read_alias)))

abbrev pub item_step : Step Item
item_step = step_after fixed.Comma read_item

abbrev pub read_star : Parser Items
read_star ks = after fixed.Star ks >>= λ r. Some (items.Star, r)

abbrev pub some_of : Item × List Item → Items
some_of x = items.Some x.0 x.1

unfoldable pub read_items : Parser Items
read_items = either (starts fixed.Star) read_star (made some_of (both read_item (list_of item_step)))
