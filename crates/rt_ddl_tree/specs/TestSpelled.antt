-- The tokens of a CHECK's condition (ISO/IEC 9075-2, search condition, comparison predicate, null
-- predicate, between predicate, in predicate). The grammar is in the comments of the tree's types.
use Rattle.std.specs.Prelude.{[], ◌∷◌, ◌++◌}
use Rattle.std.specs.List.{flat_map}
use Rattle.rt_token.specs.Comparisons.{op_sign}
use Rattle.rt_token.specs.Terminals.{Kinds, flag, in_paren}
use Rattle.rt_token.specs.declared.fixed.Fixed.TheVariants as fixed
use Rattle.rt_token.specs.declared.terminal.Terminal.TheVariants as terminal
use Rattle.rt_ddl_tree.specs.declared.test_tree.Test.{Test}
use Rattle.rt_ddl_tree.specs.declared.test_tree.TestForm.{TestForm}
use Rattle.rt_ddl_tree.specs.declared.test_tree.TestForm.TheVariants as form
use Rattle.rt_ddl_tree.specs.declared.test_tree.TestLeaf.{TestLeaf}
use Rattle.rt_ddl_tree.specs.declared.test_tree.TestPart.{TestPart}
use Rattle.rt_ddl_tree.specs.declared.test_tree.TestSide.{TestSide}
use Rattle.rt_ddl_tree.specs.declared.test_tree.TestSide.TheVariants as side

abbrev pub spelled_side : TestSide → Kinds
spelled_side (side.Column n) = terminal.Name n ∷ []
spelled_side (side.Number m n) = flag fixed.Minus m ++ terminal.Number n ∷ []
spelled_side (side.Str t) = terminal.Str t ∷ []
spelled_side side.Null = terminal.Fixed fixed.Null ∷ []

abbrev pub comma_side : TestSide → Kinds
comma_side s = terminal.Fixed fixed.Comma ∷ spelled_side s

abbrev pub spelled_form : TestForm → Kinds
spelled_form (form.Cmp a o b) = spelled_side a ++ terminal.Fixed (op_sign o) ∷ spelled_side b
spelled_form (form.IsNull a n) = spelled_side a ++ terminal.Fixed fixed.Is ∷ (flag fixed.Not n ++ terminal.Fixed fixed.Null ∷ [])
spelled_form (form.Between a n b c) = spelled_side a ++ (flag fixed.Not n ++ terminal.Fixed fixed.Between ∷ (spelled_side b ++ terminal.Fixed fixed.And ∷ spelled_side c))
spelled_form (form.OneOf a n b cs) = spelled_side a ++ (flag fixed.Not n ++ terminal.Fixed fixed.In ∷ in_paren (spelled_side b ++ flat_map comma_side cs))

abbrev pub spelled_leaf : TestLeaf → Kinds
spelled_leaf l = flag fixed.Not l.not ++ spelled_form l.form

abbrev pub and_leaf : TestLeaf → Kinds
and_leaf l = terminal.Fixed fixed.And ∷ spelled_leaf l

abbrev pub spelled_part : TestPart → Kinds
spelled_part p = spelled_leaf p.head ++ flat_map and_leaf p.tail

abbrev pub or_part : TestPart → Kinds
or_part p = terminal.Fixed fixed.Or ∷ spelled_part p

abbrev pub spelled_test : Test → Kinds
spelled_test t = spelled_part t.head ++ flat_map or_part t.tail
