-- The terminals of an algebra text's tree. The grammar is in the comments of the tree's types.
--
-- The type is recursive, so the spelling is given for one layer, with the terminals of its
-- operands, and folded over the tree.
use Rattle.std.specs.Prelude.{[], ◌∷◌, ◌++◌, codes}
use Rattle.std.specs.List.{flat_map}
use Rattle.rt_token.specs.Comparisons.{op_sign}
use Rattle.rt_token.specs.declared.fixed.Fixed.TheVariants as fixed
use Rattle.rt_token.specs.declared.terminal.Terminal.{Terminal}
use Rattle.rt_token.specs.declared.terminal.Terminal.TheVariants as terminal
use Rattle.rt_token.specs.Readers.{plain_word}
use Rattle.rt_token.specs.Terminals.{Kinds, flag, in_paren}
use Rattle.rt_ra_tree.specs.declared.tree.Ra.{Ra}
use Rattle.rt_ra_tree.specs.declared.tree.Ra.TheFolds.{fold-Ra}
use Rattle.rt_ra_tree.specs.declared.tree.Ra.TheOpen as open_
use Rattle.rt_ra_tree.specs.declared.tree.RaNames.{RaNames}
use Rattle.rt_ra_tree.specs.declared.tree.RaOp.{RaOp}
use Rattle.rt_ra_tree.specs.declared.tree.RaOp.TheVariants as two
use Rattle.rt_ra_tree.specs.declared.tree.RaSide.{RaSide}
use Rattle.rt_ra_tree.specs.declared.tree.RaSide.TheVariants as side
use Rattle.rt_ra_tree.specs.declared.tree.RaTest.{RaTest}
use Rattle.rt_ra_tree.specs.declared.tree.RaTest.TheVariants as test
use Rattle.rt_ra_tree.specs.declared.tree.RaTests.{RaTests}
use Rattle.rt_ra_tree.specs.declared.tree.RaText.{RaText}

-- ---- tests and names

abbrev pub spelled_side : RaSide → Kinds
spelled_side (side.Col n) = terminal.Name n ∷ []
spelled_side (side.Number m n) = flag fixed.Minus m ++ terminal.Number n ∷ []
spelled_side (side.Str t) = terminal.Str t ∷ []

abbrev pub spelled_test : RaTest → Kinds
spelled_test (test.Cmp o a b) = spelled_side a ++ terminal.Fixed (op_sign o) ∷ spelled_side b
spelled_test (test.IsNull n b) = terminal.Name n ∷ (terminal.Fixed fixed.Is ∷ (flag fixed.Not b ++ terminal.Fixed fixed.Null ∷ []))

abbrev pub spelled_tests : RaTests → Kinds
spelled_tests ts = spelled_test ts.head ++ flat_map (λ t. terminal.Fixed fixed.And ∷ spelled_test t) ts.tail

abbrev pub spelled_names : RaNames → Kinds
spelled_names ns = in_paren (terminal.Name ns.head ∷ flat_map (λ n. terminal.Fixed fixed.Comma ∷ (terminal.Name n ∷ [])) ns.tail)

-- ---- operators

abbrev pub word_of_two : RaOp → Terminal
word_of_two two.Cross = terminal.Fixed fixed.Cross
word_of_two two.Join = terminal.Fixed fixed.Join
word_of_two two.Semi = plain_word (codes "semi")
word_of_two two.Anti = plain_word (codes "anti")
word_of_two two.LeftJoin = plain_word (codes "leftjoin")
word_of_two two.Divide = plain_word (codes "divide")
word_of_two two.Union = terminal.Fixed fixed.Union
word_of_two two.Except = terminal.Fixed fixed.Except
word_of_two two.Intersect = terminal.Fixed fixed.Intersect

-- a keyword, and in parentheses the two parts with a comma between them
abbrev pub applied : Terminal → Kinds → Kinds → Kinds
applied word a b = word ∷ in_paren (a ++ terminal.Fixed fixed.Comma ∷ b)

abbrev pub ra_step : open_.Ra-F Kinds → Kinds
ra_step (open_.Table n) = terminal.Name n ∷ []
ra_step (open_.Select a ts) = applied (terminal.Fixed fixed.Select) a (spelled_tests ts)
ra_step (open_.Project a ns) = applied (plain_word (codes "project")) a (spelled_names ns)
ra_step (open_.Rename a ns) = applied (plain_word (codes "rename")) a (spelled_names ns)
ra_step (open_.Two o a b) = applied (word_of_two o) a b

unfoldable pub spelled_ra : Ra → Kinds
spelled_ra = fold-Ra Kinds ra_step

abbrev pub spelled_text : RaText → Kinds
spelled_text t = spelled_ra t.of ++ flag fixed.Semicolon t.semi
