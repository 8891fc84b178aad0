-- The numbers of a formed text are at most 2^127 - 1.
use Rattle.std.proofs.Common.{◌≡◌, ℤ, negsuc, true, List, [], ◌∷◌, ◌++◌, refl}
use Rattle.std.specs.Prelude.{◌^◌, ◌-◌, int_le, nat_le, pos, unsigned_abs}
use Rattle.std.specs.List.{flat_map}
use Rattle.rt_token.specs.Terminals.{Kinds, flag}
use Rattle.rt_token.specs.Words.{all_formed, is_formed}
use Rattle.rt_token.specs.declared.fixed.Fixed.TheVariants as fixed
use Rattle.rt_token.specs.declared.terminal.Terminal.{Terminal}
use Rattle.rt_token.specs.declared.terminal.Terminal.TheVariants as terminal
use Rattle.rt_algebra.proofs.Fitting.{and-left, and-right, and-true}
use Rattle.rt_ra.specs.Numbers.{side_fits, test_fits, tests_fit}
use Rattle.rt_token.specs.Comparisons.{op_sign}
use Rattle.rt_ra_tree.specs.Spelled.{applied, spelled_side, spelled_test, spelled_tests}
use Rattle.rt_ra_tree.specs.declared.tree.RaSide.{RaSide}
use Rattle.rt_ra_tree.specs.declared.tree.RaSide.TheVariants as side_
use Rattle.rt_ra_tree.specs.declared.tree.RaTest.{RaTest}
use Rattle.rt_ra_tree.specs.declared.tree.RaTest.TheVariants as test_
use Rattle.rt_ra_tree.specs.declared.tree.RaTests.{RaTests}

abbrev Formed : Kinds → Type 0
Formed ks = all_formed ks ≡ true

pub formed-front : (front end : Kinds) → Formed (front ++ end) → Formed front
formed-front [] end h = refl
formed-front (k ∷ front) end h = and-true (is_formed k) (all_formed front) (and-left (is_formed k) (all_formed (front ++ end)) h) (formed-front front end (and-right (is_formed k) (all_formed (front ++ end)) h))

formed-end : (front end : Kinds) → Formed (front ++ end) → Formed end
formed-end [] end h = h
formed-end (k ∷ front) end h = formed-end front end (and-right (is_formed k) (all_formed (front ++ end)) h)

-- both operands in the parentheses of an operator
pub formed-operands : (w : Terminal) (a b : Kinds) → Formed (applied w a b) → Formed a × Formed b
formed-operands w a b h =
    let inside = a ++ terminal.Fixed fixed.Comma ∷ b in
    let both = formed-front inside (terminal.Fixed fixed.CloseParen ∷ []) (and-right (is_formed w) (all_formed (inside ++ terminal.Fixed fixed.CloseParen ∷ [])) h) in
    (formed-front a (terminal.Fixed fixed.Comma ∷ b) both, formed-end a (terminal.Fixed fixed.Comma ∷ b) both)

number-fits : (n : ℤ) → is_formed (terminal.Number n) ≡ true → nat_le (unsigned_abs n) (2 ^ 127 - 1) ≡ true
number-fits (pos m) h = and-right (int_le (pos 0) (pos m)) (int_le (pos m) (pos (2 ^ 127 - 1))) h
number-fits (negsuc m) h = cc h

side-fits : (s : RaSide) → Formed (spelled_side s) → side_fits s ≡ true
side-fits (side_.Col n) h = refl
side-fits (side_.Number m n) h = number-fits n (and-left (is_formed (terminal.Number n)) true (formed-end (flag fixed.Minus m) (terminal.Number n ∷ []) h))
side-fits (side_.Str t) h = refl

test-fits : (t : RaTest) → Formed (spelled_test t) → test_fits t ≡ true
test-fits (test_.Cmp o a b) h =
    and-true (side_fits a) (side_fits b) (side-fits a (formed-front (spelled_side a) (terminal.Fixed (op_sign o) ∷ spelled_side b) h))
    (side-fits b (formed-end (spelled_side a) (terminal.Fixed (op_sign o) ∷ spelled_side b) h))
test-fits (test_.IsNull n b) h = refl

abbrev after_and : RaTest → Kinds
after_and t = terminal.Fixed fixed.And ∷ spelled_test t

more-fit : (ts : List RaTest) → Formed (flat_map after_and ts) → tests_fit ts ≡ true
more-fit [] h = refl
more-fit (t ∷ ts) h = and-true (test_fits t) (tests_fit ts) (test-fits t (formed-front (after_and t) (flat_map after_and ts) h)) (more-fit ts (formed-end (after_and t) (flat_map after_and ts) h))

pub tests-fit : (ts : RaTests) → Formed (spelled_tests ts) → tests_fit (ts.head ∷ ts.tail) ≡ true
tests-fit ts h =
    and-true (test_fits ts.head) (tests_fit ts.tail) (test-fits ts.head (formed-front (spelled_test ts.head) (flat_map after_and ts.tail) h))
    (more-fit ts.tail (formed-end (spelled_test ts.head) (flat_map after_and ts.tail) h))
