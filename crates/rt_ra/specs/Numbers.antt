-- Numbers of tests: how large they may be for the condition to be typed.
use Rattle.std.specs.Prelude.{◌^◌, ◌-◌, Bool, true, ◌&&◌, List, [], ◌∷◌, nat_le, unsigned_abs}
use Rattle.rt_ra_tree.specs.declared.tree.RaSide.{RaSide}
use Rattle.rt_ra_tree.specs.declared.tree.RaSide.TheVariants as side_
use Rattle.rt_ra_tree.specs.declared.tree.RaTest.{RaTest}
use Rattle.rt_ra_tree.specs.declared.tree.RaTest.TheVariants as test_

-- at most 2^127 - 1 in size
abbrev pub side_fits : RaSide → Bool
side_fits (side_.Col n) = true
side_fits (side_.Number m n) = nat_le (unsigned_abs n) (2 ^ 127 - 1)
side_fits (side_.Str t) = true

abbrev pub test_fits : RaTest → Bool
test_fits (test_.Cmp o a b) = side_fits a && side_fits b
test_fits (test_.IsNull n b) = true

abbrev pub tests_fit : List RaTest → Bool
tests_fit [] = true
tests_fit (t ∷ ts) = test_fits t && tests_fit ts
