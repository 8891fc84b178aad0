use Rattle.std.proofs.Common.{◌≡◌, true, take}
use Rattle.std.specs.List.{list_all}
use Rattle.rt_clause.specs.Refuting.{is_negation}
use Rattle.rt_derive.proofs.checker.denies.Given as goal

abbrev pub invariant-loop-l : goal.invariant-loop-l
invariant-loop-l l = list_all (is_negation l.fn.assume l.fn.question) (take l.l-index l.line) ≡ true
