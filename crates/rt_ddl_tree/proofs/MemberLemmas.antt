-- A list of members: each leaves fewer terminals.
use Rattle.std.proofs.Common.{◌≡◌, ◌≤◌, ◌<◌, sym, ap, List, [], ◌∷◌, ◌++◌, length, Option, Some, arith}
use Rattle.rt_token.specs.Readers.{Parser, step_after}
use Rattle.rt_token.specs.Terminals.{Kinds, after}
use Rattle.rt_token.specs.declared.fixed.Fixed.{Fixed}
use Rattle.rt_token.proofs.FrontLemmas.{after-sound}
use Rattle.rt_token.proofs.Loops.{Goes, goes-more}

pub behind-shorter : (f : Fixed) (rest next more : Kinds) → Some next ≡ after f rest → length more ≤ length next → length more < length rest
behind-shorter f rest next more a l = omega (arith, ap length (after-sound f rest next (sym a)))

pub behind-more : {A : Type 0} (f : Fixed) (p : Parser A) (items : List A) (rest next start more : Kinds) (x : A) → Goes (step_after f p) items rest start → Some next ≡ after f rest → p next ≡ Some (x, more)
    → length more ≤ length next → Goes (step_after f p) (items ++ x ∷ []) more start
behind-more {A = A} f p items rest next start more x g a e l =
    goes-more (step_after f p) items rest start more x g (rw (← a) (ap (λ (o : Option (A × Kinds)). Some o) e)) (behind-shorter f rest next more a l)
