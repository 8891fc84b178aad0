-- And and Or of Bools.
use Rattle.std.proofs.Common.{◌≡◌, Bool, true, false, not, ◌&&◌, ◌||◌, refl}

pub and-one : (a b : Bool) → (a && b) ≡ true → a ≡ true
and-one true b h = refl
and-one false b h = h

pub and-two : (a b : Bool) → (a && b) ≡ true → b ≡ true
and-two true b h = h
and-two false b h = absurd (cc)

pub and-both : (a b : Bool) → a ≡ true → b ≡ true → (a && b) ≡ true
and-both true b p q = q
and-both false b p q = p

pub or-none : (a b : Bool) → (a || b) ≡ false → b ≡ false
or-none true b h = absurd (cc)
or-none false b h = h

pub or-this : (a b : Bool) → (a || b) ≡ false → a ≡ false
or-this true b h = h
or-this false b h = refl

pub or-both : (a b : Bool) → a ≡ false → b ≡ false → (a || b) ≡ false
or-both true b p q = p
or-both false b p q = q

pub and-false : (b : Bool) → (b && false) ≡ false
and-false true = refl
and-false false = refl

pub and-true : (b : Bool) → (b && true) ≡ b
and-true true = refl
and-true false = refl

pub and-assoc : (a b c : Bool) → (a && (b && c)) ≡ ((a && b) && c)
and-assoc true b c = refl
and-assoc false b c = refl

-- what follows from a holds of it
pub or-then : (a b : Bool) → a ≡ true → (not a || b) ≡ true → b ≡ true
or-then true b p h = h
or-then false b p h = absurd (cc)

pub implied : (a b : Bool) → (not a || b) ≡ not (a && not b)
implied true true = refl
implied true false = refl
implied false b = refl
