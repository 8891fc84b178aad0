-- Kinds that are the same.
use Rattle.std.proofs.Common.{◌≡◌, true, List, [], ◌∷◌, refl}
use Rattle.rt_algebra.proofs.Fitting.{and-left, and-right, kind-self}
use Rattle.rt_resolve.specs.Shapes.{same_kinds}
use Rattle.rt_schema.specs.Schema.{kind_eq}
use Rattle.rt_schema.specs.declared.table.ColKind.{ColKind}
use Rattle.rt_schema.specs.declared.table.ColKind.TheVariants.{Whole, Text}

kind-same : (a b : ColKind) → kind_eq a b ≡ true → a ≡ b
kind-same Whole Whole h = refl
kind-same Whole Text h = cc
kind-same Text Whole h = cc
kind-same Text Text h = refl

pub kinds-same : (ks ls : List ColKind) → same_kinds ks ls ≡ true → ks ≡ ls
kinds-same [] [] h = refl
kinds-same [] (l ∷ ls) h = cc
kinds-same (k ∷ ks) [] h = cc
kinds-same (k ∷ ks) (l ∷ ls) h =
    let head = kind-same k l (and-left (kind_eq k l) (same_kinds ks ls) h) in
    let rest = kinds-same ks ls (and-right (kind_eq k l) (same_kinds ks ls) h) in
    cc

pub kinds-self : (ks : List ColKind) → same_kinds ks ks ≡ true
kinds-self [] = refl
kinds-self (k ∷ ks) = rw (kind-self k, kinds-self ks) refl
