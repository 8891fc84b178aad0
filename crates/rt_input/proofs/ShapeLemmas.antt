-- When the second query has the columns of the first.
use Rattle.std.proofs.Common.{◌≡◌, ap, Bool, true, false, List, length, Ok, Err, refl}
use Rattle.std.specs.Prelude.{◌==◌}
use Rattle.std.specs.Bool.{Decides}
use Rattle.std.proofs.lemmas.Bool.Decides.{Decides-eqb}
use Rattle.std.proofs.lemmas.Slice.Eq.{slice_eq-Decides}
use lib.Pointwise.{pointwise}
use Rattle.rt_schema.specs.declared.table.ColKind.{ColKind}
use Rattle.rt_schema.specs.declared.table.ColKind.TheVariants.{Whole, Text}
use Rattle.rt_schema.specs.Schema.{kind_eq}
use Rattle.rt_algebra.specs.declared.typed.Typed.{Typed}
use Rattle.rt_resolve.specs.Shapes.{ShapeAnswer}
use Rattle.rt_scope.specs.declared.fault.NameFault.{NameFault}
use Rattle.rt_scope.specs.declared.fault.NameFault.TheVariants as name
use Rattle.rt_input.specs.declared.part.Part.TheVariants.{Queries}
use Rattle.rt_input.specs.Faults.{name_outcome}
use Rattle.rt_input.specs.Judged.{like_left}
use Rattle.rt_input.specs.Steps.{Refuses}

kind-Decides : (a b : ColKind) → Decides (kind_eq a b) (a ≡ b)
kind-Decides Whole Whole = (λ h. refl, λ h. refl)
kind-Decides Whole Text = (λ h. cc h, λ h. cc h)
kind-Decides Text Whole = (λ h. cc h, λ h. cc h)
kind-Decides Text Text = (λ h. refl, λ h. refl)

kinds-Decides : (ks ls : List ColKind) → Decides (pointwise kind_eq ks ls) (ks ≡ ls)
kinds-Decides ks ls = slice_eq-Decides kind-Decides ks ls (pointwise kind_eq ks ls) refl

not_true : (b : Bool) → (b ≡ true → ⊥) → b ≡ false
not_true true h = absurd (h refl)
not_true false h = refl

pub shape_ok : (left right : Typed) → left.kinds ≡ right.kinds → like_left left right ≡ Ok right
shape_ok left right e =
    let l = (Decides-eqb (length left.kinds) (length right.kinds)).1 (ap (λ (ks : List ColKind). length ks) e) in
    let k = (kinds-Decides left.kinds right.kinds).1 e in
    rw (l, k) refl

pub shape_refuses : (left right : Typed) (fault : NameFault) → ShapeAnswer left.kinds right.kinds (Err fault) → Refuses (like_left left right) (name_outcome Queries fault)
shape_refuses left right (name.UnknownTable n) d = absurd d
shape_refuses left right (name.UnknownColumn n) d = absurd d
shape_refuses left right (name.Ambiguous n) d = absurd d
shape_refuses left right (name.DuplicateAlias n) d = absurd d
shape_refuses left right name.TypeMismatch d =
    let l = (Decides-eqb (length left.kinds) (length right.kinds)).1 d.0 in
    let k = not_true (pointwise kind_eq left.kinds right.kinds) (λ h. d.1 ((kinds-Decides left.kinds right.kinds).0 h)) in
    (refl, rw (l, k) refl)
shape_refuses left right name.Columns d =
    let l = not_true (length left.kinds == length right.kinds) (λ h. d ((Decides-eqb (length left.kinds) (length right.kinds)).0 h)) in
    (refl, rw l refl)
shape_refuses left right name.ArithWidth d = absurd d
shape_refuses left right name.NoMemory d = tt
