-- When two queries can be compared: as many columns, of the same kinds.
use Rattle.std.specs.Prelude.{◌≡◌, ◌≢◌, Bool, true, false, ◌&&◌, List, [], ◌∷◌, length, Result, Ok, Err}
use Rattle.rt_schema.specs.Schema.{kind_eq}
use Rattle.rt_schema.specs.declared.table.ColKind.{ColKind}
use Rattle.rt_scope.specs.declared.fault.NameFault.{NameFault}
use Rattle.rt_scope.specs.declared.fault.NameFault.TheVariants as fault

abbrev pub same_kinds : List ColKind → List ColKind → Bool
same_kinds [] [] = true
same_kinds [] (l ∷ ls) = false
same_kinds (k ∷ ks) [] = false
same_kinds (k ∷ ks) (l ∷ ls) = kind_eq k l && same_kinds ks ls

-- Columns where the widths differ, else TypeMismatch where the kinds differ
abbrev pub ShapeAnswer : List ColKind → List ColKind → Result (Unit {0}) NameFault → Type 0
ShapeAnswer ks ls (Ok u) = ks ≡ ls
ShapeAnswer ks ls (Err fault.Columns) = length ks ≢ length ls
ShapeAnswer ks ls (Err fault.TypeMismatch) = (length ks ≡ length ls) × (ks ≢ ls)
ShapeAnswer ks ls (Err (fault.UnknownTable n)) = ⊥
ShapeAnswer ks ls (Err (fault.UnknownColumn n)) = ⊥
ShapeAnswer ks ls (Err (fault.Ambiguous n)) = ⊥
ShapeAnswer ks ls (Err (fault.DuplicateAlias n)) = ⊥
ShapeAnswer ks ls (Err fault.ArithWidth) = ⊥
ShapeAnswer ks ls (Err fault.NoMemory) = ⊥
