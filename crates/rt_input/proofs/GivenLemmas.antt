-- What the reads of a file gave is the text of its part.
use Rattle.std.proofs.Common.{◌≡◌, ◌++◌, ◌∷◌, Bool, true, false, List, Result, Ok, length, refl, sym, ap, subst, ◌∙◌, arith, if◌then◌else◌, nat_lt}
use Rattle.std.specs.Prelude.{ℕ, ◌≤◌, IfErr}
use Rattle.std.proofs.lemmas.Bool.Decides.{nat_tests}
use Rattle.rt_io.specs.Gave.{Fits, Reading, reading_of}
use Rattle.rt_io.proofs.GaveLemmas.{fits_whole}
use Rattle.rt_input.specs.declared.part.Part.{Part}
use Rattle.rt_input.specs.declared.outcome.Outcome.{Outcome}
use Rattle.rt_input.specs.Held.{Holding, most_bytes, text_read, without_mark}
use Rattle.rt_input.specs.Source.{Text}

short_read : (part : Part) (bytes : Text) → length bytes ≤ most_bytes → text_read part bytes ≡ Ok (without_mark bytes)
short_read part bytes short = let test : nat_lt most_bytes (length bytes) ≡ false = grind (arith, nat_tests) in rw test refl

-- a whole reading
pub text_given : (held : Holding) (part : Part) (name bytes text : Text) (old new : List Reading) → new ≡ reading_of name bytes true ∷ old → length bytes ≤ most_bytes
    → text ≡ without_mark bytes → Fits held old new → text_read part (held name) ≡ Ok text
text_given held part name bytes text old new is short same fits =
    ap (text_read part) (fits_whole held name bytes old new is fits) ∙ short_read part bytes short ∙ ap Ok (sym same)
