-- Which files a tool begins.
use Rattle.std.proofs.Common.{◌≡◌, ◌∙◌, ◌≤◌, ◌-◌, Bool, true, List, [], ◌∷◌, length, take, drop, get_or, sym, ap, subst, arith}
use Rattle.std.specs.Prelude.{codes}
use Rattle.std.specs.Str.{bytes_eq}
use Rattle.std.proofs.lemmas.List.{take_all}
use Rattle.rt_io.specs.Command.{command}
use Rattle.rt_input.specs.Begun.{BeginsFor}
use Rattle.rt_input.specs.Held.{Holding}
use Rattle.rt_input.specs.Source.{Text}
use Rattle.rt_tools.specs.Begun.{ToolBegins}
use Rattle.rt_tools.specs.Words.{Tool, tool_of}
use Rattle.rt_tools.proofs.EndLemmas.{row_words}

-- the arguments after the name of the tool
pub row_begun : (tells : Bool) (held : Holding) (words : List Text) (old new : List Text) (name text word : Text) (b : Bool) → 2 ≤ length words → name ≡ get_or words 0 name
    → b ≡ true → b ≡ bytes_eq word (codes "row") → word ≡ name
    → BeginsFor tells held (command (take (length words - 2) (drop 2 words))) old new → ToolBegins tells held (tool_of words) old new
row_begun tells held [] old new name text word b long first equal eq same begins = absurd (omega (arith, long))
row_begun tells held (x ∷ []) old new name text word b long first equal eq same begins = absurd (omega (arith, long))
row_begun tells held (x ∷ y ∷ rest) old new name text word b long first equal eq same begins =
    let whole : take (length (x ∷ y ∷ rest) - 2) rest ≡ rest = take_all (length (x ∷ y ∷ rest) - 2) rest (omega arith) in
    let named : bytes_eq x (codes "row") ≡ true = ap (λ (t : Text). bytes_eq t (codes "row")) (sym (same ∙ first)) ∙ sym eq ∙ equal in
    subst (λ (t : Tool). ToolBegins tells held t old new) (sym (row_words x y rest named)) (subst (λ (ws : List Text). BeginsFor tells held (command ws) old new) whole begins)
