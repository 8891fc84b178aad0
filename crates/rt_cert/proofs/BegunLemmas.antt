-- Which files a command begins.
use Rattle.std.proofs.Common.{◌≡◌, ◌∙◌, ◌≤◌, ◌-◌, Bool, true, List, [], ◌∷◌, Ok, length, take, drop, get_or, sym, ap, subst, arith}
use Rattle.std.proofs.lemmas.List.{take_all}
use Rattle.std.specs.Option.{ForSome}
use Rattle.std.specs.Prelude.{Option, None, Some, codes}
use Rattle.std.specs.Str.{bytes_eq}
use Rattle.rt_io.specs.Command.{command}
use Rattle.rt_io.specs.Edge.{AddsPrefix}
use Rattle.rt_io.specs.Ranges.{Command}
use Rattle.rt_input.specs.Accepted.{Accepted}
use Rattle.rt_input.specs.Begun.{BeganFor, BeginsFor, input_files, input_reached, then_files}
use Rattle.rt_input.specs.Held.{Holding}
use Rattle.rt_input.specs.Judged.{command_judged, input_judged}
use Rattle.rt_input.specs.Source.{IsKnown, Text, source_of}
use Rattle.rt_input.proofs.BegunLemmas.{some_first, some_then, when_reached}
use Rattle.rt_cert.specs.Begun.{AskedBegins, ChecksFor}
use Rattle.rt_cert.specs.Words.{Asked, asked_by}
use Rattle.rt_cert.proofs.SayLemmas.{check_words, prove_words}

module _ (tells : Bool) (held : Holding) (name : Text) (old mid new : List Text) where
  abbrev behind : Command → List Text
  behind k = then_files (input_judged held k) (λ input. name ∷ [])

  -- there is no input
  pub input_stops : (o : Option Command) → BeginsFor tells held o old new → ChecksFor tells held name o old new
  input_stops None same = same
  input_stops (Some k) some =
      some_first (IsKnown tells (source_of k)) (input_files (source_of k)) (input_reached (source_of k) held) (name ∷ []) (behind k) old new some

  -- there is one
  pub input_read : (o : Option Command) (input : Accepted) → (ForSome o (λ k. IsKnown tells (source_of k)) → command_judged held o ≡ Ok input)
      → BeganFor tells held o old mid → AddsPrefix mid new (name ∷ []) → ChecksFor tells held name o old new
  input_read None input told all adds = absurd all
  input_read (Some k) input told all adds =
      some_then (IsKnown tells (source_of k)) (input_files (source_of k)) (input_reached (source_of k) held) (name ∷ []) (behind k) old mid new all adds
      (λ t. when_reached (input_judged held k) input (λ input. name ∷ []) mid new (told (some_known k t)) adds)
    where
      some_known : (k : Command) → IsKnown tells (source_of k) → ForSome (Some k) (λ k. IsKnown tells (source_of k))
      some_known k t = λ other is. let same : k ≡ other = cc in subst (λ (x : Command). IsKnown tells (source_of x)) same t

-- ---- from the arguments after the name of the command

pub prove_begun : (tells : Bool) (held : Holding) (words : List Text) (old new : List Text) (name word : Text) (b : Bool) → 1 ≤ length words → name ≡ get_or words 0 name
    → b ≡ true → b ≡ bytes_eq word (codes "prove") → word ≡ name
    → BeginsFor tells held (command (take (length words - 1) (drop 1 words))) old new → AskedBegins tells held (asked_by words) old new
prove_begun tells held [] old new name word b long first equal eq same begins = absurd (omega (arith, long))
prove_begun tells held (x ∷ rest) old new name word b long first equal eq same begins =
    let whole : take (length (x ∷ rest) - 1) rest ≡ rest = take_all (length (x ∷ rest) - 1) rest (omega arith) in
    let named : bytes_eq x (codes "prove") ≡ true = ap (λ (t : Text). bytes_eq t (codes "prove")) (sym (same ∙ first)) ∙ sym eq ∙ equal in
    subst (λ (a : Asked). AskedBegins tells held a old new) (sym (prove_words x rest named)) (subst (λ (ws : List Text). BeginsFor tells held (command ws) old new) whole begins)

pub check_begun : (tells : Bool) (held : Holding) (words : List Text) (old new : List Text) (name cert word : Text) (b : Bool) → 2 ≤ length words → name ≡ get_or words 0 name → cert ≡ get_or words 1 cert
    → b ≡ true → b ≡ bytes_eq word (codes "check") → word ≡ name
    → ChecksFor tells held cert (command (take (length words - 2) (drop 2 words))) old new → AskedBegins tells held (asked_by words) old new
check_begun tells held [] old new name cert word b long first second equal eq same begins = absurd (omega (arith, long))
check_begun tells held (x ∷ []) old new name cert word b long first second equal eq same begins = absurd (omega (arith, long))
check_begun tells held (x ∷ y ∷ rest) old new name cert word b long first second equal eq same begins =
    let whole : take (length (x ∷ y ∷ rest) - 2) rest ≡ rest = take_all (length (x ∷ y ∷ rest) - 2) rest (omega arith) in
    let named : bytes_eq x (codes "check") ≡ true = ap (λ (t : Text). bytes_eq t (codes "check")) (sym (same ∙ first)) ∙ sym eq ∙ equal in
    subst (λ (a : Asked). AskedBegins tells held a old new) (sym (check_words x y rest named))
    (subst (λ (q : Text). ChecksFor tells held q (command rest) old new) second (subst (λ (ws : List Text). ChecksFor tells held cert (command ws) old new) whole begins))
