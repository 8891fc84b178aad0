-- What the matches give of an argument.
use Rattle.std.proofs.Common.{◌≡◌, ◌∙◌, List, [], ◌∷◌, refl, Bool, true, false, Option, None, Some, codes, ap, sym, subst, map}
use Rattle.std.specs.Prelude.{find, option_and_then, option_map, unwrap_or, Result}
use Rattle.std.specs.Str.{bytes_eq}
use Rattle.clap.specs.Words.{Row, found_of, matched_of, raw_values, rows_of}
use Rattle.clap.specs.Walk.{row_of}
use Rattle.clap.specs.Facts.{Entry}
use Rattle.clap.specs.declared.parser.matches.ArgMatches.{ArgMatches}
use Rattle.rt_io.specs.App.{reading_in, values_in}
use Rattle.rt_io.specs.Command.{Reads, form, limits, of_form}
use Rattle.rt_io.specs.Reading.{Reading, Text}
use Rattle.rt_io.specs.Ranges.{Command}
use Rattle.rt_io.specs.declared.limits.Limits.{Limits}
use Rattle.rt_io.specs.declared.word_fault.WordFault.{WordFault}

module _ (id : Text) where
  abbrev raw_in : List Entry → Option (List Text)
  raw_in es = option_map raw_values (option_map (λ e. e.1) (find (λ e. bytes_eq e.0.now id) es))

  found-at : (e : Entry) (es : List Entry) → values_in id (map row_of es) ≡ unwrap_or (raw_in es) [] → (b : Bool) → bytes_eq e.0.now id ≡ b
      → values_in id (map row_of (e ∷ es)) ≡ unwrap_or (raw_in (e ∷ es)) []
  found-at e es ih true h = rw h refl
  found-at e es ih false h = rw h ih

  values-found : (es : List Entry) → values_in id (map row_of es) ≡ unwrap_or (raw_in es) []
  values-found [] = refl
  values-found (e ∷ es) = found-at e es (values-found es) _ refl

  pub values-are : (m : ArgMatches) (o : Option (List Text)) → o ≡ option_map raw_values (matched_of (found_of m) id) → values_in id (rows_of (found_of m)) ≡ unwrap_or o []
  values-are m o e = values-found (found_of m).entries.items ∙ ap (λ (x : Option (List Text)). unwrap_or x []) (sym e)

-- a command of the plain arguments and the limits
pub formed : (of : List Text → Limits → Option Command) (o : Option Reading) (rows : List Row) (l : Limits) (plain : List Text) (result : Result Command WordFault)
    → o ≡ Some (reading_in rows) → Some l ≡ limits (reading_in rows) → values_in (codes "words") rows ≡ plain → Reads (of plain l) result
    → Reads (option_and_then (form of) o) result
formed of o rows l plain result e f g h =
    let limited : option_and_then (of (values_in (codes "words") rows)) (limits (reading_in rows)) ≡ of plain l =
    ap (λ (x : Option Limits). option_and_then (of (values_in (codes "words") rows)) x) (sym f) ∙ ap (λ (x : List Text). of x l) g in
    subst (λ (x : Option Command). Reads x result) (sym (ap (λ (x : Option Reading). option_and_then (form of) x) e ∙ limited)) h

-- without arguments neither form is a command
pub no_words : (made : Bool) (l : Limits) → of_form made [] l ≡ None
no_words true l = refl
no_words false l = refl
