-- What is judged of a run on one candidate, from what is judged of the reference and of the
-- candidate.
use Rattle.std.proofs.Common.{◌≡◌, ◌∙◌, ◌+◌, ℕ, List, [], ◌∷◌, Result, Ok, Err, refl, ap}
use Rattle.std.specs.Prelude.{slice_set}
use Rattle.rt_schema.specs.Given.{Rows, Tables, places}
use Rattle.rt_schema.specs.declared.table.Table.{Table as TableOf}
use Rattle.rt_algebra.specs.declared.typed.Typed.{Typed}
use Rattle.rt_io.specs.Ranges.{Command}
use Rattle.rt_input.specs.declared.first.First.{First}
use Rattle.rt_input.specs.declared.outcome.Outcome.{Outcome}
use Rattle.rt_input.specs.declared.part.Part.TheVariants.{Query1, Query2}
use Rattle.rt_input.specs.Accepted.{Accepted}
use Rattle.rt_input.specs.First.{first_judged, first_of}
use Rattle.rt_input.specs.Judged.{Data, accepted, data_judged, data_of, input_judged, like_left, no_rows, query_judged, query_of, right_judged, schema_judged, table_judged, tables_judged, then_read, within_limit}
use Rattle.rt_input.specs.Held.{Holding, text_read}
use Rattle.rt_input.specs.Source.{Text, source_of}
use Rattle.rt_grade.specs.Grades.{beside, candidate_judged}
use Rattle.rt_grade.proofs.WordLemmas.{four}

-- ---- the reference is the same whatever the second query is

module _ (schema dir reference : Text) (held : Holding) where
  abbrev with_query : Text → Command
  with_query path = four schema dir reference path

  same_tables : (path other : Text) (at : ℕ) (so_far : Tables) (tables : List TableOf) → tables_judged (source_of (with_query path)) held at so_far tables ≡ tables_judged (source_of (with_query other)) held at so_far tables
  same_tables path other at so_far [] = refl
  same_tables path other at so_far (table ∷ tables) =
      by_case (table_judged (source_of (with_query path)) held at table (places so_far)) (λ rows. same_tables path other (at + 1) (slice_set so_far at rows) tables)
    where
      by_case : (r : Result Rows Outcome)
          → ((rows : Rows) → tables_judged (source_of (with_query path)) held (at + 1) (slice_set so_far at rows) tables ≡ tables_judged (source_of (with_query other)) held (at + 1) (slice_set so_far at rows) tables)
          → then_read r (λ rows. tables_judged (source_of (with_query path)) held (at + 1) (slice_set so_far at rows) tables)
          ≡ then_read r (λ rows. tables_judged (source_of (with_query other)) held (at + 1) (slice_set so_far at rows) tables)
      by_case (Ok rows) further = further rows
      by_case (Err o) further = refl

  same_data : (path other : Text) → data_judged (source_of (with_query path)) held ≡ data_judged (source_of (with_query other)) held
  same_data path other = by_case (schema_judged (source_of (with_query path)) held)
    where
      by_case : (r : Result (List TableOf) Outcome)
          → then_read r (λ schema. then_read (tables_judged (source_of (with_query path)) held 0 (no_rows schema) schema) (λ tables. Ok (data_of schema tables)))
          ≡ then_read r (λ schema. then_read (tables_judged (source_of (with_query other)) held 0 (no_rows schema) schema) (λ tables. Ok (data_of schema tables)))
      by_case (Ok schema) = ap (λ (t : Result Tables Outcome). then_read t (λ tables. Ok (data_of schema tables))) (same_tables path other 0 (no_rows schema) schema)
      by_case (Err o) = refl

  pub same_first : (path other : Text) → first_judged (source_of (with_query path)) held ≡ first_judged (source_of (with_query other)) held
  same_first path other =
      ap (λ (r : Result Data Outcome). then_read r (λ d. then_read (query_judged (source_of (with_query path)) held Query1 d.schema) (λ left. Ok (first_of d left)))) (same_data path other)

  -- ---- the input of a run

  -- in two steps: what comes before the second query, and the rest
  in_two : (k : Command) (path : Text) → source_of k ≡ source_of (with_query path)
      → input_judged held k ≡ then_read (first_judged (source_of (with_query path)) held) (λ f. then_read (right_judged (source_of (with_query path)) held f.schema f.left) (λ right. within_limit (beside k f right)))
  in_two k path is = rw is (by_data (data_judged (source_of (with_query path)) held))
    where
      more : First → Result Accepted Outcome
      more f = then_read (right_judged (source_of (with_query path)) held f.schema f.left) (λ right. within_limit (beside k f right))

      by_query : (d : Data) (r : Result Typed Outcome)
          → then_read r (λ left. then_read (right_judged (source_of (with_query path)) held d.schema left) (λ right. within_limit (accepted k d left right)))
          ≡ then_read (then_read r (λ left. Ok (first_of d left))) (λ f. then_read (right_judged (source_of (with_query path)) held f.schema f.left) (λ right. within_limit (beside k f right)))
      by_query d (Ok left) = refl
      by_query d (Err o) = refl

      by_data : (r : Result Data Outcome)
          → then_read r (λ d. then_read (query_judged (source_of (with_query path)) held Query1 d.schema) (λ left. then_read (right_judged (source_of (with_query path)) held d.schema left) (λ right. within_limit (accepted k d left right))))
          ≡ then_read (then_read r (λ d. then_read (query_judged (source_of (with_query path)) held Query1 d.schema) (λ left. Ok (first_of d left)))) (λ f. then_read (right_judged (source_of (with_query path)) held f.schema f.left) (λ right. within_limit (beside k f right)))
      by_data (Ok d) = by_query d (query_judged (source_of (with_query path)) held Query1 d.schema)
      by_data (Err o) = refl

  abbrev rest_judged : Command → First → Result Text Outcome → Result Accepted Outcome
  rest_judged k f r = then_read (then_read (then_read r (query_of Query2 f.schema)) (like_left f.left)) (λ right. within_limit (beside k f right))

  from_first : (k : Command) (list path : Text) (first : First) → source_of k ≡ source_of (with_query path) → first_judged (source_of (with_query list)) held ≡ Ok first
      → input_judged held k ≡ rest_judged k first (text_read Query2 (held path))
  from_first k list path first is read =
      in_two k path is ∙ ap (λ (r : Result First Outcome). then_read r (λ f. then_read (right_judged (source_of (with_query path)) held f.schema f.left) (λ right. within_limit (beside k f right)))) (same_first path list ∙ read)

  -- where the candidate has a text
  pub judged_text : (k : Command) (list path text : Text) (first : First) → source_of k ≡ source_of (with_query path) → first_judged (source_of (with_query list)) held ≡ Ok first
      → text_read Query2 (held path) ≡ Ok text → input_judged held k ≡ candidate_judged k first text
  judged_text k list path text first is read has = from_first k list path first is read ∙ ap (rest_judged k first) has

  -- where it is too long
  pub judged_long : (k : Command) (list path : Text) (first : First) (o : Outcome) → source_of k ≡ source_of (with_query path) → first_judged (source_of (with_query list)) held ≡ Ok first
      → text_read Query2 (held path) ≡ Err o → input_judged held k ≡ Err o
  judged_long k list path first o is read long = from_first k list path first is read ∙ ap (rest_judged k first) long
