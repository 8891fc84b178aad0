-- Which files a reading of two algebra texts begins.
use Rattle.std.proofs.Common.{◌≡◌, subst, sym, ◌∷◌, ◌++◌, Bool, IsTrue, List, [], Ok}
use Rattle.std.specs.Prelude.{Option, Some}
use Rattle.rt_io.proofs.AddLemmas.{adds_then}
use Rattle.rt_io.specs.Edge.{AddsPrefix}
use Rattle.rt_input.specs.declared.part.Part.TheVariants.{Query1}
use Rattle.rt_input.specs.Begun.{AddsAll, AddsSome, data_files, data_reached, then_files}
use Rattle.rt_input.specs.Held.{Holding}
use Rattle.rt_input.specs.Judged.{Data}
use Rattle.rt_input.specs.Source.{Text}
use Rattle.rt_input.proofs.BegunLemmas.{some_first, some_then, when_reached}
use Rattle.rt_ra_run.specs.declared.command.RaCommand.{RaCommand}
use Rattle.rt_ra_run.specs.declared.query.Lowered.{Lowered}
use Rattle.rt_ra_run.specs.Begun.{BeginsFor, asked_files, asked_reached, queries_reached, query_files, tables_of}
use Rattle.rt_ra_run.specs.Judged.{data_judged, query_judged}

pub right_reached : (k : RaCommand) (held : Holding) (d : Data) (left : Lowered) (old mid new : List Text) → query_judged k held Query1 d.schema ≡ Ok left
    → mid ≡ old ++ k.query1 ∷ [] → AddsPrefix mid new (k.query2 ∷ []) → AddsPrefix old new (queries_reached k held d)
right_reached k held d left old mid new is first adds =
    adds_then old mid new (k.query1 ∷ []) (then_files (query_judged k held Query1 d.schema) (λ left. k.query2 ∷ [])) first
    (when_reached (query_judged k held Query1 d.schema) left (λ left. k.query2 ∷ []) mid new is adds)

module _ (tells : Bool) (k : RaCommand) (held later : Holding) (old mid new : List Text) where
  -- the schema or a table stops the reading
  pub data_begun : AddsSome (IsTrue tells) (data_files (tables_of k)) (data_reached (tables_of k) held) old new
      → AddsSome (IsTrue tells) (asked_files k) (asked_reached k held) old new
  data_begun some =
      some_first (IsTrue tells) (data_files (tables_of k)) (data_reached (tables_of k) held) (query_files k) (then_files (data_judged k held) (queries_reached k held)) old new some

  -- the queries, after the tables
  pub queries_begun : (d : Data) → later ≡ held → (IsTrue tells → data_judged k held ≡ Ok d)
      → AddsAll (IsTrue tells) (data_files (tables_of k)) (data_reached (tables_of k) held) old mid
      → AddsPrefix mid new (query_files k) → (IsTrue tells → AddsPrefix mid new (queries_reached k later d))
      → AddsSome (IsTrue tells) (asked_files k) (asked_reached k held) old new
  queries_begun d same told all adds reached =
      some_then (IsTrue tells) (data_files (tables_of k)) (data_reached (tables_of k) held) (query_files k) (then_files (data_judged k held) (queries_reached k held)) old mid new all adds
      (λ t. when_reached (data_judged k held) d (queries_reached k held) mid new (told t) (subst (λ (h : Holding). AddsPrefix mid new (queries_reached k h d)) same (reached t)))

-- of the arguments that mean the command
pub spelled_begun : (tells : Bool) (held : Holding) (o : Option RaCommand) (k : RaCommand) (old new : List Text) → o ≡ Some k
    → AddsSome (IsTrue tells) (asked_files k) (asked_reached k held) old new → BeginsFor tells held o old new
spelled_begun tells held o k old new is some = subst (λ (p : Option RaCommand). BeginsFor tells held p old new) (sym is) some
