-- What is asked of an accepted input: its two algebra texts, and the input of their queries.
use Rattle.std.specs.Prelude.{◌≡◌, IsTrue, List, None, Ok}
use Rattle.rt_schema.specs.declared.table.Table.{Table}
use Rattle.rt_schema.specs.Given.{is_instance}
use Rattle.rt_algebra.specs.Typed.{IsTypedOf}
use Rattle.rt_algebra.specs.declared.typed.Typed.{Typed}
use Rattle.rt_ra_tree.specs.declared.tree.RaText.{RaText}
use Rattle.rt_ra.specs.Lowered.{ra_lowered}
use Rattle.rt_ra.specs.Meaning.{MeansSame}
use Rattle.rt_input.specs.Accepted.{IsAccepted}
use Rattle.rt_ra_run.specs.declared.asked.Asked.{Asked}
use Rattle.rt_ra_run.specs.declared.query.Lowered.{Lowered}
use Rattle.rt_ra_run.specs.declared.command.RaCommand.{RaCommand}

-- over this schema the text becomes this query
abbrev pub Becomes : List Table → RaText → Typed → Type 0
Becomes schema text typed = ra_lowered text schema ≡ Ok typed

-- a text and the query that it becomes, which is typed and answers just the text's rows
pub record IsLowered (schema : List Table) (q : Lowered) : Type 0 where
  pub becomes : Becomes schema q.text q.typed
  pub typed : IsTypedOf schema q.typed
  pub means : MeansSame q.text schema q.typed

-- the input is one that can be accepted, and its queries are what the texts become
pub record IsAsked (a : Asked) : Type 0 where
  pub sound : IsAccepted a.input
  pub instance : IsTrue (is_instance a.input.given)
  pub left : Becomes a.input.schema a.left a.input.left
  pub right : Becomes a.input.schema a.right a.input.right

-- each query answers just the rows of its text
pub record IsMeant (a : Asked) : Type 0 where
  pub left : MeansSame a.left a.input.schema a.input.left
  pub right : MeansSame a.right a.input.schema a.input.right

-- the numbers of the input are those of the command, and it is not generated
pub record HasNumbers (k : RaCommand) (a : Asked) : Type 0 where
  pub conflicts : a.input.conflicts ≡ k.conflicts
  pub work_limit : a.input.work_limit ≡ k.work_limit
  pub made : a.input.made ≡ None
