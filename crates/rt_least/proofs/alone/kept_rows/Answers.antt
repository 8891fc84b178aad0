use Rattle.std.proofs.Common.{◌+◌, ◌∙◌, List, sym, subst}
use Rattle.rt_clause.specs.Literal.{Literal}
use Rattle.rt_least.specs.Alone.{AreKept}
use Rattle.rt_least.proofs.Only.{kept-not, kept-too}
use Rattle.rt_least.proofs.alone.kept_rows.Goals as goal
use Rattle.rt_least.proofs.alone.kept_rows.Goals.{then-is+in_ok-push, else-is}

pub loop-row-preserved : goal.loop-row-preserved
loop-row-preserved c =
    let K : List Literal → Type 0 = λ lits. AreKept c.args.keep.now (c.loop-row.row + 1) lits in
    elim c.if-is.branch [
      | then-is+in_ok-push w ↦ subst K (sym w.kept-is) (subst K (sym w.in_ok-push.ensures.ok) (kept-too c.args.keep.now c.loop-row.row c.loop-row.kept w.of.result c.loop-row.invariant w.of.ensures.var w.of.ensures.on))
      | else-is w ↦ subst K (sym w.kept-is) (kept-not c.args.keep.now c.loop-row.row c.loop-row.kept c.loop-row.invariant (sym c.is.ensures ∙ w.if-is.false))
    ]
