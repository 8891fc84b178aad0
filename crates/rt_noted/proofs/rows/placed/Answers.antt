use Rattle.rt_noted.proofs.Growing.{grown_trans}
use Rattle.std.proofs.Common.{◌+◌, refl}
use Rattle.rt_formula.specs.Shared.{bool_at}
use Rattle.rt_noted.proofs.Walking.{along_push, next_placed}
use Rattle.rt_noted.proofs.rows.placed.Goals as goal

pub loop-at-preserved : goal.loop-at-preserved
loop-at-preserved c =
    along_push (record { row = c.index-rows-at.result; node = c.in_ok-node.node }) c.index-rows-at.result (λ s. bool_at s (c.args.base + c.loop-at.at)) c.loop-at.invariant
    (next_placed c.args.base c.args.rows.now c.loop-at.at c.index-rows-at.result c.loop-at-test.true c.index-rows-at.is)
    c.row.ensures.grown refl (record { below = c.in_ok-node.ensures.node; same = c.in_ok-node.ensures.means }) c.in_ok-note.ensures

pub returns-in_err-node-clause-grown : goal.returns-in_err-node-clause-grown
returns-in_err-node-clause-grown c = grown_trans c.loop-at.invariant.grown c.row.ensures.grown

pub returns-in_err-note-clause-grown : goal.returns-in_err-note-clause-grown
returns-in_err-note-clause-grown c = grown_trans c.loop-at.invariant.grown c.row.ensures.grown
