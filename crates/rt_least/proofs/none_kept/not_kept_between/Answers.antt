use Rattle.std.proofs.Common.{◌∙◌, sym, arith}
use Rattle.rt_least.proofs.Between.{between-none}
use Rattle.rt_least.proofs.none_kept.not_kept_between.Goals as goal

pub loop-row-init : goal.loop-row-init
loop-row-init c = record {
  from = omega arith;
  lits = c.new-lits.ensures ∙ sym (between-none c.args.cone.now c.args.place c.args.place (omega arith));
}
