use Rattle.std.proofs.Common.{◌∙◌, ap, sym, List}
use Rattle.rt_io.specs.Command.{limit_of}
use Rattle.rt_io.specs.Reading.{Text}
use Rattle.rt_io.proofs.Found.{values-are}
use Rattle.rt_io.proofs.limits.limit_in.Goals as goal

pub returns-in-Some-clause-value : goal.returns-in-Some-clause-value
returns-in-Some-clause-value c = c.limit_of.ensures.value ∙ ap (λ (x : List Text). limit_of c.args.most x) (sym (values-are c.args.id.now c.args.matches.now _ c.in-Some.ensures))

pub returns-in-None-clause-value : goal.returns-in-None-clause-value
returns-in-None-clause-value c = ap (λ (x : List Text). limit_of c.args.most x) (sym (values-are c.args.id.now c.args.matches.now _ c.in-None.ensures))
