use Rattle.std.proofs.Common.{◌∙◌, ◌++◌, [], ap, sym, length, Option, List}
use Rattle.std.specs.Prelude.{is_some}
use Rattle.std.specs.List.{cons_option}
use Rattle.std.proofs.lemmas.Bool.{ltb-false}
use Rattle.std.proofs.lemmas.List.{append-nil}
use Rattle.std.proofs.lemmas.Option.{slice_get_past}
use Rattle.rt_value.specs.declared.value.Value.{Value}
use Rattle.rt_algebra.specs.Answer.{join_each}
use Rattle.rt_eval.proofs.pairs.with_picked.Goals as goal

pub returns-in-None : goal.returns-in-None
returns-in-None c =
    let past = ltb-false c.args.place (length c.args.rows.now) (sym c.get.ensures.lookup.0 ∙ ap is_some c.in-None.is) in
    sym (append-nil c.args.out)
    ∙ ap (λ (o : Option (List Value)). c.args.out ++ join_each c.args.before.now (cons_option o [])) (sym (slice_get_past c.args.rows.now c.args.place past))
