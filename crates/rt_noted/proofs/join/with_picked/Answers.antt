use Rattle.std.proofs.Common.{◌∙◌, ◌++◌, [], ap, sym, length, Option}
use Rattle.std.specs.Prelude.{is_some}
use Rattle.std.specs.List.{cons_option}
use Rattle.std.proofs.lemmas.Bool.{ltb-false}
use Rattle.std.proofs.lemmas.List.{append-nil}
use Rattle.std.proofs.lemmas.Option.{slice_get_past}
use Rattle.rt_formula.specs.declared.noted.Noted.{Noted}
use Rattle.rt_noted.specs.Joints.{join_joint}
use Rattle.rt_noted.proofs.join.with_picked.Goals as goal

pub returns-in-None : goal.returns-in-None
returns-in-None c =
    let past = ltb-false c.args.place (length c.args.rows.now) (sym c.get.ensures.lookup.0 ∙ ap is_some c.in-None.is) in
    sym (append-nil c.args.out.now)
    ∙ ap (λ (o : Option Noted). c.args.out.now ++ join_joint c.args.before.now (cons_option o [])) (sym (slice_get_past c.args.rows.now c.args.place past))
