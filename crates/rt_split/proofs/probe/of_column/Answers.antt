use Rattle.std.proofs.Common.{◌∙◌, sym, map}
use Rattle.rt_split.proofs.Probing as lemma
use Rattle.rt_split.proofs.probe.of_column.Goals as goal

pub returns-in_ok-value-in-Some : goal.returns-in_ok-value-in-Some
returns-in_ok-value-in-Some c =
    lemma.of_column c.args.column.now c.args.other.now c.in-Some.at c.in_ok-value-in-Some.value (map (λ r. r.now) c.args.env.now) (sym c.place.ensures ∙ c.in-Some.is) (c.is_steady.ensures c.if-is_steady.true) c.in_ok-value-in-Some.ensures
