use Rattle.std.proofs.Common.{◌≡◌, ◌∙◌, ap}
use Rattle.rt_split.specs.Split.{apart, split_of}
use Rattle.rt_split.proofs.Joins.{joins_law, joins_whole}
use Rattle.rt_split.proofs.Splitting.{split_at, narrow_at, simple_at, whole_at}
use Rattle.rt_split.proofs.conjuncts.split.Goals as goal

pub returns-clause-law : goal.returns-clause-law
returns-clause-law c = split_at c.args.pred.now c.args.widths.now c.in_ok-parts.parts (c.in_ok-parts.ensures ∙ ap (λ ps. apart ps c.args.widths.now) c.conjuncts.ensures)

pub returns-clause-joins : goal.returns-clause-joins
returns-clause-joins c =
    let is : c.in_ok-parts.parts ≡ split_of c.args.pred.now c.args.widths.now = c.in_ok-parts.ensures ∙ ap (λ ps. apart ps c.args.widths.now) c.conjuncts.ensures in
    joins_law c.args.pred.now c.args.widths.now c.in_ok-parts.parts (narrow_at _ _ _ is) (simple_at _ _ _ is)

pub returns-clause-joins_whole : goal.returns-clause-joins_whole
returns-clause-joins_whole c =
    let is : c.in_ok-parts.parts ≡ split_of c.args.pred.now c.args.widths.now = c.in_ok-parts.ensures ∙ ap (λ ps. apart ps c.args.widths.now) c.conjuncts.ensures in
    joins_whole c.args.pred.now c.args.widths.now c.in_ok-parts.parts (narrow_at _ _ _ is) (simple_at _ _ _ is)

pub returns-clause-whole : goal.returns-clause-whole
returns-clause-whole c = whole_at c.args.pred.now c.args.widths.now c.in_ok-parts.parts (c.in_ok-parts.ensures ∙ ap (λ ps. apart ps c.args.widths.now) c.conjuncts.ensures)
