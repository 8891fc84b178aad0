use Rattle.std.proofs.Common.{◌∙◌}
use Rattle.rt_print.proofs.SearchLemmas.{found}
use Rattle.rt_print.proofs.witness.has.Goals as goal

pub returns : goal.returns
returns c = c.is_ok.ensures.value ∙ found c.args.rows.now c.args.row.now c.binary_search.result c.requires c.binary_search.ensures.bound c.binary_search.ensures.position
