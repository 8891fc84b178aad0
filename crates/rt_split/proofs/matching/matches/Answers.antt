use Rattle.std.proofs.Common.{map}
use Rattle.rt_split.proofs.Keys.{all_found}
use Rattle.rt_split.proofs.matching.matches.Goals as goal

pub returns : goal.returns
returns c = all_found _ c.args.keys.now c.args.befores.now (map (λ r. r.now) c.args.rows.now) _ c.found_for-out.result c.in_ok-index.ensures c.found_for-out.ensures
