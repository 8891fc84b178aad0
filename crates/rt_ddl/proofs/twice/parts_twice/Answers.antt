use Rattle.std.proofs.Common.{◌∙◌, ◌++◌, ◌∷◌, [], List, ap, sym}
use Rattle.rt_token.specs.Terminals.{Word}
use Rattle.rt_ddl.specs.Places.{column_names}
use Rattle.rt_ddl.proofs.TwiceLemmas.{columns-step, parts-step}
use Rattle.rt_ddl.proofs.twice.parts_twice.Goals as goal

pub loop-at-preserved : goal.loop-at-preserved
loop-at-preserved c =
    let parts = c.args.parts.now in
    let at = c.loop-at.at in
    let part = c.index-parts-at.result in
    record {
      columns = c.in_ok-columns.ensures ∙ ap (λ (ns : List Word). ns ++ column_names (part ∷ [])) c.loop-at.invariant.columns
          ∙ sym (columns-step parts at part c.loop-at-test.true c.index-parts-at.is);
      rest = parts-step c.args.table.now parts at part c.loop-at-test.true c.index-parts-at.is (sym (rw c.in_default.is at c.in_ok-name.ensures)) ∙ c.loop-at.invariant.rest;
    }
