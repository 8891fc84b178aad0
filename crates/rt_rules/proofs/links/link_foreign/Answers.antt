use Rattle.std.proofs.Common.{◌≡◌, ◌∙◌, ◌+◌, ◌++◌, map, ap, arith}
use Rattle.rt_schema.specs.Given.{base_of, rows_at}
use Rattle.rt_schema.specs.Cells.{agree}
use Rattle.rt_rules.specs.Cone.{link, places_where}
use Rattle.rt_rules.proofs.LinkLemmas.{foreign-more, links-more}
use Rattle.rt_rules.proofs.links.link_foreign.Goals as goal

pub loop-at-preserved : goal.loop-at-preserved
loop-at-preserved c =
    let f = c.args.foreign.now in
    let all = c.args.all.now in
    let row = c.index-rows-at.result in
    let now = c.loop-at.links in
    let place = c.args.base + c.loop-at.at in
    let t = c.table_at-others_base in
    let first : t.result.1 ≡ base_of f.table all = (let e = t.ensures.first in omega (arith, e)) in
    links-more c.args.links.now now _ _ _ _ c.loop-at.invariant
    (c.in_ok-link_row.ensures ∙ ap (λ n. now ++ map (link place) (places_where (agree f.from f.to row) n t.result.0.now)) first ∙ ap (λ os. now ++ map (link place) (places_where (agree f.from f.to row) (base_of f.table all) os)) t.ensures.of)
    (foreign-more f.from f.to (base_of f.table all) (rows_at all f.table) c.args.base c.args.rows.now c.loop-at.at row c.loop-at-test.true c.index-rows-at.is)
