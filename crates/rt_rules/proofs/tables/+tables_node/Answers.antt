use Rattle.std.proofs.Common.{◌+◌, ◌&&◌, List, ◌∷◌, length, drop, sym, ap, ◌∙◌}
use Rattle.rt_schema.specs.Given.{Rows, Tables}
use Rattle.rt_schema.specs.Kept.{kept, kept_rows}
use Rattle.rt_schema.specs.Law.{rules_hold, tables_hold}
use Rattle.rt_schema.specs.declared.table.Rule.{Rule}
use Rattle.rt_schema.specs.declared.table.Table.{Table}
use Rattle.rt_rules.proofs.KeptLemmas.{front, others, kept-rest}
use Rattle.rt_rules.proofs.Meanings.{below-grown, grown-on, pair-means, two-below}
use Rattle.rt_rules.proofs.tables.+tables_node.Goals as goal

pub returns-in_ok-both-in-len1-up-rest-clause-means : goal.returns-in_ok-both-in-len1-up-rest-clause-means
returns-in_ok-both-in-len1-up-rest-clause-means t c =
    pair-means c.rules_node.new.dag c.tables_node.new.dag c.all.new.self c.in_ok-here-in-len1-up-rest.here c.in_ok-there-in-len1-up-rest.there c.in_ok-both-in-len1-up-rest.both _ _ _
    c.in_ok-there-in-len1-up-rest.ensures.grown c.in_ok-both-in-len1-up-rest.ensures.grown c.in_ok-here-in-len1-up-rest.ensures.means c.in_ok-there-in-len1-up-rest.ensures.means c.in_ok-both-in-len1-up-rest.ensures.node c.in_ok-both-in-len1-up-rest.ensures.means
    (λ keep l.
    let all = kept c.args.all.now keep in
    let here = drop c.args.base keep in
    let table = c.table-item.result in
    let ts = others c.args.tables.now in
    let rest = others c.args.rest.now in
    ap (λ (tables : List Table). tables_hold tables (kept c.args.rest.now here) all) (front c.args.tables.now table c.in-len1-up.len_at_least c.table-item.is)
    ∙ ap (λ (tables : Tables). tables_hold (table ∷ ts) (kept tables here) all) (front c.args.rest.now c.rows-item.result c.in-len1-up-rest.len_at_least c.rows-item.is)
    ∙ ap (λ tables. tables_hold (table ∷ ts) tables all) (kept-rest c.rows-item.result rest c.args.base keep)
    ∙ ap (λ (rows : Rows). rules_hold table.rules (kept_rows rows here) all && tables_hold ts (kept rest (drop (c.args.base + length rows) keep)) all) (sym c.as_slice-rows.ensures)
    ∙ ap (λ (rules : List Rule). rules_hold rules (kept_rows c.as_slice-rows.result.now here) all && tables_hold ts (kept rest (drop (c.args.base + length c.as_slice-rows.result.now) keep)) all) (sym c.as_slice.ensures))

pub returns-in_err-there-in-len1-up-rest-clause-grown : goal.returns-in_err-there-in-len1-up-rest-clause-grown
returns-in_err-there-in-len1-up-rest-clause-grown t c = grown-on _ _ _ c.in_ok-here-in-len1-up-rest.ensures.grown c.in_err-there-in-len1-up-rest.ensures.grown

pub returns-in_err-both-in-len1-up-rest-clause-grown : goal.returns-in_err-both-in-len1-up-rest-clause-grown
returns-in_err-both-in-len1-up-rest-clause-grown t c = grown-on _ _ _ (grown-on _ _ _ c.in_ok-here-in-len1-up-rest.ensures.grown c.in_ok-there-in-len1-up-rest.ensures.grown) c.in_err-both-in-len1-up-rest.ensures.grown

pub returns-in_ok-both-in-len1-up-rest-clause-grown : goal.returns-in_ok-both-in-len1-up-rest-clause-grown
returns-in_ok-both-in-len1-up-rest-clause-grown t c = grown-on _ _ _ (grown-on _ _ _ c.in_ok-here-in-len1-up-rest.ensures.grown c.in_ok-there-in-len1-up-rest.ensures.grown) c.in_ok-both-in-len1-up-rest.ensures.grown

pub all-requires : goal.all-requires
all-requires t c = two-below _ _ _ (below-grown _ _ c.in_ok-there-in-len1-up-rest.ensures.grown _ c.in_ok-here-in-len1-up-rest.ensures.means.below) c.in_ok-there-in-len1-up-rest.ensures.means.below
