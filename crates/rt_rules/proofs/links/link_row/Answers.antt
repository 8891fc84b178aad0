use Rattle.std.proofs.Common.{◌≡◌, ◌∙◌, ◌++◌, ℕ, List, true, map, sym, ap, subst}
use Rattle.std.proofs.lemmas.List.{append-nil}
use Rattle.std.specs.List.{list_any}
use Rattle.rt_schema.specs.Cells.{cells, is_null}
use Rattle.rt_rules.specs.Cone.{link}
use Rattle.rt_rules.proofs.LinkLemmas.{null-none}
use Rattle.rt_rules.proofs.links.link_row.Goals as goal

pub returns-then-has_null : goal.returns-then-has_null
returns-then-has_null c =
    let f = c.args.foreign.now in
    let N : List ℕ → Type 0 = λ cs. list_any is_null (cells cs c.args.row.now) ≡ true in
    let null = subst N c.as_slice-from.ensures (sym c.has_null.ensures ∙ c.if-has_null.true) in
    sym (ap (λ ps. c.args.links.now ++ map (link c.args.place) ps) (null-none f.from f.to c.args.row.now c.args.others_base c.args.others.now null) ∙ append-nil c.args.links.now)
