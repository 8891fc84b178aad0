use Rattle.std.proofs.Common.{◌∙◌, Some, ap, cond, sym}
use Rattle.std.specs.BTreeMap.{is_at}
use Rattle.std.specs.Cmp.Lexicographic.{slice_cmp}
use Rattle.std.specs.Ordering.{nat_cmp}
use Rattle.rt_token.specs.Terminals.{Word}
use Rattle.rt_ddl.specs.Places.{placed_at}
use Rattle.rt_ddl.proofs.PlaceLemmas.{kept, put}
use Rattle.rt_ddl.proofs.name_list.put_first.Goals as goal

pub returns-then-contains_key : goal.returns-then-contains_key
returns-then-contains_key c = kept c.args.name.now c.args.place c.args.places.now.entries (sym c.contains_key.ensures ∙ c.if-contains_key.true)

pub returns : goal.returns
returns c =
    let old = c.args.places.now.entries in
    put c.args.name.now c.args.place old c.insert.new.self.entries (sym c.contains_key.ensures ∙ c.if-contains_key.false)
    (λ n. c.in_ok-insert.ensures.updates.0 n ∙ ap (λ (k : Word). cond (is_at (slice_cmp nat_cmp k) n) (Some c.args.place) (placed_at old n)) c.in_ok-copy.ensures)
