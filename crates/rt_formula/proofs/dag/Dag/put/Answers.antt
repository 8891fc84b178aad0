use Rattle.std.proofs.Common.{◌≡◌, subst, sym, ap, ◌∙◌, length, slice_get, Some, arith}
use Rattle.rt_formula.specs.Shared.{Shared, Fits, IsSound, IsGrown, values, val, entry_value}
use Rattle.rt_formula.proofs.Growth.{insert_sound, insert_grown, eq_same}
use Rattle.rt_formula.proofs.Meaning.{val-stored}
use Rattle.rt_formula.proofs.dag.Dag.put.Goals as goal

pub invariant_of-self-2 : goal.invariant_of-self-2
invariant_of-self-2 c =
    let P : Shared → Type 0 = λ s. Fits s.rows (length s.entries) c.args.entry in
    insert_sound c.self.inside.rows c.self.inside.entries.keys _ c.args.entry c.self.invariant (subst P (sym c.self.view_is) c.requires) (let l = c.len.ensures.len in let t = c.if-len-ge-MOST_NODES.false in omega (arith, l, t)) c.in_ok-at.ensures.keys

pub returns-clause-means : goal.returns-clause-means
returns-clause-means c keep =
    let P : Shared → Type 0 = λ s. Fits s.rows (length s.entries) c.args.entry in
    let f = subst P (sym c.self.view_is) c.requires in
    let before : Shared = record { rows = c.self.inside.rows; entries = c.self.inside.entries.keys } in
    let after : Shared = record { rows = c.self.inside.rows; entries = c.insert_full.new.self.keys } in
    let s : IsSound after = insert_sound c.self.inside.rows c.self.inside.entries.keys _ c.args.entry c.self.invariant f (let l = c.len.ensures.len in let t = c.if-len-ge-MOST_NODES.false in omega (arith, l, t)) c.in_ok-at.ensures.keys in
    let g : IsGrown before after = insert_grown c.self.inside.rows c.self.inside.entries.keys _ c.args.entry c.in_ok-at.ensures.keys in
    let h = c.in_ok-at.ensures.stored in
    let at : slice_get c.insert_full.new.self.keys c.in_ok-at.at ≡ Some c.args.entry = h.1 ∙ ap Some (sym (eq_same c.args.entry h.0 h.2)) in
    ap (val after keep) c.of.ensures
    ∙ val-stored before after g s c.in_ok-at.at c.args.entry at f keep
    ∙ ap (λ (d : Shared). entry_value keep (values keep d.entries) c.args.entry) c.self.view_is
