use Rattle.std.proofs.Common.{◌≡◌, ◌<◌, ◌^◌, length, map, set, get_or, Some, None, sym, ap, ◌∙◌, subst}
use Rattle.std.specs.List.{swap}
use Rattle.rt_clause.specs.Thin.{somes}
use Rattle.rt_clause.proofs.ThinPlaces.{length-somes, somes-map, holds, holds_still, exchanged, exchanged-swap, length-exchanged}
use Rattle.rt_clause.proofs.thin.ThinClause.swap.Goals as goal

pub read-first-requires : goal.read-first-requires
read-first-requires c =
    let long = ap length (sym c.self.view_is) ∙ length-somes _ c.self.invariant.full in
    (c.self.invariant.places_at, holds _ c.args.a c.self.invariant.full (subst (λ n. c.args.a < n) long c.requires.a))

pub read-second-requires : goal.read-second-requires
read-second-requires c =
    let long = ap length (sym c.self.view_is) ∙ length-somes _ c.self.invariant.full in
    let more = holds_still c.self.inside.places.slots c.args.a c.args.b c.self.invariant.full c.if-a-b.true (subst (λ n. c.args.b < n) long c.requires.b) in
    (c.self.invariant.places_at ∙ sym c.read-first.ensures.slots.0, (more.0, ap (λ ds. get_or ds c.args.b None) c.read-first.ensures.slots.1 ∙ more.1))

laid : (c : goal.After-write-then-a-b) → c.write-then-a-b.new.self.slots ≡ exchanged c.self.inside.places.slots c.args.a c.args.b c.read-first.result c.read-second.result
laid c =
    c.write-then-a-b.ensures.1 ∙ ap (λ ds. set ds c.args.b (Some c.read-first.result)) (c.write.ensures.1 ∙ ap (λ ds. set ds c.args.a (Some c.read-second.result))
    (c.read-second.ensures.slots.1 ∙ ap (λ ds. set ds c.args.b None) c.read-first.ensures.slots.1))

now-full : (c : goal.After-write-then-a-b) → c.write-then-a-b.new.self.slots ≡ map Some (swap (somes c.self.inside.places.slots) c.args.a c.args.b)
now-full c =
    let long = ap length (sym c.self.view_is) ∙ length-somes _ c.self.invariant.full in
    laid c ∙ exchanged-swap c.self.inside.places.slots c.args.a c.args.b c.read-first.result c.read-second.result c.self.invariant.full c.if-a-b.true
    (subst (λ n. c.args.a < n) long c.requires.a) (subst (λ n. c.args.b < n) long c.requires.b) c.read-first.ensures.value
    (ap (λ ds. get_or ds c.args.b None) (sym c.read-first.ensures.slots.1) ∙ c.read-second.ensures.value)

pub invariant_of-self : goal.invariant_of-self
invariant_of-self c =
    let same_len = ap length (laid c) ∙ length-exchanged c.self.inside.places.slots c.args.a c.args.b c.read-first.result c.read-second.result in
    record {
      places_at = c.self.invariant.places_at ∙ sym (c.write-then-a-b.ensures.0 ∙ c.write.ensures.0 ∙ c.read-second.ensures.slots.0 ∙ c.read-first.ensures.slots.0);
      deed_at = c.self.invariant.deed_at;
      deed_len = c.self.invariant.deed_len ∙ sym same_len;
      given_by = c.self.invariant.given_by;
      full = (swap (somes c.self.inside.places.slots) c.args.a c.args.b, now-full c);
      fits = subst (λ n. n < 2 ^ 59) (sym same_len) c.self.invariant.fits;
    }

pub returns-then-a-b : goal.returns-then-a-b
returns-then-a-b c = ap somes (now-full c) ∙ somes-map (swap (somes c.self.inside.places.slots) c.args.a c.args.b) ∙ ap (λ ls. swap ls c.args.a c.args.b) c.self.view_is
