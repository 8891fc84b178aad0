use Rattle.std.proofs.Common.{◌∙◌, ℕ, ap, nat_le, sym}
use Rattle.std.specs.List.{find}
use Rattle.rt_schema.specs.Given.{Instance, places}
use Rattle.rt_cert.proofs.ClaimLemmas.{places-past}
use Rattle.rt_cert.proofs.claim.claim_of_places.Goals as goal

pub returns-in-Some : goal.returns-in-Some
returns-in-Some c =
    let rows = c.total.ensures.total ∙ ap (λ (x : Instance). places x.tables) c.given.ensures in
    places-past c.args.input.now c.args.places.now c.in-Some.place (ap (λ (n : ℕ). find (λ p. nat_le n p) c.args.places.now) (sym rows) ∙ sym c.in-Some.ensures)

pub claim_of_rows-requires : goal.claim_of_rows-requires
claim_of_rows-requires c =
    let rows = c.total.ensures.total ∙ ap (λ (x : Instance). places x.tables) c.given.ensures in
    ap (λ (n : ℕ). find (λ p. nat_le n p) c.args.places.now) (sym rows) ∙ sym c.in-None.ensures
