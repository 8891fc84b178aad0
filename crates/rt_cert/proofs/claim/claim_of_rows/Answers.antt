use Rattle.std.proofs.Common.{◌∙◌, ◌<◌, ℕ, ap, length, subst, sym}
use Rattle.std.specs.List.{All}
use Rattle.rt_schema.specs.Given.{Instance, places}
use Rattle.rt_cert.specs.Certified.{rows_of}
use Rattle.rt_cert.specs.Places.{keep_of}
use Rattle.rt_cert.proofs.ClaimLemmas.{all-below, claim-holds}
use Rattle.rt_cert.proofs.PlaceLemmas.{keep-long}
use Rattle.rt_cert.proofs.claim.claim_of_rows.Goals as goal

pub keep_of-requires : goal.keep_of-requires
keep_of-requires c =
    let rows = c.total.ensures.total ∙ ap (λ (x : Instance). places x.tables) c.given.ensures in
    subst (λ (n : ℕ). All (λ place. place < n) c.args.places.now) (sym rows) (all-below (rows_of c.args.input.now) c.args.places.now c.requires)

pub choice_fault-requires : goal.choice_fault-requires
choice_fault-requires c =
    let rows = c.total.ensures.total ∙ ap (λ (x : Instance). places x.tables) c.given.ensures in
    ap length c.in_ok-keep.ensures ∙ keep-long c.total.result c.args.places.now ∙ rows

pub returns-in-None : goal.returns-in-None
returns-in-None c =
    let rows = c.total.ensures.total ∙ ap (λ (x : Instance). places x.tables) c.given.ensures in
    claim-holds c.args.input.now c.args.places.now c.in_ok-keep.keep c.requires (c.in_ok-keep.ensures ∙ ap (λ (n : ℕ). keep_of n c.args.places.now) rows) (sym c.in_ok-why.ensures ∙ c.in-None.is)
