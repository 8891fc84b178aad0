use Rattle.std.proofs.Common.{◌∙◌, ap, false, get_or, length, List, ℕ, length-set, take_all, true}
use Rattle.rt_cert.specs.Places.{has_place}
use Rattle.rt_cert.proofs.PlaceLemmas.{keep-is, keep-more}
use Rattle.rt_cert.proofs.places.keep_of.Goals as goal

pub loop-place-preserved : goal.loop-place-preserved
loop-place-preserved c =
    let place = get_or c.args.places.now c.loop-place.place-index 0 in
    record {
      long = ap length c.set.ensures ∙ length-set c.loop-place.keep place true ∙ c.loop-place.invariant.long;
      kept = λ row h. ap (λ k. get_or k row false) c.set.ensures
          ∙ keep-more c.args.rows c.loop-place.place-index c.args.places.now c.loop-place.keep c.loop-place.invariant.long (c.requires c.loop-place.place-index 0 c.loop-place-test.true) c.loop-place-test.true c.loop-place.invariant.kept row h;
    }

pub returns : goal.returns
returns c =
    keep-is c.args.rows c.args.places.now c.loop-place.keep c.loop-place.invariant.long
    (λ row h. c.loop-place.invariant.kept row h ∙ ap (λ (ps : List ℕ). has_place ps row) (take_all c.loop-place.place-index c.args.places.now c.loop-place-test.false))
