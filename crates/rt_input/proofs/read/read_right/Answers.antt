use Rattle.std.proofs.Common.{◌≡◌, Ok}
use Rattle.rt_io.specs.Gave.{Fits}
use Rattle.rt_algebra.specs.declared.typed.Typed.{Typed}
use Rattle.rt_input.specs.Held.{Holding}
use Rattle.rt_input.specs.Judged.{like_left, query_judged, right_judged}
use Rattle.rt_input.specs.declared.part.Part.TheVariants.{Query2}
use Rattle.rt_input.proofs.EndLemmas.{if_between}
use Rattle.rt_input.proofs.RowLemmas.{if_ok}
use Rattle.rt_input.proofs.StepLemmas.{then_ok}
use Rattle.rt_input.proofs.read.read_right.Goals as goal

pub returns-clause-last : goal.returns-clause-last
returns-clause-last g c =
    if_between c.args.source.now c.like_left.result (g.F.Files.begun c.args.files.now) (g.F.Files.begun c.read_query.new.files) c.like_left.ensures.speaks

pub returns-clause-given : goal.returns-clause-given
returns-clause-given g c =
    let source = c.args.source.now in
    let schema = c.args.schema.now in
    let left = c.args.left.now in
    let right = c.in_ok-right.right in
    let gave = g.F.Files.gave in
    if_ok (λ (same : Typed). (same ≡ right) × (like_left left right ≡ Ok same))
    (λ same. (held : Holding) → Fits held (gave c.args.files.now) (gave c.read_query.new.files) → right_judged source held schema left ≡ Ok same) c.like_left.result
    (λ same told held fits. then_ok (query_judged source held Query2 schema) right (like_left left) (Ok same) (c.in_ok-right.ensures.given held fits) told.1)
    c.like_left.ensures.ok
