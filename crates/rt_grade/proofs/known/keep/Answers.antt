use Rattle.std.proofs.Common.{◌≡◌, subst}
use Rattle.std.specs.Prelude.{IfSome, Option}
use Rattle.rt_grade.specs.declared.grade.Grade.{Grade}
use Rattle.rt_grade.proofs.KnownLemmas.{one_kept}
use Rattle.rt_grade.proofs.known.keep.Goals as goal

pub returns-in-Some : goal.returns-in-Some
returns-in-Some c =
    let same : c.in-Some.copy ≡ c.args.grade.now = subst (λ (o : Option Grade). IfSome o (λ grade. grade ≡ c.args.grade.now)) c.in-Some.is c.in_ok-again.ensures in
    one_kept c.push.result c.args.known.now c.push.new.self c.args.query c.in-Some.copy c.args.grade.now same c.push.ensures.ok c.push.ensures.err
