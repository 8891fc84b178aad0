use Rattle.std.proofs.Common.{rules, sym, subst, w64}
use Rattle.std.proofs.lemmas.Int.{to_z-of_z}
use Rattle.ratest_c.specs.Answers.{Says}
use Rattle.ratest_c.proofs.ReplyLemmas.{put_says}
use Rattle.ratest_c.proofs.ratest_ask.Goals as goal

pub returns-in-Ok : goal.returns-in-Ok
returns-in-Ok c = subst (λ z. Says c.args.request.now c.args.reply.now c.put.new.reply z) (sym (to_z-of_z w64 c.put.result (search rules)))
    (put_says c.args.request.now c.args.reply.now c.put.new.reply _ c.put.result (search rules) c.put.ensures.fits c.put.ensures.put c.put.ensures.rest c.put.ensures.wants c.put.ensures.kept)
