use Rattle.rt_io.specs.Logs.{log}
use Rattle.rt_input.specs.Reading.{call}
use Rattle.rt_cert.proofs.ExactLemmas.{bad_told, check_all, claim_told, either_all, long_told, prove_all, proved_told, refusal_told, usage_told}
use Rattle.rt_writing.proofs.WriteLemmas.{writes}
use Rattle.rt_cert.specs.Answers.{Ends, in_certificates}
use Rattle.rt_cert.specs.Words.{asked_by}
use Rattle.rt_cert.proofs.run.cert_run.Goals as goal

pub returns-in-Ok-clause-writes : goal.returns-in-Ok-clause-writes
returns-in-Ok-clause-writes g c = writes in_certificates (Ends (call g.F.Files c.args.words.now c.args.files.now c.prepare.new.files))
    (log g.O.Sink c.args.out.now c.speak.new.out) (log g.E.Sink c.args.err.now c.speak.new.err)
    c.in-Ok.told.outcome c.in-Ok.told.text c.speak.result c.in-Ok.ensures.ends c.speak.ensures.ends c.speak.ensures.kept (λ text h. h) (λ text h. h) (λ e. cc e)

pub returns-in-Ok-clause-usage : goal.returns-in-Ok-clause-usage
returns-in-Ok-clause-usage g c = usage_told
    (call g.F.Files c.args.words.now c.args.files.now c.prepare.new.files)
    (log g.O.Sink c.args.out.now c.speak.new.out) (log g.E.Sink c.args.err.now c.speak.new.err)
    c.in-Ok.told.outcome c.in-Ok.told.text c.speak.result c.in-Ok.ensures.ends c.speak.ensures.ends

pub returns-in-Ok-clause-refused : goal.returns-in-Ok-clause-refused
returns-in-Ok-clause-refused g c = refusal_told
    (call g.F.Files c.args.words.now c.args.files.now c.prepare.new.files)
    (log g.O.Sink c.args.out.now c.speak.new.out) (log g.E.Sink c.args.err.now c.speak.new.err)
    c.in-Ok.told.outcome c.in-Ok.told.text c.speak.result c.in-Ok.ensures.ends c.speak.ensures.ends

pub returns-in-Ok-clause-long : goal.returns-in-Ok-clause-long
returns-in-Ok-clause-long g c = long_told
    (call g.F.Files c.args.words.now c.args.files.now c.prepare.new.files)
    (log g.O.Sink c.args.out.now c.speak.new.out) (log g.E.Sink c.args.err.now c.speak.new.err)
    c.in-Ok.told.outcome c.in-Ok.told.text c.speak.result c.in-Ok.ensures.ends c.speak.ensures.ends

pub returns-in-Ok-clause-malformed : goal.returns-in-Ok-clause-malformed
returns-in-Ok-clause-malformed g c = bad_told
    (call g.F.Files c.args.words.now c.args.files.now c.prepare.new.files)
    (log g.O.Sink c.args.out.now c.speak.new.out) (log g.E.Sink c.args.err.now c.speak.new.err)
    c.in-Ok.told.outcome c.in-Ok.told.text c.speak.result c.in-Ok.ensures.ends c.speak.ensures.ends

pub returns-in-Ok-clause-claim : goal.returns-in-Ok-clause-claim
returns-in-Ok-clause-claim g c = claim_told
    (call g.F.Files c.args.words.now c.args.files.now c.prepare.new.files)
    (log g.O.Sink c.args.out.now c.speak.new.out) (log g.E.Sink c.args.err.now c.speak.new.err)
    c.in-Ok.told.outcome c.in-Ok.told.text c.speak.result c.in-Ok.ensures.ends c.speak.ensures.ends

pub returns-in-Ok-clause-complete : goal.returns-in-Ok-clause-complete
returns-in-Ok-clause-complete g c = proved_told
    (call g.F.Files c.args.words.now c.args.files.now c.prepare.new.files)
    (log g.O.Sink c.args.out.now c.speak.new.out) (log g.E.Sink c.args.err.now c.speak.new.err)
    c.in-Ok.told.outcome c.in-Ok.told.text c.speak.result c.in-Ok.ensures.ends c.speak.ensures.ends

pub returns-in-Err-clause-refused : goal.returns-in-Err-clause-refused
returns-in-Err-clause-refused g c = either_all (asked_by c.args.words.now) _ (λ args knows refusal is. tt)

pub returns-in-Err-clause-long : goal.returns-in-Err-clause-long
returns-in-Err-clause-long g c = λ tells. check_all (asked_by c.args.words.now) _ (λ name args input ok long. tt)

pub returns-in-Err-clause-malformed : goal.returns-in-Err-clause-malformed
returns-in-Err-clause-malformed g c = λ tells. check_all (asked_by c.args.words.now) _ (λ name args input ok line bad. tt)

pub returns-in-Err-clause-claim : goal.returns-in-Err-clause-claim
returns-in-Err-clause-claim g c = λ tells. check_all (asked_by c.args.words.now) _ (λ name args input ok cert file cause fault. tt)

pub returns-in-Err-clause-complete : goal.returns-in-Err-clause-complete
returns-in-Err-clause-complete g c = prove_all (asked_by c.args.words.now) _ (λ args knows calm input ok room sinks. tt)
