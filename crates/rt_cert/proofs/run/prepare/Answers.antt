use Rattle.rt_input.specs.Reading.{call}
use Rattle.rt_cert.proofs.BegunLemmas.{check_begun, prove_begun}
use Rattle.rt_cert.proofs.SayLemmas.{check_prepared, prove_prepared}
use Rattle.rt_cert.proofs.run.prepare.Goals as goal

pub returns-in-len1-up-clause-ends : goal.returns-in-len1-up-clause-ends
returns-in-len1-up-clause-ends g c =
    prove_prepared c.args.words.now (call g.F.Files c.args.words.now c.args.files.now c.prove_told.new.files) c.word-item.result c.as_str.result.now c.eq.result c.prove_told.result
    c.in-len1-up.len_at_least c.word-item.is c.if-eq.true c.eq.ensures c.as_str.ensures c.prove_told.ensures.says

pub returns-in-len2-up-clause-ends : goal.returns-in-len2-up-clause-ends
returns-in-len2-up-clause-ends g c =
    check_prepared c.args.words.now (call g.F.Files c.args.words.now c.args.files.now c.check_told.new.files) c.word-item-2.result c.name-item.result c.as_str-2.result.now c.eq-2.result c.check_told.result
    c.in-len2-up.len_at_least c.word-item-2.is c.name-item.is c.if-eq-2.true c.eq-2.ensures c.as_str-2.ensures c.check_told.ensures.says

pub returns-in-len1-up-clause-begun : goal.returns-in-len1-up-clause-begun
returns-in-len1-up-clause-begun g c =
    prove_begun g.F.Files.tells (g.F.Files.held c.args.files.now) c.args.words.now _ _ c.word-item.result c.as_str.result.now c.eq.result
    c.in-len1-up.len_at_least c.word-item.is c.if-eq.true c.eq.ensures c.as_str.ensures c.prove_told.ensures.begun

pub returns-in-len2-up-clause-begun : goal.returns-in-len2-up-clause-begun
returns-in-len2-up-clause-begun g c =
    check_begun g.F.Files.tells (g.F.Files.held c.args.files.now) c.args.words.now _ _ c.word-item-2.result c.name-item.result c.as_str-2.result.now c.eq-2.result
    c.in-len2-up.len_at_least c.word-item-2.is c.name-item.is c.if-eq-2.true c.eq-2.ensures c.as_str-2.ensures c.check_told.ensures.begun
