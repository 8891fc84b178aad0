use Rattle.rt_input.specs.Reading.{call}
use Rattle.rt_tools.proofs.BegunLemmas.{row_begun}
use Rattle.rt_tools.proofs.EndLemmas.{row_prepared}
use Rattle.rt_tools.proofs.run.prepare.Goals as goal

pub returns-in-len2-up-clause-ends : goal.returns-in-len2-up-clause-ends
returns-in-len2-up-clause-ends g c =
    row_prepared c.args.words.now (call g.F.Files c.args.words.now c.args.files.now c.row_tool.new.files) c.tool-item.result c.row-item.result c.as_str.result.now c.eq.result c.row_tool.result
    c.in-len2-up.len_at_least c.tool-item.is c.row-item.is c.if-eq.true c.eq.ensures c.as_str.ensures c.row_tool.ensures.says

pub returns-in-len2-up-clause-begun : goal.returns-in-len2-up-clause-begun
returns-in-len2-up-clause-begun g c =
    row_begun g.F.Files.tells (g.F.Files.held c.args.files.now) c.args.words.now _ _ c.tool-item.result c.row-item.result c.as_str.result.now c.eq.result
    c.in-len2-up.len_at_least c.tool-item.is c.if-eq.true c.eq.ensures c.as_str.ensures c.row_tool.ensures.begun
