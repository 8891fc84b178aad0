use Rattle.ratest_c.proofs.RunLemmas.{tool_ended}
use Rattle.ratest_c.proofs.run.run_tools.Goals as goal

pub returns-clause-ends : goal.returns-clause-ends
returns-clause-ends c = (
  c.tool_run-outcome.result,
  c.status-status.ensures,
  tool_ended _ c.tool_run-outcome.result c.new-out.result.held.items c.tool_run-outcome.new.out.held.items c.new-err.result.held.items c.tool_run-outcome.new.err.held.items c.new-out.ensures c.new-err.ensures (record {
    writes = c.tool_run-outcome.ensures.writes;
    exact = c.tool_run-outcome.ensures.exact;
    usage_exact = c.tool_run-outcome.ensures.usage_exact;
    complete = c.tool_run-outcome.ensures.complete;
  }),
)
