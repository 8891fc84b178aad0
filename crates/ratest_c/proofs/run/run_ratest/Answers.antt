use Rattle.ratest_c.proofs.RunLemmas.{ratest_ended}
use Rattle.ratest_c.proofs.run.run_ratest.Goals as goal

pub returns-clause-ends : goal.returns-clause-ends
returns-clause-ends c = (
  c.ratest-outcome.result,
  c.status-status.ensures,
  ratest_ended _ c.ratest-outcome.result c.new-out.result.held.items c.ratest-outcome.new.out.held.items c.new-err.result.held.items c.ratest-outcome.new.err.held.items c.new-out.ensures c.new-err.ensures (record {
    agree = c.ratest-outcome.ensures.agree;
    witness = c.ratest-outcome.ensures.witness;
    usage = c.ratest-outcome.ensures.usage;
    usage_exact = c.ratest-outcome.ensures.usage_exact;
    refused = c.ratest-outcome.ensures.refused;
    spent = c.ratest-outcome.ensures.spent;
    limit = c.ratest-outcome.ensures.limit;
    exact = c.ratest-outcome.ensures.exact;
    read_fault = c.ratest-outcome.ensures.read_fault;
    write_fault = c.ratest-outcome.ensures.write_fault;
    no_memory = c.ratest-outcome.ensures.no_memory;
    said = c.ratest-outcome.ensures.said;
    complete = c.ratest-outcome.ensures.complete;
  }),
)
