use Rattle.ratest_c.proofs.RunLemmas.{algebra_ended, if_ok}
use Rattle.ratest_c.proofs.run.run_algebra.Goals as goal

pub returns-clause-ends : goal.returns-clause-ends
returns-clause-ends c = (
  c.ra_run-outcome.result,
  c.status-status.ensures,
  algebra_ended _ c.ra_run-outcome.result c.new-out.result.held.items c.ra_run-outcome.new.out.held.items c.new-err.result.held.items c.ra_run-outcome.new.err.held.items c.new-out.ensures c.new-err.ensures (record {
    agree = c.ra_run-outcome.ensures.agree;
    witness = c.ra_run-outcome.ensures.witness;
    usage = c.ra_run-outcome.ensures.usage;
    usage_exact = c.ra_run-outcome.ensures.usage_exact;
    refused = c.ra_run-outcome.ensures.refused;
    refused_elsewhere = c.ra_run-outcome.ensures.refused_elsewhere;
    spent = c.ra_run-outcome.ensures.spent;
    limit = c.ra_run-outcome.ensures.limit;
    exact = c.ra_run-outcome.ensures.exact;
    read_fault = c.ra_run-outcome.ensures.read_fault;
    write_fault = c.ra_run-outcome.ensures.write_fault;
    no_memory = c.ra_run-outcome.ensures.no_memory;
    said = c.ra_run-outcome.ensures.said;
    complete = λ told calm sinks. if_ok _ _ (c.ra_run-outcome.ensures.complete told calm sinks);
  }),
)
