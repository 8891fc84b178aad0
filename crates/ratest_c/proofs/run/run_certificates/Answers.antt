use Rattle.ratest_c.proofs.RunLemmas.{certificate_ended}
use Rattle.ratest_c.proofs.run.run_certificates.Goals as goal

pub returns-clause-ends : goal.returns-clause-ends
returns-clause-ends c = (
  c.cert_run-outcome.result,
  c.status-status.ensures,
  certificate_ended _ c.cert_run-outcome.result c.new-out.result.held.items c.cert_run-outcome.new.out.held.items c.new-err.result.held.items c.cert_run-outcome.new.err.held.items c.new-out.ensures c.new-err.ensures (record {
    writes = c.cert_run-outcome.ensures.writes;
    usage = c.cert_run-outcome.ensures.usage;
    refused = c.cert_run-outcome.ensures.refused;
    long = c.cert_run-outcome.ensures.long;
    malformed = c.cert_run-outcome.ensures.malformed;
    claim = c.cert_run-outcome.ensures.claim;
    complete = c.cert_run-outcome.ensures.complete;
  }),
)
