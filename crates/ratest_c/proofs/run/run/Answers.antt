use Rattle.std.proofs.Common.{refl, rules}
use Rattle.ratest_c.specs.declared.service.Service.TheVariants.{Ratest, Algebra, Tools, Certificates}
use Rattle.ratest_c.proofs.RunLemmas.{answered_by}
use Rattle.ratest_c.proofs.run.run.Goals as goal

pub returns-in-Ratest : goal.returns-in-Ratest
returns-in-Ratest c = answered_by c.args.request Ratest _ c.run_ratest.result c.new-files.result.files c.run_ratest.new.files.files c.run_ratest.ensures.ends
    (search rules) (search rules) refl refl refl refl c.new-files.ensures c.run_ratest.ensures.has

pub returns-in-Algebra : goal.returns-in-Algebra
returns-in-Algebra c = answered_by c.args.request Algebra _ c.run_algebra.result c.new-files.result.files c.run_algebra.new.files.files c.run_algebra.ensures.ends
    (search rules) (search rules) refl refl refl refl c.new-files.ensures c.run_algebra.ensures.has

pub returns-in-Tools : goal.returns-in-Tools
returns-in-Tools c = answered_by c.args.request Tools _ c.run_tools.result c.new-files.result.files c.run_tools.new.files.files c.run_tools.ensures.ends
    (search rules) (search rules) refl refl refl refl c.new-files.ensures c.run_tools.ensures.has

pub returns : goal.returns
returns c = answered_by c.args.request Certificates _ c.run_certificates.result c.new-files.result.files c.run_certificates.new.files.files c.run_certificates.ensures.ends
    (search rules) (search rules) refl refl refl refl c.new-files.ensures c.run_certificates.ensures.has
