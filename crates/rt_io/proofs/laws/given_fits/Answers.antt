use Rattle.rt_io.proofs.GaveLemmas.{apart_fit}
use Rattle.rt_io.proofs.laws.given_fits.Goals as goal

pub returns : goal.returns
returns c = apart_fit
