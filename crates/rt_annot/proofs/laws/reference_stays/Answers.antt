use Rattle.rt_annot.proofs.Referring as referring
use Rattle.rt_annot.proofs.laws.reference_stays.Goals as goal

pub returns : goal.returns
returns c = referring.reference_stays
