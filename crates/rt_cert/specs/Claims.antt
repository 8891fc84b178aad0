-- The parts of a check: what is claimed, and what the steps show of it.
use Rattle.std.specs.Prelude.{◌≡◌, ◌≢◌, ℕ, Bool, List, length, Option, None, Some}
use Rattle.std.specs.Option.{ForSome, option_map}
use Rattle.rt_recorder.specs.declared.cert.Cert.{Cert}
use Rattle.rt_recorder.specs.Checking.{HasNoModel, IsChecked}
use Rattle.rt_recorder.specs.declared.check.Checked.TheVariants as checked
use Rattle.rt_recorder.specs.declared.encoded.Encoded.{Encoded}
use Rattle.rt_input.specs.Accepted.{Accepted}
use Rattle.rt_top.specs.Smallest.{IsCounterexample}
use Rattle.rt_cert.specs.Certified.{IsToBeRefuted, claim_fault, rows_of}
use Rattle.rt_cert.specs.Places.{keep_of}
use Rattle.rt_cert.specs.declared.claim.Claim.{Claim}
use Rattle.rt_cert.specs.declared.claim.Claim.TheVariants.{Stands, Fails}
use Rattle.rt_cert.specs.declared.judgement.Judgement.{Judgement}
use Rattle.rt_cert.specs.declared.judgement.Judgement.TheVariants.{Valid, Wrong}
use Rattle.rt_cert.specs.declared.judgement.Why.{Why}
use Rattle.rt_cert.specs.declared.judgement.Why.TheVariants as why

-- nothing is wrong with the claim, and this is its choice of rows: a counterexample, where there
-- is one
pub record Holds (input : Accepted) (places : Option (List ℕ)) (keep : Option (List Bool)) : Type 0 where
  pub fault : claim_fault input places ≡ None
  pub is : keep ≡ option_map (keep_of (rows_of input)) places
  pub counterexample : ForSome keep (IsCounterexample input)

abbrev pub IsClaim : Accepted → Option (List ℕ) → Claim → Type 0
IsClaim input places (Stands keep) = Holds input places keep
IsClaim input places (Fails w) = claim_fault input places ≡ Some w

-- why the steps don't do over these lines
abbrev pub IsWrongOver : Cert → Option (List Bool) → Encoded → Why → Type 0
IsWrongOver cert keep over (why.Place place) = ⊥
IsWrongOver cert keep over why.NotLawful = ⊥
IsWrongOver cert keep over why.SameAnswers = ⊥
IsWrongOver cert keep over (why.Added e) = (e ≡ over) × (length over.lines ≢ cert.added)
IsWrongOver cert keep over (why.Line k e) = (e ≡ over) × (length over.lines ≡ cert.added) × IsChecked over.lines cert.steps over.assume (checked.Line k)
IsWrongOver cert keep over (why.NoRefutation e) =
    (e ≡ over) × (length over.lines ≡ cert.added) × IsChecked over.lines cert.steps over.assume checked.NoRefutation × IsToBeRefuted keep

-- what the steps of a certificate show over these lines
abbrev pub IsJudgedOver : Cert → Option (List Bool) → Encoded → Judgement → Type 0
IsJudgedOver cert keep over (Valid k) = (k ≡ keep) × (IsToBeRefuted keep → HasNoModel over.lines over.assume)
IsJudgedOver cert keep over (Wrong w) = IsWrongOver cert keep over w
