-- Certificates of an input: what one that is written proves, and what the check of one says.
use Rattle.std.specs.Prelude.{◌≡◌, ◌≢◌, ℕ, ◌<◌, ◌++◌, Bool, nat_le, List, length, Option, None, Some, if◌then◌else◌, ⊤}
use Rattle.std.specs.List.{find}
use Rattle.std.specs.Option.{option_map}
use Rattle.rt_value.specs.Keep.{size}
use Rattle.rt_schema.specs.Given.{places}
use Rattle.rt_clause.specs.Refuting.{IsRefuted}
use Rattle.rt_recorder.specs.Certificate.{IsCert}
use Rattle.rt_recorder.specs.declared.cert.Cert.{Cert}
use Rattle.rt_recorder.specs.Checking.{AreAccepted, IsChecked, clauses}
use Rattle.rt_recorder.specs.declared.check.Checked.TheVariants as checked
use Rattle.rt_recorder.specs.declared.encoded.Encoded.{Encoded}
use Rattle.rt_cert.specs.Encoding.{IsEncoding}
use Rattle.rt_input.specs.Accepted.{Accepted}
use Rattle.rt_top.specs.Smallest.{differ_at, lawful_at}
use Rattle.rt_cert.specs.Least.{IsLeastOrNone, IsSmallestOrNone}
use Rattle.rt_cert.specs.Places.{keep_of}
use Rattle.rt_cert.specs.declared.judgement.Judgement.{Judgement}
use Rattle.rt_cert.specs.declared.judgement.Judgement.TheVariants.{Valid, Wrong}
use Rattle.rt_cert.specs.declared.judgement.Why.{Why}
use Rattle.rt_cert.specs.declared.judgement.Why.TheVariants as why

abbrev pub rows_of : Accepted → ℕ
rows_of input = places input.given.tables

-- the choice of rows that a certificate is of
abbrev pub kept_by : Accepted → Cert → Option (List Bool)
kept_by input cert = option_map (keep_of (rows_of input)) cert.keep

-- nothing keeps fewer rows than none: only there no refutation is asked for
abbrev pub IsToBeRefuted : Option (List Bool) → Type 0
IsToBeRefuted None = ⊤
IsToBeRefuted (Some keep) = 0 < size keep

-- ---- the check of one

-- what is wrong with a choice of rows
abbrev pub choice_fault : Accepted → List Bool → Option Why
choice_fault input keep = if lawful_at input keep then (if differ_at input keep then None else Some why.SameAnswers) else Some why.NotLawful

abbrev pub places_fault : Accepted → List ℕ → Option ℕ → Option Why
places_fault input places (Some place) = Some (why.Place place)
places_fault input places None = choice_fault input (keep_of (rows_of input) places)

-- The first thing that is wrong with what a certificate claims, whatever its steps. It is a place
-- that isn't below the number of rows, rows that aren't lawful, or the same answers on them.
abbrev pub claim_fault : Accepted → Option (List ℕ) → Option Why
claim_fault input None = None
claim_fault input (Some places) = places_fault input places (find (λ place. nat_le (rows_of input) place) places)

-- nothing is wrong with what it claims, and these are the lines of the input and of its choice of
-- rows
pub record IsTried (input : Accepted) (cert : Cert) (encoded : Encoded) : Type 0 where
  pub claim : claim_fault input cert.keep ≡ None
  pub encoding : IsEncoding input (kept_by input cert) encoded.lines encoded.assume

-- why a certificate is rejected
abbrev pub IsWrong : Accepted → Cert → Why → Type 0
IsWrong input cert (why.Place place) = claim_fault input cert.keep ≡ Some (why.Place place)
IsWrong input cert why.NotLawful = claim_fault input cert.keep ≡ Some why.NotLawful
IsWrong input cert why.SameAnswers = claim_fault input cert.keep ≡ Some why.SameAnswers
IsWrong input cert (why.Added e) = IsTried input cert e × (length e.lines ≢ cert.added)
IsWrong input cert (why.Line k e) = IsTried input cert e × (length e.lines ≡ cert.added) × IsChecked e.lines cert.steps e.assume (checked.Line k)
IsWrong input cert (why.NoRefutation e) =
    IsTried input cert e × (length e.lines ≡ cert.added) × IsChecked e.lines cert.steps e.assume checked.NoRefutation × IsToBeRefuted (kept_by input cert)

-- what is accepted has the least size, or the queries agree, whoever made the certificate
pub record IsValid (input : Accepted) (cert : Cert) (keep : Option (List Bool)) : Type 0 where
  pub claim : claim_fault input cert.keep ≡ None
  pub is : keep ≡ kept_by input cert
  pub least : IsLeastOrNone input keep

abbrev pub IsJudged : Accepted → Cert → Judgement → Type 0
IsJudged input cert (Valid keep) = IsValid input cert keep
IsJudged input cert (Wrong w) = IsWrong input cert w

-- ---- a certificate that is written

-- A certificate of the verdict on an input, with the encoding that its steps go on from. Nothing is
-- wrong with what it claims, so each of its places is one of a row.
pub record IsProof (input : Accepted) (cert : Cert) (encoded : Encoded) : Type 0 where
  pub spelled : IsCert cert
  pub claim : claim_fault input cert.keep ≡ None
  pub verdict : IsSmallestOrNone input (kept_by input cert)
  pub encoding : IsEncoding input (kept_by input cert) encoded.lines encoded.assume
  pub added : length encoded.lines ≡ cert.added
  pub accepted : AreAccepted encoded.lines cert.steps
  pub refuted : IsToBeRefuted (kept_by input cert) → IsRefuted (encoded.lines ++ clauses cert.steps) encoded.assume
