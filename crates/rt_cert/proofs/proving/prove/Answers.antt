use Rattle.std.proofs.Common.{◌∙◌, ℕ, Bool, List, arith, ap, subst, sym}
use Rattle.std.specs.Prelude.{Option, IfSome}
use Rattle.std.specs.Option.{option_map}
use Rattle.rt_recorder.specs.Certificate.{ArePlaces}
use Rattle.rt_cert.specs.Encoding.{IsEncoding}
use Rattle.rt_cert.specs.Certified.{IsToBeRefuted, claim_fault, rows_of}
use Rattle.rt_cert.specs.Least.{IsSmallestOrNone}
use Rattle.rt_cert.specs.Places.{keep_of}
use Rattle.rt_cert.proofs.ClaimLemmas.{kept-back, kept-fit, verdict-stands}
use Rattle.rt_cert.proofs.LeastLemmas.{verdict-long}
use Rattle.rt_cert.proofs.proving.prove.Goals as goal

pub returns-clause-keep : goal.returns-clause-keep
returns-clause-keep c =
    let rows = rows_of c.args.input.now in
    ap (option_map (keep_of rows)) c.in_ok-keep.ensures ∙ kept-back rows c.args.keep.now (verdict-long c.args.input.now c.args.keep.now c.requires)

pub returns-clause-proof : goal.returns-clause-proof
returns-clause-proof c =
    let input = c.args.input.now in
    let rows = rows_of input in
    let long = verdict-long input c.args.keep.now c.requires in
    let few = c.schema-schema.ensures.sound.few in
    let same = ap (option_map (keep_of rows)) c.in_ok-keep.ensures ∙ kept-back rows c.args.keep.now long in
    let lines = c.in_ok-encoded.encoded.lines in
    let assume = c.in_ok-encoded.encoded.assume in
    record {
      spelled = record {
        places = subst (λ (o : Option (List ℕ)). IfSome o ArePlaces) (sym c.in_ok-keep.ensures) (kept-fit rows c.args.keep.now (omega (arith, few)) long);
        added = omega (arith, c.if-added-ge-MOST_LINES.false);
        steps = c.in_ok-steps.ensures.spelled;
      };
      claim = ap (claim_fault input) c.in_ok-keep.ensures ∙ verdict-stands input c.args.keep.now c.requires;
      verdict = subst (IsSmallestOrNone input) (sym same) c.requires;
      encoding = subst (λ (k : Option (List Bool)). IsEncoding input k lines assume) (sym same) c.in_ok-encoded.ensures;
      added = sym c.len-added.ensures;
      accepted = c.in_ok-steps.ensures.accepted;
      refuted = λ t. c.in_ok-steps.ensures.refuted (subst IsToBeRefuted same t);
    }
