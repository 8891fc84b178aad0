use Rattle.std.proofs.Common.{◌≡◌, ◌∙◌, ◌++◌, List, None, map, ap, sym, subst}
use Rattle.std.specs.List.{AllByRecursion as Each}
use Rattle.rt_clause.specs.Literal.{Literal}
use Rattle.rt_clause.specs.Refuting.{IsRefuted}
use Rattle.rt_recorder.specs.Certificate.{IsStep}
use Rattle.rt_recorder.specs.declared.cert.Step.{Step}
use Rattle.rt_recorder.specs.Checking.{AreAccepted, clauses}
use Rattle.rt_recorder.specs.Recording.{AreSteps, Recording}
use Rattle.rt_solver.specs.Search.{line_of}
use Rattle.rt_solver.specs.Solving.{variables}
use Rattle.rt_cert.proofs.Refutations.{Refutes, found-refuted, if_ok, steps-refute}
use Rattle.rt_cert.proofs.refutation.refutation.Goals as goal

pub returns : goal.returns
returns c =
    let given = c.args.encoded.now.lines in
    let assume = c.args.encoded.now.assume in
    let new = c.solve.new.self.0.lines in
    let old = c.put_lines.new.to.0.lines in
    let steps = c.steps.result.now in
    let searched = c.in_ok-solve.ensures.searched in
    let more = map (line_of assume) searched.learned ++ searched.last in
    let r : Refutes given assume steps =
    steps-refute given new more c.put_lines.new.to.0.derived c.solve.new.self.0.derived assume steps
    c.in_ok-put_lines.ensures.derived (searched.lines ∙ ap (λ (ls : List (List Literal)). ls ++ more) c.in_ok-put_lines.ensures.lines) searched.derived
    (subst (λ (v : Recording). AreSteps v.lines v.derived steps) c.lines.ensures c.steps.ensures.kept)
    (found-refuted old new assume c.variables-first.result (variables old assume c.variables-first.result) None c.in_ok-solve.field-0 c.in-Refuted.is c.in_ok-solve.ensures.found) in
    record {
      accepted = if_ok (λ copies. copies ≡ steps) (AreAccepted given) c.copied.result (λ copies same. subst (AreAccepted given) (sym same) r.accepted) c.copied.ensures;
      refuted = if_ok (λ copies. copies ≡ steps) (λ copies. IsRefuted (given ++ clauses copies) assume) c.copied.result
          (λ copies same. subst (λ (l : List Step). IsRefuted (given ++ clauses l) assume) (sym same) r.refuted) c.copied.ensures;
      spelled = if_ok (λ copies. copies ≡ steps) (Each IsStep) c.copied.result (λ copies same. subst (Each IsStep) (sym same) r.spelled) c.copied.ensures;
    }
