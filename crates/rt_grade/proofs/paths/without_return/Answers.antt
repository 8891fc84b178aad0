use Rattle.std.proofs.Common.{◌∙◌, ap, lit<}
use Rattle.std.proofs.lemmas.Str.Pattern.{strip_suffix_char}
use Rattle.rt_grade.proofs.CandidateLemmas.{without}
use Rattle.rt_grade.proofs.paths.without_return.Goals as goal

pub returns : goal.returns
returns c =
    let found = c.strip_suffix.result in
    ap (λ r. r.now) c.unwrap_or.ensures ∙ without c.args.line found (strip_suffix_char 13 c.args.line.now found c.strip_suffix.ensures.cases (lit< tt))
