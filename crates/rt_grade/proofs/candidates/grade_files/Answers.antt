use Rattle.rt_grade.proofs.candidates.grade_files.Goals as goal

pub grade_each-grades-requires-clause-review : goal.grade_each-grades-requires-clause-review
grade_each-grades-requires-clause-review g c = c.new-review.ensures c.args.words.now c.args.first.now
