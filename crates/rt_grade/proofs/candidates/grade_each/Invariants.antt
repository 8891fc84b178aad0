use Rattle.std.proofs.Common.{◌≡◌, ◌++◌, take}
use Rattle.rt_io.specs.Edge.{NoneFell}
use Rattle.rt_grade.specs.Review.{IsReviewOf}
use Rattle.rt_grade.specs.Candidates.{IsGradeOf}
use Rattle.rt_grade.proofs.candidates.grade_each.Given as goal
use Rattle.std.specs.List.{AllZip}

abbrev pub invariant-paths : goal.invariant-paths
invariant-paths g l = record {
  graded : AllZip (IsGradeOf g.F.Files.tells (g.F.Files.held l.initial.files) l.words l.first) (take l.path-index l.paths) l.grades;
  review : IsReviewOf l.words l.first l.review;
  begun : g.F.Files.begun l.files ≡ g.F.Files.begun l.initial.files ++ take l.path-index l.paths;
  has : g.F.Files.has l.files ≡ g.F.Files.has l.initial.files;
  held : g.F.Files.held l.files ≡ g.F.Files.held l.initial.files;
  rises : NoneFell (g.F.Files.faults l.initial.files) (g.F.Files.faults l.files);
}
