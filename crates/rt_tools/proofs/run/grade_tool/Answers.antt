use Rattle.std.proofs.Common.{refl, inl}
use Rattle.rt_tools.proofs.run.grade_tool.Goals as goal

pub returns-in_ok-text-in-Ok-clause-says : goal.returns-in_ok-text-in-Ok-clause-says
returns-in_ok-text-in-Ok-clause-says g c = inl (
  c.in-Ok.graded.grades,
  refl,
  record {
    paths = c.in-Ok.graded.paths;
    graded = c.in-Ok.ensures.ok;
    printed = rw (c.as_slice.ensures, c.as_slice-in-Ok.ensures) at c.in_ok-text-in-Ok.ensures;
  },
)
