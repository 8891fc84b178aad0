-- What is known of a reference for the candidates to come.
use Rattle.std.specs.Prelude.{IfSome}
use Rattle.rt_io.specs.Ranges.{Command}
use Rattle.rt_input.specs.declared.first.First.{First}
use Rattle.rt_grade.specs.declared.review.Review.{Review}
use Rattle.rt_grade.specs.Known.{AreKnown}
use Rattle.rt_grade.specs.Prepared.{IsPreparedOf}

-- what is prepared is this reference, and what is known are grades with it and these numbers
pub record IsReviewOf (c : Command) (first : First) (r : Review) : Type 0 where
  pub prepared : IfSome r.prepared (IsPreparedOf first)
  pub known : AreKnown c first r.known
