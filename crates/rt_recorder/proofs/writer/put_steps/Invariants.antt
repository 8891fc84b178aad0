use Rattle.std.proofs.Common.{◌≡◌, ◌++◌, drop, map}
use Rattle.rt_recorder.specs.Certificate.{step_line, text_of}
use Rattle.rt_recorder.proofs.writer.put_steps.Given as goal

abbrev pub invariant-loop-step : goal.invariant-loop-step
invariant-loop-step l = l.text ++ text_of (map step_line (drop l.step-index l.steps)) ≡ l.fn.text ++ text_of (map step_line l.steps)
