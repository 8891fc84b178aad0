-- What a command ended with, as the call that answers it left it.
use Rattle.rt_input.specs.Reading.{Call}
use Rattle.ratest_c.specs.Answers.{Ends}
use Rattle.ratest_c.specs.declared.service.Service.{Service}
use Rattle.ratest_c.specs.declared.ended.Ended.{Ended}

-- the call ended in an outcome with this status and with what the two sinks hold
abbrev pub EndsIn : Service → Call → Ended → Type 0
EndsIn s c t = Ends s c t.status t.out.held.items t.err.held.items
