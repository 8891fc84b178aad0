use Rattle.std.proofs.Common.{◌≤◌, ◌+◌, drop, length, take}
use Rattle.rt_recorder.specs.Reading.{IsCut}
use Rattle.rt_recorder.proofs.BadLemmas.{IsAt}
use Rattle.rt_recorder.proofs.reader.read.Given as goal

abbrev pub invariant-lines : goal.invariant-lines
invariant-lines l = record {
  at : IsAt l.text l.reading l.rest l.n;
  within : l.end ≤ length l.rest;
  cut : IsCut 10 l.rest (take l.end l.rest) (drop l.end l.rest);
  room : l.n + length l.rest ≤ length l.text + 1;
}

abbrev pub decreases-lines : goal.decreases-lines
decreases-lines l = length l.rest
