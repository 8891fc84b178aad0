use Rattle.std.proofs.Common.{◌≡◌, drop}
use Rattle.ratest_c.specs.Files.{held_in, has_in}
use Rattle.ratest_c.proofs.file.find.Given as goal

abbrev pub invariant-loop-file : goal.invariant-loop-file
invariant-loop-file l = record {
  bytes : held_in l.files l.name ≡ held_in (drop l.file-index l.files) l.name;
  has : has_in l.files l.name ≡ has_in (drop l.file-index l.files) l.name;
}
