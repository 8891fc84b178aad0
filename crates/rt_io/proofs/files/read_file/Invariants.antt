use Rattle.std.proofs.Common.{◌≡◌, ◌+◌, ◌-◌, ◌≤◌, ◌++◌, ◌∷◌, ℕ, List, [], IsTrue, Some, false, length}
use Rattle.rt_io.specs.Edge.{OnlyRises}
use Rattle.rt_io.specs.Gave.{reading_of}
use Rattle.rt_io.proofs.files.read_file.Given as goal

abbrev pub invariant-reads : goal.invariant-reads
invariant-reads g l = record {
  current : g.F.Files.current l.files ≡ Some l.name;
  begun : g.F.Files.begun l.files ≡ g.F.Files.begun l.fn.files ++ l.name ∷ [];
  told : IsTrue g.F.Files.tells → g.F.Files.held l.fn.files l.name ≡ l.bytes ++ g.F.Files.left l.files;
  gave : g.F.Files.gave l.files ≡ reading_of l.name l.bytes false ∷ g.F.Files.gave l.fn.files;
  there : IsTrue g.F.Files.tells → IsTrue (g.F.Files.has l.fn.files l.name);
  taken : g.F.Files.taken l.files ≡ length l.bytes;
  within : length l.bytes ≤ l.max + 1;
  has : g.F.Files.has l.files ≡ g.F.Files.has l.fn.files;
  held : g.F.Files.held l.files ≡ g.F.Files.held l.fn.files;
  calm : (other : List ℕ) → g.F.Files.faults l.files other ≡ g.F.Files.faults l.fn.files other;
  rises : OnlyRises l.name (g.F.Files.faults l.fn.files) (g.F.Files.faults l.files);
}

abbrev pub decreases-reads : goal.decreases-reads
decreases-reads g l = l.max + 1 - length l.bytes
