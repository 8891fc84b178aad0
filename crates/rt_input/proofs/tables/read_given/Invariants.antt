use Rattle.std.proofs.Common.{◌≡◌, ◌≤◌, ◌++◌, ℕ, take, Ok, length}
use Rattle.rt_io.specs.Edge.{NoneFell}
use Rattle.rt_io.specs.Gave.{Adds, Fits}
use Rattle.rt_schema.specs.Given.{IsOf, places, rows_at, row_limit}
use Rattle.rt_input.specs.Begun.{table_files}
use Rattle.rt_input.specs.Judged.{no_rows, tables_judged}
use Rattle.rt_input.specs.Held.{Holding}
use Rattle.rt_input.specs.Source.{IsKnown, IsMade}
use Rattle.rt_input.proofs.tables.read_given.Given as goal

abbrev pub invariant-tables : goal.invariant-tables
invariant-tables g l = record {
  of_schema : IsOf l.schema l.given;
  empty : (k : ℕ) → l.at ≤ k → length (rows_at l.given.tables k) ≡ 0;
  few : places l.given.tables ≤ row_limit;
  told : IsKnown g.F.Files.tells l.source → tables_judged l.source (g.F.Files.held l.fn.files) 0 (no_rows l.schema) (take l.at l.schema) ≡ Ok l.given.tables;
  given : (held : Holding) → Fits held (g.F.Files.gave l.fn.files) (g.F.Files.gave l.files) → tables_judged l.source held 0 (no_rows l.schema) (take l.at l.schema) ≡ Ok l.given.tables;
  adds : Adds (g.F.Files.gave l.fn.files) (g.F.Files.gave l.files);
  begun : g.F.Files.begun l.files ≡ g.F.Files.begun l.fn.files ++ table_files l.source 0 (take l.at l.schema);
  made : IsMade l.source → l.files ≡ l.fn.files;
  has : g.F.Files.has l.files ≡ g.F.Files.has l.fn.files;
  held : g.F.Files.held l.files ≡ g.F.Files.held l.fn.files;
  rises : NoneFell (g.F.Files.faults l.fn.files) (g.F.Files.faults l.files);
}
