-- The names of sources, in their order.
use Rattle.std.specs.Prelude.{◌≡◌, List, is_some}
use Rattle.std.specs.BTreeMap.{is_at}
use Rattle.std.specs.Cmp.Lexicographic.{slice_cmp}
use Rattle.std.specs.List.{list_any}
use Rattle.std.specs.Ordering.{nat_cmp}
use Rattle.rt_scope.specs.Lookup.{Text, source_named}
use Rattle.rt_scope.specs.declared.source.Source.{Source}

-- the names are just those by which a source is found
abbrev pub AreNamesOf : List Source → List Text → Type 0
AreNamesOf sources names = (name : Text) → is_some (source_named name sources) ≡ list_any (is_at (slice_cmp nat_cmp name)) names
