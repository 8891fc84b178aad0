-- Sets of rows that have, with each row, those that it refers to.
use Rattle.std.specs.Prelude.{◌≡◌, Bool, true, List}
use Rattle.std.specs.List.{All as Each}
use Rattle.rt_formula.specs.Under.{is_marked}
use Rattle.rt_rules.specs.declared.links.Link.{Link}

abbrev pub IsClosed : List Link → List Bool → Type 0
IsClosed links set = Each (λ l. is_marked set l.from ≡ true → is_marked set l.to ≡ true) links
