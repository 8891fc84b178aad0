-- What a note adds to the readings.
use Rattle.std.specs.Prelude.{List, [], ◌∷◌, false}
use Rattle.rt_io.specs.Gave.{Reading, reading_of, grown}
use Rattle.rt_io.specs.declared.gave.Note.{Note}
use Rattle.rt_io.specs.declared.gave.Note.TheVariants as note

-- a name that was begun is a new reading; what a read gave goes to the newest
abbrev pub noted : Note → List Reading → List Reading
noted (note.Begun name) readings = reading_of name.now [] false ∷ readings
noted (note.Read bytes ended) readings = grown bytes.now ended readings
