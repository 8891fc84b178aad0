-- What a command writes: the text of its outcome, to the sink of that outcome.
use Rattle.std.specs.Prelude.{◌≡◌, ◌≢◌, ◌⊎◌, ℕ, List}
use Rattle.rt_io.specs.Logs.{Broke, Grew, GrewPartly, IsKept, Log, WritesNothing, at_place, other_place}
use Rattle.rt_io.specs.declared.place.Place.{Place}

-- the sink of each outcome's text, and the two outcomes of a text that isn't written whole
pub record Ways (O : Type 0) : Type 0 where
  pub place : O → Place
  pub write_fault : O
  pub no_memory : O

-- The rest is about outcomes that may come with a text where `Ends` says so.

-- the outcome may come; its whole text went to its sink, and nothing to the other
pub record EndsWritten {O : Type 0} (w : Ways O) (Ends : O → List ℕ → Type 0) (out err : Log) (o : O) : Type 0 where
  pub said : List ℕ
  pub ends : Ends o said
  pub whole : Grew (at_place (w.place o) out err) said
  pub kept : IsKept (other_place (w.place o) out err)

-- the outcome may come; a prefix of its text went to its sink, and nothing to the other
pub record EndsBegun {O : Type 0} (w : Ways O) (Ends : O → List ℕ → Type 0) (out err : Log) (o : O) : Type 0 where
  pub said : List ℕ
  pub ends : Ends o said
  pub begun : GrewPartly (at_place (w.place o) out err) said
  pub kept : IsKept (other_place (w.place o) out err)

-- the same, where that sink failed
pub record EndsBroken {O : Type 0} (w : Ways O) (Ends : O → List ℕ → Type 0) (out err : Log) (o : O) : Type 0 where
  pub begun : EndsBegun w Ends out err o
  pub broke : Broke (at_place (w.place o) out err)

-- What a command promises of its outcome and of what it wrote. Each outcome but two comes only
-- where it may, with its whole text. The error of writing comes only if the sink of an outcome
-- that may come failed. Out of memory may come anywhere; at most a prefix of such a text was
-- written.
pub record Writes {O : Type 0} (w : Ways O) (Ends : O → List ℕ → Type 0) (out err : Log) (o : O) : Type 0 where
  pub ends : o ≢ w.write_fault → o ≢ w.no_memory → EndsWritten w Ends out err o
  pub write_fault : o ≡ w.write_fault → (allowed : O) × EndsBroken w Ends out err allowed
  pub no_memory : o ≡ w.no_memory → WritesNothing out err ⊎ ((allowed : O) × EndsBegun w Ends out err allowed)

-- how the writing of a text ended: all of it was taken, the sink failed, or it is out of memory
abbrev pub WritesTo : {O : Type 0} → Ways O → Log → O → List ℕ → O → Type 0
WritesTo w sink o said result =
    ((result ≡ o) × Grew sink said) ⊎ (((result ≡ w.write_fault) × Broke sink × GrewPartly sink said) ⊎ ((result ≡ w.no_memory) × GrewPartly sink said))
