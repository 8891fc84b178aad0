-- Lemmas on a reader between two records.
use Rattle.std.proofs.Common.{◌≡◌, ◌∙◌, ℕ, List, [], ◌∷◌, refl, true, false, Bool, Option, Some, None, inl}
use Rattle.std.specs.Bool.{MatchBool}
use Rattle.std.specs.Option.{IsSome}
use Rattle.csv.specs.Machine.{Read, ends_at_end, next_record}
use Rattle.csv.specs.Reading.{NextIs, ReadRecord, ReadsNext as ReadsFrom, default_config, is_flexible, pending_of, reader_state, took_first}
use Rattle.csv.specs.declared.parser.State.{State}
use Rattle.csv.specs.declared.reader.Reader.{Reader}
use Rattle.rt_load.specs.Records.{IsReading, ReadsNext, Source, bytes_left, left_of, records_of}
use Rattle.rt_load.proofs.RecordLemmas.{records-next, records-none, stays_between}

-- what one read does, in terms of the state and the bytes
abbrev Goes : State → List ℕ → State → Option (List ℕ) → Bool → List (List ℕ) → Type 0
Goes s xs s2 after found fields = MatchBool found (IsSome after × (ends_at_end s2 ≡ false) × (records_of s (Some xs) ≡ fields ∷ records_of s2 after)) (records_of s (Some xs) ≡ [])

goes-next : (s : State) (xs : List ℕ) (s2 : State) (ys : List ℕ) (found : Bool) (fields : List (List ℕ)) (o : Option Read) → ends_at_end s ≡ false
    → next_record default_config s [] [] xs ≡ o → NextIs o found fields s2 ys → Goes s xs s2 (Some ys) found fields
goes-next s xs s2 ys false fields None b e n = records-none s xs e
goes-next s xs s2 ys true fields None b e n = cc n
goes-next s xs s2 ys false fields (Some p) b e n = cc (n.0)
goes-next s xs s2 ys true fields (Some p) b e n = (refl, rw n.2 (stays_between s xs p e), rw (n.1, n.2, n.3) (records-next s xs p b e))

goes : (s : State) (xs : List ℕ) (s2 : State) (after : Option (List ℕ)) (found : Bool) (fields : List (List ℕ)) → ends_at_end s ≡ false
    → ReadsFrom default_config s (Some xs) after found fields s2 → Goes s xs s2 after found fields
goes s xs s2 None found fields b r = absurd r
goes s xs s2 (Some ys) found fields b r = goes-next s xs s2 ys found fields _ b refl r

some-of : {X : Type 0} (o : Option X) → IsSome o → (x : X) × (o ≡ Some x)
some-of None h = cc h
some-of (Some x) h = (x, refl)

moves : (a b : Reader Source) (found : Bool) (fields : List (List ℕ)) → IsReading a → ReadRecord (λ s. Some s.now) a b found fields
    → (xs : List ℕ) × (bytes_left a ≡ Some xs) × (bytes_left b ≡ pending_of (Some b.rdr.now) b) × Goes (reader_state a) xs (reader_state b) (pending_of (Some b.rdr.now) b) found fields
moves a b found fields i r =
    let k = some-of (bytes_left a) i.known in
    (k.0, k.1, rw r.1 refl, goes (reader_state a) k.0 (reader_state b) (pending_of (Some b.rdr.now) b) found fields i.between (rw (i.config, k.1) at r.0))

pub reads_next : (a b : Reader Source) (found : Bool) (fields : List (List ℕ)) → IsReading a → ReadRecord (λ s. Some s.now) a b found fields → took_first b ≡ true → is_flexible b ≡ is_flexible a → ReadsNext a b found fields
unfolding left_of
reads_next a b true fields i r t x =
    let m = moves a b true fields i r in (
      record { plain = r.3 ∙ i.plain; ready = inl t; config = r.2 ∙ i.config; known = rw m.2 m.3.0; between = m.3.1; flexible = x ∙ i.flexible },
      rw (m.1, m.2) m.3.2,
    )
reads_next a b false fields i r t x = let m = moves a b false fields i r in rw m.1 m.3
