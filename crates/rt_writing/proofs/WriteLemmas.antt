-- What follows of how the writing of a text ended.
use Rattle.std.proofs.Common.{◌≢◌, ℕ, List, refl, sym, subst, inl, inr}
use Rattle.rt_io.specs.Logs.{Broke, IsKept, Log, NoSinkRose, at_place, other_place}
use Rattle.rt_io.specs.declared.place.Place.{Place}
use Rattle.rt_io.specs.declared.place.Place.TheVariants as at
use Rattle.rt_writing.specs.Writing.{EndsBegun, EndsBroken, EndsWritten, Ways, Writes, WritesTo}

module _ {O : Type 0} (w : Ways O) (Ends : O → List ℕ → Type 0) (out err : Log) (o : O) (said : List ℕ) (result : O) (ends : Ends o said)
    (wrote : WritesTo w (at_place (w.place o) out err) o said result) (kept : IsKept (other_place (w.place o) out err)) where
  -- a fact on the result, in the three cases
  each_way : (P : O → Type 0) → (EndsWritten w Ends out err o → P o) → (EndsBroken w Ends out err o → P w.write_fault) → (EndsBegun w Ends out err o → P w.no_memory) → P result
  each_way P whole broken begun = elim wrote [
    | inl h ↦ subst P (sym h.0) (whole (record { said = said; ends = ends; whole = h.1; kept = kept }))
    | inr h ↦ elim h [
      | inl f ↦ subst P (sym f.0) (broken (record { begun = record { said = said; ends = ends; begun = f.2; kept = kept }; broke = f.1 }))
      | inr m ↦ subst P (sym m.0) (begun (record { said = said; ends = ends; begun = m.1; kept = kept }))
    ]
  ]

  -- neither of the two errors is among the outcomes that may come with a text
  pub writes : ((text : List ℕ) → Ends w.write_fault text → ⊥) → ((text : List ℕ) → Ends w.no_memory text → ⊥) → w.write_fault ≢ w.no_memory → Writes w Ends out err result
  writes no_fault no_want apart = each_way (Writes w Ends out err)
      (λ h. record {
        ends = λ x y. h;
        write_fault = λ is. absurd (no_fault said (subst (λ (x : O). Ends x said) is ends));
        no_memory = λ is. absurd (no_want said (subst (λ (x : O). Ends x said) is ends));
      })
      (λ h. record { ends = λ x y. absurd (x refl); write_fault = λ is. (o, h); no_memory = λ is. absurd (apart is) })
      (λ h. record { ends = λ x y. absurd (y refl); write_fault = λ is. absurd (apart (sym is)); no_memory = λ is. inr (o, h) })

-- what holds of an outcome, of a sink that fails and of out of memory holds of how the writing of its text ended
pub spoken : {O : Type 0} (w : Ways O) (P : O → Type 0) (sink : Log) (o : O) (said : List ℕ) (result : O) → (Broke sink → P w.write_fault) → P w.no_memory → P o → WritesTo w sink o said result → P result
spoken w P sink o said result broke memory is wrote = elim wrote [
  | inl h ↦ subst P (sym h.0) is
  | inr h ↦ elim h [
    | inl f ↦ subst P (sym f.0) (broke f.1)
    | inr m ↦ subst P (sym m.0) memory
  ]
]

-- the sink of no text failed
pub no_sink_fault : (out err : Log) (p : Place) → NoSinkRose out err → Broke (at_place p out err) → ⊥
no_sink_fault out err at.Out calm broke = calm.out_rose broke
no_sink_fault out err at.Err calm broke = calm.err_rose broke
