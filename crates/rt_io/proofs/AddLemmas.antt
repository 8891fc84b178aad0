-- What is added to a list: a prefix of other ones.
use Rattle.std.proofs.Common.{◌≡◌, ◌≤◌, ◌+◌, ◌∷◌, ◌++◌, ℕ, List, [], length, take, append_assoc, append-nil, refl, sym, ap, ◌∙◌, arith}
use Rattle.std.proofs.lemmas.List.{length-append, take-append-le, take_all}
use Rattle.std.proofs.Math.Seq.{take-append-add}
use Rattle.rt_io.specs.Edge.{AddsPrefix}

-- nothing
pub adds_none : {T : Type 0} (old new more : List T) → new ≡ old → AddsPrefix old new more
adds_none old new more same = (0, omega arith, same ∙ sym (append-nil old))

-- all of them
pub adds_all : {T : Type 0} (old new more : List T) → new ≡ old ++ more → AddsPrefix old new more
adds_all old new more is = (length more, omega arith, is ∙ ap (λ xs. old ++ xs) (sym (take_all (length more) more (omega arith))))

-- no more than these, where others come after them
pub adds_first : {T : Type 0} (old new more behind : List T) → AddsPrefix old new more → AddsPrefix old new (more ++ behind)
adds_first old new more behind adds =
    (adds.0, omega (arith, adds.1, length-append more behind), adds.2 ∙ ap (λ xs. old ++ xs) (sym (take-append-le adds.0 more behind adds.1)))

-- all of these, and then some of those after them
pub adds_then : {T : Type 0} (old mid new more behind : List T) → mid ≡ old ++ more → AddsPrefix mid new behind → AddsPrefix old new (more ++ behind)
adds_then old mid new more behind all adds = (
  length more + adds.0,
  omega (arith, adds.1, length-append more behind),
  adds.2 ∙ ap (λ xs. xs ++ take adds.0 behind) all ∙ append_assoc old more (take adds.0 behind) ∙ ap (λ xs. old ++ xs) (sym (take-append-add more behind adds.0)),
)

pub all_then : {T : Type 0} (old mid new more behind : List T) → mid ≡ old ++ more → new ≡ mid ++ behind → new ≡ old ++ (more ++ behind)
all_then old mid new more behind all is = is ∙ ap (λ xs. xs ++ behind) all ∙ append_assoc old more behind
