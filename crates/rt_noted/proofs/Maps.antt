-- Maps from rows: groups of nodes, and one node a row.
use Rattle.std.proofs.Common.{◌≡◌, ℕ, ◌+◌, ◌<◌, Bool, true, false, cond, ◌&&◌, ◌||◌, List, [], ◌∷◌, ◌++◌, length, take, get_or, Option, None, Some, refl, sym, subst, ap, ◌∙◌, inl, inr}
use Rattle.std.proofs.lemmas.Bool.{cases_Bool}
use Rattle.std.proofs.lemmas.List.{take_more}
use Rattle.std.proofs.lemmas.List.Folds.{list_any-append}
use Rattle.std.specs.BTreeMap.{is_at}
use Rattle.std.specs.Option.{is_some}
use Rattle.rt_value.specs.declared.value.Value.{Value}
use Rattle.rt_value.specs.Row.{row_cmp}
use Rattle.rt_value.specs.Row.{row_eq}
use Rattle.rt_formula.specs.Shared.{Shared, IsGrown, val}
use Rattle.rt_noted.specs.Entries.{Formula, stands}
use Rattle.rt_formula.specs.declared.noted.Noted.{Noted}
use Rattle.rt_noted.specs.Annotated.{entries_of, IsNode, noted_in}
use Rattle.rt_noted.specs.Ann.{Mapped, node_at, IsMerged, Merging}
use Rattle.rt_formula.proofs.GroupLemmas.{at_same, at_is}
use Rattle.rt_noted.proofs.Growing.{node_stays, grown_trans}

-- one more noted row
module _ (ns : List Noted) (i : ℕ) (n : Noted) (l : i < length ns) (e : n ≡ get_or ns i n) where
  taken : take (i + 1) ns ≡ take i ns ++ n ∷ []
  taken = take_more ns i n l ∙ ap (λ m. take i ns ++ m ∷ []) (sym e)

  pub noted_more : (r : List Value) → noted_in r (take (i + 1) ns) ≡ (noted_in r (take i ns) || row_eq r n.row)
  noted_more r = ap (noted_in r) taken ∙ list_any-append (λ (m : Noted). row_eq r m.row) (take i ns) (n ∷ []) ∙ ap (λ b. noted_in r (take i ns) || b) (or_false (row_eq r n.row))
    where
      or_false : (b : Bool) → (b || false) ≡ b
      or_false true = refl
      or_false false = refl

pub none_stands : (d : Shared) (s : List Bool) (r : List Value) (ns : List Noted) → noted_in r ns ≡ false → stands (entries_of d ns) r s ≡ false
none_stands d s r [] h = refl
none_stands d s r (n ∷ ns) h = go (row_eq r n.row) h (none_stands d s r ns) where
  go : (b : Bool) → (b || noted_in r ns) ≡ false → (noted_in r ns ≡ false → stands (entries_of d ns) r s ≡ false) → ((b && val d s n.node) || stands (entries_of d ns) r s) ≡ false
  go true e f = absurd (cc)
  go false e f = f e

pub absent_rows : (d : Shared) (a : Mapped) (ns : List Noted) → ((r : List Value) → is_some (node_at a r) ≡ noted_in r ns) → (r : List Value) → node_at a r ≡ None → (s : List Bool) → stands (entries_of d ns) r s ≡ false
absent_rows d a ns h r e s = none_stands d s r ns (sym (h r) ∙ ap is_some e)

-- a row gets its node
module _ (old new : Mapped) (k : List Value) (n : ℕ) (inserted : (q : List Value) → node_at new q ≡ cond (is_at (row_cmp k) q) (Some n) (node_at old q)) where
  pub seen_joins : (q : List Value) → is_some (node_at new q) ≡ (is_some (node_at old q) || row_eq q k)
  seen_joins q = ap is_some (inserted q) ∙ go (is_at (row_cmp k) q) (node_at old q) ∙ ap (λ b. is_some (node_at old q) || b) (at_is k q)
    where
      go : (b : Bool) (o : Option ℕ) → is_some (cond b (Some n) o) ≡ (is_some o || b)
      go true None = refl
      go true (Some m) = refl
      go false None = refl
      go false (Some m) = refl

  pub found_joins : (d : Shared) (f : List Value → Formula) → IsNode d n (f k) → ((q : List Value) (m : ℕ) → node_at old q ≡ Some m → IsNode d m (f q)) → (q : List Value) (m : ℕ) → node_at new q ≡ Some m → IsNode d m (f q)
  found_joins d f i h q m e = elim (cases_Bool (is_at (row_cmp k) q)) [
    | inl b ↦
        let o : Some n ≡ Some m = sym (inserted q ∙ ap (λ x. cond x (Some n) (node_at old q)) b) ∙ e in
        let p : n ≡ m = cc in
        let P : ℕ → Type 0 = λ x. IsNode d x (f q) in
        let Q : List Value → Type 0 = λ x. IsNode d n (f x) in
        subst P p (subst Q (at_same k q b) i)
    | inr b ↦ h q m (sym (inserted q ∙ ap (λ x. cond x (Some n) (node_at old q)) b) ∙ e)
  ]

-- a row that has its node already
pub seen_again : (a : Mapped) (ns : List Noted) (k : List Value) → ((r : List Value) → is_some (node_at a r) ≡ noted_in r ns) → is_some (node_at a k) ≡ true
    → (q : List Value) → is_some (node_at a q) ≡ (noted_in q ns || row_eq q k)
seen_again a ns k h s q = elim (cases_Bool (is_at (row_cmp k) q)) [
  | inl b ↦ let e : is_some (node_at a q) ≡ true = ap (λ r. is_some (node_at a r)) (sym (at_same k q b)) ∙ s in let o : row_eq q k ≡ true = sym (at_is k q) ∙ b in let m : noted_in q ns ≡ true = sym (h q) ∙ e in rw (e, m) refl
  | inr b ↦ let o : row_eq q k ≡ false = sym (at_is k q) ∙ b in rw o (h q ∙ sym (or_false (noted_in q ns)))
]
  where
    or_false : (b : Bool) → (b || false) ≡ b
    or_false true = refl
    or_false false = refl

module _ {old now : Shared} {a : Mapped} {ns : List Noted} {i : ℕ} (m : Merging old now a ns (take i ns)) (n : Noted) (l : i < length ns) (e : n ≡ get_or ns i n) where
  -- the row gets its node
  pub merging_new : {next : Shared} {b : Mapped} (k : ℕ) → IsGrown now next → IsNode next k (stands (entries_of old ns) n.row)
      → ((q : List Value) → node_at b q ≡ cond (is_at (row_cmp n.row) q) (Some k) (node_at a q)) → Merging old next b ns (take (i + 1) ns)
  merging_new {next} {b} k g j inserted = record {
    grown = grown_trans m.grown g;
    seen_so_far = λ r. seen_joins a b n.row k inserted r ∙ ap (λ x. x || row_eq r n.row) (m.seen_so_far r) ∙ sym (noted_more ns i n l e r);
    found = found_joins a b n.row k inserted next (stands (entries_of old ns)) j (λ q x h. node_stays g (m.found q x h));
  }

  -- the row has its node
  pub merging_again : is_some (node_at a n.row) ≡ true → Merging old now a ns (take (i + 1) ns)
  merging_again h = record {
    grown = m.grown;
    seen_so_far = λ r. seen_again a (take i ns) n.row m.seen_so_far h r ∙ sym (noted_more ns i n l e r);
    found = m.found;
  }

pub merged_all : {old now : Shared} {a : Mapped} {ns seen : List Noted} → Merging old now a ns seen → seen ≡ ns → IsMerged now a (entries_of old ns)
merged_all {old} {now} {a} {ns} {seen} m e = record {
  found = m.found;
  absent = absent_rows old a ns (λ r. m.seen_so_far r ∙ ap (noted_in r) e);
}

pub merging_at : {old x y : Shared} {a b : Mapped} {ns seen : List Noted} → y ≡ x → b ≡ a → Merging old x a ns seen → Merging old y b ns seen
merging_at {old} {x} {y} {a} {b} {ns} {seen} p q m =
    let P : Shared → Type 0 = λ d. Merging old d b ns seen in
    let Q : Mapped → Type 0 = λ c. Merging old x c ns seen in
    subst P (sym p) (subst Q (sym q) m)
