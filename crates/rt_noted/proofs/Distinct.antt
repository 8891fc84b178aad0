-- Noted rows that are merged, one after the other.
use Rattle.std.proofs.Common.{◌≡◌, ℕ, zero, suc, ◌+◌, ◌<◌, nat_eq, Bool, true, false, cond, not, ◌&&◌, ◌||◌, List, [], ◌∷◌, ◌++◌, length, map, take, get_or, refl, sym, subst, ap, ap₂, arith, ◌∙◌}
use Rattle.std.proofs.lemmas.List.{map-append}
use Rattle.std.proofs.lemmas.List.Elements.{All-append}
use Rattle.std.proofs.lemmas.List.Folds.{list_any-append}
use Rattle.std.proofs.lemmas.Map.Keys.{IsDistinct-push}
use Rattle.std.proofs.Math.Dec.{eqb-suc-zero}
use Rattle.std.specs.List.{All as Each, IsDistinct, list_any}
use Rattle.rt_value.specs.declared.value.Value.{Value}
use Rattle.rt_value.specs.Row.{row_eq}
use Rattle.rt_value.specs.Order.{row_eq_equiv}
use Rattle.rt_formula.specs.Shared.{Shared, IsGrown, val}
use Rattle.rt_formula.specs.Groups.{Grouped, group_at}
use Rattle.rt_formula.specs.declared.noted.Noted.{Noted}
use Rattle.rt_noted.specs.Entries.{Entry, stands}
use Rattle.rt_noted.specs.Annotated.{entries_of, noted_in, AreNoted, IsNode, AreMerged, Collecting}
use Rattle.rt_noted.proofs.Growing.{grown_refl, grown_trans, node_stays}
use Rattle.rt_noted.proofs.Maps.{noted_more, none_stands}
use Rattle.rt_noted.proofs.SameRows.{eq_same}

pub noted_at : (d : Shared) {ms ns : List Noted} → ms ≡ ns → AreNoted d ns → AreNoted d ms
noted_at d e b = let P : List Noted → Type 0 = AreNoted d in subst P (sym e) b

or_false : (b : Bool) → (b || false) ≡ b
or_false true = refl
or_false false = refl

noted_last : (r : List Value) (out : List Noted) (n : Noted) → noted_in r (out ++ n ∷ []) ≡ (noted_in r out || row_eq r n.row)
noted_last r out n = list_any-append (λ (m : Noted). row_eq r m.row) out (n ∷ []) ∙ ap (λ b. noted_in r out || b) (or_false (row_eq r n.row))

among_rows : (r : List Value) (out : List Noted) → list_any (row_eq r) (map (λ n. n.row) out) ≡ noted_in r out
among_rows r [] = refl
among_rows r (n ∷ out) = ap (λ b. row_eq r n.row || b) (among_rows r out)

-- whether a group is empty
none_last : (ks : List ℕ) (b : Bool) (k : ℕ) → nat_eq (length (ks ++ cond b (k ∷ []) [])) 0 ≡ (nat_eq (length ks) 0 && not b)
none_last [] true k = refl
none_last [] false k = refl
none_last (x ∷ ks) b k = eqb-suc-zero (length (ks ++ cond b (k ∷ []) [])) ∙ ap (λ t. t && not b) (sym (eqb-suc-zero (length ks)))

not_either : (a b : Bool) → (not a && not b) ≡ not (a || b)
not_either true b = refl
not_either false b = refl

one_row : (d : Shared) (es : List Entry) (n : Noted) → IsNode d n.node (stands es n.row) → Each (λ m. IsNode d m.node (stands es m.row)) (n ∷ [])
one_row d es n i zero e l = i
one_row d es n i (suc k) e l = absurd (omega arith)

pub collect_start : (d : Shared) (known : Grouped) (out ns seen : List Noted) → ((r : List Value) → group_at known r ≡ []) → out ≡ [] → seen ≡ [] → Collecting d d known out ns seen
unfolding IsDistinct
collect_start d known out ns seen k e q =
    let P : List Noted → Type 0 = λ ms. Collecting d d known ms ns seen in
    let Q : List Noted → Type 0 = λ ms. Collecting d d known [] ns ms in
    subst P (sym e) (subst Q (sym q) (record {
      grown = grown_refl d;
      nodes = λ i n l. absurd (omega arith);
      once = tt;
      rows = λ r. refl;
      absent = λ r. ap (λ ks. nat_eq (length ks) 0) (k r);
    }))

module _ {old now : Shared} {known : Grouped} {out ns : List Noted} {i : ℕ} (m : Collecting old now known out ns (take i ns)) (n : Noted) (l : i < length ns) (e : n ≡ get_or ns i n) where
  -- the first with its values
  pub collect_new : {next : Shared} {more : Grouped} {new : List Noted} (x : Noted) → nat_eq (length (group_at known n.row)) 0 ≡ true → IsGrown now next
      → ((r : List Value) → group_at more r ≡ group_at known r ++ cond (row_eq r n.row) (n.node ∷ []) []) → x.row ≡ n.row → IsNode next x.node (stands (entries_of old ns) n.row)
      → new ≡ out ++ x ∷ [] → Collecting old next more new ns (take (i + 1) ns)
  collect_new {next} {more} {new} x h g k q j a =
      let P : List Noted → Type 0 = λ ms. Collecting old next more ms ns (take (i + 1) ns) in
      let N : List Value → Type 0 = λ r. IsNode next x.node (stands (entries_of old ns) r) in
      let D : List (List Value) → Type 0 = IsDistinct row_eq in
      let last = λ (r : List Value). noted_last r out x ∙ ap (λ y. noted_in r out || row_eq r y) q in
      subst P (sym a) (record {
        grown = grown_trans m.grown g;
        nodes = All-append (λ y. IsNode next y.node (stands (entries_of old ns) y.row)) out (x ∷ []) (λ p y b. node_stays g (m.nodes p y b)) (one_row next (entries_of old ns) x (subst N (sym q) j));
        once = subst D (sym (map-append (λ (y : Noted). y.row) out (x ∷ []))) (IsDistinct-push row_eq_equiv (map (λ y. y.row) out) x.row m.once (among_rows x.row out ∙ ap (λ r. noted_in r out) q ∙ fresh (noted_in n.row out) (sym (m.absent n.row) ∙ h)));
        rows = λ r. last r ∙ ap (λ b. b || row_eq r n.row) (m.rows r) ∙ sym (noted_more ns i n l e r);
        absent = λ r. ap (λ ks. nat_eq (length ks) 0) (k r) ∙ none_last (group_at known r) (row_eq r n.row) n.node
            ∙ ap (λ b. b && not (row_eq r n.row)) (m.absent r) ∙ not_either (noted_in r out) (row_eq r n.row) ∙ ap not (sym (last r));
      })
    where
      fresh : (b : Bool) → not b ≡ true → b ≡ false
      fresh true f = absurd (cc)
      fresh false f = refl

  -- its values came before
  pub collect_again : nat_eq (length (group_at known n.row)) 0 ≡ false → Collecting old now known out ns (take (i + 1) ns)
  collect_again h = record {
    grown = m.grown;
    nodes = m.nodes;
    once = m.once;
    rows = λ r. seen r ∙ ap (λ b. b || row_eq r n.row) (m.rows r) ∙ sym (noted_more ns i n l e r);
    absent = m.absent;
  }
    where
      had : (b : Bool) → not b ≡ false → b ≡ true
      had true f = refl
      had false f = absurd (cc)

      here : noted_in n.row out ≡ true
      here = had (noted_in n.row out) (sym (m.absent n.row) ∙ h)

      seen : (r : List Value) → noted_in r out ≡ (noted_in r out || row_eq r n.row)
      seen r = go (row_eq r n.row) refl where
        go : (b : Bool) → row_eq r n.row ≡ b → noted_in r out ≡ (noted_in r out || b)
        go true f = let a : noted_in r out ≡ true = ap (λ x. noted_in x out) (eq_same r n.row f) ∙ here in rw a refl
        go false f = sym (or_false (noted_in r out))

pub collect_at : {old x y : Shared} {g h : Grouped} {a b ns seen : List Noted} → y ≡ x → h ≡ g → b ≡ a → Collecting old x g a ns seen → Collecting old y h b ns seen
collect_at {old} {x} {y} {g} {h} {a} {b} {ns} {seen} p q e m =
    let P : Shared → Type 0 = λ d. Collecting old d h b ns seen in
    let Q : Grouped → Type 0 = λ k. Collecting old x k b ns seen in
    let R : List Noted → Type 0 = λ c. Collecting old x g c ns seen in
    subst P (sym p) (subst Q (sym q) (subst R (sym e) m))

-- where a row is among the merged
absorbs : (v b : Bool) → (v || (b && v)) ≡ v
absorbs true b = refl
absorbs false true = refl
absorbs false false = refl

merged_stands : (d : Shared) (es : List Entry) (r : List Value) (s : List Bool) (out : List Noted) → Each (λ n. IsNode d n.node (stands es n.row)) out
    → stands (entries_of d out) r s ≡ (noted_in r out && stands es r s)
merged_stands d es r s [] b = refl
merged_stands d es r s (m ∷ out) b = go (row_eq r m.row) refl (merged_stands d es r s out (λ k n l. b (suc k) n (omega arith))) where
  go : (t : Bool) → row_eq r m.row ≡ t → stands (entries_of d out) r s ≡ (noted_in r out && stands es r s)
      → ((t && val d s m.node) || stands (entries_of d out) r s) ≡ ((t || noted_in r out) && stands es r s)
  go true e h = ap₂ ◌||◌ ((b 0 m (omega arith)).same s ∙ ap (λ x. stands es x s) (sym (eq_same r m.row e))) h ∙ absorbs (stands es r s) (noted_in r out)
  go false e h = h

pub collected : {old now : Shared} {known : Grouped} {out ns seen : List Noted} → Collecting old now known out ns seen → seen ≡ ns → AreMerged now out (entries_of old ns)
collected {old} {now} {known} {out} {ns} m e = record {
  below = λ k n l. (m.nodes k n l).below;
  same = λ r s. merged_stands now (entries_of old ns) r s out m.nodes ∙ ap (λ b. b && stands (entries_of old ns) r s) (m.rows r ∙ ap (noted_in r) e) ∙ whole r s (noted_in r ns) refl;
  once = m.once;
}
  where
    whole : (r : List Value) (s : List Bool) (b : Bool) → noted_in r ns ≡ b → (b && stands (entries_of old ns) r s) ≡ stands (entries_of old ns) r s
    whole r s true h = refl
    whole r s false h = sym (none_stands old s r ns h)
