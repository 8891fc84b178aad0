-- What a map from rows to nodes says at a choice of rows.
use Rattle.std.proofs.Common.{◌≡◌, ℕ, zero, suc, ◌<◌, Bool, true, false, cond, not, ◌&&◌, ◌||◌, List, [], ◌∷◌, ◌++◌, length, get_or, Option, None, Some, refl, sym, subst, ap, ap₂, arith, ◌∙◌}
use Rattle.std.proofs.lemmas.Cmp.{eq_by_cmp_equiv}
use Rattle.std.proofs.lemmas.List.Folds.{list_any-append}
use Rattle.std.proofs.lemmas.List.Elements.{All-append}
use Rattle.std.proofs.lemmas.Map.{lookup-none}
use Rattle.std.proofs.lemmas.Map.Entries.{All-lookup, none_past_head, lookup_from_place}
use Rattle.std.proofs.lemmas.Map.Keys.{IsDistinct-from_sorted, sorted_tail}
use Rattle.std.proofs.lemmas.Option.{slice_get-get_or}
use Rattle.std.specs.List.{list_any, list_all}
use Rattle.std.specs.List.Sorted.{IsStrictlySortedBy}
use Rattle.std.specs.Map.{keys_of}
use Rattle.std.specs.BTreeMap.{is_at}
use Rattle.std.specs.Option.{IfSome}
use Rattle.rt_value.specs.declared.value.Value.{Value}
use Rattle.rt_value.specs.Row.{row_cmp}
use Rattle.rt_value.specs.Order.{row_cmp_total, row_ties}
use Rattle.rt_schema.specs.Given.{Rows}
use Rattle.rt_algebra.specs.Answer.{has_row, same_rows}
use Rattle.rt_formula.specs.Shared.{Shared, IsGrown, val}
use Rattle.rt_formula.proofs.Meaning.{val-grown}
use Rattle.rt_noted.specs.Entries.{Entry, rows_at, stands}
use Rattle.rt_noted.proofs.Exact.{stands_exact}
use Rattle.rt_noted.specs.Annotated.{AreNodes, IsNode, SameRows}
use Rattle.rt_noted.specs.Ann.{Mapped, AreOf, IsMerged, Losing, node_at, node_value, rows_of, lost}
use Rattle.rt_noted.proofs.Growing.{grown_trans, any_stays, nodes_stay}

abbrev pub Sorted : Mapped → Type 0
Sorted a = IsStrictlySortedBy row_cmp (keys_of a)

pub node_below : (d : Shared) (a : Mapped) (r : List Value) (n : ℕ) → AreOf d a → node_at a r ≡ Some n → n < length d.entries
node_below d a r n b e =
    let P : Option ℕ → Type 0 = λ o. IfSome o (λ k. k < length d.entries) in
    subst P e (All-lookup (λ k. k < length d.entries) (is_at (row_cmp r)) a b)

no_other : (p : List Value × ℕ) (a : Mapped) (r : List Value) → Sorted (p ∷ a) → is_at (row_cmp r) p.0 ≡ true → node_at a r ≡ None
no_other p a r s h = lookup-none (is_at (row_cmp r)) a (none_past_head (eq_by_cmp_equiv row_cmp_total) r p a (IsDistinct-from_sorted row_cmp (keys_of (p ∷ a)) s) h)

-- a row is among those whose node is true, where its own node is true
pub rows_value : (d : Shared) (s : List Bool) (r : List Value) (a : Mapped) → Sorted a → has_row (rows_of d s a) r ≡ node_value d s (node_at a r)
rows_value d s r [] o = refl
rows_value d s r (p ∷ a) o = go (rows_value d s r a (sorted_tail row_cmp p.0 (keys_of a) o)) (is_at (row_cmp r) p.0) refl (val d s p.1) refl where
  go : has_row (rows_of d s a) r ≡ node_value d s (node_at a r) → (b : Bool) → is_at (row_cmp r) p.0 ≡ b → (v : Bool) → val d s p.1 ≡ v
      → has_row (cond (val d s p.1) (p.0 ∷ rows_of d s a) (rows_of d s a)) r ≡ node_value d s (cond (is_at (row_cmp r) p.0) (Some p.1) (node_at a r))
  go h true e true f = rw (e, f, row_ties r p.0, e) refl
  go h true e false f = rw (e, f) (h ∙ ap (node_value d s) (no_other p a r o e))
  go h false e true f = rw (e, f, row_ties r p.0, e) h
  go h false e false f = rw (e, f) h

pub merged_value : (d : Shared) (a : Mapped) (es : List Entry) → IsMerged d a es → (s : List Bool) (r : List Value) → node_value d s (node_at a r) ≡ stands es r s
merged_value d a es m s r = go (node_at a r) refl where
  go : (o : Option ℕ) → node_at a r ≡ o → node_value d s (node_at a r) ≡ stands es r s
  go None e = ap (node_value d s) e ∙ sym (m.absent r e s)
  go (Some n) e = ap (node_value d s) e ∙ (m.found r n e).same s

pub merged_below : (d : Shared) (a : Mapped) (es : List Entry) → IsMerged d a es → Sorted a → AreOf d a
merged_below d a es m o k p l =
    let q = get_or a k p in
    (m.found q.0 q.1 (lookup_from_place (eq_by_cmp_equiv row_cmp_total) a k q.0 q.1 (IsDistinct-from_sorted row_cmp (keys_of a) o) (slice_get-get_or a k p l))).below

-- the rows whose node is true are the answer
pub annotated_rows : (d : Shared) (a : Mapped) (es : List Entry) (rows : List Bool → Rows) → IsMerged d a es → ((s : List Bool) → SameRows (rows_at s es) (rows s)) → Sorted a
    → (s : List Bool) (r : List Value) → has_row (rows_of d s a) r ≡ has_row (rows s) r
annotated_rows d a es rows m h o s r = rows_value d s r a o ∙ merged_value d a es m s r ∙ stands_exact s es r ∙ h s r

-- the lost rows
not_both : (a b : Bool) → (not a || not b) ≡ not (a && b)
not_both true b = refl
not_both false b = refl

pub lost_is : (d : Shared) (b : Mapped) (s : List Bool) (a : Mapped) → Sorted b → lost d b s a ≡ not (list_all (has_row (rows_of d s b)) (rows_of d s a))
lost_is d b s [] o = refl
lost_is d b s (p ∷ a) o = rw (lost_is d b s a o, ← rows_value d s p.0 b o) (go (val d s p.1)) where
  go : (v : Bool) → ((v && not (has_row (rows_of d s b) p.0)) || not (list_all (has_row (rows_of d s b)) (rows_of d s a)))
      ≡ not (list_all (has_row (rows_of d s b)) (cond v (p.0 ∷ rows_of d s a) (rows_of d s a)))
  go true = not_both (has_row (rows_of d s b) p.0) (list_all (has_row (rows_of d s b)) (rows_of d s a))
  go false = refl

module _ {old now : Shared} (g : IsGrown old now) where
  pub value_stays : (b : Mapped) (r : List Value) → AreOf old b → (s : List Bool) → node_value now s (node_at b r) ≡ node_value old s (node_at b r)
  value_stays b r w s = go (node_at b r) refl where
    go : (o : Option ℕ) → node_at b r ≡ o → node_value now s o ≡ node_value old s o
    go None e = refl
    go (Some n) e = val-grown old now g s n (node_below old b r n w e)

  pub lost_stays : (b : Mapped) → AreOf old b → (s : List Bool) (a : Mapped) → AreOf old a → lost now b s a ≡ lost old b s a
  lost_stays b w s [] v = refl
  lost_stays b w s (p ∷ a) v =
      ap₂ ◌||◌ (ap₂ (λ x y. x && not y) (val-grown old now g s p.1 (v 0 p (omega arith))) (value_stays b p.0 w s)) (lost_stays b w s a (λ k q l. v (suc k) q (omega arith)))

pub rest_first : (d : Shared) (rest : Mapped) (p : List Value × ℕ) (more : Mapped) → AreOf d rest → rest ≡ p ∷ more → p.1 < length d.entries
rest_first d rest p more b e = let P : Mapped → Type 0 = λ xs. AreOf d xs in subst P e b 0 p (omega arith)

rest_more : (d : Shared) (rest : Mapped) (p : List Value × ℕ) (more : Mapped) → AreOf d rest → rest ≡ p ∷ more → AreOf d more
rest_more d rest p more b e = let P : Mapped → Type 0 = λ xs. AreOf d xs in let c = subst P e b in λ k q l. c (suc k) q (omega arith)

one_node : (d : Shared) (n : ℕ) → n < length d.entries → AreNodes d (n ∷ [])
one_node d n h zero x l = h
one_node d n h (suc k) x l = absurd (omega arith)

regroup : (a x b : Bool) → ((a || (x || false)) || b) ≡ (a || (x || b))
regroup true x b = refl
regroup false true b = refl
regroup false false b = refl

pub losing_push : {old now next : Shared} {b : Mapped} {ns new : List ℕ} {rest more whole : Mapped} (p : List Value × ℕ) (k : ℕ) → Losing old now b ns rest whole → rest ≡ p ∷ more → IsGrown now next
    → IsNode next k (λ s. val old s p.1 && not (node_value old s (node_at b p.0))) → new ≡ ns ++ k ∷ [] → Losing old next b new more whole
losing_push {old} {now} {next} {b} {ns} {new} {rest} {more} {whole} p k m c g i q =
    let P : List ℕ → Type 0 = λ xs. Losing old next b xs more whole in
    subst P (sym q) (record {
      grown = grown_trans m.grown g;
      below = All-append (λ n. n < length next.entries) ns (k ∷ []) (nodes_stay g ns m.below) (one_node next k i.below);
      rest_below = rest_more old rest p more m.rest_below c;
      same = λ s. ap (λ x. x || lost old b s more) (list_any-append (val next s) ns (k ∷ []) ∙ ap₂ (λ x y. x || (y || false)) (any_stays g ns m.below s) (i.same s))
          ∙ regroup (list_any (val now s) ns) (val old s p.1 && not (node_value old s (node_at b p.0))) (lost old b s more)
          ∙ ap (λ xs. list_any (val now s) ns || lost old b s xs) (sym c) ∙ m.same s;
    })

-- where some row of the one isn't in the other
pub differ_node : {old now next : Shared} (a b : Mapped) (x y n : ℕ) → IsGrown old now → AreOf old a → AreOf old b → Sorted a → Sorted b
    → ((s : List Bool) → val next s x ≡ lost old b s a) → IsNode next y (λ s. lost now a s b) → {last : Shared} → n < length last.entries → ((s : List Bool) → val last s n ≡ list_any (val next s) (x ∷ y ∷ []))
    → IsNode last n (λ s. not (same_rows (rows_of old s a) (rows_of old s b)))
differ_node {old} {now} {next} a b x y n g u v o p i j {last} l h = record {
  below = l;
  same = λ s. h s ∙ ap₂ (λ c d. c || (d || false)) (i s ∙ lost_is old b s a p) (j.same s ∙ lost_stays g a u s b v ∙ lost_is old a s b o)
      ∙ either_lost (list_all (has_row (rows_of old s b)) (rows_of old s a)) (list_all (has_row (rows_of old s a)) (rows_of old s b));
}
  where
    either_lost : (c d : Bool) → (not c || (not d || false)) ≡ not (c && d)
    either_lost true true = refl
    either_lost true false = refl
    either_lost false d = refl
