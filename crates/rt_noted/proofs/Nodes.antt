-- The nodes of chosen rows, against the tests of the algebra.
use Rattle.std.proofs.Common.{◌≡◌, ℕ, zero, suc, ◌<◌, Bool, true, false, cond, not, ◌&&◌, ◌||◌, List, [], ◌∷◌, length, refl, ap, arith}
use Rattle.std.specs.List.{list_any}
use Rattle.rt_value.specs.declared.value.Value.{Value}
use Rattle.rt_value.specs.Row.{row_eq}
use Rattle.rt_algebra.specs.Answer.{is_yes, cell_truth}
use Rattle.rt_formula.specs.Shared.{Shared, val}
use Rattle.rt_noted.specs.Entries.{is_no, any_entry, member_test, stands}
use Rattle.rt_formula.specs.declared.noted.Noted.{Noted}
use Rattle.rt_noted.specs.Annotated.{entries_of, AreNodes, AreNoted, nodes_of, sure, possible}
use Rattle.rt_formula.specs.Groups.{nodes_where, standing}

pub nodes_below : (d : Shared) (ns : List Noted) → AreNoted d ns → AreNodes d (nodes_of ns)
nodes_below d [] b k e l = absurd (omega arith)
nodes_below d (n ∷ ns) b zero e l = b 0 n (omega arith)
nodes_below d (n ∷ ns) b (suc k) e l = nodes_below d ns (λ i f h. b (suc i) f (omega arith)) k e (omega arith)

each_cons : (d : Shared) (n : ℕ) (ns : List ℕ) → n < length d.entries → AreNodes d ns → AreNodes d (n ∷ ns)
each_cons d n ns h b zero e l = h
each_cons d n ns h b (suc k) e l = b k e (omega arith)

pub where_below : (d : Shared) (t : List Value → Bool) (ns : List Noted) → AreNoted d ns → AreNodes d (nodes_where t ns)
where_below d t [] b = λ k e l. absurd (omega arith)
where_below d t (n ∷ ns) b = go (where_below d t ns (λ i f h. b (suc i) f (omega arith))) (t n.row) where
  go : AreNodes d (nodes_where t ns) → (y : Bool) → AreNodes d (cond y (n.node ∷ nodes_where t ns) (nodes_where t ns))
  go rest true = each_cons d n.node (nodes_where t ns) (b 0 n (omega arith)) rest
  go rest false = rest

module _ (d : Shared) (s : List Bool) where
  pub any_nodes : (ns : List Noted) → list_any (val d s) (nodes_of ns) ≡ any_entry (entries_of d ns) s
  any_nodes [] = refl
  any_nodes (n ∷ ns) = ap (λ b. val d s n.node || b) (any_nodes ns)

  pub any_standing : (r : List Value) (ns : List Noted) → list_any (val d s) (standing r ns) ≡ stands (entries_of d ns) r s
  any_standing r [] = refl
  any_standing r (n ∷ ns) = rw (← any_standing r ns)
      (elim (row_eq r n.row) as (λ b. list_any (val d s) (cond b (n.node ∷ standing r ns) (standing r ns)) ≡ ((b && val d s n.node) || list_any (val d s) (standing r ns))) [ true ↦ refl | false ↦ refl ])

  pub any_sure : (x : Value) (ns : List Noted) → list_any (val d s) (sure x ns) ≡ (member_test x (entries_of d ns)).0 s
  any_sure x [] = refl
  any_sure x (n ∷ ns) = rw (← any_sure x ns) (go (is_yes (cell_truth x n.row)) (val d s n.node) refl)
    where
      go : (b v : Bool) → val d s n.node ≡ v → list_any (val d s) (cond b (n.node ∷ sure x ns) (sure x ns)) ≡ ((v && b) || list_any (val d s) (sure x ns))
      go true true e = rw e refl
      go true false e = rw e refl
      go false true e = refl
      go false false e = refl

  pub none_possible : (x : Value) (ns : List Noted) → not (list_any (val d s) (possible x ns)) ≡ (member_test x (entries_of d ns)).1 s
  none_possible x [] = refl
  none_possible x (n ∷ ns) = rw (← none_possible x ns) (go (is_no (cell_truth x n.row)) (val d s n.node) refl)
    where
      go : (b v : Bool) → val d s n.node ≡ v → not (list_any (val d s) (cond (not b) (n.node ∷ possible x ns) (possible x ns))) ≡ ((not v || b) && not (list_any (val d s) (possible x ns)))
      go true true e = refl
      go true false e = refl
      go false true e = rw e refl
      go false false e = rw e refl
