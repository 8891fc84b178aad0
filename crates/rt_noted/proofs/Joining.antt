-- Rows of a product as entries.
use Rattle.std.proofs.Common.{◌≡◌, ℕ, zero, suc, ◌<◌, Bool, true, false, ◌&&◌, List, Result, Ok, Err, IfOk, [], ◌∷◌, ◌++◌, length, get_or, refl, sym, subst, ap, ap₂, arith, ◌∙◌}
use mathlib.Core.Path.{fun_ext}
use Rattle.std.proofs.lemmas.List.{map-append}
use Rattle.std.proofs.lemmas.List.Elements.{All-append}
use Rattle.std.proofs.lemmas.List.Folds.{list_all-append}
use Rattle.std.specs.List.{list_all}
use Rattle.rt_formula.specs.Shared.{Shared, IsGrown, val}
use Rattle.rt_formula.specs.declared.noted.Noted.{Noted}
use Rattle.rt_noted.specs.declared.joint.Joint.{Joint}
use Rattle.rt_noted.specs.Entries.{Formula, Entry, join_entry, paired}
use Rattle.rt_noted.specs.Annotated.{entries_of, AreNodes, AreNoted}
use Rattle.rt_noted.specs.Joints.{joint_entry, joint_entries, AreJoints, join_joint, pair_joints}
use Rattle.rt_noted.proofs.Growing.{nodes_stay, all_stays}

and_true : (b : Bool) → (b && true) ≡ b
and_true true = refl
and_true false = refl

pub all_more : (p : ℕ → Bool) (ns : List ℕ) (n : ℕ) → list_all p (ns ++ n ∷ []) ≡ (list_all p ns && p n)
all_more p ns n = list_all-append p ns (n ∷ []) ∙ ap (λ b. list_all p ns && b) (and_true (p n))

pub one_more : (d : Shared) (ns : List ℕ) (n : ℕ) → AreNodes d ns → n < length d.entries → AreNodes d (ns ++ n ∷ [])
one_more d ns n b l = All-append (λ m. m < length d.entries) ns (n ∷ []) b one where
  one : (k e : ℕ) → k < length (n ∷ []) → get_or (n ∷ []) k e < length d.entries
  one zero e h = l
  one (suc k) e h = absurd (omega arith)

module _ (d : Shared) where
  pub join_same : (j : Joint) (ns : List Noted) → joint_entries d (join_joint j ns) ≡ join_entry (joint_entry d j) (entries_of d ns)
  join_same j [] = refl
  join_same j (n ∷ ns) =
      let p : (λ (s : List Bool). list_all (val d s) (j.nodes ++ n.node ∷ [])) ≡ (λ s. list_all (val d s) j.nodes && val d s n.node) = fun_ext (λ s. all_more (val d s) j.nodes n.node) in
      ap₂ (λ (f : Formula) (es : List Entry). (j.row ++ n.row, f) ∷ es) p (join_same j ns)

  pub pair_same : (js : List Joint) (ns : List Noted) → joint_entries d (pair_joints js ns) ≡ paired (joint_entries d js) (entries_of d ns)
  pair_same [] ns = refl
  pair_same (j ∷ js) ns = map-append (joint_entry d) (join_joint j ns) (pair_joints js ns) ∙ ap₂ ◌++◌ (join_same j ns) (pair_same js ns)

  pub join_below : (j : Joint) (ns : List Noted) → AreNodes d j.nodes → AreNoted d ns → AreJoints d (join_joint j ns)
  join_below j [] b c k e l = absurd (omega arith)
  join_below j (n ∷ ns) b c zero e l = one_more d j.nodes n.node b (c 0 n (omega arith))
  join_below j (n ∷ ns) b c (suc k) e l = join_below j ns b (λ i f h. c (suc i) f (omega arith)) k e (omega arith)

  pub pair_below : (js : List Joint) (ns : List Noted) → AreJoints d js → AreNoted d ns → AreJoints d (pair_joints js ns)
  pair_below [] ns b c k e l = absurd (omega arith)
  pair_below (j ∷ js) ns b c k e l = All-append (λ (m : Joint). AreNodes d m.nodes) (join_joint j ns) (pair_joints js ns)
      (join_below j ns (b 0 j (omega arith)) c) (pair_below js ns (λ i f h. b (suc i) f (omega arith)) c) k e l

  pub joint_below : (js : List Joint) (i : ℕ) (j : Joint) → i < length js → j ≡ get_or js i j → AreJoints d js → AreNodes d j.nodes
  joint_below js i j l e b = let P : Joint → Type 0 = λ m. AreNodes d m.nodes in subst P (sym e) (b i j l)

module _ {old new : Shared} (g : IsGrown old new) where
  pub joints_stay : (js : List Joint) → AreJoints old js → AreJoints new js
  joints_stay js b k e l = nodes_stay g (get_or js k e).nodes (b k e l)

  pub joint_stays : (j : Joint) → AreNodes old j.nodes → joint_entry new j ≡ joint_entry old j
  joint_stays j b = let p : (λ (s : List Bool). list_all (val new s) j.nodes) ≡ (λ s. list_all (val old s) j.nodes) = fun_ext (λ s. all_stays g j.nodes b s) in ap (λ (f : Formula). (j.row, f)) p

  pub joint_entries_stay : (js : List Joint) → AreJoints old js → joint_entries new js ≡ joint_entries old js
  joint_entries_stay [] b = refl
  joint_entries_stay (j ∷ js) b = ap₂ ◌∷◌ (joint_stays j (b 0 j (omega arith))) (joint_entries_stay js (λ i f h. b (suc i) f (omega arith)))

-- what is returned as it came, under two facts
pub both_hold : {X Y : Type 0} (r : Result X Y) (P Q R : X → Type 0) → ((x : X) → P x → Q x → R x) → IfOk r P → IfOk r Q → IfOk r R
both_hold (Ok x) P Q R f p q = f x p q
both_hold (Err y) P Q R f p q = tt
