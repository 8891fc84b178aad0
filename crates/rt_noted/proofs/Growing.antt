-- What stays as the Dag grows.
use Rattle.std.proofs.Common.{◌≡◌, ℕ, zero, suc, ◌<◌, ◌≤◌, Bool, true, false, not, ◌&&◌, ◌||◌, List, [], ◌∷◌, ◌++◌, length, length-append, map, refl, sym, subst, ap, ap₂, arith, ◌∙◌}
use mathlib.Core.Path.{fun_ext}
use Rattle.std.proofs.lemmas.List.{append_assoc, append-nil}
use Rattle.std.specs.List.{list_all, list_any}
use Rattle.rt_formula.specs.Shared.{Shared, IsGrown, val}
use Rattle.rt_formula.proofs.Meaning.{val-grown}
use Rattle.rt_noted.specs.Entries.{Formula, Test, Entry}
use Rattle.rt_formula.specs.declared.noted.Noted.{Noted}
use Rattle.rt_noted.specs.declared.gate.TruthNodes.{TruthNodes}
use Rattle.rt_noted.specs.Annotated.{formula, entry_of, entries_of, AreNodes, AreNoted, IsNode, IsGate, Mean, Reads}

pub longer : {old new : Shared} → IsGrown old new → length old.entries ≤ length new.entries
longer {old} {new} g = let e = ap length g.entries in let l = length-append old.entries g.more in omega (arith, e, l)

pub grown_trans : {a b c : Shared} → IsGrown a b → IsGrown b c → IsGrown a c
grown_trans {a} {b} {c} g h = record {
  rows = h.rows ∙ g.rows;
  more = g.more ++ h.more;
  entries = h.entries ∙ ap (λ es. es ++ h.more) g.entries ∙ append_assoc a.entries g.more h.more;
}

pub grown_refl : (a : Shared) → IsGrown a a
grown_refl a = record { rows = refl; more = []; entries = sym (append-nil a.entries) }

module _ {old new : Shared} (g : IsGrown old new) where
  pub nodes_stay : (ns : List ℕ) → AreNodes old ns → AreNodes new ns
  nodes_stay ns b k d l = let m = longer g in let h = b k d l in omega arith

  pub noted_stay : (ns : List Noted) → AreNoted old ns → AreNoted new ns
  noted_stay ns b k d l = let m = longer g in let h = b k d l in omega arith

  pub all_stays : (ns : List ℕ) → AreNodes old ns → (s : List Bool) → list_all (val new s) ns ≡ list_all (val old s) ns
  all_stays [] b s = refl
  all_stays (n ∷ ns) b s = ap₂ ◌&&◌ (val-grown old new g s n (b 0 n (omega arith))) (all_stays ns (λ k d l. b (suc k) d (omega arith)) s)

  pub any_stays : (ns : List ℕ) → AreNodes old ns → (s : List Bool) → list_any (val new s) ns ≡ list_any (val old s) ns
  any_stays [] b s = refl
  any_stays (n ∷ ns) b s = ap₂ ◌||◌ (val-grown old new g s n (b 0 n (omega arith))) (any_stays ns (λ k d l. b (suc k) d (omega arith)) s)

  pub formula_stays : (n : ℕ) → n < length old.entries → formula new n ≡ formula old n
  formula_stays n l = fun_ext (λ s. val-grown old new g s n l)

  pub formulas_stay : (ns : List ℕ) → AreNodes old ns → map (formula new) ns ≡ map (formula old) ns
  formulas_stay [] b = refl
  formulas_stay (n ∷ ns) b = ap₂ ◌∷◌ (formula_stays n (b 0 n (omega arith))) (formulas_stay ns (λ k d l. b (suc k) d (omega arith)))

  pub entry_stays : (n : Noted) → n.node < length old.entries → entry_of new n ≡ entry_of old n
  entry_stays n l = ap (λ f. (n.row, f)) (formula_stays n.node l)

  pub entries_stay : (ns : List Noted) → AreNoted old ns → entries_of new ns ≡ entries_of old ns
  entries_stay [] b = refl
  entries_stay (n ∷ ns) b = ap₂ ◌∷◌ (entry_stays n (b 0 n (omega arith))) (entries_stay ns (λ k d l. b (suc k) d (omega arith)))

  pub node_stays : {n : ℕ} {f : Formula} → IsNode old n f → IsNode new n f
  node_stays {n} {f} i = record {
    below = (let m = longer g in let h = i.below in omega arith);
    same = λ s. val-grown old new g s n i.below ∙ i.same s;
  }

  pub gate_stays : {x : TruthNodes} {t : Test} → IsGate old x t → IsGate new x t
  gate_stays i = record { yes = node_stays i.yes; no = node_stays i.no }

  pub mean_stays : {ns : List ℕ} {fs : List Formula} → Mean old ns fs → Mean new ns fs
  mean_stays {ns} {fs} i = record { below = nodes_stay ns i.below; same = formulas_stay ns i.below ∙ i.same }

  pub reads_stay : {ns : List Noted} {es : List Entry} → Reads old ns es → Reads new ns es
  reads_stay {ns} {es} i = record { below = noted_stay ns i.below; same = entries_stay ns i.below ∙ i.same }

-- a gate over nodes that an older Dag had
module _ {old now new : Shared} (g : IsGrown old now) (n : ℕ) (ns ms : List ℕ) (b : AreNodes old ms) (e : ns ≡ ms) (l : n < length new.entries) where
  pub all_over : ((s : List Bool) → val new s n ≡ list_all (val now s) ns) → IsNode new n (λ s. list_all (val old s) ms)
  all_over h = record { below = l; same = λ s. h s ∙ ap (list_all (val now s)) e ∙ all_stays g ms b s }

  pub any_over : ((s : List Bool) → val new s n ≡ list_any (val now s) ns) → IsNode new n (λ s. list_any (val old s) ms)
  any_over h = record { below = l; same = λ s. h s ∙ ap (list_any (val now s)) e ∙ any_stays g ms b s }

pub node_as : {d : Shared} {n : ℕ} {f : Formula} (h : Formula) → ((s : List Bool) → f s ≡ h s) → IsNode d n f → IsNode d n h
node_as h e i = record { below = i.below; same = λ s. i.same s ∙ e s }

and_false : (b : Bool) → (b && false) ≡ false
and_false true = refl
and_false false = refl

-- a node that is never true is that of any condition with one that is never true
pub node_never : {d : Shared} {n : ℕ} (f g : Formula) → n < length d.entries → ((s : List Bool) → val d s n ≡ false) → ((s : List Bool) → g s ≡ false) → IsNode d n (λ s. f s && g s)
node_never f g l never h = record { below = l; same = λ s. never s ∙ sym (ap (λ b. f s && b) (h s) ∙ and_false (f s)) }

pub not_over : {old new : Shared} (n m : ℕ) {f : Formula} → IsNode old n f → m < length new.entries → ((s : List Bool) → val new s m ≡ not (val old s n)) → IsNode new m (λ s. not (f s))
not_over n m i l h = record { below = l; same = λ s. h s ∙ ap not (i.same s) }

pub nodes_are : (d : Shared) {ns ms : List ℕ} → ns ≡ ms → AreNodes d ms → AreNodes d ns
nodes_are d e b = let P : List ℕ → Type 0 = λ xs. AreNodes d xs in subst P (sym e) b

pub two_nodes : (d : Shared) {n m : ℕ} → n < length d.entries → m < length d.entries → AreNodes d (n ∷ m ∷ [])
two_nodes d p q zero e l = p
two_nodes d p q (suc zero) e l = q
two_nodes d p q (suc (suc k)) e l = absurd (omega arith)

-- a condition that is Yes where one of the nodes is true, else No
pub either_means : (old : Shared) {new : Shared} {g : TruthNodes} (ns ms : List ℕ) (f : Formula) → IsGate new g (λ s. list_any (val old s) ns, λ s. not (list_any (val old s) ns))
    → ns ≡ ms → ((s : List Bool) → list_any (val old s) ms ≡ f s) → IsGate new g (f, λ s. not (f s))
either_means old ns ms f i e h = record {
  yes = node_as f (λ s. ap (list_any (val old s)) e ∙ h s) i.yes;
  no = node_as (λ s. not (f s)) (λ s. ap not (ap (list_any (val old s)) e ∙ h s)) i.no;
}
