-- The nodes of one layer of a query or condition, against its answer at every choice of rows.
use Rattle.std.proofs.Common.{◌≡◌, ℕ, ◌+◌, ◌<◌, Bool, true, false, cond, not, ◌&&◌, ◌||◌, List, [], ◌∷◌, zero, suc, ◌++◌, Some, length, map, take, get_or, refl, sym, subst, ap, ap₂, arith, ◌∙◌}
use Rattle.std.proofs.lemmas.List.{take_more, map-append, append_assoc}
use Rattle.std.proofs.lemmas.List.Elements.{All-append}
use Rattle.std.specs.List.{list_all, list_any, filter}
use Rattle.rt_value.specs.declared.value.Value.{Value}
use Rattle.rt_value.specs.declared.truth.Truth.{Truth}
use Rattle.rt_value.specs.declared.truth.Truth.TheVariants.{Yes, No, Unknown}
use Rattle.rt_value.specs.Truth.{truth_and, truth_or}
use Rattle.rt_schema.specs.Given.{Tables, Rows}
use Rattle.rt_algebra.specs.Answer.{answer_by, pred_by, is_yes, some_truth, member_truth, has_row, all_of, any_of}
use Rattle.rt_algebra.specs.Expression.{wrapped, Env, row_by, value_by}
use Rattle.rt_algebra.specs.declared.expr.Expr.{Expr}
use Rattle.rt_algebra.specs.declared.query.Pred.{Pred}
use Rattle.rt_algebra.specs.declared.query.Query.{Query}
use Rattle.rt_algebra.specs.declared.query.Pred.TheVariants as w
use Rattle.rt_schema.specs.Kept.{kept}
use Rattle.rt_formula.specs.Shared.{Shared, IsGrown, val}
use Rattle.rt_noted.specs.Entries.{Formula, Test, Entry, is_no, rows_at, selected, any_entry, member_test, stands}
use Rattle.rt_noted.proofs.Exact.{yes_and, no_and, yes_or, no_or, append_exact, select_exact, project_exact, any_exact, not_any, member_yes, member_no, stands_exact}
use Rattle.rt_formula.specs.declared.noted.Noted.{Noted}
use Rattle.rt_noted.specs.declared.gate.TruthNodes.{TruthNodes}
use Rattle.rt_noted.specs.declared.gate.TruthLists.{TruthLists}
use Rattle.rt_noted.specs.declared.gate.Junction.{Junction}
use Rattle.rt_noted.specs.declared.gate.Junction.TheVariants.{All, Any}
use Rattle.rt_noted.specs.declared.side.Side.{Side}
use Rattle.rt_noted.specs.declared.side.Side.TheVariants.{Present, Missing}
use Rattle.rt_noted.specs.Annotated.{formula, entry_of, entries_of, AreMerged, AreNodes, IsNode, IsGate, Mean, Reads, Gives, Choosing, yes_of, no_of, yes_when, no_when, test_joined, gates_joined, deciding, set_rows, side_test, side_node, projected_rows}
use Rattle.rt_noted.specs.Known.{exists_test, among_test}
use Rattle.rt_algebra.proofs.Equations.{at_and, at_or, at_exists, at_member}
use Rattle.rt_noted.proofs.Alike.{same_append, same_except, same_intersect, same_map, same_member_no, same_member_yes, same_some_yes}
use Rattle.rt_noted.proofs.Growing.{grown_refl, grown_trans, node_as, noted_stay, entries_stay}
use Rattle.rt_noted.proofs.Walking.{noted_push, entry_is, projected_same, projected_below}
use mathlib.Core.Path.{fun_ext}

pub gate_as : {d : Shared} {g : TruthNodes} {t : Test} (u : Test) → ((s : List Bool) → t.0 s ≡ u.0 s) → ((s : List Bool) → t.1 s ≡ u.1 s) → IsGate d g t → IsGate d g u
gate_as u y n i = record { yes = node_as u.0 y i.yes; no = node_as u.1 n i.no }

pub gate_at : {d : Shared} {g : TruthNodes} {t u : Test} → t ≡ u → IsGate d g t → IsGate d g u
gate_at {d} {g} {t} {u} e i = let P : Test → Type 0 = λ x. IsGate d g x in subst P e i

pub mean_push : {d : Shared} {ns new : List ℕ} {n : ℕ} {f : Formula} {fs : List Formula} → Mean d ns fs → IsNode d n f → new ≡ ns ++ n ∷ [] → Mean d new (fs ++ f ∷ [])
mean_push {d} {ns} {new} {n} {f} {fs} m i e =
    let P : List ℕ → Type 0 = λ ks. Mean d ks (fs ++ f ∷ []) in
    let q : formula d n ≡ f = fun_ext i.same in
    let one : AreNodes d (n ∷ []) = λ k x l. one_below k x l in
    subst P (sym e) (record {
      below = All-append (λ k. k < length d.entries) ns (n ∷ []) m.below one;
      same = map-append (formula d) ns (n ∷ []) ∙ ap₂ (λ (gs : List Formula) (h : Formula). gs ++ (h ∷ [])) m.same q;
    })
  where
    one_below : (k x : ℕ) → k < length (n ∷ []) → get_or (n ∷ []) k x < length d.entries
    one_below zero x l = i.below
    one_below (suc k) x l = absurd (omega arith)

pub mean_as : {d : Shared} {ns : List ℕ} {fs hs : List Formula} → hs ≡ fs → Mean d ns fs → Mean d ns hs
mean_as e m = record { below = m.below; same = m.same ∙ sym e }

no_is : (t : Truth) → is_no t ≡ true → t ≡ No
no_is No h = refl
no_is Yes h = absurd (cc)
no_is Unknown h = absurd (cc)

yes_is : (t : Truth) → is_yes t ≡ true → t ≡ Yes
yes_is Yes h = refl
yes_is No h = absurd (cc)
yes_is Unknown h = absurd (cc)

no_last : (t : Truth) → truth_and t No ≡ No
no_last Yes = refl
no_last No = refl
no_last Unknown = refl

yes_last : (t : Truth) → truth_or t Yes ≡ Yes
yes_last Yes = refl
yes_last No = refl
yes_last Unknown = refl

module _ (db : Tables) (env : Env) where
  all_no : (ps : List Pred) (i : ℕ) (p : Pred) → i < length ps → p ≡ get_or ps i p → pred_by wrapped p db env ≡ No → all_of (map (pred_by wrapped) ps) db env ≡ No
  all_no [] i p l e h = absurd (omega arith)
  all_no (q ∷ ps) zero p l e h = ap (λ t. truth_and t (all_of (map (pred_by wrapped) ps) db env)) (ap (λ x. pred_by wrapped x db env) (sym e) ∙ h)
  all_no (q ∷ ps) (suc i) p l e h = ap (truth_and (pred_by wrapped q db env)) (all_no ps i p (omega arith) e h) ∙ no_last (pred_by wrapped q db env)

  any_yes : (ps : List Pred) (i : ℕ) (p : Pred) → i < length ps → p ≡ get_or ps i p → pred_by wrapped p db env ≡ Yes → any_of (map (pred_by wrapped) ps) db env ≡ Yes
  any_yes [] i p l e h = absurd (omega arith)
  any_yes (q ∷ ps) zero p l e h = ap (λ t. truth_or t (any_of (map (pred_by wrapped) ps) db env)) (ap (λ x. pred_by wrapped x db env) (sym e) ∙ h)
  any_yes (q ∷ ps) (suc i) p l e h = ap (truth_or (pred_by wrapped q db env)) (any_yes ps i p (omega arith) e h) ∙ yes_last (pred_by wrapped q db env)

module _ (given : Tables) (env : Env) where
  pub yes_more : (ps : List Pred) (i : ℕ) (p : Pred) → i < length ps → p ≡ get_or ps i p → yes_of (take (i + 1) ps) given env ≡ yes_of (take i ps) given env ++ yes_when p given env ∷ []
  yes_more ps i p l e = ap (λ xs. yes_of xs given env) (take_more ps i p l ∙ ap (λ x. take i ps ++ x ∷ []) (sym e)) ∙ map-append (λ (x : Pred). yes_when x given env) (take i ps) (p ∷ [])

  pub no_more : (ps : List Pred) (i : ℕ) (p : Pred) → i < length ps → p ≡ get_or ps i p → no_of (take (i + 1) ps) given env ≡ no_of (take i ps) given env ++ no_when p given env ∷ []
  no_more ps i p l e = ap (λ xs. no_of xs given env) (take_more ps i p l ∙ ap (λ x. take i ps ++ x ∷ []) (sym e)) ∙ map-append (λ (x : Pred). no_when x given env) (take i ps) (p ∷ [])

  module _ (s : List Bool) where
    abbrev db : Tables
    db = kept given s

    yes_all : (ps : List Pred) → list_all (λ (f : Formula). f s) (yes_of ps given env) ≡ is_yes (all_of (map (pred_by wrapped) ps) db env)
    yes_all [] = refl
    yes_all (p ∷ ps) = ap (λ b. yes_when p given env s && b) (yes_all ps) ∙ yes_and (pred_by wrapped p db env) (all_of (map (pred_by wrapped) ps) db env)

    no_any : (ps : List Pred) → list_any (λ (f : Formula). f s) (no_of ps given env) ≡ is_no (all_of (map (pred_by wrapped) ps) db env)
    no_any [] = refl
    no_any (p ∷ ps) = ap (λ b. no_when p given env s || b) (no_any ps) ∙ no_and (pred_by wrapped p db env) (all_of (map (pred_by wrapped) ps) db env)

    yes_any : (ps : List Pred) → list_any (λ (f : Formula). f s) (yes_of ps given env) ≡ is_yes (any_of (map (pred_by wrapped) ps) db env)
    yes_any [] = refl
    yes_any (p ∷ ps) = ap (λ b. yes_when p given env s || b) (yes_any ps) ∙ yes_or (pred_by wrapped p db env) (any_of (map (pred_by wrapped) ps) db env)

    no_all : (ps : List Pred) → list_all (λ (f : Formula). f s) (no_of ps given env) ≡ is_no (any_of (map (pred_by wrapped) ps) db env)
    no_all [] = refl
    no_all (p ∷ ps) = ap (λ b. no_when p given env s && b) (no_all ps) ∙ no_or (pred_by wrapped p db env) (any_of (map (pred_by wrapped) ps) db env)

    all_formulas : (d : Shared) (ns : List ℕ) → list_all (val d s) ns ≡ list_all (λ (f : Formula). f s) (map (formula d) ns)
    all_formulas d [] = refl
    all_formulas d (n ∷ ns) = ap (λ b. val d s n && b) (all_formulas d ns)

    any_formulas : (d : Shared) (ns : List ℕ) → list_any (val d s) ns ≡ list_any (λ (f : Formula). f s) (map (formula d) ns)
    any_formulas d [] = refl
    any_formulas d (n ∷ ns) = ap (λ b. val d s n || b) (any_formulas d ns)

  -- a condition with this outcome at every choice of rows
  pub outcome : {d : Shared} {g : TruthNodes} {u : Test} (p : Pred) (t : List Bool → Truth) → ((s : List Bool) → pred_by wrapped p (kept given s) env ≡ t s)
      → ((s : List Bool) → u.0 s ≡ is_yes (t s)) → ((s : List Bool) → u.1 s ≡ is_no (t s)) → IsGate d g u → IsGate d g (yes_when p given env, no_when p given env)
  outcome p t e y n i = gate_as (yes_when p given env, no_when p given env) (λ s. y s ∙ ap is_yes (sym (e s))) (λ s. n s ∙ ap is_no (sym (e s))) i

  all_gate : (d : Shared) {e : Shared} {g : TruthNodes} {yes no : List ℕ} (ps : List Pred) → Mean d yes (yes_of ps given env) → Mean d no (no_of ps given env)
      → IsGate e g (λ s. list_all (val d s) yes, λ s. list_any (val d s) no) → IsGate e g (test_joined All ps given env)
  all_gate d {e} {g} {yes} {no} ps y n i = gate_as (test_joined All ps given env)
      (λ s. all_formulas s d yes ∙ ap (list_all (λ (f : Formula). f s)) y.same ∙ yes_all s ps)
      (λ s. any_formulas s d no ∙ ap (list_any (λ (f : Formula). f s)) n.same ∙ no_any s ps) i

  any_gate : (d : Shared) {e : Shared} {g : TruthNodes} {yes no : List ℕ} (ps : List Pred) → Mean d yes (yes_of ps given env) → Mean d no (no_of ps given env)
      → IsGate e g (λ s. list_any (val d s) yes, λ s. list_all (val d s) no) → IsGate e g (test_joined Any ps given env)
  any_gate d {e} {g} {yes} {no} ps y n i = gate_as (test_joined Any ps given env)
      (λ s. any_formulas s d yes ∙ ap (list_any (λ (f : Formula). f s)) y.same ∙ yes_any s ps)
      (λ s. all_formulas s d no ∙ ap (list_all (λ (f : Formula). f s)) n.same ∙ no_all s ps) i

  -- one that is false at every choice decides all, one that is true decides any
  module _ (ps : List Pred) (i : ℕ) (p : Pred) (l : i < length ps) (e : p ≡ get_or ps i p) where
    all_stops : {d : Shared} {g : TruthNodes} → IsGate d g (yes_when p given env, no_when p given env) → ((s : List Bool) → val d s g.no ≡ true) → IsGate d g (test_joined All ps given env)
    all_stops {d} {g} t h =
        let here : (s : List Bool) → pred_by wrapped p (kept given s) env ≡ No = λ s. no_is _ (sym (t.no.same s) ∙ h s) in
        let there : (s : List Bool) → all_of (map (pred_by wrapped) ps) (kept given s) env ≡ No = λ s. all_no (kept given s) env ps i p l e (here s) in
        gate_as (test_joined All ps given env) (λ s. ap is_yes (here s ∙ sym (there s))) (λ s. ap is_no (here s ∙ sym (there s))) t

    any_stops : {d : Shared} {g : TruthNodes} → IsGate d g (yes_when p given env, no_when p given env) → ((s : List Bool) → val d s g.yes ≡ true) → IsGate d g (test_joined Any ps given env)
    any_stops {d} {g} t h =
        let here : (s : List Bool) → pred_by wrapped p (kept given s) env ≡ Yes = λ s. yes_is _ (sym (t.yes.same s) ∙ h s) in
        let there : (s : List Bool) → any_of (map (pred_by wrapped) ps) (kept given s) env ≡ Yes = λ s. any_yes (kept given s) env ps i p l e (here s) in
        gate_as (test_joined Any ps given env) (λ s. ap is_yes (here s ∙ sym (there s))) (λ s. ap is_no (here s ∙ sym (there s))) t

  pub and_gate : {d : Shared} {g : TruthNodes} (p : Pred) (ps : List Pred) → p ≡ w.And ps → IsGate d g (test_joined All ps given env) → IsGate d g (yes_when p given env, no_when p given env)
  and_gate p ps q i = outcome p (λ s. all_of (map (pred_by wrapped) ps) (kept given s) env) (λ s. at_and (kept given s) env ps q) (λ s. refl) (λ s. refl) i

  pub or_gate : {d : Shared} {g : TruthNodes} (p : Pred) (ps : List Pred) → p ≡ w.Or ps → IsGate d g (test_joined Any ps given env) → IsGate d g (yes_when p given env, no_when p given env)
  or_gate p ps q i = outcome p (λ s. any_of (map (pred_by wrapped) ps) (kept given s) env) (λ s. at_or (kept given s) env ps q) (λ s. refl) (λ s. refl) i

  -- the same of any that are put together
  pub joined_gate : (j : Junction) (d : Shared) {e : Shared} {g : TruthNodes} (gates : TruthLists) (ps : List Pred) → Mean d gates.yes (yes_of ps given env) → Mean d gates.no (no_of ps given env)
      → IsGate e g (gates_joined j d gates) → IsGate e g (test_joined j ps given env)
  joined_gate All d gates ps y n i = all_gate d ps y n i
  joined_gate Any d gates ps y n i = any_gate d ps y n i

  pub joined_stops : (j : Junction) (ps : List Pred) (i : ℕ) (p : Pred) (l : i < length ps) (e : p ≡ get_or ps i p) {d : Shared} {g : TruthNodes} → IsGate d g (yes_when p given env, no_when p given env)
      → ((s : List Bool) → val d s (deciding j g) ≡ true) → IsGate d g (test_joined j ps given env)
  joined_stops All ps i p l e t h = all_stops ps i p l e t h
  joined_stops Any ps i p l e t h = any_stops ps i p l e t h

missing_rows : (s : List Bool) (es ds : List Entry) → rows_at s (selected es (side_test Missing ds)) ≡ filter (λ r. not (has_row (rows_at s ds) r)) (rows_at s es)
missing_rows s es ds = select_exact s es (side_test Missing ds) (λ r. not (has_row (rows_at s ds) r)) (λ r. ap not (stands_exact s ds r))

standing_rows : (s : List Bool) (es ds : List Entry) → rows_at s (selected es (side_test Present ds)) ≡ filter (has_row (rows_at s ds)) (rows_at s es)
standing_rows s es ds = select_exact s es (side_test Present ds) (has_row (rows_at s ds)) (λ r. stands_exact s ds r)

-- noted rows that give an answer
pub gives_as : {d : Shared} {ns : List Noted} {f : List Bool → Rows} (h : List Bool → Rows) → ((s : List Bool) → f s ≡ h s) → Gives d ns f → Gives d ns h
gives_as h e i = record { below = i.below; same = λ s r. i.same s r ∙ ap (λ rows. has_row rows r) (e s) }

pub gives_same : {d : Shared} {ms ns : List Noted} {f : List Bool → Rows} → ms ≡ ns → Gives d ns f → Gives d ms f
gives_same {d} {ms} {ns} {f} e i = let P : List Noted → Type 0 = λ xs. Gives d xs f in subst P (sym e) i

pub gives_stay : {old now : Shared} {ns : List Noted} {f : List Bool → Rows} → IsGrown old now → Gives old ns f → Gives now ns f
gives_stay {old} {now} {ns} g i = record { below = noted_stay g ns i.below; same = λ s r. ap (λ es. has_row (rows_at s es) r) (entries_stay g ns i.below) ∙ i.same s r }

pub gives_of : {d : Shared} {ns : List Noted} (es : List Entry) → Reads d ns es → Gives d ns (λ s. rows_at s es)
gives_of es i = record { below = i.below; same = λ s r. ap (λ es. has_row (rows_at s es) r) i.same }

pub gives_append : {d : Shared} {ms ns : List Noted} {f h : List Bool → Rows} → Gives d ms f → Gives d ns h → Gives d (ms ++ ns) (λ s. f s ++ h s)
gives_append {d} {ms} {ns} {f} {h} i j = record {
  below = All-append (λ (m : Noted). m.node < length d.entries) ms ns i.below j.below;
  same = λ s r. ap (λ rows. has_row rows r) (ap (rows_at s) (map-append (entry_of d) ms ns) ∙ append_exact s (entries_of d ms) (entries_of d ns))
      ∙ same_append (rows_at s (entries_of d ms)) (f s) (rows_at s (entries_of d ns)) (h s) (i.same s) (j.same s) r;
}

pub gives_projected : {d : Shared} {ns : List Noted} {f : List Bool → Rows} (es : List Expr) (env : Env) → Gives d ns f → Gives d (projected_rows ns es env) (λ s. map (λ r. row_by wrapped es (r ∷ env)) (f s))
gives_projected {d} {ns} {f} es env i =
    let values = λ (r : List Value). row_by wrapped es (r ∷ env) in
    record {
      below = projected_below d ns es env i.below;
      same = λ s r. ap (λ rows. has_row rows r) (ap (rows_at s) (projected_same d ns es env) ∙ project_exact s (entries_of d ns) values)
          ∙ same_map values (rows_at s (entries_of d ns)) (f s) (i.same s) r;
    }

pub gives_merged : {old now : Shared} {ns out : List Noted} {f : List Bool → Rows} → AreMerged now out (entries_of old ns) → Gives old ns f → Gives now out f
gives_merged {old} {now} {ns} {out} m i = record {
  below = m.below;
  same = λ s r. sym (stands_exact s (entries_of now out) r) ∙ m.same r s ∙ stands_exact s (entries_of old ns) r ∙ i.same s r;
}

gives_except : {d now : Shared} {ms ns out : List Noted} {f h : List Bool → Rows} → Gives d ms f → Gives d ns h → Reads now out (selected (entries_of d ms) (side_test Missing (entries_of d ns)))
    → Gives now out (λ s. filter (λ r. not (has_row (h s) r)) (f s))
gives_except {d} {now} {ms} {ns} {out} {f} {h} i j k = record {
  below = k.below;
  same = λ s r. ap (λ rows. has_row rows r) (ap (rows_at s) k.same ∙ missing_rows s (entries_of d ms) (entries_of d ns))
      ∙ same_except (rows_at s (entries_of d ms)) (f s) (rows_at s (entries_of d ns)) (h s) (i.same s) (j.same s) r;
}

gives_intersect : {d now : Shared} {ms ns out : List Noted} {f h : List Bool → Rows} → Gives d ms f → Gives d ns h → Reads now out (selected (entries_of d ms) (side_test Present (entries_of d ns)))
    → Gives now out (λ s. filter (has_row (h s)) (f s))
gives_intersect {d} {now} {ms} {ns} {out} {f} {h} i j k = record {
  below = k.below;
  same = λ s r. ap (λ rows. has_row rows r) (ap (rows_at s) k.same ∙ standing_rows s (entries_of d ms) (entries_of d ns))
      ∙ same_intersect (rows_at s (entries_of d ms)) (f s) (rows_at s (entries_of d ns)) (h s) (i.same s) (j.same s) r;
}

pub gives_sifted : (side : Side) {d now : Shared} {ms ns out : List Noted} {f h : List Bool → Rows} → Gives d ms f → Gives d ns h → Reads now out (selected (entries_of d ms) (side_test side (entries_of d ns)))
    → Gives now out (λ s. set_rows (Some side) (f s) (h s))
gives_sifted Present i j k = gives_intersect i j k
gives_sifted Missing i j k = gives_except i j k

-- the node of a side, of a gate that says where a row is
pub side_is : (side : Side) (es : List Entry) (r : List Value) {d : Shared} {g : TruthNodes} → IsGate d g (stands es r, λ s. not (stands es r s)) → IsNode d (side_node side g) (side_test side es r).0
side_is Present es r i = i.yes
side_is Missing es r i = i.no

-- the next entry is chosen, or never comes
module _ {old now next : Shared} {out : List Noted} {rest more whole : List Entry} (r : List Value) (f : Formula) (a : Choosing old now out rest whole) (c : rest ≡ (r, f) ∷ more) (g : IsGrown now next) where
  pub choose : {new : List Noted} (n : Noted) → n.row ≡ r → IsNode next n.node f → new ≡ out ++ n ∷ [] → Choosing old next new more whole
  choose {new} n e i q =
      let P : List Noted → Type 0 = λ ns. Choosing old next ns more whole in
      subst P (sym q) (record {
        grown = grown_trans a.grown g;
        below = noted_push next out n (noted_stay g out a.below) i.below;
        same = λ s. ap (rows_at s) (ap (λ es. es ++ more) (map-append (entry_of next) out (n ∷ [])) ∙ append_assoc (entries_of next out) (entry_of next n ∷ []) more
            ∙ ap₂ (λ (es : List Entry) (x : Entry). es ++ (x ∷ more)) (entries_stay g out a.below) (entry_is next n r f e i)
            ∙ ap (λ es. entries_of now out ++ es) (sym c)) ∙ a.same s;
      })

  pub leave_out : ((s : List Bool) → f s ≡ false) → Choosing old next out more whole
  leave_out h = record {
    grown = grown_trans a.grown g;
    below = noted_stay g out a.below;
    same = λ s. ap (λ es. rows_at s (es ++ more)) (entries_stay g out a.below) ∙ append_exact s (entries_of now out) more
        ∙ ap (λ b. rows_at s (entries_of now out) ++ cond b (r ∷ rows_at s more) (rows_at s more)) (sym (h s))
        ∙ sym (append_exact s (entries_of now out) ((r, f) ∷ more)) ∙ ap (λ es. rows_at s (entries_of now out ++ es)) (sym c) ∙ a.same s;
  }

pub choosing_start : (old : Shared) {out : List Noted} {rest whole : List Entry} → out ≡ [] → rest ≡ whole → Choosing old old out rest whole
choosing_start old {rest = rest} {whole = whole} e q =
    let P : List Noted → Type 0 = λ ns. Choosing old old ns rest whole in
    subst P (sym e) (record { grown = grown_refl old; below = λ k n l. absurd (omega arith); same = λ s. ap (rows_at s) q })

pub choosing_at : {old x y : Shared} {a b : List Noted} {rest whole : List Entry} → y ≡ x → b ≡ a → Choosing old x a rest whole → Choosing old y b rest whole
choosing_at {old} {x} {y} {a} {b} {rest} {whole} p q m =
    let P : Shared → Type 0 = λ d. Choosing old d b rest whole in
    let Q : List Noted → Type 0 = λ c. Choosing old x c rest whole in
    subst P (sym p) (subst Q (sym q) m)

module _ (given : Tables) (env : Env) where
  pub exists_gate : {d : Shared} {g : TruthNodes} (p : Pred) (q : Query) → p ≡ w.Exists q → IsGate d g (exists_test (λ s. answer_by wrapped q (kept given s) env))
      → IsGate d g (yes_when p given env, no_when p given env)
  exists_gate p q h i = outcome given env p (λ s. some_truth (answer_by wrapped q (kept given s) env)) (λ s. at_exists (kept given s) env q h) (λ s. refl) (λ s. refl) i

  pub member_gate : {d : Shared} {g : TruthNodes} (p : Pred) (a : Expr) (q : Query) → p ≡ w.Member a q → (x : Value) → x ≡ value_by wrapped a env
      → IsGate d g (among_test x (λ s. answer_by wrapped q (kept given s) env)) → IsGate d g (yes_when p given env, no_when p given env)
  member_gate p a q h x k i = outcome given env p (λ s. member_truth (value_by wrapped a env) (answer_by wrapped q (kept given s) env)) (λ s. at_member (kept given s) env a q h)
      (λ s. ap (λ y. is_yes (member_truth y (answer_by wrapped q (kept given s) env))) k) (λ s. ap (λ y. is_no (member_truth y (answer_by wrapped q (kept given s) env))) k) i

-- annotated rows of a query that has some, and of one that has a value among them
pub exists_of : {d e : Shared} {g : TruthNodes} {ns : List Noted} {answer : List Bool → Rows} → Gives d ns answer → IsGate e g (any_entry (entries_of d ns), λ s. not (any_entry (entries_of d ns) s)) → IsGate e g (exists_test answer)
exists_of {d} {e} {g} {ns} {answer} rows i =
    let yes : (s : List Bool) → any_entry (entries_of d ns) s ≡ is_yes (some_truth (answer s)) = λ s. any_exact s (entries_of d ns) ∙ same_some_yes (rows_at s (entries_of d ns)) (answer s) (rows.same s) in
    gate_as (exists_test answer) yes (λ s. ap not (yes s) ∙ not_any s (answer s)) i

pub member_of : {d e : Shared} {g : TruthNodes} {ns : List Noted} {answer : List Bool → Rows} (x : Value) → Gives d ns answer → IsGate e g (member_test x (entries_of d ns)) → IsGate e g (among_test x answer)
member_of {d} {e} {g} {ns} {answer} x rows i = gate_as (among_test x answer)
    (λ s. member_yes s x (entries_of d ns) ∙ same_member_yes (rows_at s (entries_of d ns)) (answer s) (rows.same s) x)
    (λ s. member_no s x (entries_of d ns) ∙ same_member_no (rows_at s (entries_of d ns)) (answer s) (rows.same s) x) i
