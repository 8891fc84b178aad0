-- The rows of a product on which the members' conditions and keys hold, at every choice.
use Rattle.std.proofs.Common.{◌≡◌, ◌≢◌, ℕ, zero, suc, ◌+◌, ◌<◌, Bool, true, false, IsTrue, cond, ◌&&◌, ◌||◌, List, [], ◌∷◌, ◌++◌, drop, length, map, get_or, Option, None, Some, refl, sym, subst, ap, ap₂, ◌∙◌, add-one, arith}
use Rattle.std.proofs.Math.Dec.{eqb-suc-zero}
use Rattle.std.proofs.Math.Seq.{drop-cons}
use Rattle.std.specs.Prelude.{nat_eq}
use Rattle.std.specs.List.{filter, filter_map, cons_option, list_all, list_any, slice_get}
use Rattle.std.proofs.lemmas.List.{append_assoc, map-append}
use Rattle.std.proofs.lemmas.List.Elements.{All-append}
use Rattle.rt_value.specs.declared.value.Value.{Value}
use Rattle.rt_schema.specs.Given.{Rows}
use Rattle.rt_algebra.specs.Answer.{is_yes, join_each, pred_by}
use Rattle.rt_algebra.specs.Expression.{Env, wrapped}
use Rattle.rt_split.specs.Join.{are_wide, joined_rows, matched, matches, places_where, product_rows, Joins}
use Rattle.rt_split.specs.Split.{all_simple, keys_yes, first, later}
use Rattle.rt_split.specs.declared.parts.KeyPair.{KeyPair}
use Rattle.rt_split.specs.declared.parts.Split.{Split}
use Rattle.rt_algebra.specs.declared.query.Pred.{Pred}
use Rattle.rt_algebra.proofs.Steps.{drop_more}
use Rattle.rt_split.proofs.Places.{picked, later_drop}
use Rattle.rt_algebra.proofs.Rows.{and-left, and-right}
use Rattle.rt_formula.specs.Shared.{Shared, val}
use Rattle.rt_formula.specs.declared.noted.Noted.{Noted}
use Rattle.rt_noted.specs.declared.joint.Joint.{Joint}
use Rattle.rt_noted.specs.Annotated.{AreNodes, AreNoted, entries_of}
use Rattle.rt_noted.specs.Entries.{rows_at}
use Rattle.rt_noted.specs.Joints.{AreJoints, AreMembers, join_joint, joint_entry, joint_entries, member_rows, pair_joints, product_joints, unit_joints}
use Rattle.rt_noted.specs.Narrowed.{IsNarrowed, are_long, joined_joints, matched_joints, own_rows}
use Rattle.rt_noted.proofs.Exact.{append_exact, join_exact, pair_exact}
use Rattle.rt_noted.proofs.Joining.{join_same, join_below, pair_same, pair_below}

-- the rows that pass a test
module _ (d : Shared) (s : List Bool) (test : List Value → Bool) where
  abbrev passing : List Noted → List Noted
  passing ns = filter (λ n. test n.row) ns

  abbrev rows : List Noted → Rows
  rows ns = rows_at s (entries_of d ns)

  filter_more : (n : Noted) (ns : List Noted) (b : Bool) → test n.row ≡ b → (v : Bool) → rows (passing ns) ≡ filter test (rows ns)
      → cond b (cond v (n.row ∷ rows (passing ns)) (rows (passing ns))) (rows (passing ns)) ≡ filter test (cond v (n.row ∷ rows ns) (rows ns))
  filter_more n ns true e true h = rw e (ap (λ (xs : Rows). n.row ∷ xs) h)
  filter_more n ns true e false h = h
  filter_more n ns false e true h = rw e h
  filter_more n ns false e false h = h

  rows_cond : (n : Noted) (ns : List Noted) (b : Bool) → rows (cond b (n ∷ ns) ns) ≡ cond b (cond (val d s n.node) (n.row ∷ rows ns) (rows ns)) (rows ns)
  rows_cond n ns true = refl
  rows_cond n ns false = refl

  filter_exact : (ns : List Noted) → rows (passing ns) ≡ filter test (rows ns)
  filter_exact [] = refl
  filter_exact (n ∷ ns) = rows_cond n (passing ns) (test n.row) ∙ filter_more n ns (test n.row) refl (val d s n.node) (filter_exact ns)

noted_cons : (d : Shared) (n : Noted) (ns : List Noted) → n.node < length d.entries → AreNoted d ns → AreNoted d (n ∷ ns)
noted_cons d n ns l b zero f h = l
noted_cons d n ns l b (suc k) f h = b k f (omega arith)

filter_below : (d : Shared) (test : List Value → Bool) (ns : List Noted) → AreNoted d ns → AreNoted d (filter (λ n. test n.row) ns)
filter_below d test [] b = λ k n l. absurd (omega arith)
filter_below d test (n ∷ ns) b = go (test n.row) (filter_below d test ns (λ i f h. b (suc i) f (omega arith)))
  where
    go : (t : Bool) → AreNoted d (filter (λ n. test n.row) ns) → AreNoted d (cond t (n ∷ filter (λ n. test n.row) ns) (filter (λ n. test n.row) ns))
    go true more = noted_cons d n (filter (λ n. test n.row) ns) (b 0 n (omega arith)) more
    go false more = more

-- the rows that match by the keys
module _ (d : Shared) (ks : List KeyPair) where
  matched_exact : (s : List Bool) (js : List Joint) (ns : List Noted) → rows_at s (joint_entries d (matched_joints ks js ns)) ≡ matched ks (rows_at s (joint_entries d js)) (rows_at s (entries_of d ns))
  matched_exact s [] ns = refl
  matched_exact s (j ∷ js) ns =
      let mine = filter (λ n. keys_yes ks j.row n.row) ns in
      ap (rows_at s) (map-append (joint_entry d) (join_joint j mine) (matched_joints ks js ns))
      ∙ append_exact s (joint_entries d (join_joint j mine)) (joint_entries d (matched_joints ks js ns))
      ∙ ap₂ (λ (xs ys : Rows). xs ++ ys)
      (ap (rows_at s) (join_same d j mine) ∙ join_exact s (joint_entry d j) (entries_of d mine) ∙ ap (λ (rs : Rows). cond (list_all (val d s) j.nodes) (join_each j.row rs) []) (filter_exact d s (keys_yes ks j.row) ns))
      (matched_exact s js ns)
      ∙ go (list_all (val d s) j.nodes)
    where
      go : (v : Bool) → cond v (join_each j.row (filter (keys_yes ks j.row) (rows_at s (entries_of d ns)))) [] ++ matched ks (rows_at s (joint_entries d js)) (rows_at s (entries_of d ns))
          ≡ matched ks (cond v (j.row ∷ rows_at s (joint_entries d js)) (rows_at s (joint_entries d js))) (rows_at s (entries_of d ns))
      go true = refl
      go false = refl

  matched_below : (js : List Joint) (ns : List Noted) → AreJoints d js → AreNoted d ns → AreJoints d (matched_joints ks js ns)
  matched_below [] ns b c k e l = absurd (omega arith)
  matched_below (j ∷ js) ns b c k e l =
      let mine = filter (λ n. keys_yes ks j.row n.row) ns in
      All-append (λ (m : Joint). AreNodes d m.nodes) (join_joint j mine) (matched_joints ks js ns)
      (join_below d j mine (b 0 j (omega arith)) (filter_below d (keys_yes ks j.row) ns c)) (matched_below js ns (λ i f h. b (suc i) f (omega arith)) c) k e l

members_tail : (d : Shared) (ns : List Noted) (members : List (List Noted)) → AreMembers d (ns ∷ members) → AreMembers d members
members_tail d ns members b = λ i f h. b (suc i) f (omega arith)

joined_exact : (d : Shared) (s : List Bool) (own : List (List Pred)) (keys : List (List KeyPair)) (js : List Joint) (members : List (List Noted)) (env : Env)
    → rows_at s (joint_entries d (joined_joints own keys js members env)) ≡ joined_rows wrapped own keys (rows_at s (joint_entries d js)) (member_rows d s members) env
joined_exact d s own keys js [] env = refl
joined_exact d s own keys js (ns ∷ members) env =
    let mine = own_rows (first own) env ns in
    joined_exact d s (later own) (later keys) (matched_joints (first keys) js mine) members env
    ∙ ap (λ (front : Rows). joined_rows wrapped (later own) (later keys) front (member_rows d s members) env)
    (matched_exact d (first keys) s js mine ∙ ap (matched (first keys) (rows_at s (joint_entries d js))) (filter_exact d s (λ r. all_simple wrapped (first own) (r ∷ env)) ns))

joined_below : (d : Shared) (own : List (List Pred)) (keys : List (List KeyPair)) (js : List Joint) (members : List (List Noted)) (env : Env)
    → AreJoints d js → AreMembers d members → AreJoints d (joined_joints own keys js members env)
joined_below d own keys js [] env b c = b
joined_below d own keys js (ns ∷ members) env b c =
    let mine = own_rows (first own) env ns in
    joined_below d (later own) (later keys) (matched_joints (first keys) js mine) members env
    (matched_below d (first keys) js mine b (filter_below d (λ r. all_simple wrapped (first own) (r ∷ env)) ns (c 0 ns (omega arith)))) (members_tail d ns members c)

product_exact : (d : Shared) (s : List Bool) (js : List Joint) (members : List (List Noted)) → rows_at s (joint_entries d (product_joints js members)) ≡ product_rows (rows_at s (joint_entries d js)) (member_rows d s members)
product_exact d s js [] = refl
product_exact d s js (ns ∷ members) =
    product_exact d s (pair_joints js ns) members
    ∙ ap (λ (front : Rows). product_rows front (member_rows d s members)) (ap (rows_at s) (pair_same d js ns) ∙ pair_exact s (joint_entries d js) (entries_of d ns))

product_below : (d : Shared) (js : List Joint) (members : List (List Noted)) → AreJoints d js → AreMembers d members → AreJoints d (product_joints js members)
product_below d js [] b c = b
product_below d js (ns ∷ members) b c = product_below d (pair_joints js ns) members (pair_below d js ns b (c 0 ns (omega arith))) (members_tail d ns members c)

unit_below : (d : Shared) → AreJoints d unit_joints
unit_below d zero j l i f h = absurd (omega arith)
unit_below d (suc k) j l i f h = absurd (omega arith)

pub whole_exact : (d : Shared) (s : List Bool) (members : List (List Noted)) → rows_at s (joint_entries d (product_joints unit_joints members)) ≡ product_rows ([] ∷ []) (member_rows d s members)
whole_exact d s members = product_exact d s unit_joints members

pub whole_below : (d : Shared) (members : List (List Noted)) → AreMembers d members → AreJoints d (product_joints unit_joints members)
whole_below d members c = product_below d unit_joints members (unit_below d) c

-- rows that all have the width have it at every choice
module _ (d : Shared) (s : List Bool) where
  long_rows : (w : ℕ) (ns : List Noted) → IsTrue (list_all (λ n. nat_eq (length n.row) w) ns) → IsTrue (list_all (λ r. nat_eq (length r) w) (rows_at s (entries_of d ns)))
  long_rows w [] h = refl
  long_rows w (n ∷ ns) h = go (val d s n.node) (long_rows w ns (and-right (nat_eq (length n.row) w) (list_all (λ n. nat_eq (length n.row) w) ns) h))
    where
      go : (v : Bool) → IsTrue (list_all (λ r. nat_eq (length r) w) (rows_at s (entries_of d ns)))
          → IsTrue (list_all (λ r. nat_eq (length r) w) (cond v (n.row ∷ rows_at s (entries_of d ns)) (rows_at s (entries_of d ns))))
      go true more = rw (and-left (nat_eq (length n.row) w) (list_all (λ n. nat_eq (length n.row) w) ns) h) more
      go false more = more

  wide_rows : (widths : List ℕ) (members : List (List Noted)) → IsTrue (are_long widths members) → IsTrue (are_wide widths (member_rows d s members))
  wide_rows [] [] h = refl
  wide_rows [] (ns ∷ members) h = absurd (cc)
  wide_rows (w ∷ widths) [] h = absurd (cc)
  wide_rows (w ∷ widths) (ns ∷ members) h =
      let here = list_all (λ (n : Noted). nat_eq (length n.row) w) ns in
      rw (long_rows w ns (and-left here (are_long widths members) h)) (wide_rows widths members (and-right here (are_long widths members) h))

-- the rows on which the parts of the condition hold, and all of them
pub joined_narrowed : (p : Pred) (env : Env) (members : List (List Noted)) (widths : List ℕ) (parts : Split) (joints : List Joint) → Joins p widths parts → IsTrue (are_long widths members)
    → joints ≡ joined_joints parts.own parts.keys unit_joints members env → IsNarrowed p env members joints
joined_narrowed p env members widths parts joints law long e =
    let P : List Joint → Type 0 = IsNarrowed p env members in
    subst P (sym e) (record {
      below = λ d b. joined_below d parts.own parts.keys unit_joints members env (unit_below d) b;
      same = λ d s db. ap (filter (λ r. is_yes (pred_by wrapped p db (r ∷ env)))) (joined_exact d s parts.own parts.keys unit_joints members env)
          ∙ law wrapped db env (member_rows d s members) (wide_rows d s widths members long);
    })

pub whole_narrowed : (p : Pred) (env : Env) (members : List (List Noted)) (joints : List Joint) → joints ≡ product_joints unit_joints members → IsNarrowed p env members joints
whole_narrowed p env members joints e =
    let P : List Joint → Type 0 = IsNarrowed p env members in
    subst P (sym e) (record {
      below = λ d b. whole_below d members b;
      same = λ d s db. ap (filter (λ r. is_yes (pred_by wrapped p db (r ∷ env)))) (whole_exact d s members);
    })

-- a product of which a member has no rows has none
joined_none : (js : List Joint) → pair_joints js [] ≡ []
joined_none [] = refl
joined_none (j ∷ js) = joined_none js

none_after : (members : List (List Noted)) → product_joints [] members ≡ []
none_after [] = refl
none_after (ns ∷ members) = none_after members

pub without_rows : (js : List Joint) (members : List (List Noted)) → IsTrue (list_any (λ ns. nat_eq (length ns) 0) members) → product_joints js members ≡ []
without_rows js [] h = absurd (cc)
without_rows js ([] ∷ members) h = ap (λ (front : List Joint). product_joints front members) (joined_none js) ∙ none_after members
without_rows js ((n ∷ ns) ∷ members) h =
    let Lacks : Bool → Type 0 = λ b. IsTrue (b || list_any (λ ns. nat_eq (length ns) 0) members) in
    without_rows (pair_joints js (n ∷ ns)) members (subst Lacks (eqb-suc-zero (length ns)) h)

-- one more step of a join
join_cons : (b : Joint) (o : Option Noted) (ns : List Noted) → join_joint b (cons_option o ns) ≡ join_joint b (cons_option o []) ++ join_joint b ns
join_cons b None ns = refl
join_cons b (Some n) ns = refl

pub picked_step : (b : Joint) (rows : List Noted) (places : List ℕ) (i d : ℕ) → i < length places
    → (out next whole : List Joint) → next ≡ out ++ join_joint b (cons_option (slice_get rows (get_or places i d)) [])
    → out ++ join_joint b (filter_map (slice_get rows) (drop i places)) ≡ whole → next ++ join_joint b (filter_map (slice_get rows) (drop (i + 1) places)) ≡ whole
picked_step b rows places i d l out next whole n h =
    let p = get_or places i d in
    let more = filter_map (slice_get rows) (drop (i + 1) places) in
    let rest : drop i places ≡ p ∷ drop (i + 1) places = rw add-one (drop-cons places i d l) in
    ap (λ xs. xs ++ join_joint b more) n ∙ append_assoc out (join_joint b (cons_option (slice_get rows p) [])) (join_joint b more)
    ∙ ap (λ xs. out ++ xs) (sym (join_cons b (slice_get rows p) more)) ∙ ap (λ ps. out ++ join_joint b (filter_map (slice_get rows) ps)) (sym rest) ∙ h

matches_at : (ks : List KeyPair) (js : List Joint) (ns : List Noted) (i : ℕ) (j : Joint) (ps : List ℕ) → i < length js → j ≡ get_or js i j
    → ps ≡ get_or (matches ks (map (λ j. j.row) js) (map (λ n. n.row) ns)) i ps → ps ≡ places_where (keys_yes ks j.row) 0 (map (λ n. n.row) ns)
matches_at ks [] ns i j ps l e h = absurd (omega arith)
matches_at ks (k ∷ js) ns zero j ps l e h = h ∙ ap (λ (j : Joint). places_where (keys_yes ks j.row) 0 (map (λ n. n.row) ns)) (sym e)
matches_at ks (k ∷ js) ns (suc i) j ps l e h = matches_at ks js ns i j ps (omega arith) e h

pub matched_step : (ks : List KeyPair) (js : List Joint) (ns : List Noted) (i : ℕ) (j : Joint) → i < length js → j ≡ get_or js i j
    → (ps : List ℕ) → ps ≡ get_or (matches ks (map (λ j. j.row) js) (map (λ n. n.row) ns)) i ps
    → (out next whole : List Joint) → next ≡ out ++ join_joint j (filter_map (slice_get ns) ps)
    → out ++ matched_joints ks (drop i js) ns ≡ whole → next ++ matched_joints ks (drop (i + 1) js) ns ≡ whole
matched_step ks js ns i j l e ps f out next whole n h =
    let more = matched_joints ks (drop (i + 1) js) ns in
    let here = ap (filter_map (slice_get ns)) (matches_at ks js ns i j ps l e f) ∙ picked (λ (n : Noted). n.row) (keys_yes ks j.row) ns in
    ap (λ xs. xs ++ more) n ∙ append_assoc out (join_joint j (filter_map (slice_get ns) ps)) more
    ∙ ap (λ xs. out ++ (join_joint j xs ++ more)) here ∙ ap (λ js. out ++ matched_joints ks js ns) (sym (drop_more js i j l e)) ∙ h

pub chosen_step : (own : List (List Pred)) (keys : List (List KeyPair)) (members : List (List Noted)) (env : Env) (i : ℕ) (ns : List Noted) → i < length members → ns ≡ get_or members i ns
    → (out next whole : List Joint) (mine : List Noted) → mine ≡ own_rows (first (drop i own)) env ns → next ≡ matched_joints (first (drop i keys)) out mine
    → joined_joints (drop i own) (drop i keys) out (drop i members) env ≡ whole → joined_joints (drop (i + 1) own) (drop (i + 1) keys) next (drop (i + 1) members) env ≡ whole
chosen_step own keys members env i ns l e out next whole mine m n h =
    ap₂ (λ (os : List (List Pred)) (ks : List (List KeyPair)). joined_joints os ks next (drop (i + 1) members) env) (sym (later_drop own i)) (sym (later_drop keys i))
    ∙ ap (λ xs. joined_joints (later (drop i own)) (later (drop i keys)) xs (drop (i + 1) members) env) (n ∙ ap (matched_joints (first (drop i keys)) out) m)
    ∙ ap (λ ms. joined_joints (drop i own) (drop i keys) out ms env) (sym (drop_more members i ns l e)) ∙ h

-- widths
pub uneven : (widths : List ℕ) (members : List (List Noted)) → length widths ≢ length members → false ≡ are_long widths members
uneven [] [] h = absurd (h refl)
uneven [] (ns ∷ members) h = refl
uneven (width ∷ widths) [] h = refl
uneven (width ∷ widths) (ns ∷ members) h =
    let rest = uneven widths members (λ e. h (omega (arith, e))) in rw (sym rest) (sym (and_false (list_all (λ n. nat_eq (length n.row) width) ns)))
  where
    and_false : (b : Bool) → (b && false) ≡ false
    and_false true = refl
    and_false false = refl
