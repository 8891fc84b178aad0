-- The members of a product, their rows, and those that a condition leaves.
use Rattle.std.proofs.Common.{◌≡◌, ℕ, zero, suc, ◌+◌, ◌<◌, Bool, List, [], ◌∷◌, ◌++◌, length, map, take, get_or, sym, subst, ap, ap₂, arith, refl, ◌∙◌}
use mathlib.Core.Path.{fun_ext}
use Rattle.std.proofs.lemmas.List.{map-append, append-nil, take_more}
use Rattle.std.proofs.lemmas.List.Elements.{All-append}
use Rattle.std.specs.List.{filter}
use Rattle.rt_value.specs.declared.value.Value.{Value}
use Rattle.rt_schema.specs.Given.{Rows, Tables}
use Rattle.rt_schema.specs.Kept.{kept}
use Rattle.rt_algebra.specs.Answer.{has_row, is_yes, pred_by, join_each, pairs, product_after, answer_by}
use Rattle.rt_algebra.specs.Expression.{Env, wrapped}
use Rattle.rt_split.specs.Join.{product_rows}
use Rattle.rt_algebra.specs.declared.query.Pred.{Pred}
use Rattle.rt_algebra.specs.declared.query.Query.{Query}
use Rattle.rt_algebra.specs.declared.query.Query.TheVariants as v
use Rattle.rt_formula.specs.Shared.{Shared, IsGrown}
use Rattle.rt_formula.specs.declared.noted.Noted.{Noted}
use Rattle.rt_noted.specs.declared.joint.Joint.{Joint}
use Rattle.rt_noted.specs.Entries.{Entry, rows_at, selected}
use Rattle.rt_noted.specs.Annotated.{entries_of, AreNoted, Gives, Reads, Choosing, test_under, yes_when}
use Rattle.rt_noted.specs.Joints.{joint_entries, AreJoints, product_joints, unit_joints, member_rows, AreMembers, GiveEach, Makes}
use Rattle.rt_noted.specs.Narrowed.{IsNarrowed, IsSelected}
use Rattle.rt_noted.proofs.Alike.{same_filter, same_product}
use Rattle.rt_noted.proofs.Exact.{select_exact}
use Rattle.rt_noted.proofs.Growing.{noted_stay, entries_stay}
use Rattle.rt_algebra.proofs.Equations.{at_product}
use Rattle.rt_noted.proofs.Narrowing.{whole_exact, whole_below}

-- the rows that a condition may leave
pub narrowed_rows : {d : Shared} {joints : List Joint} {members : List (List Noted)} {rows : List Bool → Rows} (p : Pred) (env : Env) → IsNarrowed p env members joints → Makes d members rows → IsSelected d p env joints rows
narrowed_rows {d} {joints} {members} {rows} p env n m s db r =
    let t = λ (x : List Value). is_yes (pred_by wrapped p db (x ∷ env)) in
    ap (λ xs. has_row xs r) (n.same d s db) ∙ same_filter t (product_rows ([] ∷ []) (member_rows d s members)) (rows s) (m.same s) r

-- those that it leaves
pub chosen_rows : {old now : Shared} {out : List Noted} (es : List Entry) (p : Pred) (given : Tables) (env : Env) → Choosing old now out [] (selected es (test_under p given env))
    → Gives now out (λ s. filter (λ r. yes_when p given (r ∷ env) s) (rows_at s es))
chosen_rows {old} {now} {out} es p given env a = record {
  below = a.below;
  same = λ s r. ap (λ xs. has_row xs r) (ap (rows_at s) (sym (append-nil (entries_of now out))) ∙ a.same s
      ∙ select_exact s es (test_under p given env) (λ x. yes_when p given (x ∷ env) s) (λ x. refl));
}

pub choosing_rows : {old now : Shared} {out : List Noted} {joints chosen : List Joint} (rows : List Bool → Rows) (p : Pred) (given : Tables) (env : Env)
    → chosen ≡ joints → Choosing old now out [] (selected (joint_entries old chosen) (test_under p given env)) → IsSelected old p env joints rows
    → Gives now out (λ s. filter (λ r. yes_when p given (r ∷ env) s) (rows s))
choosing_rows {old} {now} {out} {joints} {chosen} rows p given env e a n =
    let all = chosen_rows (joint_entries old chosen) p given env a in
    record {
      below = all.below;
      same = λ s r. all.same s r ∙ ap (λ (js : List Joint). has_row (filter (λ x. yes_when p given (x ∷ env) s) (rows_at s (joint_entries old js))) r) e ∙ n s (kept given s) r;
    }

-- the rows of a product
pub whole_rows : {d now : Shared} {out : List Noted} {joints : List Joint} {members : List (List Noted)} {rows : List Bool → Rows}
    → Reads now out (joint_entries d joints) → joints ≡ product_joints unit_joints members → Makes d members rows → Gives now out rows
whole_rows {d} {now} {out} {joints} {members} i e m = record {
  below = i.below;
  same = λ s r. ap (λ xs. has_row xs r) (ap (rows_at s) (i.same ∙ ap (joint_entries d) e) ∙ whole_exact d s members) ∙ m.same s r;
}

pub whole_joints : (d : Shared) {joints : List Joint} (members : List (List Noted)) → joints ≡ product_joints unit_joints members → AreMembers d members → AreJoints d joints
whole_joints d members e b = let P : List Joint → Type 0 = AreJoints d in subst P (sym e) (whole_below d members b)

pub members_below : (d : Shared) {members others : List (List Noted)} → others ≡ members → AreMembers d members → AreMembers d others
members_below d e b = let P : List (List Noted) → Type 0 = AreMembers d in subst P (sym e) b

pub members_same : {d : Shared} {members others : List (List Noted)} {rows : List Bool → Rows} → others ≡ members → Makes d members rows → Makes d others rows
members_same {d} {members} {others} {rows} e m = let P : List (List Noted) → Type 0 = λ ms. Makes d ms rows in subst P (sym e) m

-- the rows of a product are those of its members
product_of : (qs : List Query) (front : Rows) (db : Tables) (env : Env) → product_rows front (map (λ q. answer_by wrapped q db env) qs) ≡ product_after front (map (answer_by wrapped) qs) db env
product_of [] front db env = refl
product_of (q ∷ qs) front db env = product_of qs (pairs front (answer_by wrapped q db env)) db env

pub makes_product : {d : Shared} {members : List (List Noted)} (given : Tables) (env : Env) (q : Query) (qs : List Query) → q ≡ v.Product qs
    → GiveEach d members (λ s. map (λ q. answer_by wrapped q (kept given s) env) qs) → Makes d members (λ s. answer_by wrapped q (kept given s) env)
makes_product {d} {members} given env q qs e g = record {
  below = g.below;
  same = λ s r. same_product (member_rows d s members) (map (λ q. answer_by wrapped q (kept given s) env) qs) (g.same s) ([] ∷ []) ([] ∷ []) (λ x. refl) r
      ∙ ap (λ rows. has_row rows r) (product_of qs ([] ∷ []) (kept given s) env ∙ sym (at_product (kept given s) env qs e));
}

-- one member alone
one_member : (d : Shared) (ns : List Noted) → AreNoted d ns → AreMembers d (ns ∷ [])
one_member d ns b zero f l = b
one_member d ns b (suc k) f l = absurd (omega arith)

pairs_once : (rs : Rows) → pairs ([] ∷ []) rs ≡ rs
pairs_once rs = append-nil _ ∙ go rs where
  go : (xs : Rows) → join_each [] xs ≡ xs
  go [] = refl
  go (x ∷ xs) = ap (λ (ys : Rows). x ∷ ys) (go xs)

pub makes_single : {d : Shared} {members : List (List Noted)} {ns : List Noted} {rows : List Bool → Rows} → members ≡ ns ∷ [] → Gives d ns rows → Makes d members rows
makes_single {d} {members} {ns} e i = members_same e (record {
  below = one_member d ns i.below;
  same = λ s r. ap (λ xs. has_row xs r) (pairs_once (rows_at s (entries_of d ns))) ∙ i.same s r;
})

-- the rows of one more query
module _ {old now : Shared} (g : IsGrown old now) where
  member_rows_stay : (s : List Bool) (members : List (List Noted)) → AreMembers old members → member_rows now s members ≡ member_rows old s members
  member_rows_stay s [] b = refl
  member_rows_stay s (ns ∷ members) b = ap₂ ◌∷◌ (ap (rows_at s) (entries_stay g ns (b 0 ns (omega arith)))) (member_rows_stay s members (λ i f h. b (suc i) f (omega arith)))

  pub give_push : {members new : List (List Noted)} {ns : List Noted} {answers others : List Bool → List Rows} {rows : List Bool → Rows} → GiveEach old members answers → Gives now ns rows → new ≡ members ++ ns ∷ []
      → ((s : List Bool) → others s ≡ answers s ++ rows s ∷ []) → GiveEach now new others
  give_push {members} {new} {ns} {answers} {others} {rows} each i e h =
      let P : List (List Noted) → Type 0 = λ ms. GiveEach now ms others in
      subst P (sym e) (record {
        below = All-append (AreNoted now) members (ns ∷ []) (λ k f l. noted_stay g (get_or members k f) (each.below k f l)) (one_member now ns i.below);
        same = λ s. ap (map has_row) (map-append (λ (ms : List Noted). rows_at s (entries_of now ms)) members (ns ∷ []))
            ∙ map-append has_row (member_rows now s members) (rows_at s (entries_of now ns) ∷ [])
            ∙ ap₂ (λ (xs : List (List Value → Bool)) (x : List Value → Bool). xs ++ (x ∷ [])) (ap (map has_row) (member_rows_stay s members each.below) ∙ each.same s) (fun_ext (i.same s))
            ∙ sym (map-append has_row (answers s) (rows s ∷ [])) ∙ ap (map has_row) (sym (h s));
      })

pub answers_more : (given : Tables) (env : Env) (qs : List Query) (i : ℕ) (q : Query) → i < length qs → q ≡ get_or qs i q → (s : List Bool)
    → map (λ q. answer_by wrapped q (kept given s) env) (take (i + 1) qs) ≡ map (λ q. answer_by wrapped q (kept given s) env) (take i qs) ++ answer_by wrapped q (kept given s) env ∷ []
answers_more given env qs i q l e s =
    ap (map (λ (q : Query). answer_by wrapped q (kept given s) env)) (take_more qs i q l ∙ ap (λ (x : Query). take i qs ++ x ∷ []) (sym e))
    ∙ map-append (λ (q : Query). answer_by wrapped q (kept given s) env) (take i qs) (q ∷ [])
