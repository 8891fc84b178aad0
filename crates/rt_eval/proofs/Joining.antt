-- One more step of a join.
use Rattle.std.proofs.Common.{◌≡◌, ◌≢◌, ℕ, ℤ, ◌+◌, ◌<◌, Bool, IsTrue, true, false, not, ◌&&◌, ◌||◌, arith, List, [], ◌∷◌, ◌++◌, length, map, drop, get_or, Option, None, Some, refl, sym, subst, ap, ap₂, ◌∙◌, add-one}
use Rattle.std.proofs.Math.Dec.{eqb-suc-zero}
use Rattle.std.specs.List.{filter, filter_map, cons_option, slice_get, list_all, list_any}
use Rattle.std.specs.Prelude.{nat_eq}
use Rattle.std.proofs.Math.Seq.{drop-cons}
use Rattle.std.proofs.lemmas.List.{append_assoc}
use Rattle.rt_value.specs.declared.value.Value.{Value}
use Rattle.rt_schema.specs.Given.{Rows, Tables}
use Rattle.rt_algebra.specs.Answer.{Condition, Answer, has_row, join_each, pairs, is_yes, pred_by, answer_by, pred_step, query_step, product_after}
use Rattle.rt_algebra.specs.Expression.{Env, wrapped}
use Rattle.rt_split.specs.Join.{matched, joined_rows, product_rows, are_wide}
use Rattle.rt_split.specs.Split.{all_simple, first, later}
use Rattle.rt_algebra.specs.declared.query.Pred.{Pred}
use Rattle.rt_algebra.specs.declared.query.Query.{Query}
use Rattle.rt_algebra.specs.declared.query.Query.TheVariants as v
use Rattle.rt_algebra.specs.declared.query.Pred.TheOpen.{Select, Product, Except}
use Rattle.rt_algebra.specs.declared.query.Pred.TheFolds.{fold-roll-Query}
use Rattle.rt_split.specs.declared.parts.KeyPair.{KeyPair}
use Rattle.rt_algebra.proofs.Steps.{drop_more}
use Rattle.rt_split.proofs.Places.{later_drop}

join_cons : (b : List Value) (o : Option (List Value)) (ys : Rows) → join_each b (cons_option o ys) ≡ join_each b (cons_option o []) ++ join_each b ys
join_cons b None ys = refl
join_cons b (Some y) ys = refl

pub picked_step : (b : List Value) (rows : Rows) (places : List ℕ) (i d : ℕ) → i < length places
    → (out next whole : Rows) → next ≡ out ++ join_each b (cons_option (slice_get rows (get_or places i d)) [])
    → out ++ join_each b (filter_map (slice_get rows) (drop i places)) ≡ whole → next ++ join_each b (filter_map (slice_get rows) (drop (i + 1) places)) ≡ whole
picked_step b rows places i d l out next whole n h =
    let p = get_or places i d in
    let more = filter_map (slice_get rows) (drop (i + 1) places) in
    let rest : drop i places ≡ p ∷ drop (i + 1) places = rw add-one (drop-cons places i d l) in
    ap (λ xs. xs ++ join_each b more) n ∙ append_assoc out (join_each b (cons_option (slice_get rows p) [])) (join_each b more)
    ∙ ap (λ xs. out ++ xs) (sym (join_cons b (slice_get rows p) more)) ∙ ap (λ ps. out ++ join_each b (filter_map (slice_get rows) ps)) (sym rest) ∙ h

pub chosen_step : (fit : ℤ → ℤ) (own : List (List Pred)) (keys : List (List KeyPair)) (members : List Rows) (env : Env) (i : ℕ) (rows : Rows) → i < length members → rows ≡ get_or members i rows
    → (out mine next whole : Rows) → mine ≡ filter (λ r. all_simple fit (first (drop i own)) (r ∷ env)) rows → next ≡ matched (first (drop i keys)) out mine
    → joined_rows fit (drop i own) (drop i keys) out (drop i members) env ≡ whole → joined_rows fit (drop (i + 1) own) (drop (i + 1) keys) next (drop (i + 1) members) env ≡ whole
chosen_step fit own keys members env i rows l e out mine next whole m n h =
    ap₂ (λ os ks. joined_rows fit os ks next (drop (i + 1) members) env) (sym (later_drop own i)) (sym (later_drop keys i))
    ∙ ap (λ xs. joined_rows fit (later (drop i own)) (later (drop i keys)) xs (drop (i + 1) members) env) (n ∙ ap (matched (first (drop i keys)) out) m)
    ∙ ap (λ ms. joined_rows fit (drop i own) (drop i keys) out ms env) (sym (drop_more members i rows l e)) ∙ h

-- products
pub product_of : (qs : List Query) (front : Rows) (db : Tables) (env : Env) → product_rows front (map (λ q. answer_by wrapped q db env) qs) ≡ product_after front (map (answer_by wrapped) qs) db env
product_of [] front db env = refl
product_of (q ∷ qs) front db env = product_of qs (pairs front (answer_by wrapped q db env)) db env

pub at_product : {q : Query} (qs : List Query) (db : Tables) (env : Env) → q ≡ v.Product qs → product_rows ([] ∷ []) (map (λ q. answer_by wrapped q db env) qs) ≡ answer_by wrapped q db env
at_product qs db env h =
    product_of qs ([] ∷ []) db env ∙ sym (ap (λ f. f db env) (fold-roll-Query Condition Answer (pred_step wrapped) (query_step wrapped) (Product qs)))
    ∙ ap (λ x. answer_by wrapped x db env) (v.rolls-Product qs ∙ sym h)

pub at_select : {q : Query} (a : Query) (p : Pred) (db : Tables) (env : Env) → q ≡ v.Select a p
    → filter (λ r. is_yes (pred_by wrapped p db (r ∷ env))) (answer_by wrapped a db env) ≡ answer_by wrapped q db env
at_select a p db env h =
    sym (ap (λ f. f db env) (fold-roll-Query Condition Answer (pred_step wrapped) (query_step wrapped) (Select a p))) ∙ ap (λ x. answer_by wrapped x db env) (v.rolls-Select a p ∙ sym h)

pub at_except : {q : Query} (a b : Query) (db : Tables) (env : Env) → q ≡ v.Except a b
    → filter (λ r. not (has_row (answer_by wrapped b db env) r)) (answer_by wrapped a db env) ≡ answer_by wrapped q db env
at_except a b db env h =
    sym (ap (λ f. f db env) (fold-roll-Query Condition Answer (pred_step wrapped) (query_step wrapped) (Except a b))) ∙ ap (λ x. answer_by wrapped x db env) (v.rolls-Except a b ∙ sym h)

-- a product of which a member has no rows has none
joined_none : (front : Rows) → pairs front [] ≡ []
joined_none [] = refl
joined_none (before ∷ front) = joined_none front

none_after : (members : List Rows) → product_rows [] members ≡ []
none_after [] = refl
none_after (rows ∷ members) = none_after members

pub without_rows : (front : Rows) (members : List Rows) → IsTrue (list_any (λ rows. nat_eq (length rows) 0) members) → product_rows front members ≡ []
without_rows front [] h = absurd (cc)
without_rows front ([] ∷ members) h = ap (λ (rows : Rows). product_rows rows members) (joined_none front) ∙ none_after members
without_rows front ((row ∷ rows) ∷ members) h =
    let Lacks : Bool → Type 0 = λ b. IsTrue (b || list_any (λ rows. nat_eq (length rows) 0) members) in
    without_rows (pairs front (row ∷ rows)) members (subst Lacks (eqb-suc-zero (length rows)) h)

-- widths
pub uneven : (widths : List ℕ) (members : List Rows) → length widths ≢ length members → false ≡ are_wide widths members
uneven [] [] h = absurd (h refl)
uneven [] (rows ∷ members) h = refl
uneven (width ∷ widths) [] h = refl
uneven (width ∷ widths) (rows ∷ members) h =
    let rest = uneven widths members (λ e. h (omega (arith, e))) in rw (sym rest) (sym (and_false (list_all (λ row. nat_eq (length row) width) rows)))
  where
    and_false : (b : Bool) → (b && false) ≡ false
    and_false true = refl
    and_false false = refl
