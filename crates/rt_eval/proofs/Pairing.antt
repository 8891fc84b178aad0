-- Pairs of rows, joined a row at a time.
use Rattle.std.proofs.Common.{◌≡◌, ℕ, suc, zero, ◌+◌, arith, ◌<◌, ◌≤◌, Bool, List, [], ◌∷◌, ◌++◌, length, map, drop, get_or, refl, sym, subst, ap, ap₂, ◌∙◌, add-one}
use Rattle.std.specs.List.{filter, filter_map, slice_get}
use Rattle.std.proofs.Math.Seq.{drop-cons}
use Rattle.std.proofs.lemmas.List.{append-nil, append_assoc, map-append, map-id}
use Rattle.std.proofs.lemmas.List.Elements.{filter-append}
use Rattle.rt_value.specs.declared.value.Value.{Value}
use Rattle.rt_schema.specs.Given.{Rows, Tables}
use Rattle.rt_algebra.specs.Answer.{join_each, is_yes, pred_by}
use Rattle.rt_algebra.specs.Expression.{Env, wrapped, row_by}
use Rattle.rt_split.specs.Join.{matched, matches, places_where}
use Rattle.rt_split.specs.Split.{keys_yes}
use Rattle.rt_algebra.specs.declared.expr.Expr.{Expr}
use Rattle.rt_split.specs.declared.parts.KeyPair.{KeyPair}
use Rattle.rt_algebra.specs.declared.query.Pred.{Pred}
use Rattle.rt_split.proofs.Places.{later_drop, picked}
use Rattle.rt_eval.specs.Items.{items_where}
use Rattle.rt_eval.specs.Pairs.{all_joined, first_joined}

pub matched_pairs : (ks : List KeyPair) (befores rows : Rows) → all_joined befores rows (matches ks befores rows) ≡ matched ks befores rows
matched_pairs ks [] rows = refl
matched_pairs ks (b ∷ bs) rows =
    ap₂ (λ (xs ys : Rows). join_each b xs ++ ys)
    (ap (λ (rs : Rows). filter_map (slice_get rows) (places_where (keys_yes ks b) 0 rs)) (sym (map-id rows)) ∙ picked (λ r. r) (keys_yes ks b) rows)
    (matched_pairs ks bs rows)

-- one more of the rows before the member
next_joined : (befores rows : Rows) (places : List (List ℕ)) (i : ℕ) → i < length befores
    → all_joined (drop i befores) rows (drop i places) ≡ first_joined (drop i befores) rows (drop i places) ++ all_joined (drop (i + 1) befores) rows (drop (i + 1) places)
next_joined befores rows places i l =
    let b = get_or befores i [] in
    let more = drop (i + 1) befores in
    let ps = drop i places in
    let e : drop i befores ≡ b ∷ more = rw add-one (drop-cons befores i [] l) in
    let P : Rows → Type 0 = λ bs. all_joined bs rows ps ≡ first_joined bs rows ps ++ all_joined more rows (drop (i + 1) places) in
    subst P (sym e) (ap (λ (qs : List (List ℕ)). first_joined (b ∷ more) rows ps ++ all_joined more rows qs) (later_drop places i))

-- what is made of the joined rows, one after another
pub joined_step : (f : Rows → Rows) → ((xs ys : Rows) → f (xs ++ ys) ≡ f xs ++ f ys)
    → (befores rows : Rows) (places : List (List ℕ)) (i : ℕ) → i < length befores → (out next whole : Rows) → next ≡ out ++ f (first_joined (drop i befores) rows (drop i places))
    → out ++ f (all_joined (drop i befores) rows (drop i places)) ≡ whole → next ++ f (all_joined (drop (i + 1) befores) rows (drop (i + 1) places)) ≡ whole
joined_step f each befores rows places i l out next whole n h =
    let here = first_joined (drop i befores) rows (drop i places) in
    let more = all_joined (drop (i + 1) befores) rows (drop (i + 1) places) in
    ap (λ xs. xs ++ f more) n ∙ append_assoc out (f here) (f more) ∙ ap (λ xs. out ++ xs) (sym (each here more))
    ∙ ap (λ xs. out ++ f xs) (sym (next_joined befores rows places i l)) ∙ h

none_left : (befores : Rows) (i : ℕ) → length befores ≤ i → drop i befores ≡ []
none_left [] zero l = refl
none_left [] (suc i) l = refl
none_left (b ∷ bs) zero l = absurd (omega (arith, l))
none_left (b ∷ bs) (suc i) l = none_left bs i (omega (arith, l))

pub all_made : (f : Rows → Rows) → f [] ≡ [] → (befores rows : Rows) (places : List (List ℕ)) (i : ℕ) → length befores ≤ i → (out whole : Rows)
    → out ++ f (all_joined (drop i befores) rows (drop i places)) ≡ whole → out ≡ whole
all_made f e befores rows places i l out whole h =
    let none : all_joined (drop i befores) rows (drop i places) ≡ [] = ap (λ (bs : Rows). all_joined bs rows (drop i places)) (none_left befores i l) in
    sym (append-nil out) ∙ ap (λ xs. out ++ xs) (sym (ap f none ∙ e)) ∙ h

-- the items of rows one after another
pub items_append : (p : Pred) (es : List Expr) (db : Tables) (env : Env) (xs ys : Rows) → items_where p es db env (xs ++ ys) ≡ items_where p es db env xs ++ items_where p es db env ys
items_append p es db env xs ys =
    let test : List Value → Bool = λ r. is_yes (pred_by wrapped p db (r ∷ env)) in
    ap (map (λ r. row_by wrapped es (r ∷ env))) (filter-append test xs ys) ∙ map-append (λ r. row_by wrapped es (r ∷ env)) (filter test xs) (filter test ys)
