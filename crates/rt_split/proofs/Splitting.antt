-- A condition over the members of a product is Yes exactly where each of its parts is.
use Rattle.std.proofs.Common.{◌≡◌, ℕ, ℤ, zero, suc, ◌+◌, ◌-◌, ◌<◌, ◌≤◌, Bool, true, false, cond, not, ◌&&◌, ◌||◌, List, [], ◌∷◌, ◌++◌, map, length, Option, None, Some, refl, sym, subst, ap, ap₂, ◌∙◌, slice_index_or, length-append, arith}
use Rattle.std.specs.Prelude.{◌↔◌, nat_eq, nat_lt, is_some, if◌then◌else◌}
use Rattle.std.specs.List.{filter, filter_map, cons_option, list_all}
use Rattle.std.proofs.lemmas.Bool.Decides.{nat_tests}
use Rattle.std.proofs.lemmas.List.{append-nil, append_assoc, get_or_append_left, get_or-append_right}
use Rattle.std.specs.declared.cmp.Ordering.{Ordering}
use Rattle.std.specs.declared.cmp.Ordering.TheVariants.{Less, Equal, Greater}
use Rattle.std.specs.Ordering.{ordering_reverse}
use Rattle.rt_value.specs.declared.value.Op.TheVariants.{Eq, Ne, Lt, Le, Gt, Ge}
use Rattle.rt_value.specs.declared.value.Value.{Value}
use Rattle.rt_value.specs.declared.value.Value.TheVariants as v
use Rattle.rt_value.specs.declared.truth.Truth.{Truth}
use Rattle.rt_value.specs.declared.truth.Truth.TheVariants.{Yes, No, Unknown}
use Rattle.rt_value.specs.Truth.{truth_and}
use Rattle.rt_value.specs.Value.{value_truth, value_cmp, op_truth}
use Rattle.rt_value.specs.Order.{value_cmp_total}
use Rattle.rt_schema.specs.Given.{Rows, Tables}
use Rattle.rt_algebra.specs.Expression.{Env, value_by, term_by, expr_step, term_step}
use Rattle.rt_algebra.specs.Answer.{Condition, Answer, pred_by, answer_by, pred_step, query_step, is_yes, all_of}
use Rattle.rt_split.specs.Split.{conjuncts, conjuncts_from, lies, own_of, names_pred, moved_pred, place, place_from, pair, key_from, key_of, is_taken, owns, key_lists, split_of, whole, all_yes, simple_by, all_simple, pair_yes, keys_yes, members_yes, rest_of, Splits}
use Rattle.rt_split.specs.Join.{EachSimple}
use Rattle.rt_algebra.specs.declared.expr.Expr.{Expr}
use Rattle.rt_algebra.specs.declared.expr.Term.{Term}
use Rattle.rt_algebra.specs.declared.expr.Expr.TheOpen.{Expr-F, Col, Int, Text, Null, Sum, Mul}
use Rattle.rt_algebra.specs.declared.expr.Expr.TheViews.{out-Expr}
use Rattle.rt_algebra.specs.declared.expr.Expr.TheFolds.{fold_out-Expr, map-Expr}
use Rattle.rt_algebra.specs.declared.query.Pred.{Pred}
use Rattle.rt_algebra.specs.declared.query.Query.{Query}
use Rattle.rt_algebra.specs.declared.query.Pred.TheOpen.{Pred-F, Cmp, IsNull, OneOf, And, Or, Not, Exists, Member}
use Rattle.rt_algebra.specs.declared.query.Pred.TheViews.{out-Pred}
use Rattle.rt_algebra.specs.declared.query.Pred.TheFolds.{fold_out-Pred, map-Pred}
use Rattle.rt_split.specs.declared.parts.KeyPair.{KeyPair}
use Rattle.rt_split.specs.declared.parts.Split.{Split}
use Rattle.rt_split.proofs.Moving.{some_same, moved_pred_same, moved_simple}

-- truth values
abbrev implies : Bool → Bool → Bool
implies b c = not b || c

yes_and : (s t : Truth) → is_yes (truth_and s t) ≡ (is_yes s && is_yes t)
yes_and Yes t = refl
yes_and No t = refl
yes_and Unknown Yes = refl
yes_and Unknown No = refl
yes_and Unknown Unknown = refl

pub all_of_yes : (fit : ℤ → ℤ) (ps : List Pred) (db : Tables) (env : Env) → is_yes (all_of (map (pred_by fit) ps) db env) ≡ all_yes fit ps db env
all_of_yes fit [] db env = refl
all_of_yes fit (p ∷ ps) db env = yes_and (pred_by fit p db env) (all_of (map (pred_by fit) ps) db env) ∙ ap (λ b. is_yes (pred_by fit p db env) && b) (all_of_yes fit ps db env)

and_true : (b : Bool) → (b && true) ≡ b
and_true true = refl
and_true false = refl

and_false : (b : Bool) → (b && false) ≡ false
and_false true = refl
and_false false = refl

turned : (o : Ordering) → op_truth Eq (ordering_reverse o) ≡ op_truth Eq o
turned Less = refl
turned Equal = refl
turned Greater = refl

swapped : (x y : Value) → op_truth Eq (value_cmp x y) ≡ op_truth Eq (value_cmp y x)
swapped x y = ap (op_truth Eq) (value_cmp_total.antisymm x y) ∙ turned (value_cmp y x)

pub equal_swapped : (x y : Value) → value_truth Eq x y ≡ value_truth Eq y x
equal_swapped v.Null v.Null = refl
equal_swapped v.Null (v.Int y) = refl
equal_swapped v.Null (v.Text t) = refl
equal_swapped (v.Int x) v.Null = refl
equal_swapped (v.Int x) (v.Int y) = swapped (v.Int x) (v.Int y)
equal_swapped (v.Int x) (v.Text t) = swapped (v.Int x) (v.Text t)
equal_swapped (v.Text s) v.Null = refl
equal_swapped (v.Text s) (v.Int y) = swapped (v.Text s) (v.Int y)
equal_swapped (v.Text s) (v.Text t) = swapped (v.Text s) (v.Text t)

-- the rows one after another
pub whole_after : (before : List Value) (rows : Rows) → whole before rows ≡ before ++ whole [] rows
whole_after before [] = sym (append-nil before)
whole_after before (row ∷ rows) = whole_after (before ++ row) rows ∙ append_assoc before row (whole [] rows) ∙ ap (λ r. before ++ r) (sym (whole_after row rows))

-- tests of conjuncts
module _ {X : Type 0} (f g h k : X → Bool) (e : (x : X) → (f x && g x && h x) ≡ k x) where
  all_three : (xs : List X) → (list_all f xs && list_all g xs && list_all h xs) ≡ list_all k xs
  all_three [] = refl
  all_three (x ∷ xs) = sorted (f x) (g x) (h x) (list_all f xs) (list_all g xs) (list_all h xs) ∙ ap₂ (λ b c. b && c) (e x) (all_three xs)
    where
      sorted : (a b c x y z : Bool) → ((a && x) && (b && y) && (c && z)) ≡ ((a && b && c) && (x && y && z))
      sorted true true true x y z = refl
      sorted true true false x y z = elim x as (λ x. (x && y && false) ≡ false) [ true ↦ elim y as (λ y. (y && false) ≡ false) [ true ↦ refl | false ↦ refl ] | false ↦ refl ]
      sorted true false c x y z = elim x as (λ x. (x && false && (c && z)) ≡ false) [ true ↦ refl | false ↦ refl ]
      sorted false b c x y z = refl

all_true : {X : Type 0} (xs : List X) → list_all (λ x. true) xs ≡ true
all_true [] = refl
all_true (x ∷ xs) = all_true xs

module _ (fit : ℤ → ℤ) (db : Tables) (env : Env) where
  abbrev yes : List Value → Pred → Bool
  yes row p = is_yes (pred_by fit p db (row ∷ env))

  -- a column of the whole row
  of_place : (row : List Value) (y : Expr-F Expr Term) (at : ℕ) → place_from y ≡ Some at
      → expr_step fit (map-Expr Expr Term (Env → Value) (Env → Value) (value_by fit) (term_by fit) y) (row ∷ env) ≡ slice_index_or row at v.Null
  of_place row (Col zero c) at h = ap (λ n. slice_index_or row n v.Null) (some_same c at h)
  of_place row (Col (suc up) c) at h =
      let further : nat_eq (suc up) 0 ≡ false = grind (arith, nat_tests) in
      let off : None ≡ Some at = rw further at h in absurd (cc)
  of_place row (Int n) at h = absurd (cc)
  of_place row (Text t) at h = absurd (cc)
  of_place row Null at h = absurd (cc)
  of_place row (Sum ts) at h = absurd (cc)
  of_place row (Mul es) at h = absurd (cc)

  pub place_is : (row : List Value) (x : Expr) (at : ℕ) → place x ≡ Some at → value_by fit x (row ∷ env) ≡ slice_index_or row at v.Null
  place_is row x at h = ap (λ f. f (row ∷ env)) (fold_out-Expr (Env → Value) (Env → Value) (expr_step fit) (term_step fit) x) ∙ of_place row (out-Expr x) at h

  -- a member between the rows before it and those after it
  module _ (base width : ℕ) (before row after : List Value) (b : length before ≡ base) (w : length row ≡ width) where
    abbrev Whole : List Value
    Whole = (before ++ row) ++ after

    inside : (at : ℕ) → base ≤ at → at < base + width → slice_index_or Whole at v.Null ≡ slice_index_or row (at - base) v.Null
    inside at l m =
        get_or_append_left (before ++ row) after v.Null at (let n = length-append before row in omega arith)
        ∙ get_or-append_right before row base at v.Null b l

    ahead : (at : ℕ) → at < base → slice_index_or Whole at v.Null ≡ slice_index_or before at v.Null
    ahead at l =
        get_or_append_left (before ++ row) after v.Null at (let n = length-append before row in omega arith)
        ∙ get_or_append_left before row v.Null at (omega arith)

    -- own conjuncts
    own_same : (p q : Pred) (n : Bool) → (if n then moved_pred base width p else None) ≡ Some q → yes row q ≡ yes Whole p
    own_same p q true h = ap is_yes (moved_pred_same fit base width row Whole inside env db p q h)
    own_same p q false h = absurd (cc)

    own_one : (p : Pred) (qs : List Pred) (more : Bool) → all_yes fit qs db (row ∷ env) ≡ more → (o : Option Pred) → own_of base width p ≡ o
        → all_yes fit (cons_option o qs) db (row ∷ env) ≡ (implies (is_some o) (yes Whole p) && more)
    own_one p qs more h None e = h
    own_one p qs more h (Some q) e = ap₂ (λ b c. b && c) (own_same p q (names_pred p) e) h

    own_part : (ps : List Pred) → all_yes fit (filter_map (own_of base width) ps) db (row ∷ env) ≡ list_all (λ p. implies (is_some (own_of base width p)) (yes Whole p)) ps
    own_part [] = refl
    own_part (p ∷ ps) = own_one p (filter_map (own_of base width) ps) _ (own_part ps) (own_of base width p) refl

    -- keys
    pair_by : (m n : ℕ) (k : KeyPair) (c d : Bool) → (nat_lt m base && lies base width n) ≡ c → (nat_lt n base && lies base width m) ≡ d
        → (if c then Some (record { before = m; own = n - base }) else (if d then Some (record { before = n; own = m - base }) else None)) ≡ Some k
        → pair_yes before row k ≡ is_yes (value_truth Eq (slice_index_or Whole m v.Null) (slice_index_or Whole n v.Null))
    pair_by m n k true d t u h =
        ap (pair_yes before row) (sym (some_same _ k h))
        ∙ ap₂ (λ (x y : Value). is_yes (value_truth Eq x y)) (sym (ahead m (grind (arith, nat_tests)))) (sym (inside n (grind (arith, nat_tests)) (grind (arith, nat_tests))))
    pair_by m n k false true t u h =
        ap (pair_yes before row) (sym (some_same _ k h))
        ∙ ap₂ (λ (x y : Value). is_yes (value_truth Eq x y)) (sym (ahead n (grind (arith, nat_tests)))) (sym (inside m (grind (arith, nat_tests)) (grind (arith, nat_tests))))
        ∙ ap is_yes (equal_swapped (slice_index_or Whole n v.Null) (slice_index_or Whole m v.Null))
    pair_by m n k false false t u h = absurd (cc)

    pair_same : (x y : Expr) (k : KeyPair) (o u : Option ℕ) → place x ≡ o → place y ≡ u → pair base width o u ≡ Some k
        → pair_yes before row k ≡ is_yes (value_truth Eq (value_by fit x (Whole ∷ env)) (value_by fit y (Whole ∷ env)))
    pair_same x y k None u e f h = absurd (cc)
    pair_same x y k (Some m) None e f h = absurd (cc)
    pair_same x y k (Some m) (Some n) e f h =
        pair_by m n k _ _ refl refl h ∙ ap₂ (λ (x y : Value). is_yes (value_truth Eq x y)) (sym (place_is Whole x m e)) (sym (place_is Whole y n f))

    key_layer : (k : KeyPair) (y : Pred-F Pred Query) → key_from base width y ≡ Some k
        → pair_yes before row k ≡ is_yes (pred_step fit (map-Pred Pred Query Condition Answer (pred_by fit) (answer_by fit) y) db (Whole ∷ env))
    key_layer k (Cmp Eq x y) h = pair_same x y k (place x) (place y) refl refl h
    key_layer k (Cmp Ne x y) h = absurd (cc)
    key_layer k (Cmp Lt x y) h = absurd (cc)
    key_layer k (Cmp Le x y) h = absurd (cc)
    key_layer k (Cmp Gt x y) h = absurd (cc)
    key_layer k (Cmp Ge x y) h = absurd (cc)
    key_layer k (IsNull x) h = absurd (cc)
    key_layer k (OneOf x es) h = absurd (cc)
    key_layer k (And ps) h = absurd (cc)
    key_layer k (Or ps) h = absurd (cc)
    key_layer k (Not p) h = absurd (cc)
    key_layer k (Exists q) h = absurd (cc)
    key_layer k (Member x q) h = absurd (cc)

    key_same : (p : Pred) (k : KeyPair) → key_of base width p ≡ Some k → pair_yes before row k ≡ yes Whole p
    key_same p k h = key_layer k (out-Pred p) h ∙ ap (λ f. is_yes (f db (Whole ∷ env))) (sym (fold_out-Pred Condition Answer (pred_step fit) (query_step fit) p))

    key_one : (p : Pred) (ks : List KeyPair) (more : Bool) → keys_yes ks before row ≡ more → (o : Option KeyPair) → key_of base width p ≡ o
        → keys_yes (cons_option o ks) before row ≡ (implies (is_some o) (yes Whole p) && more)
    key_one p ks more h None e = h
    key_one p ks more h (Some k) e = ap₂ (λ b c. b && c) (key_same p k e) h

    key_part : (ps : List Pred) → keys_yes (filter_map (key_of base width) ps) before row ≡ list_all (λ p. implies (is_some (key_of base width p)) (yes Whole p)) ps
    key_part [] = refl
    key_part (p ∷ ps) = key_one p (filter_map (key_of base width) ps) _ (key_part ps) (key_of base width p) refl

  -- all members
  three : (a b c y : Bool) → (implies a y && implies b y && implies c y) ≡ implies (a || b || c) y
  three true true true true = refl
  three true true true false = refl
  three true true false true = refl
  three true true false false = refl
  three true false true true = refl
  three true false true false = refl
  three true false false true = refl
  three true false false false = refl
  three false true true true = refl
  three false true true false = refl
  three false true false true = refl
  three false true false false = refl
  three false false true y = refl
  three false false false y = refl

  members_part : (ps : List Pred) (widths : List ℕ) (base : ℕ) (before : List Value) (rows : Rows) → length before ≡ base → map length rows ≡ widths
      → members_yes fit (owns base widths ps) (key_lists base widths ps) before rows db env ≡ list_all (λ p. implies (is_taken base widths p) (yes (whole before rows) p)) ps
  members_part ps [] base before [] b w = sym (all_true ps)
  members_part ps [] base before (row ∷ rows) b w = absurd (cc)
  members_part ps (width ∷ widths) base before [] b w = absurd (cc)
  members_part ps (width ∷ widths) base before (row ∷ rows) b w =
      let first : length row ≡ width = cc in
      let others : map length rows ≡ widths = cc in
      let next : length (before ++ row) ≡ base + width = let n = length-append before row in omega arith in
      let is : (before ++ row) ++ whole [] rows ≡ whole (before ++ row) rows = sym (whole_after (before ++ row) rows) in
      let P : List Value → Type 0 = λ all. all_yes fit (filter_map (own_of base width) ps) db (row ∷ env) ≡ list_all (λ p. implies (is_some (own_of base width p)) (yes all p)) ps in
      let Q : List Value → Type 0 = λ all. keys_yes (filter_map (key_of base width) ps) before row ≡ list_all (λ p. implies (is_some (key_of base width p)) (yes all p)) ps in
      let own = subst P is (own_part base width before row (whole [] rows) b first ps) in
      let keys = subst Q is (key_part base width before row (whole [] rows) b first ps) in
      let more = members_part ps widths (base + width) (before ++ row) rows next others in
      rw (own, keys, more) (all_three _ _ _ _ (λ p. three (is_some (own_of base width p)) (is_some (key_of base width p)) (is_taken (base + width) widths p) (yes (whole (before ++ row) rows) p)) ps)

  one_more : (t b i s y : Bool) → y ≡ (i && (s || y)) → (b && y) ≡ ((implies t b && i) && ((t && s) || (b && y)))
  one_more true true i s y h = h
  one_more true false i s y h = refl
  one_more false true true s y h = refl
  one_more false true false s y h = h
  one_more false false i s y h = sym (and_false i)

  rest_part : (taken : Pred → Bool) (y : Pred → Bool) (ps : List Pred) → list_all y ps ≡ (list_all (λ p. implies (taken p) (y p)) ps && (list_all taken ps || list_all y ps))
  rest_part taken y [] = refl
  rest_part taken y (p ∷ ps) = one_more (taken p) (y p) _ _ _ (rest_part taken y ps)

  all_true_or : (y i l r : Bool) → l ≡ (i && r) → (y && l) ≡ ((y && i) && r)
  all_true_or true i l r h = h
  all_true_or false i l r h = refl

  moved_over : (y i l r : Bool) → l ≡ (i && r) → (y && l) ≡ (i && (y && r))
  moved_over true i l r h = h
  moved_over false i l r h = sym (and_false i)

  -- each conjunct holds exactly where the taken ones and those that are left do
  left_part : (taken : Pred → Bool) (y : Pred → Bool) (ps : List Pred) → list_all y ps ≡ (list_all (λ p. implies (taken p) (y p)) ps && list_all y (filter (λ p. not (taken p)) ps))
  left_part taken y [] = refl
  left_part taken y (p ∷ ps) = go (taken p) (left_part taken y ps) where
    go : (b : Bool) → list_all y ps ≡ (list_all (λ p. implies (taken p) (y p)) ps && list_all y (filter (λ p. not (taken p)) ps)) → (y p && list_all y ps) ≡ ((implies b (y p) && list_all (λ p. implies (taken p) (y p)) ps) && list_all y (cond (not b) (p ∷ filter (λ p. not (taken p)) ps) (filter (λ p. not (taken p)) ps)))
    go true h = all_true_or (y p) _ _ _ h
    go false h = moved_over (y p) _ _ _ h

  conjuncts_part : (y : Pred-F Pred Query) (p : Pred) (row : List Value) → pred_by fit p db (row ∷ env) ≡ pred_step fit (map-Pred Pred Query Condition Answer (pred_by fit) (answer_by fit) y) db (row ∷ env)
      → yes row p ≡ list_all (yes row) (conjuncts_from y p)
  conjuncts_part (And ps) p row h = ap is_yes h ∙ all_of_yes fit ps db (row ∷ env)
  conjuncts_part (Cmp op a b) p row h = sym (and_true (yes row p))
  conjuncts_part (IsNull a) p row h = sym (and_true (yes row p))
  conjuncts_part (OneOf a es) p row h = sym (and_true (yes row p))
  conjuncts_part (Or ps) p row h = sym (and_true (yes row p))
  conjuncts_part (Not q) p row h = sym (and_true (yes row p))
  conjuncts_part (Exists q) p row h = sym (and_true (yes row p))
  conjuncts_part (Member a q) p row h = sym (and_true (yes row p))

-- the same where the whole condition is tested once more, unless the parts are all of it
abbrev pub Narrows : Pred → List ℕ → Split → Type 0
Narrows p widths s = (fit : ℤ → ℤ) (db : Tables) (env : Env) (rows : Rows) → map length rows ≡ widths
    → is_yes (pred_by fit p db (whole [] rows ∷ env))
    ≡ (members_yes fit s.own s.keys [] rows db env && (s.is_whole || is_yes (pred_by fit p db (whole [] rows ∷ env))))

module _ (fit : ℤ → ℤ) (db : Tables) (env : Env) (p : Pred) (widths : List ℕ) where
  each : (row : List Value) → yes fit db env row p ≡ list_all (yes fit db env row) (conjuncts p)
  each row = conjuncts_part fit db env (out-Pred p) p row (ap (λ f. f db (row ∷ env)) (fold_out-Pred Condition Answer (pred_step fit) (query_step fit) p))

  members : (rows : Rows) → map length rows ≡ widths
      → list_all (λ q. implies (is_taken 0 widths q) (yes fit db env (whole [] rows) q)) (conjuncts p) ≡ members_yes fit (split_of p widths).own (split_of p widths).keys [] rows db env
  members rows w = sym (members_part fit db env (conjuncts p) widths 0 [] rows refl w)

split_law : (p : Pred) (widths : List ℕ) → Splits p widths (split_of p widths)
split_law p widths fit db env rows w =
    each fit db env p widths (whole [] rows) ∙ left_part fit db env (is_taken 0 widths) (yes fit db env (whole [] rows)) (conjuncts p)
    ∙ ap (λ b. b && all_yes fit (rest_of p widths) db (whole [] rows ∷ env)) (members fit db env p widths rows w)

narrow_law : (p : Pred) (widths : List ℕ) → Narrows p widths (split_of p widths)
narrow_law p widths fit db env rows w =
    let is = each fit db env p widths (whole [] rows) in
    is ∙ rest_part fit db env (is_taken 0 widths) (yes fit db env (whole [] rows)) (conjuncts p)
    ∙ ap₂ (λ b c. b && (list_all (is_taken 0 widths) (conjuncts p) || c)) (members fit db env p widths rows w) (sym is)

pub split_at : (p : Pred) (widths : List ℕ) (s : Split) → s ≡ split_of p widths → Splits p widths s
split_at p widths s h = let P : Split → Type 0 = Splits p widths in subst P (sym h) (split_law p widths)

pub narrow_at : (p : Pred) (widths : List ℕ) (s : Split) → s ≡ split_of p widths → Narrows p widths s
narrow_at p widths s h = let P : Split → Type 0 = Narrows p widths in subst P (sym h) (narrow_law p widths)

-- the parts are all of the condition exactly where nothing is left
none_left : {X : Type 0} (taken : X → Bool) (xs : List X) → (list_all taken xs ≡ true) ↔ (filter (λ x. not (taken x)) xs ≡ [])
none_left taken [] = (λ h. refl, λ h. refl)
none_left taken (x ∷ xs) = go (taken x) (none_left taken xs) where
  go : (b : Bool) → (list_all taken xs ≡ true) ↔ (filter (λ x. not (taken x)) xs ≡ []) → ((b && list_all taken xs) ≡ true) ↔ (cond (not b) (x ∷ filter (λ x. not (taken x)) xs) (filter (λ x. not (taken x)) xs) ≡ [])
  go true e = e
  go false e = (λ h. absurd (cc), λ h. absurd (cc))

pub whole_at : (p : Pred) (widths : List ℕ) (s : Split) → s ≡ split_of p widths → (s.is_whole ≡ true) ↔ (rest_of p widths ≡ [])
whole_at p widths s h = let P : Split → Type 0 = λ s. (s.is_whole ≡ true) ↔ (rest_of p widths ≡ []) in subst P (sym h) (none_left (is_taken 0 widths) (conjuncts p))

-- own conjuncts have no subquery
module _ (fit : ℤ → ℤ) (db : Tables) (env : Env) (base width : ℕ) where
  simple_own : (p q : Pred) (n : Bool) → (if n then moved_pred base width p else None) ≡ Some q → is_yes (pred_by fit q db env) ≡ is_yes (simple_by fit q env)
  simple_own p q true h = ap is_yes (moved_simple fit base width db env p q h)
  simple_own p q false h = absurd (cc)

  simple_one : (p : Pred) (qs : List Pred) → all_yes fit qs db env ≡ all_simple fit qs env → (o : Option Pred) → own_of base width p ≡ o
      → all_yes fit (cons_option o qs) db env ≡ all_simple fit (cons_option o qs) env
  simple_one p qs h None e = h
  simple_one p qs h (Some q) e = ap₂ (λ b c. b && c) (simple_own p q (names_pred p) e) h

  simple_part : (ps : List Pred) → all_yes fit (filter_map (own_of base width) ps) db env ≡ all_simple fit (filter_map (own_of base width) ps) env
  simple_part [] = refl
  simple_part (p ∷ ps) = simple_one p (filter_map (own_of base width) ps) (simple_part ps) (own_of base width p) refl

owns_simple : (widths : List ℕ) (base : ℕ) (ps : List Pred) → EachSimple (owns base widths ps)
owns_simple [] base ps = tt
owns_simple (width ∷ widths) base ps = (λ fit db env. simple_part fit db env base width ps, owns_simple widths (base + width) ps)

pub simple_at : (p : Pred) (widths : List ℕ) (s : Split) → s ≡ split_of p widths → EachSimple s.own
simple_at p widths s h = let P : Split → Type 0 = λ s. EachSimple s.own in subst P (sym h) (owns_simple widths 0 (conjuncts p))
