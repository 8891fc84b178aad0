-- A condition over the members of a product, taken apart: what concerns one member alone, the
-- columns of two members that have to be equal, and whether that is all of it.
use Rattle.std.specs.Prelude.{◌≡◌, ℕ, ℤ, ◌+◌, ◌-◌, Bool, true, false, not, ◌&&◌, ◌||◌, nat_eq, nat_le, nat_lt, List, [], ◌∷◌, ◌++◌, map, length, Option, None, Some, is_some, if◌then◌else◌, slice_index_or}
use Rattle.std.specs.Option.{option_map}
use Rattle.std.specs.List.{filter, filter_map, list_all, list_any}
use Rattle.rt_value.specs.declared.value.Value.{Value}
use Rattle.rt_value.specs.declared.value.Value.TheVariants as v
use Rattle.rt_value.specs.declared.value.Op.{Op}
use Rattle.rt_value.specs.declared.value.Op.TheVariants.{Eq, Ne, Lt, Le, Gt, Ge}
use Rattle.rt_value.specs.declared.truth.Truth.{Truth}
use Rattle.rt_value.specs.declared.truth.Truth.TheVariants.{Yes, No, Unknown}
use Rattle.rt_value.specs.Truth.{truth_not, truth_and, truth_or}
use Rattle.rt_value.specs.Value.{value_truth, null_truth}
use Rattle.rt_schema.specs.Given.{Rows, Tables}
use Rattle.rt_algebra.specs.Expression.{Env, value_by}
use Rattle.rt_algebra.specs.Answer.{is_yes, one_of_truth, pred_by}
use Rattle.rt_algebra.specs.declared.expr.Expr.{Expr}
use Rattle.rt_algebra.specs.declared.expr.Expr.TheVariants as e
use Rattle.rt_algebra.specs.declared.expr.Term.{Term, roll-Term}
use Rattle.rt_algebra.specs.declared.expr.Expr.TheOpen.{Expr-F, Term-F, Col, Int, Text, Null, Sum, Mul}
use Rattle.rt_algebra.specs.declared.expr.Expr.TheViews.{out-Expr}
use Rattle.rt_algebra.specs.declared.expr.Expr.TheFolds.{fold-Expr, fold-Term}
use Rattle.rt_algebra.specs.declared.query.Pred.{Pred}
use Rattle.rt_algebra.specs.declared.query.Pred.TheVariants as p
use Rattle.rt_algebra.specs.declared.query.Query.{Query}
use Rattle.rt_algebra.specs.declared.query.Pred.TheOpen.{Pred-F, Query-F, Cmp, IsNull, OneOf, And, Or, Not, Exists, Member}
use Rattle.rt_algebra.specs.declared.query.Pred.TheViews.{out-Pred}
use Rattle.rt_algebra.specs.declared.query.Pred.TheFolds.{fold-Pred}
use Rattle.rt_split.specs.declared.parts.KeyPair.{KeyPair}
use Rattle.rt_split.specs.declared.parts.Split.{Split}

-- the members of an outermost And, else the condition itself
abbrev pub conjuncts_from : Pred-F Pred Query → Pred → List Pred
conjuncts_from (And ps) p = ps
conjuncts_from (Cmp op a b) p = p ∷ []
conjuncts_from (IsNull a) p = p ∷ []
conjuncts_from (OneOf a es) p = p ∷ []
conjuncts_from (Or ps) p = p ∷ []
conjuncts_from (Not q) p = p ∷ []
conjuncts_from (Exists q) p = p ∷ []
conjuncts_from (Member a q) p = p ∷ []

abbrev pub conjuncts : Pred → List Pred
conjuncts p = conjuncts_from (out-Pred p) p

abbrev pub some_true : List Bool → Bool
some_true bs = list_any (λ b. b) bs

-- whether a column of the innermost row is named
abbrev pub names_step : Expr-F Bool Bool → Bool
names_step (Col up at) = nat_eq up 0
names_step (Int n) = false
names_step (Text t) = false
names_step Null = false
names_step (Sum ts) = some_true ts
names_step (Mul es) = some_true es

abbrev pub names_term_step : Term-F Bool Bool → Bool
names_term_step t = t.of

abbrev pub names : Expr → Bool
names = fold-Expr Bool Bool names_step names_term_step

abbrev pub names_term : Term → Bool
names_term = fold-Term Bool Bool names_step names_term_step

abbrev pub names_pred_step : Pred-F Bool (Unit {0}) → Bool
names_pred_step (Cmp op a b) = names a || names b
names_pred_step (IsNull a) = names a
names_pred_step (OneOf a es) = names a || some_true (map names es)
names_pred_step (And ps) = some_true ps
names_pred_step (Or ps) = some_true ps
names_pred_step (Not p) = p
names_pred_step (Exists q) = false
names_pred_step (Member a q) = names a

abbrev pub no_query : Query-F Bool (Unit {0}) → Unit {0}
no_query q = tt

abbrev pub names_pred : Pred → Bool
names_pred = fold-Pred Bool (Unit {0}) names_pred_step no_query

-- whether a place in the whole row lies in the member of so many columns that begins at `base`
abbrev pub lies : ℕ → ℕ → ℕ → Bool
lies base width at = nat_le base at && nat_lt at (base + width)

-- the elements after those found so far, where all are there
abbrev pub all_from : {X : Type 0} → List X → List (Option X) → Option (List X)
all_from found [] = Some found
all_from found (None ∷ os) = None
all_from found (Some x ∷ os) = all_from (found ++ x ∷ []) os

abbrev pub both : {X Y Z : Type 0} → (X → Y → Z) → Option X → Option Y → Option Z
both f None o = None
both f (Some x) None = None
both f (Some x) (Some y) = Some (f x y)

-- an expression over the row of the member alone: the columns of the innermost row are reduced by
-- `base`, and all of them have to lie in the member
abbrev pub moved_column : Bool → ℕ → ℕ → ℕ → ℕ → Option Expr
moved_column false base width up at = Some (e.Col up at)
moved_column true base width up at = if lies base width at then Some (e.Col up (at - base)) else None

abbrev pub moved_step : ℕ → ℕ → Expr-F (Option Expr) (Option Term) → Option Expr
moved_step base width (Col up at) = moved_column (nat_eq up 0) base width up at
moved_step base width (Int n) = Some (e.Int n)
moved_step base width (Text t) = Some (e.Text t)
moved_step base width Null = Some e.Null
moved_step base width (Sum ts) = option_map e.Sum (all_from [] ts)
moved_step base width (Mul es) = option_map e.Mul (all_from [] es)

abbrev pub term : Bool → Expr → Term
term minus of = roll-Term (record { minus = minus; of = of })

abbrev pub moved_term_step : Term-F (Option Expr) (Option Term) → Option Term
moved_term_step t = option_map (term t.minus) t.of

abbrev pub moved : ℕ → ℕ → Expr → Option Expr
moved base width = fold-Expr (Option Expr) (Option Term) (moved_step base width) moved_term_step

abbrev pub moved_term : ℕ → ℕ → Term → Option Term
moved_term base width = fold-Term (Option Expr) (Option Term) (moved_step base width) moved_term_step

-- the same of a condition, which may have no subquery
abbrev pub moved_pred_step : ℕ → ℕ → Pred-F (Option Pred) (Unit {0}) → Option Pred
moved_pred_step base width (Cmp op a b) = both (p.Cmp op) (moved base width a) (moved base width b)
moved_pred_step base width (IsNull a) = option_map p.IsNull (moved base width a)
moved_pred_step base width (OneOf a es) = both p.OneOf (moved base width a) (all_from [] (map (moved base width) es))
moved_pred_step base width (And ps) = option_map p.And (all_from [] ps)
moved_pred_step base width (Or ps) = option_map p.Or (all_from [] ps)
moved_pred_step base width (Not q) = option_map p.Not q
moved_pred_step base width (Exists q) = None
moved_pred_step base width (Member a q) = None

abbrev pub moved_pred : ℕ → ℕ → Pred → Option Pred
moved_pred base width = fold-Pred (Option Pred) (Unit {0}) (moved_pred_step base width) (λ q. tt)

-- a conjunct that is own to the member, over the member's row
abbrev pub own_of : ℕ → ℕ → Pred → Option Pred
own_of base width p = if names_pred p then moved_pred base width p else None

-- the place of an expression that is a column of the innermost row
abbrev pub place_from : Expr-F Expr Term → Option ℕ
place_from (Col up at) = if nat_eq up 0 then Some at else None
place_from (Int n) = None
place_from (Text t) = None
place_from Null = None
place_from (Sum ts) = None
place_from (Mul es) = None

abbrev pub place : Expr → Option ℕ
place e = place_from (out-Expr e)

-- two columns of which one lies in the member and the other before it
abbrev pub pair : ℕ → ℕ → Option ℕ → Option ℕ → Option KeyPair
pair base width None o = None
pair base width (Some a) None = None
pair base width (Some a) (Some b) =
    if nat_lt a base && lies base width b then Some (record { before = a; own = b - base })
    else (if nat_lt b base && lies base width a then Some (record { before = b; own = a - base }) else None)

abbrev pub key_by : ℕ → ℕ → Op → Expr → Expr → Option KeyPair
key_by base width Eq a b = pair base width (place a) (place b)
key_by base width Ne a b = None
key_by base width Lt a b = None
key_by base width Le a b = None
key_by base width Gt a b = None
key_by base width Ge a b = None

abbrev pub key_from : ℕ → ℕ → Pred-F Pred Query → Option KeyPair
key_from base width (Cmp op a b) = key_by base width op a b
key_from base width (IsNull a) = None
key_from base width (OneOf a es) = None
key_from base width (And ps) = None
key_from base width (Or ps) = None
key_from base width (Not p) = None
key_from base width (Exists q) = None
key_from base width (Member a q) = None

-- a conjunct that is a key of the member
abbrev pub key_of : ℕ → ℕ → Pred → Option KeyPair
key_of base width p = key_from base width (out-Pred p)

-- whether a conjunct is own to a member or a key of one; the first of the members begins at `base`
abbrev pub is_taken : ℕ → List ℕ → Pred → Bool
is_taken base [] p = false
is_taken base (width ∷ widths) p = is_some (own_of base width p) || is_some (key_of base width p) || is_taken (base + width) widths p

abbrev pub owns : ℕ → List ℕ → List Pred → List (List Pred)
owns base [] ps = []
owns base (width ∷ widths) ps = filter_map (own_of base width) ps ∷ owns (base + width) widths ps

abbrev pub key_lists : ℕ → List ℕ → List Pred → List (List KeyPair)
key_lists base [] ps = []
key_lists base (width ∷ widths) ps = filter_map (key_of base width) ps ∷ key_lists (base + width) widths ps

-- conjuncts over members of these widths
abbrev pub apart : List Pred → List ℕ → Split
apart ps widths = record {
  own = owns 0 widths ps;
  keys = key_lists 0 widths ps;
  is_whole = list_all (is_taken 0 widths) ps;
}

abbrev pub split_of : Pred → List ℕ → Split
split_of p widths = apart (conjuncts p) widths

-- the rows of the members one after another, after `before`
abbrev pub whole : List Value → Rows → List Value
whole before [] = before
whole before (row ∷ rows) = whole (before ++ row) rows

-- each of the conditions is Yes
abbrev pub all_yes : (ℤ → ℤ) → List Pred → Tables → Env → Bool
all_yes fit ps db env = list_all (λ p. is_yes (pred_by fit p db env)) ps

-- the truth of a condition without subqueries
abbrev pub simple_all : List (Env → Truth) → Env → Truth
simple_all [] env = Yes
simple_all (p ∷ ps) env = truth_and (p env) (simple_all ps env)

abbrev pub simple_any : List (Env → Truth) → Env → Truth
simple_any [] env = No
simple_any (p ∷ ps) env = truth_or (p env) (simple_any ps env)

abbrev pub simple_step : (ℤ → ℤ) → Pred-F (Env → Truth) (Unit {0}) → Env → Truth
simple_step fit (Cmp op a b) env = value_truth op (value_by fit a env) (value_by fit b env)
simple_step fit (IsNull a) env = null_truth (value_by fit a env)
simple_step fit (OneOf a es) env = one_of_truth fit (value_by fit a env) es env
simple_step fit (And ps) env = simple_all ps env
simple_step fit (Or ps) env = simple_any ps env
simple_step fit (Not p) env = truth_not (p env)
simple_step fit (Exists q) env = Unknown
simple_step fit (Member a q) env = Unknown

abbrev pub simple_by : (ℤ → ℤ) → Pred → Env → Truth
simple_by fit = fold-Pred (Env → Truth) (Unit {0}) (simple_step fit) (λ q. tt)

abbrev pub all_simple : (ℤ → ℤ) → List Pred → Env → Bool
all_simple fit ps env = list_all (λ p. is_yes (simple_by fit p env)) ps

-- each pair of columns compares Yes, of the row before a member and the member's row
abbrev pub pair_yes : List Value → List Value → KeyPair → Bool
pair_yes before row k = is_yes (value_truth Eq (slice_index_or before k.before v.Null) (slice_index_or row k.own v.Null))

abbrev pub keys_yes : List KeyPair → List Value → List Value → Bool
keys_yes ks before row = list_all (pair_yes before row) ks

-- of lists for the members: that of the first member, and those of the later ones
abbrev pub first : {X : Type 0} → List (List X) → List X
first [] = []
first (xs ∷ xss) = xs

abbrev pub later : {X : Type 0} → List (List X) → List (List X)
later [] = []
later (xs ∷ xss) = xss

-- each member's own conditions and keys hold on its row, `before` being the row before the first
abbrev pub members_yes : (ℤ → ℤ) → List (List Pred) → List (List KeyPair) → List Value → Rows → Tables → Env → Bool
members_yes fit own keys before [] db env = true
members_yes fit own keys before (row ∷ rows) db env =
    all_yes fit (first own) db (row ∷ env) && keys_yes (first keys) before row && members_yes fit (later own) (later keys) (before ++ row) rows db env

-- the conjuncts that are neither own to a member nor a key of one
abbrev pub rest_of : Pred → List ℕ → List Pred
rest_of p widths = filter (λ q. not (is_taken 0 widths q)) (conjuncts p)

-- over rows of these widths the condition is Yes on the concatenated row exactly where three things
-- hold: each own conjunct is Yes on its member's row; each key pair compares Yes; each conjunct of
-- the rest is Yes on the concatenated row
abbrev pub Splits : Pred → List ℕ → Split → Type 0
Splits p widths s = (fit : ℤ → ℤ) (db : Tables) (env : Env) (rows : Rows) → map length rows ≡ widths
    → is_yes (pred_by fit p db (whole [] rows ∷ env)) ≡ (members_yes fit s.own s.keys [] rows db env && all_yes fit (rest_of p widths) db (whole [] rows ∷ env))
