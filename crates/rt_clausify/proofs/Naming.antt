-- What the clauses of a formula mean.
use Rattle.std.proofs.Common.{◌≡◌, ℕ, zero, suc, ◌+◌, ◌<◌, ◌≤◌, nat_lt, Bool, true, false, not, ◌||◌, ◌&&◌, inl, inr, List, [], ◌∷◌, ◌++◌, map, length, length-append, slice_get, slice_index_or, Some, refl, sym, ap, subst, ◌∙◌, arith, rules}
use Rattle.std.specs.Bool.{beq}
use Rattle.std.specs.List.{list_any, list_all, All as Each}
use Rattle.rt_clause.specs.Literal.{Literal, negated}
use Rattle.rt_clause.specs.Lists.{has, Determined, IsBelow, AreBelow}
use Rattle.rt_clause.specs.Models.{lit_true, IsModel}
use Rattle.rt_clause.specs.Gates.{gate, AgreeBelow, Extends}
use Rattle.rt_clause.proofs.Bools.{bool-cases}
use Rattle.rt_clause.proofs.Literals.{has-cases}
use Rattle.rt_clause.proofs.Following.{lit_true-negated}
use Rattle.rt_clause.proofs.EachLine.{each-none, each-cons, each-head, each-append, each-back, closed-front}
use Rattle.rt_clause.proofs.GateLaws.{IsTrueAt}
use Rattle.rt_clause.proofs.Extending.{index-front, extends-on, extends-gate, gate-means, model-older}
use Rattle.rt_formula.specs.Shared.{Shared, IsSound, Fits, val, values, bool_at, children, entry_value}
use Rattle.rt_formula.proofs.Meaning.{val-entry}
use Rattle.rt_formula.specs.declared.entry.Entry.{Entry}
use Rattle.rt_formula.specs.declared.entry.Entry.TheVariants.{Yes, No, Row, Not, All, Any}
use Rattle.rt_formula.specs.Under.{is_marked, AreUnder}
use Rattle.rt_clausify.specs.Written.{Written, name_at, named_by, with_name, with_gate, with_entry, with_node}

-- of the first n nodes those that are marked have literals that mean what the nodes do
pub record IsNaming (d : Shared) (marks : List Bool) (n : ℕ) (w : Written) : Type 0 where
  pub count : length w.names ≡ n
  pub low : (k : ℕ) → k < n → is_marked marks k ≡ true → (name_at w.names k).var < w.next
  pub over : Extends [] d.rows w.lines w.next
  pub means : (keep bools : List Bool) → AgreeBelow d.rows keep bools → IsModel w.lines bools → (k : ℕ) → k < n → is_marked marks k ≡ true → lit_true bools (name_at w.names k) ≡ val d keep k

name-front : (names : List Literal) (l : Literal) (k : ℕ) → k < length names → name_at (names ++ l ∷ []) k ≡ name_at names k
name-front [] l k h = absurd (omega arith)
name-front (x ∷ names) l zero h = refl
name-front (x ∷ names) l (suc k) h = name-front names l k (omega arith)

name-end : (names : List Literal) (l : Literal) → name_at (names ++ l ∷ []) (length names) ≡ l
name-end [] l = refl
name-end (x ∷ names) l = name-end names l

-- what holds of each older name and of the new one holds of all
each-name : (P : ℕ → Literal → Type 0) (names : List Literal) (l : Literal) (n : ℕ) → length names ≡ n → ((k : ℕ) → k < n → P k (name_at names k)) → P n l → (k : ℕ) → k < n + 1 → P k (name_at (names ++ l ∷ []) k)
each-name P names l n c old new k h = elim (bool-cases (nat_lt k n)) [
  | inl y ↦ (let b : k < n = search rules in let Q : Literal → Type 0 = P k in subst Q (sym (name-front names l k (omega (arith, b, c)))) (old k b))
  | inr y ↦ (let g : n ≤ k = search rules in let q : k ≡ n = omega (arith, g, h) in
      let R : ℕ → Type 0 = λ j. P j (name_at (names ++ l ∷ []) j) in let S : Literal → Type 0 = P n in
      subst R (sym q) (subst S (sym (name-end names l) ∙ ap (name_at (names ++ l ∷ [])) c) new))
]

length-more : (names : List Literal) (l : Literal) (n : ℕ) → length names ≡ n → length (names ++ l ∷ []) ≡ n + 1
length-more names l n c = let h = length-append names (l ∷ []) in omega (arith, h, c)

naming-name : (d : Shared) (marks : List Bool) (n : ℕ) (w : Written) (l : Literal) → IsNaming d marks n w → (is_marked marks n ≡ true → l.var < w.next)
    → ((keep bools : List Bool) → AgreeBelow d.rows keep bools → IsModel w.lines bools → is_marked marks n ≡ true → lit_true bools l ≡ val d keep n) → IsNaming d marks (n + 1) (with_name w l)
naming-name d marks n w l h low means = record {
  count = length-more w.names l n h.count;
  low = each-name (λ k x. is_marked marks k ≡ true → x.var < w.next) w.names l n h.count h.low low;
  over = h.over;
  means = λ keep bools a m. each-name (λ k x. is_marked marks k ≡ true → lit_true bools x ≡ val d keep k) w.names l n h.count (h.means keep bools a m) (means keep bools a m);
}

turned : (x on : Bool) → beq x true ≡ beq (beq x on) on
turned true true = refl
turned true false = refl
turned false true = refl
turned false false = refl

naming-gate : (d : Shared) (marks : List Bool) (n : ℕ) (w : Written) (on : Bool) (lits : List Literal) → IsNaming d marks n w → IsBelow w.next lits
    → ((keep bools : List Bool) → AgreeBelow d.rows keep bools → IsModel w.lines bools → beq (list_all (lit_true bools) lits) on ≡ val d keep n) → IsNaming d marks (n + 1) (with_gate w on lits)
naming-gate d marks n w on lits h low means =
    let l : Literal = record { var = w.next; on = true } in
    let out : Literal = record { var = w.next; on = on } in
    record {
      count = length-more w.names l n h.count;
      low = each-name (λ k x. is_marked marks k ≡ true → x.var < w.next + 1) w.names l n h.count (λ k b u. let p = h.low k b u in omega (arith, p)) (λ u. omega arith);
      over = extends-on [] w.lines (w.lines ++ gate out lits) d.rows w.next (w.next + 1) h.over (extends-gate w.lines w.next out lits refl low);
      means = λ keep bools a m.
          let old = model-older w.lines (gate out lits) bools m in
          each-name (λ k x. is_marked marks k ≡ true → lit_true bools x ≡ val d keep k) w.names l n h.count (h.means keep bools a old)
          (λ u. turned (slice_index_or bools w.next false) on ∙ ap (λ x. beq x on) (gate-means w.lines out lits bools m) ∙ means keep bools a old);
    }

-- the literals of a gate's members
members-below : (names : List Literal) (on : Bool) (m : ℕ) (marks : List Bool) (n : ℕ) → ((k : ℕ) → k < n → is_marked marks k ≡ true → (name_at names k).var < m) → (of : List ℕ) → Each (λ k. k < n) of → Each (λ k. is_marked marks k ≡ true) of → IsBelow m (map (named_by names on) of)
members-below names on m marks n low [] b u l h = absurd (cc)
members-below names on m marks n low (x ∷ xs) b u l h = elim (has-cases (named_by names on x) l (map (named_by names on) xs) h) [
  | inl e ↦ (let P : ℕ → Type 0 = λ v. v < m in subst P (sym (ap (λ (j : Literal). j.var) e)) (here on))
  | inr r ↦ members-below names on m marks n low xs (λ k d i. b (suc k) d (omega arith)) (λ k d i. u (suc k) d (omega arith)) l r
] where
  here : (o : Bool) → (named_by names o x).var < m
  here true = low x (b 0 0 (omega arith)) (u 0 0 (omega arith))
  here false = low x (b 0 0 (omega arith)) (u 0 0 (omega arith))

members-all : (names : List Literal) (bools : List Bool) (value : ℕ → Bool) (marks : List Bool) (n : ℕ) → ((k : ℕ) → k < n → is_marked marks k ≡ true → lit_true bools (name_at names k) ≡ value k) → (of : List ℕ) → Each (λ k. k < n) of
    → Each (λ k. is_marked marks k ≡ true) of
    → list_all (lit_true bools) (map (named_by names true) of) ≡ list_all value of
members-all names bools value marks n h [] b u = refl
members-all names bools value marks n h (x ∷ xs) b u =
    let p = h x (b 0 0 (omega arith)) (u 0 0 (omega arith)) in
    let q = members-all names bools value marks n h xs (λ k d i. b (suc k) d (omega arith)) (λ k d i. u (suc k) d (omega arith)) in
    ap (λ a. a && list_all (lit_true bools) (map (named_by names true) xs)) p ∙ ap (λ a. value x && a) q

members-any : (names : List Literal) (bools : List Bool) (value : ℕ → Bool) (marks : List Bool) (n : ℕ) → ((k : ℕ) → k < n → is_marked marks k ≡ true → lit_true bools (name_at names k) ≡ value k) → (of : List ℕ) → Each (λ k. k < n) of
    → Each (λ k. is_marked marks k ≡ true) of
    → list_all (lit_true bools) (map (named_by names false) of) ≡ not (list_any value of)
members-any names bools value marks n h [] b u = refl
members-any names bools value marks n h (x ∷ xs) b u =
    let p = lit_true-negated bools (name_at names x) ∙ ap not (h x (b 0 0 (omega arith)) (u 0 0 (omega arith))) in
    let q = members-any names bools value marks n h xs (λ k d i. b (suc k) d (omega arith)) (λ k d i. u (suc k) d (omega arith)) in
    ap (λ a. a && list_all (lit_true bools) (map (named_by names false) xs)) p ∙ ap (λ a. not (value x) && a) q ∙ morgan (value x) (list_any value xs) where
      morgan : (a b : Bool) → (not a && not b) ≡ not (a || b)
      morgan true b = refl
      morgan false b = refl

beq-true : (b : Bool) → beq b true ≡ b
beq-true true = refl
beq-true false = refl

beq-false : (b : Bool) → beq (not b) false ≡ b
beq-false true = refl
beq-false false = refl

-- one more node, whose children are marked
naming-entry : (d : Shared) (marks : List Bool) (n : ℕ) (w : Written) (e : Entry) → IsSound d → slice_get d.entries n ≡ Some e → Each (λ k. is_marked marks k ≡ true) (children e) → IsNaming d marks n w
    → IsNaming d marks (n + 1) (with_entry w e)
naming-entry d marks n w e s g under h = each e (λ keep. val-entry d keep n e s g) (s.fits n e g) under where
  each : (x : Entry) → ((keep : List Bool) → val d keep n ≡ entry_value keep (values keep d.entries) x) → Fits d.rows n x → Each (λ k. is_marked marks k ≡ true) (children x) → IsNaming d marks (n + 1) (with_entry w x)
  each Yes v f u = naming-gate d marks n w true [] h (λ l b. absurd (cc)) (λ keep bools a m. sym (v keep))
  each No v f u = naming-gate d marks n w false [] h (λ l b. absurd (cc)) (λ keep bools a m. sym (v keep))
  each (Row r) v f u =
      let b = f.row 0 0 (omega arith) in
      naming-name d marks n w (record { var = r; on = true }) h (λ q. let o = h.over.wider in omega (arith, o, b)) (λ keep bools a m q. beq-true (slice_index_or bools r false) ∙ sym (a r b) ∙ sym (v keep))
  each (Not x) v f u =
      let b = f.below 0 0 (omega arith) in
      let t = u 0 0 (omega arith) in
      naming-name d marks n w (negated (name_at w.names x)) h (λ q. h.low x b t) (λ keep bools a m q. lit_true-negated bools (name_at w.names x) ∙ ap not (h.means keep bools a m x b t) ∙ sym (v keep))
  each (All of) v f u =
      naming-gate d marks n w true (map (named_by w.names true) of) h (members-below w.names true w.next marks n h.low of f.below u)
      (λ keep bools a m. beq-true _ ∙ members-all w.names bools (bool_at (values keep d.entries)) marks n (h.means keep bools a m) of f.below u ∙ sym (v keep))
  each (Any of) v f u =
      naming-gate d marks n w false (map (named_by w.names false) of) h (members-below w.names false w.next marks n h.low of f.below u)
      (λ keep bools a m. ap (λ x. beq x false) (members-any w.names bools (bool_at (values keep d.entries)) marks n (h.means keep bools a m) of f.below u) ∙ beq-false _ ∙ sym (v keep))

-- one more node, marked or not
pub naming-step : (d : Shared) (goal : ℕ) (marks : List Bool) (n : ℕ) (w : Written) (e : Entry) (marked : Bool) → IsSound d → slice_get d.entries n ≡ Some e → AreUnder d goal marks → n ≤ goal → marked ≡ is_marked marks n
    → IsNaming d marks n w → IsNaming d marks (n + 1) (with_node marked w e)
naming-step d goal marks n w e true s g u b q h = naming-entry d marks n w e s g (u.closed n e (omega arith) b g (sym q)) h
naming-step d goal marks n w e false s g u b q h = naming-name d marks n w (record { var = 0; on = false }) h (λ t. absurd (cc)) (λ keep bools a m t. absurd (cc))

-- the lines with the goal
abbrev pub goal_line : List (List Literal) → Literal → List (List Literal)
goal_line lines l = lines ++ (l ∷ []) ∷ []

pub goal-below : (d : Shared) (marks : List Bool) (n k : ℕ) (w : Written) → IsNaming d marks n w → is_marked marks k ≡ true → k < n → AreBelow w.next (goal_line w.lines (name_at w.names k))
goal-below d marks n k w h u b =
    each-append (IsBelow w.next) w.lines ((name_at w.names k ∷ []) ∷ []) (h.over.below (each-none (IsBelow d.rows)))
    (each-cons (IsBelow w.next) (name_at w.names k ∷ []) [] here (each-none (IsBelow w.next))) where
      here : (l : Literal) → has (name_at w.names k ∷ []) l ≡ true → l.var < w.next
      here l g = elim (has-cases (name_at w.names k) l [] g) [ inl e ↦ (let P : ℕ → Type 0 = λ v. v < w.next in subst P (ap (λ (j : Literal). j.var) (sym e)) (h.low k b u)) | inr c ↦ absurd (cc) ]

pub goal-complete : (d : Shared) (marks : List Bool) (n k : ℕ) (w : Written) → IsNaming d marks n w → is_marked marks k ≡ true → k < n → (keep : List Bool) → length keep ≡ d.rows → val d keep k ≡ true
    → (bools : List Bool) × (length bools ≡ w.next) × AgreeBelow d.rows keep bools × IsModel (goal_line w.lines (name_at w.names k)) bools
goal-complete d marks n k w h u b keep l v =
    let e = h.over.extends (each-none (IsBelow d.rows)) keep l (each-none (IsTrueAt keep)) in
    let bools = keep ++ e.0 in
    let agree : AgreeBelow d.rows keep bools = λ x g. sym (index-front keep e.0 x (omega (arith, g, l))) in
    let t = h.means keep bools agree e.2 k b u ∙ v in (
      bools,
      e.1,
      agree,
      each-append (IsTrueAt bools) w.lines ((name_at w.names k ∷ []) ∷ []) e.2
          (each-cons (IsTrueAt bools) (name_at w.names k ∷ []) [] (ap (λ x. x || false) t) (each-none (IsTrueAt bools))),
    )

-- a model makes the literal of the goal's line true
pub goal-literal : (lines : List (List Literal)) (l : Literal) (bools : List Bool) → IsModel (goal_line lines l) bools → lit_true bools l ≡ true
goal-literal lines l bools m = alone (lit_true bools l) (each-head (IsTrueAt bools) (l ∷ []) [] (each-back (IsTrueAt bools) lines ((l ∷ []) ∷ []) m)) where
  alone : (x : Bool) → (x || false) ≡ true → x ≡ true
  alone true h = refl
  alone false h = cc

pub goal-sound : (d : Shared) (marks : List Bool) (n k : ℕ) (w : Written) → IsNaming d marks n w → is_marked marks k ≡ true → k < n → (keep bools : List Bool) → AgreeBelow d.rows keep bools → IsModel (goal_line w.lines (name_at w.names k)) bools → val d keep k ≡ true
goal-sound d marks n k w h u b keep bools a m =
    sym (h.means keep bools a (model-older w.lines ((name_at w.names k ∷ []) ∷ []) bools m) k b u) ∙ goal-literal w.lines (name_at w.names k) bools m

pub goal-determined : (d : Shared) (marks : List Bool) (n k : ℕ) (w : Written) → IsNaming d marks n w → Determined (goal_line w.lines (name_at w.names k)) d.rows w.next
goal-determined d marks n k w h set c g = h.over.determined d.rows (λ s x y. y) set (closed-front w.lines ((name_at w.names k ∷ []) ∷ []) set c) g
