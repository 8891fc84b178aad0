-- A visit of the watches of a literal that became false.
use Rattle.std.proofs.Common.{◌≡◌, ℕ, zero, suc, ◌+◌, ◌*◌, ◌/◌, ◌%◌, ◌<◌, ◌≤◌, true, false, nat_lt, List, [], ◌∷◌, length, get_or, refl, sym, ap, subst, ◌∙◌, ◌⊎◌, inl, inr, Some, arith, rules, length-set, slice_set}
use Rattle.rt_clause.specs.Literal.{Literal, negated}
use Rattle.rt_clause.specs.Packed.{packed}
use Rattle.rt_clause.specs.Lists.{has, is_false, line_at}
use Rattle.rt_clause.proofs.Bools.{bool-cases}
use Rattle.rt_clause.proofs.Literals.{has-head, has-tail, has-cases, negated-twice}
use Rattle.rt_store.specs.declared.trail.Step.{Step}
use Rattle.rt_store.specs.declared.trail.Why.TheVariants.{Line}
use Rattle.rt_store.specs.Trail.{lits, BeforeDecisions}
use Rattle.rt_solver.specs.Looking.{HasTrue}
use Rattle.rt_store.specs.Same.{IsSame, AreSame}
use Rattle.rt_store.specs.Watching.{Listed, list_at, literal_in}
use Rattle.rt_solver.specs.Turning.{IsHeld, IsShifted}
use Rattle.rt_solver.specs.Propagating.{IsWatched, AreLeft, IsPart, AreWatchedBefore, IsQueued, IsPropagated, IsWatchOf, IsEntry, AreListed}
use Rattle.rt_solver.proofs.Listing.{place-in}
use Rattle.rt_solver.proofs.Shifting.{watch-within, literal-has, by-line}
use Rattle.rt_solver.proofs.Queues.{before-map, before-both, before-within, before-line, true-same, true-more, watched-more, watched-moved, same-trans, unit-same, propagated-step, all-refl, propagated-none}

-- the clauses of the entries of a list from a place on are met
abbrev pub AreMet : List (List Literal) → List Listed → ℕ → List Literal → Type 0
AreMet now entries i set = (k : ℕ) (e : Listed) → i ≤ k → k < length entries → e ≡ get_or entries k e → HasTrue set (line_at now (e.watch / 2))

-- how far a visit of a literal has come: the first entries of its list are left, so many
pub record IsVisit (first now : List (List Literal)) (lists : List (List Listed)) (home left : ℕ) (early : List Literal) (t0 t : List Step) : Type 0 where
  pub lit : Literal
  pub home_is : home ≡ packed lit
  pub same : AreSame first now
  pub listed : AreListed now lists
  pub before : AreWatchedBefore now t
  pub done : (n : ℕ) → n < length now → IsWatched early (lits t) (line_at now n)
  pub within : BeforeDecisions (λ set. IsPart set early) t
  pub denied : is_false (lits t) lit ≡ true
  pub early_in : IsPart early (lits t)
  pub met : AreMet now (list_at lists home) left (lits t)
  pub low : left ≤ length (list_at lists home)
  pub grown : IsPropagated first t0 t

-- the entry at a place, and its clause
pub entry-at : (first now : List (List Literal)) (lists : List (List Listed)) (home left i : ℕ) (early : List Literal) (t0 t : List Step) (e : Listed) → IsVisit first now lists home left early t0 t → i < length (list_at lists home) → e ≡ get_or (list_at lists home) i e → IsEntry now home e
entry-at first now lists home left i early t0 t e h b r = let P : Listed → Type 0 = IsEntry now home in subst P (sym r) (h.listed.entries home i e b)

-- a literal of the clause is true, and was so or became so
held-part : (c : List Literal) (t t' : List Step) (n : ℕ) (l : Literal) → IsHeld c t t' n l → IsPart (lits t) (lits t')
held-part c t t' n l h = elim h.steps [
  | inl e ↦ (λ k g. ap (λ x. has (lits x) k) e ∙ g)
  | inr e ↦ (λ k g. ap (λ x. has (lits x) k) e.0 ∙ has-tail l k (lits t) g)
]

held-step : (c : List Literal) (t t' : List Step) (n : ℕ) (l : Literal) (P : List Step → Type 0) → IsHeld c t t' n l → P t → ((x : Step) (m : ℕ) → x.why ≡ Line m → P (x ∷ t)) → P t'
held-step c t t' n l P h p f = elim h.steps [
  | inl e ↦ subst P (sym e) p
  | inr e ↦ subst P (sym e.0) (f (record { lit = l; why = Line n }) n refl)
]

pub visit-held : (first now : List (List Literal)) (lists new : List (List Listed)) (home left i : ℕ) (early : List Literal) (t0 t t' : List Step) (e : Listed) (l : Literal) → IsVisit first now lists home left early t0 t → left ≡ i + 1 → e ≡ get_or (list_at lists home) i e
    → IsHeld (line_at now (e.watch / 2)) t t' (e.watch / 2) l → AreListed now new → length (list_at new home) ≡ length (list_at lists home)
    → ((k : ℕ) (f : Listed) → f ≡ get_or (list_at new home) k f → (d : Listed) × (d ≡ get_or (list_at lists home) k d) × (d.watch ≡ f.watch))
    → IsVisit first now new home i early t0 t'
visit-held first now lists new home left i early t0 t t' e l h a r held listed len from = record {
  lit = h.lit;
  home_is = h.home_is;
  same = h.same;
  listed = listed;
  before = λ n g. held-step c t t' (e.watch / 2) l (λ x. BeforeDecisions (λ set. IsWatched set set (line_at now n)) x) held (h.before n g) (λ x m q. before-line (λ set. IsWatched set set (line_at now n)) x t m q (h.before n g));
  done = λ n g. watched-more early (lits t) (lits t') (line_at now n) more (h.done n g);
  within = held-step c t t' (e.watch / 2) l (λ x. BeforeDecisions (λ set. IsPart set early) x) held h.within (λ x m q. before-line (λ set. IsPart set early) x t m q h.within);
  denied = more (negated h.lit) h.denied;
  early_in = λ k g. more k (h.early_in k g);
  met = λ k f g s q. (
      let d = from k f q in
      let w : k < length (list_at lists home) = omega (arith, s, len) in
      let M : ℕ → Type 0 = λ w. HasTrue (lits t') (line_at now (w / 2)) in
      subst M d.2 (elim (bool-cases (nat_lt i k)) [
        | inl y ↦ (let z : i < k = search rules in true-more (lits t) (lits t') (line_at now (d.0.watch / 2)) more (h.met k d.0 (omega (arith, z, a)) w d.1))
        | inr n ↦ (let z : k ≡ i = (let o : k ≤ i = search rules in omega (arith, g, o)) in
            let x : d.0 ≡ e = read-one (list_at lists home) i d.0 e within (d.1 ∙ ap (λ j. get_or (list_at lists home) j d.0) z) r in
            subst M (ap (λ (y : Listed). y.watch) (sym x)) (l, held.among, held.true_now))
      ]));
  low = omega (arith, within, len);
  grown = elim held.steps [
    | inl q ↦ (let P : List Step → Type 0 = IsPropagated first t0 in subst P (sym q) h.grown)
    | inr q ↦ (
        let g = watch-within now e.watch home (entry-at first now lists home left i early t0 t e h within r).watch in
        let n : e.watch / 2 < length first = (let s = h.same.each in omega (arith, s, g)) in
        propagated-step first t0 t t' (record { lit = l; why = Line (e.watch / 2) }) h.grown
        (record { line = e.watch / 2; why = refl; within = n; unit = unit-same (line_at first (e.watch / 2)) c (lits t) l (h.same.same (e.watch / 2) n) q.1 }) q.0)
  ];
} where
  c : List Literal
  c = line_at now (e.watch / 2)

  within : i < length (list_at lists home)
  within = let b = h.low in omega (arith, a, b)

  more : IsPart (lits t) (lits t')
  more = held-part (line_at now (e.watch / 2)) t t' (e.watch / 2) l held

  read-one : (es : List Listed) (j : ℕ) (x y : Listed) → j < length es → x ≡ get_or es j x → y ≡ get_or es j y → x ≡ y
  read-one [] j x y g p q = absurd (omega (arith, g))
  read-one (z ∷ es) zero x y g p q = p ∙ sym q
  read-one (z ∷ es) (suc j) x y g p q = read-one es j x y (omega (arith, g)) p q

-- another literal is watched
pub visit-shift : (first now new : List (List Literal)) (lists after : List (List Listed)) (home left i j : ℕ) (early : List Literal) (t0 t : List Step) → IsVisit first now lists home left early t0 t → left ≡ i + 1 → (s : IsShifted now new lists after home i j) → is_false (lits t) s.lit ≡ false
    → IsVisit first new after home i early t0 t
visit-shift first now new lists after home left i j early t0 t h a s usable =
    let V : List (List Literal) → Type 0 = λ x. AreListed x after → IsVisit first x after home i early t0 t in
    subst V (sym s.lines) (λ listed. record {
      lit = h.lit;
      home_is = h.home_is;
      same = record {
        each = h.same.each ∙ sym (length-set now n s.clause);
        same = λ k g. line k (λ d. IsSame (line_at first k) d) (h.same.same k g) (λ e. same-trans (line_at first k) (line_at now n) s.clause (let P : ℕ → Type 0 = λ x. IsSame (line_at first k) (line_at now x) in subst P e (h.same.same k g)) s.moved.same);
      };
      listed = listed;
      before = λ k g. line k (λ d. BeforeDecisions (λ set. IsWatched set set d) t) (h.before k (inside k g)) (λ e. moved-before);
      done = λ k g. line k (λ d. IsWatched early (lits t) d) (h.done k (inside k g)) (λ e. moved-watched early (lits t) h.early_in (h.done n within));
      within = h.within;
      denied = h.denied;
      early_in = h.early_in;
      met = λ k e g z r. line (e.watch / 2) (λ d. HasTrue (lits t) d) (old-met k e g z r) (λ q. true-same (lits t) (line_at now n) s.clause s.moved.same (let P : ℕ → Type 0 = λ x. HasTrue (lits t) (line_at now x) in subst P q (old-met k e g z r)));
      low = (let x = s.shorter in omega (arith, inner, x));
      grown = h.grown;
    }) s.listed where
      n : ℕ
      n = s.entry.watch / 2

      inner : i < length (list_at lists home)
      inner = let b = h.low in omega (arith, a, b)

      within : s.entry.watch / 2 < length now
      within = watch-within now s.entry.watch home (entry-at first now lists home left i early t0 t s.entry h inner s.at).watch

      inside : (k : ℕ) → k < length (slice_set now (s.entry.watch / 2) s.clause) → k < length now
      inside k g = let e = length-set now (s.entry.watch / 2) s.clause in omega (arith, e, g)

      line : (k : ℕ) (P : List Literal → Type 0) → P (line_at now k) → (k ≡ s.entry.watch / 2 → P s.clause) → P (line_at (slice_set now (s.entry.watch / 2) s.clause) k)
      line k P p f = by-line now (s.entry.watch / 2) s.clause k P within p f

      old-met : (k : ℕ) (e : Listed) → i ≤ k → k < length (list_at after home) → e ≡ get_or (list_at after home) k e → HasTrue (lits t) (line_at now (e.watch / 2))
      old-met k e g z r = let d = s.behind k e g z r in h.met d.0 e (let b = d.1 in omega (arith, a, b)) d.2 d.3

      moved-watched : (e set : List Literal) → IsPart e (lits t) → IsWatched e set (line_at now (s.entry.watch / 2)) → IsWatched e set s.clause
      moved-watched e set pe x = watched-moved t e set (line_at now (s.entry.watch / 2)) s.clause (s.entry.watch % 2) s.lit (omega arith) s.moved usable pe x

      moved-before : BeforeDecisions (λ set. IsWatched set set s.clause) t
      moved-before = before-map (λ set. IsWatched set set (line_at now (s.entry.watch / 2)) × IsPart set (lits t)) (λ set. IsWatched set set s.clause) t (λ set p. moved-watched set set p.1 p.0)
          (before-both (λ set. IsWatched set set (line_at now (s.entry.watch / 2))) (λ set. IsPart set (lits t)) t (h.before (s.entry.watch / 2) within) (before-within (lits t) t (λ k g. g)))

-- a visit begins
pub visit-begin : (first : List (List Literal)) (lists : List (List Listed)) (home left : ℕ) (s : Step) (l : Literal) (early t : List Step) → left ≡ length (list_at lists home) → home ≡ packed l → l ≡ negated s.lit → IsPart (lits (s ∷ early)) (lits t) → AreListed first lists → IsQueued first (lits early) t → IsVisit first first lists home left (lits early) t t
visit-begin first lists home left s l early t a e f part h q = record {
  lit = l;
  home_is = e;
  same = all-refl first;
  listed = h;
  before = q.before;
  done = q.done;
  within = q.within;
  denied = ap (λ k. has (lits t) (negated k)) f ∙ ap (has (lits t)) (negated-twice s.lit) ∙ part s.lit (has-head s.lit (lits early));
  early_in = λ k g. part k (has-tail s.lit k (lits early) g);
  met = λ k d g b r. absurd (omega (arith, a, g, b));
  low = omega (arith, a);
  grown = propagated-none first t;
}

-- one step more is propagated, where each clause with a watch of its negation is met
promote : (now : List (List Literal)) (n : ℕ) (p : Literal) (early set : List Literal) → ((v : ℕ) → IsWatchOf now v (packed (negated p)) → HasTrue set (line_at now (v / 2))) → IsWatched early set (line_at now n) → IsWatched (p ∷ early) set (line_at now n)
promote now n p early set f w = elim w [ inl x ↦ inl x | inr y ↦ by (line_at now n) refl y ] where
  met : (c : List Literal) (r : ℕ) (x : Literal) → r < 2 → line_at now n ≡ c → literal_in c r ≡ Some x → p ≡ negated x → HasTrue set c
  met c r x b e q z =
      let half : (2 * n + r) / 2 ≡ n = omega (arith, b) in
      let rest : (2 * n + r) % 2 ≡ r = omega (arith, b) in
      let P : ℕ → Type 0 = λ m. HasTrue set (line_at now m) in
      let Q : List Literal → Type 0 = λ d. HasTrue set d in
      subst Q e (subst P half (f (2 * n + r) (record {
        lit = x;
        at = ap (λ k. literal_in (line_at now k) ((2 * n + r) % 2)) half ∙ ap (literal_in (line_at now n)) rest ∙ ap (λ d. literal_in d r) e ∙ q;
        home = ap packed (sym (negated-twice x) ∙ ap negated (sym z));
      })))

  both : (c : List Literal) (a b : Literal) → (p ≡ negated a → HasTrue set c) → (p ≡ negated b → HasTrue set c) → is_false early a ≡ false → is_false early b ≡ false → HasTrue set c ⊎ ((is_false (p ∷ early) a ≡ false) × (is_false (p ∷ early) b ≡ false))
  both c a b fa fb na nb = elim (one a na) [
    | inl x ↦ inl (fa x)
    | inr x ↦ elim (one b nb) [ inl y ↦ inl (fb y) | inr y ↦ inr (x, y) ]
  ] where
    one : (l : Literal) → is_false early l ≡ false → (p ≡ negated l) ⊎ (is_false (p ∷ early) l ≡ false)
    one l m = elim (bool-cases (is_false (p ∷ early) l)) [
      | inl y ↦ elim (has-cases p (negated l) early y) [ inl q ↦ inl (sym q) | inr r ↦ absurd (cc) ]
      | inr y ↦ inr y
    ]

  by : (c : List Literal) → line_at now n ≡ c → AreLeft early c → IsWatched (p ∷ early) set c
  by [] e y = absurd y
  by (a ∷ []) e y = absurd y
  by (a ∷ b ∷ c) e y = both (a ∷ b ∷ c) a b (met (a ∷ b ∷ c) 0 a (omega arith) e refl) (met (a ∷ b ∷ c) 1 b (omega arith) e refl) y.0 y.1

pub queue-more : (now : List (List Literal)) (s : Step) (early : List Literal) (t : List Step) → AreWatchedBefore now t → ((n : ℕ) → n < length now → IsWatched early (lits t) (line_at now n)) → BeforeDecisions (λ set. IsPart set early) t
    → ((v : ℕ) → IsWatchOf now v (packed (negated s.lit)) → HasTrue (lits t) (line_at now (v / 2))) → IsQueued now (s.lit ∷ early) t
queue-more now s early t b d w f = record {
  before = b;
  done = λ n g. promote now n s.lit early (lits t) f (d n g);
  within = before-map (λ set. IsPart set early) (λ set. IsPart set (s.lit ∷ early)) t (λ set p l g. has-tail s.lit l early (p l g)) w;
}

-- a visit ends
pub visit-end : (first now : List (List Literal)) (lists : List (List Listed)) (home : ℕ) (s : Step) (l : Literal) (left : ℕ) (early : List Literal) (t0 t : List Step) → home ≡ packed l → l ≡ negated s.lit → IsVisit first now lists home left early t0 t → left ≤ 0 → IsQueued now (s.lit ∷ early) t
visit-end first now lists home s l left early t0 t q f h b = queue-more now s early t h.before h.done h.within (λ v w.
    let W : ℕ → Type 0 = IsWatchOf now v in
    let p = place-in v (list_at lists home) (h.listed.once home v (subst W (ap packed (sym f) ∙ sym q) w)) in
    let x = some (list_at lists home) p.0 p.1 in
    let P : ℕ → Type 0 = λ u. HasTrue (lits t) (line_at now (u / 2)) in
    subst P (ap (λ (y : Listed). y.watch) x.1 ∙ p.2 x.0) (h.met p.0 x.0 (omega (arith, b)) p.1 x.1)) where
      some : (es : List Listed) (j : ℕ) → j < length es → (e : Listed) × (e ≡ get_or es j e)
      some [] j z = absurd (omega (arith, z))
      some (e ∷ es) zero z = (e, refl)
      some (e ∷ es) (suc j) z = some es j (omega (arith, z))

-- no watch has the literal
pub visit-none : (now : List (List Literal)) (lists : List (List Listed)) (s : Step) (early : List Literal) (t : List Step) → AreListed now lists → IsQueued now early t → length lists ≤ packed (negated s.lit) → IsQueued now (s.lit ∷ early) t
visit-none now lists s early t h q b = queue-more now s early t q.before q.done q.within
    (λ v i. absurd (let n = watch-within now v (packed (negated s.lit)) i in let x = h.wide (v / 2) n i.lit (literal-has (line_at now (v / 2)) (v % 2) i.lit i.at) in let e = i.home in omega (arith, x, e, b)))
