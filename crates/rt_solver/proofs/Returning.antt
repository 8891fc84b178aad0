-- The step back after a conflict.
use Rattle.std.proofs.Common.{◌≡◌, ◌≢◌, ℕ, zero, suc, ◌-◌, length-append, ◌<◌, ◌≤◌, true, false, List, [], ◌∷◌, ◌++◌, length, map, reverse, refl, sym, ap, subst, ◌∙◌, ◌⊎◌, inl, inr, Option, Some, None, IfSome, arith}
use Rattle.std.proofs.lemmas.List.{reverse-append}
use Rattle.std.specs.Option.{option_to_list}
use Rattle.rt_clause.specs.Literal.{Literal, negated}
use Rattle.rt_clause.specs.Lists.{has, line_at, IsMet, Fresh, HasNoRepeat}
use Rattle.rt_clause.proofs.Literals.{has-head, has-tail, has-cases, has-append_left, has-append_right, has-append_cases, negated-twice}
use Rattle.rt_store.specs.declared.trail.Step.{Step}
use Rattle.rt_store.specs.declared.trail.Why.{Why}
use Rattle.rt_store.specs.declared.trail.Why.TheVariants.{Line, Decided, Assumed}
use Rattle.rt_store.specs.Trail.{lits, value_in, IsApart, IsUnit, RestsOn, BeforeDecisions, decisions, decided_by, digit}
use Rattle.rt_solver.specs.Analysis.{causes, clause_of, IsChoice, AreChosen, Lacks}
use Rattle.rt_solver.specs.Looking.{IsBelow, AreBelow}
use Rattle.rt_solver.specs.Search.{IsReady, GoesOn, DecidesBelow}
use Rattle.rt_store.proofs.Number.{distance-grows, number-grows, count-fits}
use Rattle.rt_store.proofs.FreshLaws.{first_law, absent-lit, founded-above, apart-above, founded-push, met-before}
use Rattle.rt_solver.proofs.Queues.{before-map}

subst-has : (t : List Step) (a b : Literal) → a ≡ b → has (lits t) a ≡ true → has (lits t) b ≡ true
subst-has t a b e h = let P : Literal → Type 0 = λ k. has (lits t) k ≡ true in subst P e h

-- the found literals are among those of the trail
pub chosen-has : (first : ℕ) (ds : List Literal) (t : List Step) → AreChosen first ds t → (l : Literal) → has ds l ≡ true → has (lits t) l ≡ true
chosen-has first [] t h l g = absurd (cc)
chosen-has first (d ∷ ds) [] h l g = absurd h
chosen-has first (d ∷ ds) (s ∷ t) h l g = elim h [
  | inl a ↦ elim (has-cases d l ds g) [
    | inl e ↦ subst-has (s ∷ t) s.lit l (sym (e ∙ a.0)) (has-head s.lit (lits t))
    | inr r ↦ has-tail s.lit l (lits t) (chosen-has first ds t a.2 l r)
  ]
  | inr b ↦ has-tail s.lit l (lits t) (chosen-has first (d ∷ ds) t b l g)
]

-- the learned clause, literal by literal
pub reverse-has : (xs : List Literal) (l : Literal) → has (reverse xs) l ≡ true → has xs l ≡ true
reverse-has [] l h = h
reverse-has (x ∷ xs) l h = let P : List Literal → Type 0 = λ ys. has ys l ≡ true in elim (has-append_cases (reverse xs) (x ∷ []) l (subst P (reverse-append (x ∷ []) xs) h)) [
  | inl a ↦ has-tail x l xs (reverse-has xs l a)
  | inr b ↦ elim (has-cases x l [] b) [ inl e ↦ (let Q : Literal → Type 0 = λ k. has (x ∷ xs) k ≡ true in subst Q (sym e) (has-head x xs)) | inr c ↦ absurd (cc) ]
]

pub has-reverse : (xs : List Literal) (l : Literal) → has xs l ≡ true → has (reverse xs) l ≡ true
has-reverse [] l h = h
has-reverse (x ∷ xs) l h = let P : List Literal → Type 0 = λ ys. has ys l ≡ true in subst P (sym (reverse-append (x ∷ []) xs)) (elim (has-cases x l xs h) [
  | inl e ↦ has-append_right (reverse xs) (x ∷ []) l (let Q : Literal → Type 0 = λ k. has (x ∷ []) k ≡ true in subst Q (sym e) (has-head x []))
  | inr r ↦ has-append_left (reverse xs) (x ∷ []) l (has-reverse xs l r)
])

pub map-has : (xs : List Literal) (l : Literal) → has xs l ≡ true → has (map negated xs) (negated l) ≡ true
map-has [] l h = absurd (cc)
map-has (x ∷ xs) l h = elim (has-cases x l xs h) [
  | inl e ↦ (let Q : Literal → Type 0 = λ k. has (map negated (x ∷ xs)) (negated k) ≡ true in subst Q (sym e) (has-head (negated x) (map negated xs)))
  | inr r ↦ has-tail (negated x) (negated l) (map negated xs) (map-has xs l r)
]

pub has-map : (xs : List Literal) (l : Literal) → has (map negated xs) l ≡ true → has xs (negated l) ≡ true
has-map [] l h = h
has-map (x ∷ xs) l h = elim (has-cases (negated x) l (map negated xs) h) [
  | inl e ↦ (let Q : Literal → Type 0 = λ k. has (x ∷ xs) k ≡ true in subst Q (sym (ap negated e ∙ negated-twice x)) (has-head x xs))
  | inr r ↦ has-tail x (negated l) xs (has-map xs l r)
]

cause-cases : (late : Literal) (ds : List Literal) (assume : Option Literal) (l : Literal) → has (causes (late ∷ ds) assume) l ≡ true → (l ≡ late) ⊎ (has ds l ≡ true) ⊎ (assume ≡ Some l)
cause-cases late ds assume l h = elim (has-append_cases (reverse (late ∷ ds)) (option_to_list assume) l h) [
  | inl a ↦ elim (has-cases late l ds (reverse-has (late ∷ ds) l a)) [ inl e ↦ inl e | inr r ↦ inr (inl r) ]
  | inr b ↦ inr (inr (opt assume b))
] where
  opt : (o : Option Literal) → has (option_to_list o) l ≡ true → o ≡ Some l
  opt None g = absurd (cc)
  opt (Some a) g = elim (has-cases a l [] g) [ inl e ↦ ap Some (sym e) | inr c ↦ absurd (cc) ]

-- the new line is unit under the part that is kept
pub learned-unit : (first : ℕ) (late : Literal) (ds : List Literal) (assume : Option Literal) (kept : List Step) → AreChosen first ds kept → IfSome assume (λ a. has (lits kept) a ≡ true)
    → IsUnit (clause_of (late ∷ ds) assume) (lits kept) (negated late)
learned-unit first late ds assume kept d a = record {
  among = map-has (causes (late ∷ ds) assume) late (has-append_left (reverse (late ∷ ds)) (option_to_list assume) late (has-reverse (late ∷ ds) late (has-head late ds)));
  others = λ k h. elim (cause-cases late ds assume (negated k) (has-map (causes (late ∷ ds) assume) k h)) [
    | inl e ↦ inl (sym (negated-twice k) ∙ ap negated e)
    | inr r ↦ elim r [
      | inl x ↦ inr (chosen-has first ds kept d (negated k) x)
      | inr y ↦ inr (let P : Option Literal → Type 0 = λ o. IfSome o (λ b. has (lits kept) b ≡ true) in subst P y a)
    ]
  ];
}

-- and it is met before each decision there
pub learned-met : (first m : ℕ) (late : Literal) (ds : List Literal) (assume : Option Literal) (kept : List Step) → IsApart m kept → value_in kept late.var ≡ None → AreChosen first ds kept → BeforeDecisions (Lacks ds) kept
    → BeforeDecisions (λ set. IsMet set (clause_of (late ∷ ds) assume)) kept
learned-met first m late [] assume kept a v c o = before-map (Lacks []) (λ set. IsMet set (clause_of (late ∷ []) assume)) kept (λ set h. absurd h) o
learned-met first m late (d ∷ ds) assume kept a v c o =
    let out = absent-lit kept late v in
    let cause = λ (l : Literal) (h : has (late ∷ d ∷ ds) l ≡ true). map-has (causes (late ∷ d ∷ ds) assume) l (has-append_left (reverse (late ∷ d ∷ ds)) (option_to_list assume) l (has-reverse (late ∷ d ∷ ds) l h)) in
    met-before m kept (clause_of (late ∷ d ∷ ds) assume) late d a (before-map (Lacks (d ∷ ds)) (λ set. has set d ≡ false) kept (λ set h. h) o) out
    (λ q. let i = chosen-has first (d ∷ ds) kept c d (has-head d ds) in let P : Literal → Type 0 = λ k. has (lits kept) k ≡ false in let o = subst P q out in cc)
    (cause late (has-head late (d ∷ ds))) (cause d (has-tail late d (d ∷ ds) (has-head d ds)))

pub has-var : (m : ℕ) (t : List Step) (l : Literal) → IsApart m t → has (lits t) l ≡ true → l.var < m
has-var m [] l a h = absurd (cc)
has-var m (s ∷ t) l a h = elim (has-cases s.lit l (lits t) h) [
  | inl e ↦ (let P : Literal → Type 0 = λ k. k.var < m in subst P (sym e) a.0)
  | inr r ↦ has-var m t l a.2 r
]

-- no variable is twice among the found
pub chosen-distinct : (first m : ℕ) (ds : List Literal) (t : List Step) → IsApart m t → AreChosen first ds t → HasNoRepeat ds
chosen-distinct first m [] t a h = tt
chosen-distinct first m (d ∷ ds) [] a h = absurd h
chosen-distinct first m (d ∷ ds) (s ∷ t) a h = elim h [
  | inl b ↦ (
    (λ k g q. let i = chosen-has first ds t b.2 k g in
        let v : value_in t k.var ≡ None = (let e : s.lit.var ≡ k.var = ap (λ (j : Literal). j.var) (sym b.0) ∙ sym q in let P : ℕ → Type 0 = λ n. value_in t n ≡ None in subst P e a.1) in
        let n = absent-lit t k v in cc),
    chosen-distinct first m ds t a.2 b.2,
  )
  | inr b ↦ chosen-distinct first m (d ∷ ds) t a.2 b
]

norepeat-snoc : (xs : List Literal) (l : Literal) → HasNoRepeat xs → ((k : Literal) → has xs k ≡ true → k.var ≢ l.var) → HasNoRepeat (xs ++ l ∷ [])
norepeat-snoc [] l h n = ((λ k g. absurd (cc)), tt)
norepeat-snoc (x ∷ xs) l h n = (
  (λ k g q. elim (has-append_cases xs (l ∷ []) k g) [
    | inl a ↦ h.0 k a q
    | inr b ↦ elim (has-cases l k [] b) [
      | inl e ↦ n x (has-head x xs) (sym q ∙ ap (λ (j : Literal). j.var) e)
      | inr c ↦ absurd (cc)
    ]
  ]),
  norepeat-snoc xs l h.1 (λ k g. n k (has-tail x k xs g)),
)

map-append : (xs ys : List Literal) → map negated (xs ++ ys) ≡ map negated xs ++ map negated ys
map-append [] ys = refl
map-append (x ∷ xs) ys = ap (λ zs. negated x ∷ zs) (map-append xs ys)

front-last : (late : Literal) (ds : List Literal) → map negated (reverse (late ∷ ds)) ≡ map negated (reverse ds) ++ negated late ∷ []
front-last late ds = ap (map negated) (reverse-append (late ∷ []) ds) ∙ map-append (reverse ds) (late ∷ [])

norepeat-clause : (ds : List Literal) → HasNoRepeat ds → HasNoRepeat (map negated (reverse ds))
norepeat-clause [] h = tt
norepeat-clause (d ∷ ds) h = let P : List Literal → Type 0 = HasNoRepeat in
    subst P (sym (front-last d ds)) (norepeat-snoc (map negated (reverse ds)) (negated d) (norepeat-clause ds h.1)
    (λ k g. h.0 (negated k) (reverse-has ds (negated k) (has-map (reverse ds) k g))))

pub line-end : (lines : List (List Literal)) (c : List Literal) → line_at (lines ++ c ∷ []) (length (lines ++ c ∷ []) - 1) ≡ c
line-end lines c = let e : length (lines ++ c ∷ []) - 1 ≡ length lines = (let l = length-append lines (c ∷ []) in omega (arith, l)) in ap (line_at (lines ++ c ∷ [])) e ∙ end lines where
  end : (xs : List (List Literal)) → line_at (xs ++ c ∷ []) (length xs) ≡ c
  end [] = refl
  end (x ∷ xs) = end xs

pub below-push : (m : ℕ) (lines : List (List Literal)) (c : List Literal) → AreBelow m lines → IsBelow m c → AreBelow m (lines ++ c ∷ [])
below-push m [] c a b zero h = b
below-push m [] c a b (suc i) h = absurd (omega arith)
below-push m (x ∷ xs) c a b zero h = a 0 (omega arith)
below-push m (x ∷ xs) c a b (suc i) h = below-push m xs c (λ k g. a (suc k) (omega arith)) b i (omega arith)

decision-more : (w : Why) (l k : Literal) (ds : List Literal) → has ds k ≡ true → has (decided_by w l ds) k ≡ true
decision-more (Line r) l k ds h = h
decision-more Decided l k ds h = has-tail l k ds h
decision-more Assumed l k ds h = h

-- what was chosen is below what bounds the first variables and each decision
pub chosen-below : (first n : ℕ) (ds : List Literal) (t : List Step) → first ≤ n → AreChosen first ds t → DecidesBelow n t → (l : Literal) → has ds l ≡ true → l.var < n
chosen-below first n [] t f h b l g = absurd (cc)
chosen-below first n (d ∷ ds) [] f h b l g = absurd h
chosen-below first n (d ∷ ds) (s ∷ t) f h b l g =
    let older : DecidesBelow n t = (λ k e. b k (decision-more s.why s.lit k (decisions t) e)) in
    elim h [
      | inl a ↦ elim (has-cases d l ds g) [
        | inl e ↦ (let q : l.var ≡ s.lit.var = ap (λ (k : Literal). k.var) (e ∙ a.0) in let x = here a.1 in omega (arith, q, x))
        | inr r ↦ chosen-below first n ds t f a.2 older l r
      ]
      | inr c ↦ chosen-below first n (d ∷ ds) t f c older l g
    ] where
      here : IsChoice first s → s.lit.var < n
      here c = elim c [
        | inl x ↦ omega (arith, x, f)
        | inr w ↦ b s.lit (let P : Why → Type 0 = λ y. has (decided_by y s.lit (decisions t)) s.lit ≡ true in subst P (sym w) (has-head s.lit (decisions t)))
      ]

decision-above : (above : List Step) (s : Step) (t : List Step) → s.why ≡ Decided → has (decisions (above ++ s ∷ t)) s.lit ≡ true
decision-above [] s t e = let P : Why → Type 0 = λ w. has (decided_by w s.lit (decisions t)) s.lit ≡ true in subst P (sym e) (has-head s.lit (decisions t))
decision-above (x ∷ xs) s t e = decision-more x.why x.lit s.lit (decisions (xs ++ s ∷ t)) (decision-above xs s t e)

-- older decisions are decisions
decisions-older : (above : List Step) (s : Step) (t : List Step) (l : Literal) → has (decisions t) l ≡ true → has (decisions (above ++ s ∷ t)) l ≡ true
decisions-older [] s t l h = decision-more s.why s.lit l (decisions t) h
decisions-older (x ∷ xs) s t l h = decision-more x.why x.lit l (decisions (xs ++ s ∷ t)) (decisions-older xs s t l h)

-- decisions are below what bounds every variable
pub decides-all : (m : ℕ) (t : List Step) → IsApart m t → (l : Literal) → has (decisions t) l ≡ true → l.var < m
decides-all m [] a l h = absurd (cc)
decides-all m (s ∷ t) a l h = each (λ g. decides-all m t a.2 l g) s.why h where
  each : (has (decisions t) l ≡ true → l.var < m) → (w : Why) → has (decided_by w s.lit (decisions t)) l ≡ true → l.var < m
  each older (Line r) g = older g
  each older Assumed g = older g
  each older Decided g = elim (has-cases s.lit l (decisions t) g) [ inl e ↦ (let P : Literal → Type 0 = λ k. k.var < m in subst P (sym e) a.0) | inr r ↦ older r ]

-- the whole step after a conflict
pub goes-on : (lines : List (List Literal)) (assume : Option Literal) (first m : ℕ) (above kept : List Step) (s : Step) (late : Literal) (ds : List Literal)
    → IsReady lines assume (record { steps = above ++ s ∷ kept; vars = m }) → AreChosen first (late ∷ ds) (above ++ s ∷ kept) → s.why ≡ Decided → value_in kept late.var ≡ None → AreChosen first ds kept → BeforeDecisions (Lacks ds) kept
    → (w : Why) → w ≡ Line (length (lines ++ clause_of (late ∷ ds) assume ∷ []) - 1)
    → GoesOn lines (lines ++ clause_of (late ∷ ds) assume ∷ []) assume first (record { steps = above ++ s ∷ kept; vars = m }) (record { steps = (record { lit = negated late; why = w }) ∷ kept; vars = m })
goes-on lines assume first m above kept s late ds r chosen sd v others o w we =
    let c = clause_of (late ∷ ds) assume in
    let new = lines ++ c ∷ [] in
    let apart-s = apart-above m above (s ∷ kept) r.apart in
    let fs = founded-above lines assume above (s ∷ kept) r.founded in
    let RP : Why → Type 0 = λ y. RestsOn lines assume kept s.lit y in
    let base = subst RP sd fs.0 in
    let met = learned-met first m late ds assume kept apart-s.2 v others o in
    let unit = learned-unit first late ds assume kept others base.1 in
    let late-in : has (lits (above ++ s ∷ kept)) late ≡ true = chosen-has first (late ∷ ds) (above ++ s ∷ kept) chosen late (has-head late ds) in
    let low : late.var < m = has-var m (above ++ s ∷ kept) late r.apart late-in in
    let UP : List Literal → Type 0 = λ y. IsUnit y (lits kept) (negated late) in
    let WP : Why → Type 0 = λ y. RestsOn new assume kept (negated late) y in
    let rests : RestsOn new assume kept (negated late) w = subst WP (sym we) ((let l = length-append lines (c ∷ []) in omega (arith, l)), subst UP (sym (line-end lines c)) unit) in
    let step : Step = record { lit = negated late; why = w } in
    let after-apart : IsApart m (step ∷ kept) = (low, v, apart-s.2) in
    record {
      ready = record {
        founded = (rests, founded-push lines c assume kept met fs.1);
        assumed = more assume base.1;
        below = below-push m lines c r.below (λ l h. elim (cause-cases late ds assume (negated l) (has-map (causes (late ∷ ds) assume) l h)) [
          | inl e ↦ (let e' : l.var ≡ late.var = ap (λ (j : Literal). j.var) e in omega (arith, e', low))
          | inr x ↦ elim x [
            | inl y ↦ has-var m (above ++ s ∷ kept) (negated l) r.apart (chosen-has first (late ∷ ds) (above ++ s ∷ kept) chosen (negated l) (has-tail late (negated l) ds y))
            | inr y ↦ has-var m kept (negated l) apart-s.2 (let P : Option Literal → Type 0 = λ o. IfSome o (λ b. has (lits kept) b ≡ true) in subst P y base.1)
          ]
        ]);
        apart = after-apart;
      };
      nearer = distance-grows m (above ++ s ∷ kept) (step ∷ kept) after-apart
          (number-grows m above kept s step sd (ap digit we) apart-s.0 low (count-fits m m (above ++ s ∷ kept) r.apart));
      below = λ k f b. (
        (λ l h. chosen-below first k (late ∷ ds) (above ++ s ∷ kept) f chosen b (negated l) (reverse-has (late ∷ ds) (negated l) (has-map (reverse (late ∷ ds)) l h))),
        (let KP : Why → Type 0 = λ y. (l : Literal) → has (decided_by y (negated late) (decisions kept)) l ≡ true → l.var < k in
            subst KP (sym we) (λ l h. b l (decisions-older above s kept l h))),
      );
      grew = λ k f b.
          let lo : late.var < k = chosen-below first k (late ∷ ds) (above ++ s ∷ kept) f chosen b late (has-head late ds) in
          let so : s.lit.var < k = b s.lit (decision-above above s kept sd) in
          number-grows k above kept s step sd (ap digit we) so lo (count-fits m k (above ++ s ∷ kept) r.apart);
      longer = record {
        clause = map negated (reverse (late ∷ ds));
        lines = ap (λ y. lines ++ y ∷ []) (map-append (reverse (late ∷ ds)) (option_to_list assume));
        fresh = (let FP : List Literal → Type 0 = λ y. Fresh lines assume y in let e = front-last late ds in
            subst FP (sym e) (first_law lines assume above kept s r.founded sd (map negated (reverse ds)) (negated late)
            (λ l h. chosen-has first ds kept others (negated l) (reverse-has ds (negated l) (has-map (reverse ds) l h))) v
            (let NP : List Literal → Type 0 = HasNoRepeat in subst NP e (norepeat-clause (late ∷ ds) (chosen-distinct first m (late ∷ ds) (above ++ s ∷ kept) r.apart chosen)))));
      };
    } where
      more : (o : Option Literal) → IfSome o (λ a. has (lits kept) a ≡ true) → IfSome o (λ a. has (negated late ∷ lits kept) a ≡ true)
      more None h = tt
      more (Some a) h = has-tail (negated late) a (lits kept) h
