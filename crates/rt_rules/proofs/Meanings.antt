-- What nodes mean stays as the formula grows, and is put together by gates.
use Rattle.std.proofs.Common.{◌≡◌, ℕ, zero, suc, ◌+◌, ◌<◌, ◌≤◌, Bool, true, false, cond, ◌&&◌, ◌||◌, List, [], ◌∷◌, ◌++◌, length, length-append, drop, get_or, append_assoc, refl, sym, subst, ap, arith, ◌∙◌}
use Rattle.std.proofs.lemmas.List.{append-nil}
use Rattle.std.proofs.lemmas.List.Elements.{All-append, All-cons, All-nil}
use Rattle.std.proofs.lemmas.List.Folds.{list_all-append}
use Rattle.std.specs.List.{list_all, list_any, All as Each}
use Rattle.rt_value.specs.declared.value.Value.{Value}
use Rattle.rt_value.specs.Row.{row_eq}
use Rattle.rt_schema.specs.Given.{Rows}
use Rattle.rt_schema.specs.Kept.{kept_rows}
use Rattle.rt_schema.specs.Cells.{cells}
use Rattle.rt_formula.specs.declared.entry.Entry.{Entry}
use Rattle.rt_formula.specs.Shared.{Shared, IsGrown, val, bool_at}
use Rattle.rt_formula.specs.Groups.{Grouped, group_at}
use Rattle.rt_formula.proofs.Meaning.{val-grown}
use Rattle.rt_formula.proofs.GroupLemmas.{at_is, at_same}
use Rattle.rt_rules.specs.Meaning.{Means, MeanAll, AreNodes, IsIndexed, IsNoted}
use Rattle.rt_rules.proofs.KeptLemmas.{since, since-at, any-kept}

pub grown-none : (d : Shared) → IsGrown d d
grown-none d = record { rows = refl; more = []; entries = sym (append-nil d.entries) }

pub grown-on : (a b c : Shared) → IsGrown a b → IsGrown b c → IsGrown a c
grown-on a b c g h = record {
  rows = h.rows ∙ g.rows;
  more = g.more ++ h.more;
  entries = h.entries ∙ ap (λ es. es ++ h.more) g.entries ∙ append_assoc a.entries g.more h.more;
}

pub below-grown : (old new : Shared) → IsGrown old new → (n : ℕ) → n < length old.entries → n < length new.entries
below-grown old new g n b = let e = ap (length {A = Entry}) g.entries ∙ length-append old.entries g.more in omega (arith, b, e)

pub each-grown : (old new : Shared) → IsGrown old new → (ns : List ℕ) → Each (λ n. n < length old.entries) ns → Each (λ n. n < length new.entries) ns
each-grown old new g ns b i d h = below-grown old new g _ (b i d h)

pub two-below : (m a b : ℕ) → a < m → b < m → Each (λ n. n < m) (a ∷ b ∷ [])
two-below m a b p q = All-cons (λ k. k < m) a (b ∷ []) p (All-cons (λ k. k < m) b [] q (All-nil (λ k. k < m)))

pub three-below : (m a b d : ℕ) → a < m → b < m → d < m → Each (λ n. n < m) (a ∷ b ∷ d ∷ [])
three-below m a b d p q r = All-cons (λ k. k < m) a (b ∷ d ∷ []) p (two-below m b d q r)

pub means-grown : (old new : Shared) → IsGrown old new → (n : ℕ) (f : List Bool → Bool) → Means old n f → Means new n f
means-grown old new g n f m = record { below = below-grown old new g n m.below; same = λ keep l. val-grown old new g keep n m.below ∙ m.same keep (l ∙ g.rows) }

all-same : (p q : ℕ → Bool) (ns : List ℕ) → Each (λ n. p n ≡ q n) ns → list_all p ns ≡ list_all q ns
all-same p q [] e = refl
all-same p q (n ∷ ns) e = let h = e 0 0 (omega arith) in let r = all-same p q ns (λ i d b. e (suc i) d (omega arith)) in cc

any-same : (p q : ℕ → Bool) (ns : List ℕ) → Each (λ n. p n ≡ q n) ns → list_any p ns ≡ list_any q ns
any-same p q [] e = refl
any-same p q (n ∷ ns) e = let h = e 0 0 (omega arith) in let r = any-same p q ns (λ i d b. e (suc i) d (omega arith)) in cc

pub all-grown : (old new : Shared) → IsGrown old new → (ns : List ℕ) (f : List Bool → Bool) → MeanAll old ns f → MeanAll new ns f
all-grown old new g ns f m = record {
  below = each-grown old new g ns m.below;
  same = λ keep l. all-same (val new keep) (val old keep) ns (λ i d h. val-grown old new g keep _ (m.below i d h)) ∙ m.same keep (l ∙ g.rows);
}

-- no clauses yet
pub clauses-none : (d : Shared) (f : List Bool → Bool) → ((keep : List Bool) → f keep ≡ true) → MeanAll d [] f
clauses-none d f t = record { below = λ i e h. absurd (omega arith); same = λ keep l. sym (t keep) }

-- one more clause
pub clauses-more : (old new : Shared) (ns : List ℕ) (n : ℕ) (f g h : List Bool → Bool) → IsGrown old new → MeanAll old ns f → Means new n g
    → ((keep : List Bool) → length keep ≡ new.rows → h keep ≡ (g keep && f keep)) → MeanAll new (ns ++ n ∷ []) h
clauses-more old new ns n f g h grown m one e =
    let kept = all-grown old new grown ns f m in
    record {
      below = All-append (λ k. k < length new.entries) ns (n ∷ []) kept.below last;
      same = λ keep l. list_all-append (val new keep) ns (n ∷ []) ∙ turned (list_all (val new keep) ns) (val new keep n) (f keep) (g keep) (kept.same keep l) (one.same keep l) ∙ sym (e keep l);
    } where
      last : (k d : ℕ) → k < length (n ∷ []) → get_or (n ∷ []) k d < length new.entries
      last zero d b = one.below
      last (suc k) d b = absurd (omega arith)

      turned : (a b x y : Bool) → a ≡ x → b ≡ y → (a && (b && true)) ≡ (y && x)
      turned true true x y p q = cc
      turned true false x y p q = by x y p q where
        by : (v w : Bool) → true ≡ v → false ≡ w → false ≡ (w && v)
        by v true p q = absurd (cc)
        by v false p q = refl
      turned false b x y p q = by x y p where
        by : (v w : Bool) → false ≡ v → false ≡ (w && v)
        by true w p = absurd (cc)
        by false true p = refl
        by false false p = refl

pub indexed-grown : (old new : Shared) → IsGrown old new → (groups : Grouped) (columns : List ℕ) (rows : Rows) (base : ℕ) → IsIndexed old groups columns rows base → IsIndexed new groups columns rows base
indexed-grown old new g groups columns rows base m = record {
  below = λ key. each-grown old new g (group_at groups key) (m.below key);
  same = λ keep l key. any-same (val new keep) (val old keep) (group_at groups key) (λ i d h. val-grown old new g keep _ (m.below key i d h)) ∙ m.same keep (l ∙ g.rows) key;
}

-- no rows yet
pub indexed-none : (d : Shared) (groups : Grouped) (columns : List ℕ) (rows : Rows) (base : ℕ) → ((key : List Value) → group_at groups key ≡ []) → rows ≡ [] → IsIndexed d groups columns rows base
indexed-none d groups columns rows base e r =
    let B : List ℕ → Type 0 = λ ns. Each (λ n. n < length d.entries) ns in
    let P : Rows → Type 0 = λ rs. (keep : List Bool) → length keep ≡ d.rows → (key : List Value) → list_any (val d keep) (group_at groups key) ≡ list_any (λ row. row_eq key (cells columns row)) (kept_rows rs (drop base keep)) in
    record {
      below = λ key. subst B (sym (e key)) (λ i x h. absurd (omega arith));
      same = subst P (sym r) (λ keep l key. ap (list_any (val d keep)) (e key));
    }

-- a row that is kept, or a row before it, is what its group says now
pub noted-one : (old new : Shared) (before after : Grouped) (columns : List ℕ) (row key : List Value) (place n : ℕ) → IsGrown old new → AreNodes old before → key ≡ cells columns row → n < length new.entries
    → ((q : List Value) → group_at after q ≡ cond (row_eq q key) (n ∷ []) (group_at before q)) → ((keep : List Bool) → val new keep n ≡ (bool_at keep place || list_any (val old keep) (group_at before key)))
    → IsNoted old new before after columns row place
noted-one old new before after columns row key place n grown nodes is here set means =
    let B : List ℕ → Type 0 = λ ns. Each (λ m. m < length new.entries) ns in
    record {
      below = λ q. subst B (sym (set q)) (one q (row_eq q key));
      same = λ keep l q. ap (list_any (val new keep)) (set q) ∙ by q keep (row_eq q key) refl ∙ ap (λ k. (bool_at keep place && row_eq q k) || list_any (val old keep) (group_at before q)) is;
    } where
      one : (q : List Value) (b : Bool) → Each (λ m. m < length new.entries) (cond b (n ∷ []) (group_at before q))
      one q true zero d h = here
      one q true (suc i) d h = absurd (omega (arith, h))
      one q false i d h = each-grown old new grown (group_at before q) (nodes q) i d h

      whole : (b v x : Bool) → v ≡ (b || x) → (v || false) ≡ ((b && true) || x)
      whole true true x e = refl
      whole true false x e = e
      whole false true x e = e
      whole false false x e = e

      none : (b x : Bool) → x ≡ ((b && false) || x)
      none true x = refl
      none false x = refl

      by : (q : List Value) (keep : List Bool) (b : Bool) → row_eq q key ≡ b → list_any (val new keep) (cond b (n ∷ []) (group_at before q)) ≡ ((bool_at keep place && b) || list_any (val old keep) (group_at before q))
      by q keep true e =
          whole (bool_at keep place) (val new keep n) (list_any (val old keep) (group_at before q))
          (means keep ∙ ap (λ k. bool_at keep place || list_any (val old keep) (group_at before k)) (at_same key q (at_is key q ∙ e)))
      by q keep false e =
          any-same (val new keep) (val old keep) (group_at before q) (λ i d h. val-grown old new grown keep _ (nodes q i d h))
          ∙ none (bool_at keep place) (list_any (val old keep) (group_at before q))

-- one more row
pub indexed-more : (old new : Shared) (before after : Grouped) (columns : List ℕ) (rows : Rows) (base at : ℕ) (row : List Value) → at < length rows → row ≡ get_or rows at row → base + length rows ≤ new.rows → IsGrown old new
    → IsIndexed old before columns (drop (at + 1) rows) (base + (at + 1)) → IsNoted old new before after columns row (base + at) → IsIndexed new after columns (drop at rows) (base + at)
indexed-more old new before after columns rows base at row h e w grown m noted = record {
  below = noted.below;
  same = λ keep l key.
      let b = bool_at keep (base + at) in
      let p = row_eq key (cells columns row) in
      noted.same keep l key
      ∙ ap (λ x. (b && p) || x) (m.same keep (l ∙ grown.rows) key)
      ∙ sym (any-kept (λ r. row_eq key (cells columns r)) b row (since rows base (at + 1) keep))
      ∙ ap (list_any (λ r. row_eq key (cells columns r))) (sym (since-at rows base at row keep h e (omega (arith, l, w, h))));
}

-- two nodes together
pub pair-means : (a b c : Shared) (x y n : ℕ) (f g h : List Bool → Bool) → IsGrown a b → IsGrown b c → Means a x f → Means b y g → n < length c.entries
    → ((keep : List Bool) → val c keep n ≡ list_all (val b keep) (x ∷ y ∷ [])) → ((keep : List Bool) → length keep ≡ c.rows → h keep ≡ (f keep && g keep)) → Means c n h
pair-means a b c x y n f g h ab bc mx my below v e = record {
  below = below;
  same = λ keep l.
      let k = l ∙ bc.rows in
      v keep ∙ both (val b keep x) (val b keep y) (f keep) (g keep) ((means-grown a b ab x f mx).same keep k) (my.same keep k) ∙ sym (e keep l);
} where
  both : (p q r s : Bool) → p ≡ r → q ≡ s → (p && (q && true)) ≡ (r && s)
  both p true r s u w = ap (λ z. z && true) u ∙ ap (λ z. r && z) w
  both p false r s u w = ap (λ z. z && false) u ∙ ap (λ z. r && z) w
