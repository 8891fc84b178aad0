-- A loop that notes one row after the other.
use Rattle.std.proofs.Common.{◌≡◌, ℕ, zero, suc, ◌+◌, ◌<◌, Bool, ◌&&◌, List, [], ◌∷◌, ◌++◌, length, drop, get_or, Bor, slice_set, map, refl, sym, subst, ap, ap₂, arith, ◌∙◌, add_assoc, add-one, add-zero, zero-add, ◌≤◌}
use mathlib.Core.Path.{fun_ext}
use Rattle.std.proofs.Math.Seq.{drop-cons}
use Rattle.std.proofs.lemmas.List.{append_assoc, map-append}
use Rattle.std.proofs.lemmas.List.Elements.{All-append}
use Rattle.rt_value.specs.declared.value.Value.{Value}
use Rattle.rt_schema.specs.Given.{Rows, Tables}
use Rattle.rt_algebra.specs.Expression.{wrapped, Env, row_by}
use Rattle.rt_algebra.specs.declared.expr.Expr.{Expr}
use Rattle.rt_schema.specs.Given.{places, base_of}
use Rattle.rt_formula.specs.Shared.{Shared, IsGrown, val, bool_at}
use Rattle.rt_formula.proofs.Meaning.{val-grown}
use Rattle.rt_noted.specs.Entries.{Formula, Test, Entry, selected, join_entry, paired, projected, head, tail, of_rows, of_table}
use Rattle.rt_formula.specs.declared.noted.Noted.{Noted}
use Rattle.rt_noted.specs.Annotated.{formula, entry_of, entries_of, AreNoted, IsNode, Along, placed, projected_rows}
use Rattle.rt_noted.proofs.Growing.{grown_trans, noted_stay, entries_stay}

pub entry_is : (d : Shared) (n : Noted) (r : List Value) (f : Formula) → n.row ≡ r → IsNode d n.node f → entry_of d n ≡ (r, f)
entry_is d n r f e i = let p : formula d n.node ≡ f = fun_ext i.same in ap₂ (λ (x : List Value) (h : Formula). (x, h)) e p

one_noted : (d : Shared) (n : Noted) → n.node < length d.entries → AreNoted d (n ∷ [])
one_noted d n l zero e h = l
one_noted d n l (suc k) e h = absurd (omega arith)

pub noted_push : (d : Shared) (out : List Noted) (n : Noted) → AreNoted d out → n.node < length d.entries → AreNoted d (out ++ n ∷ [])
noted_push d out n b l = All-append (λ (m : Noted). m.node < length d.entries) out (n ∷ []) b (one_noted d n l)

-- the next entry is noted
pub along_push : {old now next : Shared} {out new : List Noted} {rest more whole : List Entry} (n : Noted) (r : List Value) (f : Formula)
    → Along old now out rest whole → rest ≡ (r, f) ∷ more → IsGrown now next → n.row ≡ r → IsNode next n.node f → new ≡ out ++ n ∷ [] → Along old next new more whole
along_push {old} {now} {next} {out} {new} {rest} {more} {whole} n r f a c g e i q =
    let P : List Noted → Type 0 = λ ns. Along old next ns more whole in
    subst P (sym q) (record {
      grown = grown_trans a.grown g;
      below = noted_push next out n (noted_stay g out a.below) i.below;
      same = ap (λ es. es ++ more) (map-append (entry_of next) out (n ∷ [])) ∙ append_assoc (entries_of next out) (entry_of next n ∷ []) more
          ∙ ap₂ (λ (es : List Entry) (x : Entry). es ++ (x ∷ more)) (entries_stay g out a.below) (entry_is next n r f e i)
          ∙ ap (λ es. entries_of now out ++ es) (sym c) ∙ a.same;
    })

pub next_is : {X : Type 0} (xs : List X) (i : ℕ) (x : X) → i < length xs → x ≡ get_or xs i x → drop i xs ≡ x ∷ drop (i + 1) xs
next_is xs i x l e = drop-cons xs i x l ∙ ap₂ ◌∷◌ (sym e) (ap (λ k. drop k xs) (sym (add-one i)))

-- a gate of two nodes, the first of an older Dag
pub both_over : {old now new : Shared} (a b n : ℕ) (h : Formula) → IsGrown old now → a < length old.entries → IsNode now b h → IsNode new n (λ s. val now s a && val now s b)
    → IsNode new n (λ s. val old s a && h s)
both_over a b n h g l i j = record { below = j.below; same = λ s. j.same s ∙ ap₂ ◌&&◌ (val-grown _ _ g s a l) (i.same s) }

pub itself : (d : Shared) (n : ℕ) → n < length d.entries → IsNode d n (λ s. val d s n)
itself d n l = record { below = l; same = λ s. refl }

module _ (d : Shared) (ns : List Noted) (i : ℕ) (n : Noted) (l : i < length ns) (e : n ≡ get_or ns i n) where
  pub next_selected : (t : List Value → Test)
      → selected (entries_of d (drop i ns)) t ≡ (n.row, λ s. val d s n.node && (t n.row).0 s) ∷ selected (entries_of d (drop (i + 1) ns)) t
  next_selected t = ap (λ xs. selected (entries_of d xs) t) (next_is ns i n l e)

  pub next_joined : (m : Entry) → join_entry m (entries_of d (drop i ns)) ≡ (m.0 ++ n.row, λ s. m.1 s && val d s n.node) ∷ join_entry m (entries_of d (drop (i + 1) ns))
  next_joined m = ap (λ xs. join_entry m (entries_of d xs)) (next_is ns i n l e)

  pub next_paired : (ds : List Entry) → paired (entries_of d (drop i ns)) ds ≡ join_entry (entry_of d n) ds ++ paired (entries_of d (drop (i + 1) ns)) ds
  next_paired ds = ap (λ xs. paired (entries_of d xs) ds) (next_is ns i n l e)

  pub node_below : AreNoted d ns → n.node < length d.entries
  node_below b = let h = b i n l in let P : Noted → Type 0 = λ m. m.node < length d.entries in subst P (sym e) h

pub next_placed : (base : ℕ) (rs : Rows) (i : ℕ) (r : List Value) → i < length rs → r ≡ get_or rs i r
    → placed (base + i) (drop i rs) ≡ (r, λ s. bool_at s (base + i)) ∷ placed (base + (i + 1)) (drop (i + 1) rs)
next_placed base rs i r l e = ap (placed (base + i)) (next_is rs i r l e) ∙ ap (λ k. (r, λ s. bool_at s (base + i)) ∷ placed k (drop (i + 1) rs)) (add_assoc base i 1)

pub projected_same : (d : Shared) (ns : List Noted) (es : List Expr) (env : Env) → entries_of d (projected_rows ns es env) ≡ projected (entries_of d ns) (λ r. row_by wrapped es (r ∷ env))
projected_same d [] es env = refl
projected_same d (n ∷ ns) es env = ap (λ xs. (row_by wrapped es (n.row ∷ env), λ s. val d s n.node) ∷ xs) (projected_same d ns es env)

pub projected_below : (d : Shared) (ns : List Noted) (es : List Expr) (env : Env) → AreNoted d ns → AreNoted d (projected_rows ns es env)
projected_below d [] es env b k m l = absurd (omega arith)
projected_below d (n ∷ ns) es env b zero m l = b 0 n (omega arith)
projected_below d (n ∷ ns) es env b (suc k) m l = projected_below d ns es env (λ i f h. b (suc i) f (omega arith)) k m (omega arith)

-- the rows of a table are at its places
head_drop : (b : ℕ) (s : List Bool) → head (drop b s) ≡ bool_at s b
head_drop zero [] = refl
head_drop zero (x ∷ s) = refl
head_drop (suc b) [] = refl
head_drop (suc b) (x ∷ s) = head_drop b s

tail_drop : (b : ℕ) (s : List Bool) → tail (drop b s) ≡ drop (b + 1) s
tail_drop b s = go b s ∙ ap (λ k. drop k s) (sym (add-one b)) where
  go : (k : ℕ) (u : List Bool) → tail (drop k u) ≡ drop (suc k) u
  go zero [] = refl
  go zero (x ∷ u) = refl
  go (suc k) [] = refl
  go (suc k) (x ∷ u) = go k u

placed_rows : (rs : Rows) (b : ℕ) → placed b rs ≡ of_rows rs (λ s. drop b s)
placed_rows [] b = refl
placed_rows (r ∷ rs) b =
    let p : (λ s. bool_at s b) ≡ (λ (s : List Bool). head (drop b s)) = fun_ext (λ s. sym (head_drop b s)) in
    let q : (λ (s : List Bool). drop (b + 1) s) ≡ (λ s. tail (drop b s)) = fun_ext (λ s. sym (tail_drop b s)) in
    ap₂ (λ (f : Formula) (xs : List Entry). (r, f) ∷ xs) p (placed_rows rs (b + 1) ∙ ap (of_rows rs) q)

nothing : (k : ℕ) → ◌≡◌ {A = List Bool} (drop k []) []
nothing zero = refl
nothing (suc k) = refl

drop_on : (a b : ℕ) (s : List Bool) → drop a (drop b s) ≡ drop (b + a) s
drop_on a zero s = ap (λ k. drop k s) (sym (zero-add a))
drop_on a (suc b) [] = nothing a ∙ sym (nothing (suc b + a))
drop_on a (suc b) (x ∷ s) = let e : suc b + a ≡ suc (b + a) = omega arith in drop_on a b s ∙ ap (λ k. drop k (x ∷ s)) (sym e)

table_placed : (ts : Tables) (b n : ℕ) → placed (b + base_of n ts) (get_or ts n []) ≡ of_table ts (λ s. drop b s) n
table_placed [] b zero = refl
table_placed [] b (suc n) = refl
table_placed (t ∷ ts) b zero = placed_rows t (b + 0) ∙ ap (λ k. of_rows t (λ s. drop k s)) (add-zero b)
table_placed (t ∷ ts) b (suc n) =
    let q : (λ (s : List Bool). drop (b + length t) s) ≡ (λ s. drop (length t) (drop b s)) = fun_ext (λ s. sym (drop_on (length t) b s)) in
    ap (λ k. placed k (get_or ts n [])) (sym (add_assoc b (length t) (base_of n ts))) ∙ table_placed ts (b + length t) n ∙ ap (λ f. of_table ts f n) q

pub table_entries : (ts : Tables) (n : ℕ) → placed (base_of n ts) (get_or ts n []) ≡ of_table ts (λ s. s) n
table_entries ts n = ap (λ k. placed k (get_or ts n [])) (sym (zero-add (base_of n ts))) ∙ table_placed ts 0 n

-- the places of a table's rows are among all places
pub base_within : (ts : Tables) (n : ℕ) → base_of n ts + length (get_or ts n []) ≤ places ts
base_within [] n = omega arith
base_within (t ∷ ts) zero = omega arith
base_within (t ∷ ts) (suc n) = let h = base_within ts n in omega arith

-- the innermost of the rows in scope gives way to others
pub scope_with : (inner : List (Bor (List Value))) (row : List Value) (outer : Env) → map (λ r. r.now) inner ≡ row ∷ outer
    → (r : Bor (List Value)) → map (λ x. x.now) (slice_set inner 0 r) ≡ r.now ∷ outer
scope_with [] row outer h r = absurd (cc)
scope_with (q ∷ inner) row outer h r = let e : map (λ x. x.now) inner ≡ outer = cc in ap (λ rows. r.now ∷ rows) e

pub scope_again : (inner : List (Bor (List Value))) (q : Bor (List Value)) (outer : Env) → ((r : Bor (List Value)) → map (λ x. x.now) (slice_set inner 0 r) ≡ r.now ∷ outer)
    → (r : Bor (List Value)) → map (λ x. x.now) (slice_set (slice_set inner 0 q) 0 r) ≡ r.now ∷ outer
scope_again [] q outer h r = h r
scope_again (p ∷ inner) q outer h r = h r

pub scope_room : (inner : List (Bor (List Value))) (outer : Env) → ((r : Bor (List Value)) → map (λ x. x.now) (slice_set inner 0 r) ≡ r.now ∷ outer) → 0 < length inner
scope_room [] outer h = let e = h (record { ref_ptr = (0, 0); now = [] }) in absurd (cc)
scope_room (p ∷ inner) outer h = omega arith
