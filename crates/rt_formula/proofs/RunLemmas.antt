-- Runs of children that have their first child in common.
use Rattle.std.proofs.Common.{◌≡◌, ℕ, ◌+◌, ◌-◌, ◌<◌, ◌≤◌, suc, Bool, true, false, ◌&&◌, ◌||◌, List, [], ◌∷◌, ◌++◌, length, length-append, take, drop, get_or, slice_get, Some, refl, sym, ap, subst, arith, ◌∙◌}
use Rattle.std.proofs.lemmas.List.{append_assoc, append-nil, take_all, take_more, take-append-drop}
use Rattle.std.proofs.lemmas.List.Folds.{list_any-append}
use Rattle.std.proofs.lemmas.List.Elements.{All-append, All-cons, All-drop, All-nil}
use Rattle.std.specs.List.{list_all, list_any, All as Each}
use Rattle.rt_formula.specs.declared.entry.Entry.TheVariants.{All}
use Rattle.rt_formula.specs.Runs.{StandsOver}
use Rattle.rt_formula.specs.Shared.{Shared, IsSound, IsGrown, val}
use Rattle.rt_formula.proofs.Growth.{slice_get_kept}
use Rattle.rt_formula.proofs.Meaning.{list_any-agrees, val-entry, val-grown}

-- growth
pub grown_refl : (a : Shared) → IsGrown a a
grown_refl a = record { rows = refl; more = []; entries = sym (append-nil a.entries) }

pub grown_trans : {a b c : Shared} → IsGrown a b → IsGrown b c → IsGrown a c
grown_trans {a} {b} {c} g h = record {
  rows = h.rows ∙ g.rows;
  more = g.more ++ h.more;
  entries = h.entries ∙ ap (λ es. es ++ h.more) g.entries ∙ append_assoc a.entries g.more h.more;
}

pub longer : {a b : Shared} → IsGrown a b → length a.entries ≤ length b.entries
longer {a} {b} g = let e = ap length g.entries ∙ length-append a.entries g.more in omega (arith, e)

pub nodes_stay : {a b : Shared} → IsGrown a b → (ns : List ℕ) → Each (λ n. n < length a.entries) ns → Each (λ n. n < length b.entries) ns
nodes_stay g ns b k d l = let m = longer g in let h = b k d l in omega arith

pub any_stays : {a b : Shared} → IsGrown a b → (keep : List Bool) (ns : List ℕ) → Each (λ n. n < length a.entries) ns → list_any (val b keep) ns ≡ list_any (val a keep) ns
any_stays {a} {b} g keep ns h = list_any-agrees (val b keep) (val a keep) (length a.entries) (λ k l. val-grown a b g keep k l) ns h

pub stands_stay : {a b : Shared} → IsGrown a b → {first n : ℕ} → StandsOver a first n → StandsOver b first n
stands_stay {a} {b} g {first} {n} s = record {
  later = s.later;
  entry = ap (λ es. slice_get es n) g.entries ∙ slice_get_kept a.entries g.more _ n s.entry;
}

-- a node whose entry is an `all` of these
pub stands : (d : Shared) (n first : ℕ) (kids xs : List ℕ) → slice_get d.entries n ≡ Some (All kids) → xs ≡ kids → 1 ≤ length xs → first ≡ get_or xs 0 first → StandsOver d first n
stands d n first kids [] h j l f = absurd (omega arith)
stands d n first kids (x ∷ xs) h j l f = record { later = xs; entry = h ∙ ap (λ ks. Some (All ks)) (sym j ∙ ap (λ y. y ∷ xs) (sym f)) }

pub stands-below : (d : Shared) (n first : ℕ) → IsSound d → n < length d.entries → StandsOver d first n → first < length d.entries
stands-below d n first s b o = let k = (s.fits n (All (first ∷ o.later)) o.entry).below 0 0 (omega arith) in omega (arith, k)

-- all but the first
tail-is : (xs : List ℕ) → take (length xs - 1) (drop 1 xs) ≡ drop 1 xs
tail-is [] = refl
tail-is (x ∷ xs) = take_all (length (x ∷ xs) - 1) xs (omega arith)

pub later-all : (d : Shared) (keep : List Bool) (first n : ℕ) (kids xs later : List ℕ) → IsSound d → slice_get d.entries n ≡ Some (All kids) → xs ≡ kids → later ≡ take (length xs - 1) (drop 1 xs) → StandsOver d first n
    → val d keep n ≡ (val d keep first && list_all (val d keep) later)
later-all d keep first n kids xs later s h j l o =
    let k : kids ≡ first ∷ o.later = cc (h, o.entry) in
    let e : later ≡ o.later = l ∙ tail-is xs ∙ ap (drop 1) (j ∙ k) in
    val-entry d keep n (All (first ∷ o.later)) s o.entry ∙ ap (λ ks. val d keep first && list_all (val d keep) ks) (sym e)

pub later-nodes : (d : Shared) (n : ℕ) (kids xs later : List ℕ) → IsSound d → n < length d.entries → slice_get d.entries n ≡ Some (All kids) → xs ≡ kids → later ≡ take (length xs - 1) (drop 1 xs) → Each (λ k. k < length d.entries) later
later-nodes d n kids xs later s b h j l =
    let P : List ℕ → Type 0 = λ ks. Each (λ k. k < length d.entries) (drop 1 ks) in
    let Q : List ℕ → Type 0 = Each (λ k. k < length d.entries) in
    subst Q (sym (l ∙ tail-is xs)) (subst P (sym j) (tail kids (s.fits n (All kids) h).below)) where
      tail : (ks : List ℕ) → Each (λ k. k < n) ks → Each (λ k. k < length d.entries) (drop 1 ks)
      tail [] f i x m = absurd (omega arith)
      tail (k ∷ ks) f i x m = let q = f (suc i) x (omega arith) in omega (arith, q)

and-true : (b : Bool) → (b && true) ≡ b
and-true true = refl
and-true false = refl

or-false : (b : Bool) → (b || false) ≡ b
or-false true = refl
or-false false = refl

any-push : (p : ℕ → Bool) (xs : List ℕ) (x : ℕ) → list_any p (xs ++ x ∷ []) ≡ (list_any p xs || p x)
any-push p xs x = list_any-append p xs (x ∷ []) ∙ ap (λ b. list_any p xs || b) (or-false (p x))

any-more : (p : ℕ → Bool) (xs : List ℕ) (i x : ℕ) → i < length xs → x ≡ get_or xs i x → list_any p (take (i + 1) xs) ≡ (list_any p (take i xs) || p x)
any-more p xs i x h e = ap (list_any p) (take_more xs i x h) ∙ ap (λ v. list_any p (take i xs ++ v ∷ [])) (sym e) ∙ any-push p (take i xs) x

shares : (f x y : Bool) → ((f && x) || (f && y)) ≡ (f && (x || y))
shares true x y = refl
shares false x y = refl

or-assoc : (x y z : Bool) → (x || (y || z)) ≡ ((x || y) || z)
or-assoc true y z = refl
or-assoc false y z = refl

-- what is left of one more child of a run
pub tails-more : {a b c : Shared} → IsGrown a b → IsGrown b c → (keep : List Bool) (first child tail : ℕ) (run tails new : List ℕ) (i : ℕ) → first < length a.entries → child < length a.entries
    → Each (λ n. n < length b.entries) tails → i < length run → child ≡ get_or run i child → new ≡ tails ++ tail ∷ []
    → val b keep child ≡ (val b keep first && val c keep tail)
    → list_any (val a keep) (take i run) ≡ (val a keep first && list_any (val b keep) tails)
    → list_any (val a keep) (take (i + 1) run) ≡ (val a keep first && list_any (val c keep) new)
tails-more {a} {b} {c} g h keep first child tail run tails new i f k t l e n v m =
    let one : val a keep child ≡ (val a keep first && val c keep tail) = sym (val-grown a b g keep child k) ∙ v ∙ ap (λ x. x && val c keep tail) (val-grown a b g keep first f) in
    let old : list_any (val b keep) tails ≡ list_any (val c keep) tails = sym (any_stays h keep tails t) in
    any-more (val a keep) run i child l e
    ∙ ap (λ x. x || val a keep child) (m ∙ ap (λ x. val a keep first && x) old)
    ∙ ap (λ x. (val a keep first && list_any (val c keep) tails) || x) one
    ∙ shares (val a keep first) (list_any (val c keep) tails) (val c keep tail)
    ∙ ap (λ x. val a keep first && x) (sym (any-push (val c keep) tails tail) ∙ ap (list_any (val c keep)) (sym n))

-- one more child, which replaces some at the front of those that are left
pub runs-more : {a b c : Shared} → IsGrown a b → IsGrown b c → (keep : List Bool) (of nodes new front rest next : List ℕ) (j : ℕ)
    → Each (λ n. n < length b.entries) nodes → Each (λ n. n < length a.entries) front → new ≡ nodes ++ j ∷ [] → rest ≡ front ++ next
    → val c keep j ≡ list_any (val b keep) front
    → list_any (val a keep) of ≡ (list_any (val b keep) nodes || list_any (val a keep) rest)
    → list_any (val a keep) of ≡ (list_any (val c keep) new || list_any (val a keep) next)
runs-more {a} {b} {c} g h keep of nodes new front rest next j t f n p v m =
    m
    ∙ ap (λ x. x || list_any (val a keep) rest) (sym (any_stays h keep nodes t))
    ∙ ap (λ x. list_any (val c keep) nodes || x) (ap (list_any (val a keep)) p ∙ list_any-append (val a keep) front next ∙ ap (λ x. x || list_any (val a keep) next) (sym (any_stays g keep front f) ∙ sym v))
    ∙ or-assoc (list_any (val c keep) nodes) (val c keep j) (list_any (val a keep) next)
    ∙ ap (λ x. x || list_any (val a keep) next) (sym (any-push (val c keep) nodes j) ∙ ap (list_any (val c keep)) (sym n))

pub node-push : (m : ℕ) (ns new : List ℕ) (n : ℕ) → Each (λ k. k < m) ns → n < m → new ≡ ns ++ n ∷ [] → Each (λ k. k < m) new
node-push m ns new n h b e = let Q : List ℕ → Type 0 = Each (λ k. k < m) in subst Q (sym e) (All-append (λ k. k < m) ns (n ∷ []) h (All-cons (λ k. k < m) n [] b (All-nil (λ k. k < m))))

pub parts : (n : ℕ) (rest front next : List ℕ) → front ≡ take n rest → next ≡ drop n rest → rest ≡ front ++ next
parts n rest front next f g = let h = take-append-drop n rest in cc

pub one-part : (rest : List ℕ) (child : ℕ) → 1 ≤ length rest → child ≡ get_or rest 0 child → rest ≡ (child ∷ []) ++ take (length rest - 1) (drop 1 rest)
one-part [] child l e = absurd (omega arith)
one-part (x ∷ rest) child l e = ap (λ y. y ∷ rest) (sym e) ∙ ap (λ ns. child ∷ ns) (sym (tail-is (x ∷ rest)))

pub tail-nodes : (m : ℕ) (rest : List ℕ) → Each (λ k. k < m) rest → Each (λ k. k < m) (take (length rest - 1) (drop 1 rest))
tail-nodes m rest h = let Q : List ℕ → Type 0 = Each (λ k. k < m) in subst Q (sym (tail-is rest)) (All-drop (λ k. k < m) 1 rest h)

pub one-node : (m child : ℕ) (rest : List ℕ) → 1 ≤ length rest → child ≡ get_or rest 0 child → Each (λ k. k < m) rest → child < m
one-node m child rest l e h = let k = h 0 child l in omega (arith, k, e)

pub alone : (m n : ℕ) → n < m → Each (λ k. k < m) (n ∷ [])
alone m n h = All-cons (λ k. k < m) n [] h (All-nil (λ k. k < m))

pub any-alone : (p : ℕ → Bool) (n : ℕ) → p n ≡ list_any p (n ∷ [])
any-alone p n = sym (or-false (p n))

-- an `all` of the first child and of the `any` of what is left
pub all-shared : {a b c : Shared} → IsGrown a b → IsGrown b c → (keep : List Bool) (first tail : ℕ) (run tails : List ℕ) → first < length a.entries
    → val c keep tail ≡ list_any (val b keep) tails → list_any (val a keep) run ≡ (val a keep first && list_any (val b keep) tails)
    → list_all (val c keep) (first ∷ tail ∷ []) ≡ list_any (val a keep) run
all-shared {a} {b} {c} g h keep first tail run tails f t m =
    ap (λ x. val c keep first && x) (and-true (val c keep tail) ∙ t)
    ∙ ap (λ x. x && list_any (val b keep) tails) (val-grown a c (grown_trans g h) keep first f)
    ∙ sym m
