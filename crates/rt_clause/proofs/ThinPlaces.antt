-- Places that hold the literals of a list.
use Rattle.std.proofs.Common.{◌≡◌, ◌≢◌, ℕ, zero, suc, ◌+◌, ◌<◌, ◌≤◌, List, [], ◌∷◌, map, length, set, get_or, replicate, Option, Some, None, refl, sym, ap, ◌∙◌, arith}
use Rattle.std.specs.List.{swap}
use Rattle.std.proofs.lemmas.List.{set_comm, map-set, length-map, length-set, get_or-set_other}
use Rattle.std.proofs.lemmas.List.Edits.{swap_is}
use Rattle.rt_clause.specs.Literal.{Literal}
use Rattle.rt_clause.specs.Thin.{somes}

abbrev pub Places : Type 0
Places = List (Option Literal)

abbrev nothing : Option Literal
nothing = None

pub somes-map : (ls : List Literal) → somes (map Some ls) ≡ ls
somes-map [] = refl
somes-map (l ∷ ls) = ap (λ ys. l ∷ ys) (somes-map ls)

-- full places hold as many literals as they are
pub length-somes : (cs : Places) → ((ls : List Literal) × (cs ≡ map Some ls)) → length (somes cs) ≡ length cs
length-somes cs f = ap (λ ds. length (somes ds)) f.1 ∙ ap length (somes-map f.0) ∙ sym (length-map f.0 Some) ∙ ap length (sym f.1)

pub same_literals : (cs : Places) (ls : List Literal) → cs ≡ map Some ls → ls ≡ somes cs
same_literals cs ls e = sym (somes-map ls) ∙ ap somes (sym e)

get-map : (ls : List Literal) (i : ℕ) (d : Literal) → i < length ls → get_or (map Some ls) i nothing ≡ Some (get_or ls i d)
get-map [] i d h = absurd (omega arith)
get-map (l ∷ ls) zero d h = refl
get-map (l ∷ ls) (suc i) d h = get-map ls i d (omega arith)

some_literal : (ls : List Literal) (i : ℕ) → i < length ls → (l : Literal) × (get_or (map Some ls) i nothing ≡ Some l)
some_literal [] i h = absurd (omega arith)
some_literal (d ∷ ls) i h = (get_or (d ∷ ls) i d, get-map (d ∷ ls) i d h)

-- a place of a full row holds a literal
pub holds : (cs : Places) (i : ℕ) → ((ls : List Literal) × (cs ≡ map Some ls)) → i < length cs → (l : Literal) × (get_or cs i nothing ≡ Some l)
holds cs i f h = let s = some_literal f.0 i (omega (arith, ap length f.1, length-map f.0 Some)) in (s.0, ap (λ ds. get_or ds i nothing) f.1 ∙ s.1)

-- and so does another one after the first has been emptied
pub holds_still : (cs : Places) (a b : ℕ) → ((ls : List Literal) × (cs ≡ map Some ls)) → a ≢ b → b < length cs → (l : Literal) × (get_or (set cs a nothing) b nothing ≡ Some l)
holds_still cs a b f ne h = let s = holds cs b f h in (s.0, get_or-set_other cs a b nothing nothing (λ e. ne (sym e)) ∙ s.1)

set_twice : (cs : Places) (i : ℕ) (c d : Option Literal) → set (set cs i c) i d ≡ set cs i d
set_twice [] i c d = refl
set_twice (x ∷ cs) zero c d = refl
set_twice (x ∷ cs) (suc i) c d = ap (λ ys. x ∷ ys) (set_twice cs i c d)

some-same : (k l : Literal) → Some k ≡ Some l → k ≡ l
some-same k l e = ap (λ o. elim o [ None ↦ k | Some j ↦ j ]) e

-- two emptied places are filled again, with the two literals exchanged
abbrev pub exchanged : Places → ℕ → ℕ → Literal → Literal → Places
exchanged cs a b x y = set (set (set (set cs a nothing) b nothing) a (Some y)) b (Some x)

exchanged-set : (cs : Places) (a b : ℕ) (x y : Literal) → a ≢ b → exchanged cs a b x y ≡ set (set cs a (Some y)) b (Some x)
exchanged-set cs a b x y ne =
    ap (λ ds. set ds b (Some x)) (set_comm (set cs a nothing) b a nothing (Some y) (λ e. ne (sym e)) ∙ ap (λ ds. set ds b nothing) (set_twice cs a nothing (Some y)))
    ∙ set_twice (set cs a (Some y)) b nothing (Some x)

swapped_places : (ls : List Literal) (a b : ℕ) (x y : Literal) → a < length ls → b < length ls → get_or (map Some ls) a nothing ≡ Some x → get_or (map Some ls) b nothing ≡ Some y
    → set (set (map Some ls) a (Some y)) b (Some x) ≡ map Some (swap ls a b)
swapped_places ls a b x y ha hb ex ey =
    let fx = some-same x (get_or ls a x) (sym ex ∙ get-map ls a x ha) in
    let fy = some-same y (get_or ls b x) (sym ey ∙ get-map ls b x hb) in
    (λ i. set (set (map Some ls) a (Some (fy i))) b (Some (fx i)))
    ∙ sym (map-set Some (set ls a (get_or ls b x)) b (get_or ls a x) ∙ ap (λ ds. set ds b (Some (get_or ls a x))) (map-set Some ls a (get_or ls b x)))
    ∙ ap (map Some) (swap_is ls a b x ha hb)

pub exchanged-swap : (cs : Places) (a b : ℕ) (x y : Literal) (f : (ls : List Literal) × (cs ≡ map Some ls)) → a ≢ b → a < length cs → b < length cs
    → get_or cs a nothing ≡ Some x → get_or (set cs a nothing) b nothing ≡ Some y → exchanged cs a b x y ≡ map Some (swap (somes cs) a b)
exchanged-swap cs a b x y f ne ha hb ex ey =
    let long = ap length f.1 ∙ length-map f.0 Some in
    exchanged-set cs a b x y ne ∙ ap (λ ds. set (set ds a (Some y)) b (Some x)) f.1
    ∙ swapped_places f.0 a b x y (omega arith) (omega arith) (ap (λ ds. get_or ds a nothing) (sym f.1) ∙ ex)
    (ap (λ ds. get_or ds b nothing) (sym f.1) ∙ sym (get_or-set_other cs a b nothing nothing (λ e. ne (sym e))) ∙ ey)
    ∙ ap (λ ks. map Some (swap ks a b)) (same_literals cs f.0 f.1)

pub length-exchanged : (cs : Places) (a b : ℕ) (x y : Literal) → length (exchanged cs a b x y) ≡ length cs
length-exchanged cs a b x y =
    length-set (set (set (set cs a nothing) b nothing) a (Some y)) b (Some x) ∙ length-set (set (set cs a nothing) b nothing) a (Some y) ∙ length-set (set cs a nothing) b nothing ∙ length-set cs a nothing

-- the first literals are there, and the other places are empty
abbrev pub filled : ℕ → List Literal → Places
filled i [] = []
filled zero (l ∷ ls) = None ∷ filled zero ls
filled (suc i) (l ∷ ls) = Some l ∷ filled i ls

pub length-filled : (i : ℕ) (ls : List Literal) → length (filled i ls) ≡ length ls
length-filled i [] = refl
length-filled zero (l ∷ ls) = ap suc (length-filled zero ls)
length-filled (suc i) (l ∷ ls) = ap suc (length-filled i ls)

pub filled-none : (ls : List Literal) → replicate (length ls) nothing ≡ filled 0 ls
filled-none [] = refl
filled-none (l ∷ ls) = ap (λ cs. nothing ∷ cs) (filled-none ls)

pub filled-all : (i : ℕ) (ls : List Literal) → length ls ≤ i → filled i ls ≡ map Some ls
filled-all i [] h = refl
filled-all zero (l ∷ ls) h = absurd (omega arith)
filled-all (suc i) (l ∷ ls) h = ap (λ cs. Some l ∷ cs) (filled-all i ls (omega arith))

pub filled-next : (i : ℕ) (ls : List Literal) → get_or (filled i ls) i nothing ≡ None
filled-next zero [] = refl
filled-next zero (l ∷ ls) = refl
filled-next (suc i) [] = refl
filled-next (suc i) (l ∷ ls) = filled-next i ls

filled_suc : (i : ℕ) (ls : List Literal) (d : Literal) → i < length ls → set (filled i ls) i (Some (get_or ls i d)) ≡ filled (suc i) ls
filled_suc i [] d h = absurd (omega arith)
filled_suc zero (l ∷ ls) d h = refl
filled_suc (suc i) (l ∷ ls) d h = ap (λ cs. Some l ∷ cs) (filled_suc i ls d (omega arith))

pub filled-more : (i : ℕ) (ls : List Literal) (l : Literal) → i < length ls → l ≡ get_or ls i l → set (filled i ls) i (Some l) ≡ filled (i + 1) ls
filled-more i ls l h e = ap (λ k. set (filled i ls) i (Some k)) e ∙ filled_suc i ls l h ∙ (let n : suc i ≡ i + 1 = omega arith in ap (λ k. filled k ls) n)
