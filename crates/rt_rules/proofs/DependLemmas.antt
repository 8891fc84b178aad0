-- A functional dependency, one row at a time. Where it holds for the later rows, all of them that
-- agree with a row on the determining columns are the same in the others. So one that is the same
-- is enough.
use Rattle.std.proofs.Common.{◌≡◌, ℕ, Bool, true, false, cond, not, ◌&&◌, ◌||◌, List, [], ◌∷◌, ◌++◌, refl, sym, ap, ap₂, ◌∙◌, inl, inr}
use Rattle.std.proofs.lemmas.Bool.{cases_Bool}
use Rattle.std.specs.List.{list_all, list_any}
use Rattle.rt_value.specs.declared.value.Value.{Value}
use Rattle.rt_value.specs.Order.{row_eq_equiv}
use Rattle.rt_value.specs.Row.{row_eq}
use Rattle.rt_value.specs.Value.{value_eq}
use Rattle.rt_schema.specs.Cells.{agree, cell, cells, is_null, same_in}
use Rattle.rt_schema.specs.Given.{Rows}
use Rattle.rt_schema.specs.Law.{depend_holds}
use Rattle.rt_formula.proofs.GroupLemmas.{at_is, at_same}
use Rattle.rt_rules.proofs.BoolLemmas.{and-assoc, and-both, and-false, and-one, and-two, implied, or-both, or-then}
use Rattle.rt_rules.proofs.KeptLemmas.{agree-one}

-- two rows are as the dependency says
abbrev pub as_told : List ℕ → List ℕ → List Value → List Value → Bool
as_told from to row other = not (agree from from row other) || same_in to row other

-- two rows agree and are the same
abbrev pub met_by : List ℕ → List ℕ → List Value → List Value → Bool
met_by from to row other = agree from from row other && same_in to row other

-- the same values are equal
same-cells : (columns : List ℕ) (a b : List Value) → row_eq (cells columns a) (cells columns b) ≡ true → cells columns a ≡ cells columns b
same-cells columns a b h = sym (at_same (cells columns b) (cells columns a) (at_is (cells columns b) (cells columns a) ∙ h))

cells-same : (columns : List ℕ) (a b : List Value) → cells columns a ≡ cells columns b → same_in columns a b ≡ true
cells-same columns a b e = ap (row_eq (cells columns a)) (sym e) ∙ row_eq_equiv.refl (cells columns a)

joined : (from to : List ℕ) (row r : List Value) → row_eq (cells (from ++ to) row) (cells (from ++ to) r) ≡ (row_eq (cells from row) (cells from r) && row_eq (cells to row) (cells to r))
joined [] to row r = refl
joined (c ∷ from) to row r =
    ap (λ v. value_eq (cell row c) (cell r c) && v) (joined from to row r) ∙ and-assoc (value_eq (cell row c) (cell r c)) (row_eq (cells from row) (cells from r)) (row_eq (cells to row) (cells to r))

-- a row without NULL agrees and is the same where it has the values in all columns
pub met-same : (from to : List ℕ) (row : List Value) (rows : Rows) → list_any is_null (cells from row) ≡ false
    → list_any (λ r. row_eq (cells (from ++ to) row) (cells (from ++ to) r)) rows ≡ list_any (met_by from to row) rows
met-same from to row [] h = refl
met-same from to row (r ∷ rs) h =
    ap₂ ◌||◌ (joined from to row r ∙ ap (λ v. v && same_in to row r) (sym (agree-one from from row r h))) (met-same from to row rs h)

module _ (from to : List ℕ) where
  agrees : (a b x : List Value) → cells from a ≡ cells from b → agree from from a x ≡ agree from from b x
  agrees a b x e = ap (λ v. row_eq v (cells from x) && not (list_any is_null v)) e

  sames : (a b x : List Value) → cells to a ≡ cells to b → same_in to a x ≡ same_in to b x
  sames a b x e = ap (λ v. row_eq v (cells to x)) e

  told-same : (row o : List Value) → cells from row ≡ cells from o → cells to row ≡ cells to o → (rest : Rows) → list_all (as_told from to o) rest ≡ true → list_all (as_told from to row) rest ≡ true
  told-same row o e f [] h = refl
  told-same row o e f (x ∷ rest) h =
      and-both (as_told from to row x) (list_all (as_told from to row) rest)
      (ap₂ (λ p q. not p || q) (agrees row o x e) (sames row o x f) ∙ and-one (as_told from to o x) (list_all (as_told from to o) rest) h)
      (told-same row o e f rest (and-two (as_told from to o x) (list_all (as_told from to o) rest) h))

  unmet-one : (row o x : List Value) → cells from row ≡ cells from o → same_in to row o ≡ false → as_told from to o x ≡ true → met_by from to row x ≡ false
  unmet-one row o x e n t = elim (cases_Bool (agree from from row x)) [
    | inr b ↦ ap (λ v. v && same_in to row x) b
    | inl a ↦ elim (cases_Bool (same_in to row x)) [
      | inr b ↦ ap (λ v. agree from from row x && v) b ∙ and-false (agree from from row x)
      | inl s ↦ absurd (
          let there = or-then (agree from from o x) (same_in to o x) (sym (agrees row o x e) ∙ a) t in
          let y = cells-same to row o (same-cells to row x s ∙ sym (same-cells to o x there)) in
          cc)
    ]
  ]

  unmet : (row o : List Value) → cells from row ≡ cells from o → same_in to row o ≡ false → (rest : Rows) → list_all (as_told from to o) rest ≡ true → list_any (met_by from to row) rest ≡ false
  unmet row o e n [] h = refl
  unmet row o e n (x ∷ rest) h =
      or-both (met_by from to row x) (list_any (met_by from to row) rest)
      (unmet-one row o x e n (and-one (as_told from to o x) (list_all (as_told from to o) rest) h))
      (unmet row o e n rest (and-two (as_told from to o x) (list_all (as_told from to o) rest) h))

  told-once : (row : List Value) (rows : Rows) → depend_holds from to rows ≡ true → list_all (as_told from to row) rows ≡ (not (list_any (agree from from row) rows) || list_any (met_by from to row) rows)
  told-once row [] h = refl
  told-once row (o ∷ rest) h = by (told-once row rest (and-two (list_all (as_told from to o) rest) (depend_holds from to rest) h)) (agree from from row o) refl (same_in to row o) refl where
    first : list_all (as_told from to o) rest ≡ true
    first = and-one (list_all (as_told from to o) rest) (depend_holds from to rest) h

    same : agree from from row o ≡ true → cells from row ≡ cells from o
    same p = same-cells from row o (and-one (row_eq (cells from row) (cells from o)) (not (list_any is_null (cells from row))) p)

    by : list_all (as_told from to row) rest ≡ (not (list_any (agree from from row) rest) || list_any (met_by from to row) rest)
        → (a : Bool) → agree from from row o ≡ a → (s : Bool) → same_in to row o ≡ s
        → ((not a || s) && list_all (as_told from to row) rest) ≡ (not (a || list_any (agree from from row) rest) || ((a && s) || list_any (met_by from to row) rest))
    by again false p s q = again
    by again true p true q = told-same row o (same p) (same-cells to row o q) rest first
    by again true p false q = sym (unmet row o (same p) q rest first)

  pub depend-kept : (b : Bool) (row : List Value) (rows : Rows)
      → depend_holds from to (cond b (row ∷ rows) rows) ≡ (not (b && (list_any (agree from from row) rows && not (list_any (met_by from to row) rows))) && depend_holds from to rows)
  depend-kept false row rows = refl
  depend-kept true row rows = by (depend_holds from to rows) refl where
    by : (d : Bool) → depend_holds from to rows ≡ d → (list_all (as_told from to row) rows && d)
        ≡ (not (list_any (agree from from row) rows && not (list_any (met_by from to row) rows)) && d)
    by true h = ap (λ v. v && true) (told-once row rows h ∙ implied (list_any (agree from from row) rows) (list_any (met_by from to row) rows))
    by false h = and-false (list_all (as_told from to row) rows) ∙ sym (and-false (not (list_any (agree from from row) rows && not (list_any (met_by from to row) rows))))
