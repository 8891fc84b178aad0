-- What holds of kept rows holds where they are cut to a set that is closed under references.
use Rattle.std.proofs.Common.{◌≡◌, ℕ, zero, suc, ◌+◌, Bool, true, false, cond, not, ◌||◌, List, [], ◌∷◌, map, length, drop, slice_get, Some, refl, sym, subst, ap, arith, ◌∙◌, inl, inr}
use Rattle.std.proofs.lemmas.Bool.{cases_Bool}
use Rattle.std.proofs.lemmas.List.{drop-drop}
use Rattle.std.specs.List.{list_all, list_any}
use Rattle.rt_value.specs.declared.value.Value.{Value}
use Rattle.rt_schema.specs.Given.{Rows, Tables, rows_at, base_of}
use Rattle.rt_schema.specs.Kept.{kept, kept_rows}
use Rattle.rt_schema.specs.Cells.{agree, cell, cells, is_null}
use Rattle.rt_schema.specs.Check.{check_truth}
use Rattle.rt_schema.specs.Law.{check_holds, depend_holds, foreign_holds, key_holds, lawful, not_null_holds, passes, rule_holds, rules_hold, tables_hold}
use Rattle.rt_schema.specs.declared.table.Rule.{Rule}
use Rattle.rt_schema.specs.declared.table.Rule.TheVariants.{NotNull, Key, Foreign, Check, Depend}
use Rattle.rt_schema.specs.declared.table.Table.{Table}
use Rattle.rt_formula.specs.Cut.{cut}
use Rattle.rt_formula.specs.Shared.{bool_at}
use Rattle.rt_formula.specs.Under.{is_marked}
use Rattle.rt_formula.proofs.Cutting.{cut-drop}
use Rattle.rt_rules.specs.declared.links.Link.{Link}
use Rattle.rt_rules.specs.Closing.{IsClosed}
use Rattle.rt_rules.specs.Cone.{foreign_links, link, places_where, references, rule_links, rules_links, tables_links}
use Rattle.rt_rules.proofs.BoolLemmas.{and-both, and-one, and-two, or-both, or-none, or-this}
use Rattle.rt_rules.proofs.DependLemmas.{as_told}
use Rattle.rt_rules.proofs.KeptLemmas.{kept-rest}
use Rattle.rt_rules.proofs.LinkLemmas.{each-left, each-right}

all-cut : (p : List Value → Bool) (rows : Rows) (keep set : List Bool) → list_all p (kept_rows rows keep) ≡ true → list_all p (kept_rows rows (cut keep set)) ≡ true
all-cut p [] keep set h = refl
all-cut p (row ∷ rows) [] set h = refl
all-cut p (row ∷ rows) (false ∷ keep) [] h = all-cut p rows keep [] h
all-cut p (row ∷ rows) (true ∷ keep) [] h = all-cut p rows keep [] (and-two (p row) (list_all p (kept_rows rows keep)) h)
all-cut p (row ∷ rows) (false ∷ keep) (c ∷ set) h = all-cut p rows keep set h
all-cut p (row ∷ rows) (true ∷ keep) (false ∷ set) h = all-cut p rows keep set (and-two (p row) (list_all p (kept_rows rows keep)) h)
all-cut p (row ∷ rows) (true ∷ keep) (true ∷ set) h =
    and-both (p row) (list_all p (kept_rows rows (cut keep set))) (and-one (p row) (list_all p (kept_rows rows keep)) h) (all-cut p rows keep set (and-two (p row) (list_all p (kept_rows rows keep)) h))

none-cut : (p : List Value → Bool) (rows : Rows) (keep set : List Bool) → list_any p (kept_rows rows keep) ≡ false → list_any p (kept_rows rows (cut keep set)) ≡ false
none-cut p [] keep set h = refl
none-cut p (row ∷ rows) [] set h = refl
none-cut p (row ∷ rows) (false ∷ keep) [] h = none-cut p rows keep [] h
none-cut p (row ∷ rows) (true ∷ keep) [] h = none-cut p rows keep [] (or-none (p row) (list_any p (kept_rows rows keep)) h)
none-cut p (row ∷ rows) (false ∷ keep) (c ∷ set) h = none-cut p rows keep set h
none-cut p (row ∷ rows) (true ∷ keep) (false ∷ set) h = none-cut p rows keep set (or-none (p row) (list_any p (kept_rows rows keep)) h)
none-cut p (row ∷ rows) (true ∷ keep) (true ∷ set) h =
    or-both (p row) (list_any p (kept_rows rows (cut keep set))) (or-this (p row) (list_any p (kept_rows rows keep)) h) (none-cut p rows keep set (or-none (p row) (list_any p (kept_rows rows keep)) h))

not-false : (b : Bool) → not b ≡ true → b ≡ false
not-false true h = absurd (cc)
not-false false h = refl

key-cut : (key : List ℕ) (rows : Rows) (keep set : List Bool) → key_holds key (kept_rows rows keep) ≡ true → key_holds key (kept_rows rows (cut keep set)) ≡ true
key-cut key [] keep set h = refl
key-cut key (row ∷ rows) [] set h = refl
key-cut key (row ∷ rows) (false ∷ keep) [] h = key-cut key rows keep [] h
key-cut key (row ∷ rows) (true ∷ keep) [] h = key-cut key rows keep [] (and-two (not (list_any (agree key key row) (kept_rows rows keep))) (key_holds key (kept_rows rows keep)) h)
key-cut key (row ∷ rows) (false ∷ keep) (c ∷ set) h = key-cut key rows keep set h
key-cut key (row ∷ rows) (true ∷ keep) (false ∷ set) h = key-cut key rows keep set (and-two (not (list_any (agree key key row) (kept_rows rows keep))) (key_holds key (kept_rows rows keep)) h)
key-cut key (row ∷ rows) (true ∷ keep) (true ∷ set) h =
    let one = and-one (not (list_any (agree key key row) (kept_rows rows keep))) (key_holds key (kept_rows rows keep)) h in
    let two = and-two (not (list_any (agree key key row) (kept_rows rows keep))) (key_holds key (kept_rows rows keep)) h in
    and-both (not (list_any (agree key key row) (kept_rows rows (cut keep set)))) (key_holds key (kept_rows rows (cut keep set)))
    (ap not (none-cut (agree key key row) rows keep set (not-false (list_any (agree key key row) (kept_rows rows keep)) one))) (key-cut key rows keep set two)

depend-cut : (from to : List ℕ) (rows : Rows) (keep set : List Bool) → depend_holds from to (kept_rows rows keep) ≡ true → depend_holds from to (kept_rows rows (cut keep set)) ≡ true
depend-cut from to [] keep set h = refl
depend-cut from to (row ∷ rows) [] set h = refl
depend-cut from to (row ∷ rows) (false ∷ keep) [] h = depend-cut from to rows keep [] h
depend-cut from to (row ∷ rows) (true ∷ keep) [] h = depend-cut from to rows keep [] (and-two (list_all (as_told from to row) (kept_rows rows keep)) (depend_holds from to (kept_rows rows keep)) h)
depend-cut from to (row ∷ rows) (false ∷ keep) (c ∷ set) h = depend-cut from to rows keep set h
depend-cut from to (row ∷ rows) (true ∷ keep) (false ∷ set) h = depend-cut from to rows keep set (and-two (list_all (as_told from to row) (kept_rows rows keep)) (depend_holds from to (kept_rows rows keep)) h)
depend-cut from to (row ∷ rows) (true ∷ keep) (true ∷ set) h =
    and-both (list_all (as_told from to row) (kept_rows rows (cut keep set))) (depend_holds from to (kept_rows rows (cut keep set)))
    (all-cut (as_told from to row) rows keep set (and-one (list_all (as_told from to row) (kept_rows rows keep)) (depend_holds from to (kept_rows rows keep)) h))
    (depend-cut from to rows keep set (and-two (list_all (as_told from to row) (kept_rows rows keep)) (depend_holds from to (kept_rows rows keep)) h))

-- a kept row that passes a test is kept after the cut, where the set has all that pass it
any-cut : (p : List Value → Bool) (rows : Rows) (keep set : List Bool) → ((j : ℕ) (o : List Value) → slice_get rows j ≡ Some o → p o ≡ true → bool_at set j ≡ true) → list_any p (kept_rows rows keep) ≡ true → list_any p (kept_rows rows (cut keep set)) ≡ true
any-cut p [] keep set all h = h
any-cut p (row ∷ rows) [] set all h = h
any-cut p (row ∷ rows) (false ∷ keep) [] all h = any-cut p rows keep [] (λ j o g t. all (suc j) o g t) h
any-cut p (row ∷ rows) (false ∷ keep) (c ∷ set) all h = any-cut p rows keep set (λ j o g t. all (suc j) o g t) h
any-cut p (row ∷ rows) (true ∷ keep) [] all h = elim (cases_Bool (p row)) [
  | inl y ↦ absurd (let e = all 0 row refl y in cc)
  | inr n ↦ any-cut p rows keep [] (λ j o g t. all (suc j) o g t) (sym (ap (λ b. b || list_any p (kept_rows rows keep)) n) ∙ h)
]
any-cut p (row ∷ rows) (true ∷ keep) (true ∷ set) all h = elim (cases_Bool (p row)) [
  | inl y ↦ ap (λ b. b || list_any p (kept_rows rows (cut keep set))) y
  | inr n ↦ ap (λ b. b || list_any p (kept_rows rows (cut keep set))) n ∙ any-cut p rows keep set (λ j o g t. all (suc j) o g t) (sym (ap (λ b. b || list_any p (kept_rows rows keep)) n) ∙ h)
]
any-cut p (row ∷ rows) (true ∷ keep) (false ∷ set) all h = elim (cases_Bool (p row)) [
  | inl y ↦ absurd (let e = all 0 row refl y in cc)
  | inr n ↦ any-cut p rows keep set (λ j o g t. all (suc j) o g t) (sym (ap (λ b. b || list_any p (kept_rows rows keep)) n) ∙ h)
]

-- the set has with each row all rows that match it
abbrev HasMatches : List ℕ → List ℕ → Rows → List Bool → Rows → List Bool → Type 0
HasMatches from to others others_set rows set = (i : ℕ) (r : List Value) → slice_get rows i ≡ Some r → bool_at set i ≡ true
    → (j : ℕ) (o : List Value) → slice_get others j ≡ Some o → agree from to r o ≡ true → bool_at others_set j ≡ true

foreign-cut : (from to : List ℕ) (others : Rows) (others_keep others_set : List Bool) (rows : Rows) (keep set : List Bool) → HasMatches from to others others_set rows set
    → foreign_holds from to (kept_rows others others_keep) (kept_rows rows keep) ≡ true → foreign_holds from to (kept_rows others (cut others_keep others_set)) (kept_rows rows (cut keep set)) ≡ true
foreign-cut from to others ok os [] keep set m h = refl
foreign-cut from to others ok os (row ∷ rows) [] set m h = refl
foreign-cut from to others ok os (row ∷ rows) (false ∷ keep) [] m h = foreign-cut from to others ok os rows keep [] (λ i r g t. m (suc i) r g t) h
foreign-cut from to others ok os (row ∷ rows) (false ∷ keep) (c ∷ set) m h = foreign-cut from to others ok os rows keep set (λ i r g t. m (suc i) r g t) h
foreign-cut from to others ok os (row ∷ rows) (true ∷ keep) [] m h =
    foreign-cut from to others ok os rows keep [] (λ i r g t. m (suc i) r g t) (and-two (list_any is_null (cells from row) || list_any (agree from to row) (kept_rows others ok)) (foreign_holds from to (kept_rows others ok) (kept_rows rows keep)) h)
foreign-cut from to others ok os (row ∷ rows) (true ∷ keep) (false ∷ set) m h =
    foreign-cut from to others ok os rows keep set (λ i r g t. m (suc i) r g t) (and-two (list_any is_null (cells from row) || list_any (agree from to row) (kept_rows others ok)) (foreign_holds from to (kept_rows others ok) (kept_rows rows keep)) h)
foreign-cut from to others ok os (row ∷ rows) (true ∷ keep) (true ∷ set) m h =
    let a = list_any is_null (cells from row) || list_any (agree from to row) (kept_rows others ok) in
    let b = foreign_holds from to (kept_rows others ok) (kept_rows rows keep) in
    and-both (list_any is_null (cells from row) || list_any (agree from to row) (kept_rows others (cut ok os))) (foreign_holds from to (kept_rows others (cut ok os)) (kept_rows rows (cut keep set)))
    (one (list_any is_null (cells from row)) (and-one a b h)) (foreign-cut from to others ok os rows keep set (λ i r g t. m (suc i) r g t) (and-two a b h)) where
      one : (n : Bool) → (n || list_any (agree from to row) (kept_rows others ok)) ≡ true → (n || list_any (agree from to row) (kept_rows others (cut ok os))) ≡ true
      one true q = refl
      one false q = any-cut (agree from to row) others ok os (m 0 row refl refl) q

drop-at : (n : ℕ) (set : List Bool) (j : ℕ) → bool_at (drop n set) j ≡ bool_at set (n + j)
drop-at zero set j = ap (bool_at set) (let e : j ≡ 0 + j = omega arith in e)
drop-at (suc n) [] j = none j (suc n + j) where
  none : (a b : ℕ) → bool_at [] a ≡ bool_at [] b
  none a b = refl
drop-at (suc n) (x ∷ set) j = drop-at n set j ∙ ap (bool_at (x ∷ set)) (let e : suc (n + j) ≡ suc n + j = omega arith in e)

-- a closed set has what a row of it is linked to
link-closed : (set : List Bool) (from place : ℕ) (p : List Value → Bool) (others : Rows) → IsClosed (map (link from) (places_where p place others)) set → is_marked set from ≡ true
    → (j : ℕ) (o : List Value) → slice_get others j ≡ Some o → p o ≡ true → is_marked set (place + j) ≡ true
link-closed set from place p [] c m j o g t = absurd (cc)
link-closed set from place p (x ∷ others) c m zero o g t =
    let q : x ≡ o = cc in
    let y : p x ≡ true = ap p q ∙ t in
    let C : Bool → Type 0 = λ b. IsClosed (map (link from) (cond b (place ∷ places_where p (place + 1) others) (places_where p (place + 1) others))) set in
    let e : place ≡ place + 0 = omega arith in
    ap (is_marked set) (sym e) ∙ subst C y c 0 (link from place) (omega arith) m
link-closed set from place p (x ∷ others) c m (suc j) o g t =
    let e : place + 1 + j ≡ place + suc j = omega arith in
    ap (is_marked set) (sym e) ∙ link-closed set from (place + 1) p others (rest (p x) c) m j o g t where
      rest : (b : Bool) → IsClosed (map (link from) (cond b (place ∷ places_where p (place + 1) others) (places_where p (place + 1) others))) set → IsClosed (map (link from) (places_where p (place + 1) others)) set
      rest true h = λ i d l. h (suc i) d (omega (arith, l))
      rest false h = h

foreign-closed : (from to : List ℕ) (others_base : ℕ) (others : Rows) (base : ℕ) (rows : Rows) (set : List Bool) → IsClosed (foreign_links from to others_base others base rows) set
    → (i : ℕ) (r : List Value) → slice_get rows i ≡ Some r → is_marked set (base + i) ≡ true → (j : ℕ) (o : List Value) → slice_get others j ≡ Some o → agree from to r o ≡ true → is_marked set (others_base + j) ≡ true
foreign-closed from to ob others base [] set c i r g m j o h t = absurd (cc)
foreign-closed from to ob others base (row ∷ rows) set c zero r g m j o h t =
    let q : row ≡ r = cc in
    let e : base ≡ base + 0 = omega arith in
    link-closed set base ob (agree from to row) others
    (each-left (λ (l : Link). is_marked set l.from ≡ true → is_marked set l.to ≡ true) (map (link base) (places_where (agree from to row) ob others)) (foreign_links from to ob others (base + 1) rows) c)
    (ap (is_marked set) e ∙ m) j o h (ap (λ x. agree from to x o) q ∙ t)
foreign-closed from to ob others base (row ∷ rows) set c (suc i) r g m j o h t =
    let e : base + 1 + i ≡ base + suc i = omega arith in
    foreign-closed from to ob others (base + 1) rows set
    (each-right (λ (l : Link). is_marked set l.from ≡ true → is_marked set l.to ≡ true) (map (link base) (places_where (agree from to row) ob others)) (foreign_links from to ob others (base + 1) rows) c)
    i r g (ap (is_marked set) e ∙ m) j o h t

-- the kept rows of a table, by its number
kept-at : (table : ℕ) (all : Tables) (keep : List Bool) → rows_at (kept all keep) table ≡ kept_rows (rows_at all table) (drop (base_of table all) keep)
kept-at table [] keep = refl
kept-at zero (rows ∷ all) keep = refl
kept-at (suc table) (rows ∷ all) keep = kept-at table all (drop (length rows) keep) ∙ ap (kept_rows (rows_at all table)) (drop-drop (base_of table all) (length rows) keep)

rule-cut : (all : Tables) (keep set : List Bool) (base : ℕ) (rows : Rows) (rule : Rule) → IsClosed (rule_links all base rows rule) set
    → rule_holds rule (kept_rows rows (drop base keep)) (kept all keep) ≡ true → rule_holds rule (kept_rows rows (drop base (cut keep set))) (kept all (cut keep set)) ≡ true
rule-cut all keep set base rows (NotNull column) c h =
    ap (λ k. not_null_holds column (kept_rows rows k)) (cut-drop base keep set) ∙ all-cut (λ row. not (is_null (cell row column))) rows (drop base keep) (drop base set) h
rule-cut all keep set base rows (Key key) c h = ap (λ k. key_holds key (kept_rows rows k)) (cut-drop base keep set) ∙ key-cut key rows (drop base keep) (drop base set) h
rule-cut all keep set base rows (Foreign f) c h =
    let others = rows_at all f.table in
    let ob = base_of f.table all in
    let here = kept_rows rows (drop base keep) in
    let was : foreign_holds f.from f.to (kept_rows others (drop ob keep)) here ≡ true = ap (λ os. foreign_holds f.from f.to os here) (sym (kept-at f.table all keep)) ∙ h in
    ap (λ os. foreign_holds f.from f.to os (kept_rows rows (drop base (cut keep set)))) (kept-at f.table all (cut keep set) ∙ ap (kept_rows others) (cut-drop ob keep set))
    ∙ ap (λ k. foreign_holds f.from f.to (kept_rows others (cut (drop ob keep) (drop ob set))) (kept_rows rows k)) (cut-drop base keep set)
    ∙ foreign-cut f.from f.to others (drop ob keep) (drop ob set) rows (drop base keep) (drop base set)
    (λ i r g m j o q t. drop-at ob set j ∙ foreign-closed f.from f.to ob others base rows set c i r g (sym (drop-at base set i) ∙ m) j o q t) was
rule-cut all keep set base rows (Check check) c h =
    ap (λ k. check_holds check (kept_rows rows k)) (cut-drop base keep set) ∙ all-cut (λ row. passes (check_truth row check)) rows (drop base keep) (drop base set) h
rule-cut all keep set base rows (Depend d) c h = ap (λ k. depend_holds d.from d.to (kept_rows rows k)) (cut-drop base keep set) ∙ depend-cut d.from d.to rows (drop base keep) (drop base set) h

rules-cut : (all : Tables) (keep set : List Bool) (base : ℕ) (rows : Rows) (rules : List Rule) → IsClosed (rules_links all base rows rules) set
    → rules_hold rules (kept_rows rows (drop base keep)) (kept all keep) ≡ true → rules_hold rules (kept_rows rows (drop base (cut keep set))) (kept all (cut keep set)) ≡ true
rules-cut all keep set base rows [] c h = refl
rules-cut all keep set base rows (rule ∷ rules) c h =
    let P : Link → Type 0 = λ l. is_marked set l.from ≡ true → is_marked set l.to ≡ true in
    let a = rule_holds rule (kept_rows rows (drop base keep)) (kept all keep) in
    let b = rules_hold rules (kept_rows rows (drop base keep)) (kept all keep) in
    and-both (rule_holds rule (kept_rows rows (drop base (cut keep set))) (kept all (cut keep set))) (rules_hold rules (kept_rows rows (drop base (cut keep set))) (kept all (cut keep set)))
    (rule-cut all keep set base rows rule (each-left P (rule_links all base rows rule) (rules_links all base rows rules) c) (and-one a b h))
    (rules-cut all keep set base rows rules (each-right P (rule_links all base rows rule) (rules_links all base rows rules) c) (and-two a b h))

tables-cut : (all : Tables) (keep set : List Bool) (base : ℕ) (tables : List Table) (rest : Tables) → IsClosed (tables_links all base tables rest) set
    → tables_hold tables (kept rest (drop base keep)) (kept all keep) ≡ true → tables_hold tables (kept rest (drop base (cut keep set))) (kept all (cut keep set)) ≡ true
tables-cut all keep set base [] rest c h = refl
tables-cut all keep set base (table ∷ tables) [] c h = refl
tables-cut all keep set base (table ∷ tables) (rows ∷ rest) c h =
    let P : Link → Type 0 = λ l. is_marked set l.from ≡ true → is_marked set l.to ≡ true in
    let after = cut keep set in
    let q : tables_hold (table ∷ tables) (kept_rows rows (drop base keep) ∷ kept rest (drop (base + length rows) keep)) (kept all keep) ≡ true =
    ap (λ ts. tables_hold (table ∷ tables) ts (kept all keep)) (sym (kept-rest rows rest base keep)) ∙ h in
    let a = rules_hold table.rules (kept_rows rows (drop base keep)) (kept all keep) in
    let b = tables_hold tables (kept rest (drop (base + length rows) keep)) (kept all keep) in
    ap (λ ts. tables_hold (table ∷ tables) ts (kept all after)) (kept-rest rows rest base after)
    ∙ and-both (rules_hold table.rules (kept_rows rows (drop base after)) (kept all after)) (tables_hold tables (kept rest (drop (base + length rows) after)) (kept all after))
    (rules-cut all keep set base rows table.rules (each-left P (rules_links all base rows table.rules) (tables_links all (base + length rows) tables rest) c) (and-one a b q))
    (tables-cut all keep set (base + length rows) tables rest (each-right P (rules_links all base rows table.rules) (tables_links all (base + length rows) tables rest) c) (and-two a b q))

-- a lawful choice that is cut to a closed set is lawful
pub lawful-cut : (schema : List Table) (tables : Tables) (set : List Bool) → IsClosed (references schema tables) set → (keep : List Bool) → lawful schema (kept tables keep) ≡ true → lawful schema (kept tables (cut keep set)) ≡ true
lawful-cut schema tables set c keep h = tables-cut tables keep set 0 schema tables c h
