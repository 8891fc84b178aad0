-- Links of rows, one row after the other.
use Rattle.std.proofs.Common.{◌≡◌, ℕ, zero, suc, ◌+◌, ◌<◌, ◌≤◌, Bool, true, false, cond, not, ◌&&◌, List, [], ◌∷◌, ◌++◌, append_assoc, map, length, take, get_or, refl, sym, subst, ap, arith, ◌∙◌}
use Rattle.std.proofs.lemmas.List.{append-nil, take_more}
use Rattle.std.specs.List.{list_any, All as Each}
use Rattle.rt_value.specs.declared.value.Value.{Value}
use Rattle.rt_value.specs.Row.{row_eq}
use Rattle.rt_schema.specs.Given.{Rows, Tables, rows_at, base_of, places}
use Rattle.rt_schema.specs.Cells.{agree, cells, is_null}
use Rattle.rt_schema.specs.declared.table.Rule.{Rule}
use Rattle.rt_schema.specs.declared.table.Rule.TheVariants.{NotNull, Key, Foreign, Check, Depend}
use Rattle.rt_schema.specs.declared.table.Table.{Table}
use Rattle.rt_rules.specs.declared.links.Link.{Link}
use Rattle.rt_rules.specs.Cone.{foreign_links, link, places_where, references, rule_links, rules_links, tables_links}

places-append : (test : List Value → Bool) (place : ℕ) (rows : Rows) (row : List Value)
    → places_where test place (rows ++ row ∷ []) ≡ places_where test place rows ++ cond (test row) ((place + length rows) ∷ []) []
places-append test place [] row = by (test row) where
  by : (b : Bool) → cond b (place ∷ []) [] ≡ cond b ((place + 0) ∷ []) []
  by true = ap (λ n. n ∷ []) (let e : place ≡ place + 0 = omega arith in e)
  by false = refl
places-append test place (r ∷ rows) row =
    let e : place + 1 + length rows ≡ place + length (r ∷ rows) = omega arith in
    by (test r) (places-append test (place + 1) rows row ∙ ap (λ n. places_where test (place + 1) rows ++ cond (test row) (n ∷ []) []) e) where
      by : (b : Bool) → places_where test (place + 1) (rows ++ row ∷ []) ≡ places_where test (place + 1) rows ++ cond (test row) ((place + length (r ∷ rows)) ∷ []) []
          → cond b (place ∷ places_where test (place + 1) (rows ++ row ∷ [])) (places_where test (place + 1) (rows ++ row ∷ []))
          ≡ cond b (place ∷ places_where test (place + 1) rows) (places_where test (place + 1) rows) ++ cond (test row) ((place + length (r ∷ rows)) ∷ []) []
      by true h = ap (λ ps. place ∷ ps) h
      by false h = h

take-long : {X : Type 0} (i : ℕ) (xs : List X) → i ≤ length xs → length (take i xs) ≡ i
take-long zero xs h = refl
take-long (suc i) [] h = absurd (omega arith)
take-long (suc i) (x ∷ xs) h = let r = take-long i xs (omega (arith, h)) in omega (arith, r)

pub taken : {X : Type 0} (xs : List X) (i : ℕ) (x : X) → i < length xs → x ≡ get_or xs i x → take (i + 1) xs ≡ take i xs ++ x ∷ []
taken xs i x h e = take_more xs i x h ∙ ap (λ v. take i xs ++ v ∷ []) (sym e)

-- one more row
pub places-more : (test : List Value → Bool) (place : ℕ) (rows : Rows) (i : ℕ) (row : List Value) → i < length rows → row ≡ get_or rows i row
    → places_where test place (take (i + 1) rows) ≡ places_where test place (take i rows) ++ cond (test row) ((place + i) ∷ []) []
places-more test place rows i row h e =
    ap (places_where test place) (taken rows i row h e) ∙ places-append test place (take i rows) row
    ∙ ap (λ n. places_where test place (take i rows) ++ cond (test row) ((place + n) ∷ []) []) (take-long i rows (let z : i ≤ length rows = omega (arith, h) in z))

foreign-append : (from to : List ℕ) (others_base : ℕ) (others : Rows) (base : ℕ) (rows : Rows) (row : List Value)
    → foreign_links from to others_base others base (rows ++ row ∷ []) ≡ foreign_links from to others_base others base rows ++ map (link (base + length rows)) (places_where (agree from to row) others_base others)
foreign-append from to others_base others base [] row =
    append-nil (map (link base) (places_where (agree from to row) others_base others)) ∙ ap (λ n. map (link n) (places_where (agree from to row) others_base others)) (let e : base ≡ base + 0 = omega arith in e)
foreign-append from to others_base others base (r ∷ rows) row =
    let here = map (link base) (places_where (agree from to r) others_base others) in
    let next = foreign_links from to others_base others (base + 1) rows in
    let e : base + 1 + length rows ≡ base + length (r ∷ rows) = omega arith in
    let last = map (link (base + length (r ∷ rows))) (places_where (agree from to row) others_base others) in
    ap (λ ls. here ++ ls) (foreign-append from to others_base others (base + 1) rows row ∙ ap (λ n. next ++ map (link n) (places_where (agree from to row) others_base others)) e)
    ∙ sym (append_assoc here next last)

pub foreign-more : (from to : List ℕ) (others_base : ℕ) (others : Rows) (base : ℕ) (rows : Rows) (i : ℕ) (row : List Value) → i < length rows → row ≡ get_or rows i row
    → foreign_links from to others_base others base (take (i + 1) rows) ≡ foreign_links from to others_base others base (take i rows) ++ map (link (base + i)) (places_where (agree from to row) others_base others)
foreign-more from to others_base others base rows i row h e =
    ap (foreign_links from to others_base others base) (taken rows i row h e) ∙ foreign-append from to others_base others base (take i rows) row
    ∙ ap (λ n. foreign_links from to others_base others base (take i rows) ++ map (link (base + n)) (places_where (agree from to row) others_base others)) (take-long i rows (let z : i ≤ length rows = omega (arith, h) in z))

rules-append : (all : Tables) (base : ℕ) (rows : Rows) (rules : List Rule) (rule : Rule) → rules_links all base rows (rules ++ rule ∷ []) ≡ rules_links all base rows rules ++ rule_links all base rows rule
rules-append all base rows [] rule = append-nil (rule_links all base rows rule)
rules-append all base rows (r ∷ rules) rule =
    ap (λ ls. rule_links all base rows r ++ ls) (rules-append all base rows rules rule) ∙ sym (append_assoc (rule_links all base rows r) (rules_links all base rows rules) (rule_links all base rows rule))

pub rules-more : (all : Tables) (base : ℕ) (rows : Rows) (rules : List Rule) (i : ℕ) (rule : Rule) → i < length rules → rule ≡ get_or rules i rule
    → rules_links all base rows (take (i + 1) rules) ≡ rules_links all base rows (take i rules) ++ rule_links all base rows rule
rules-more all base rows rules i rule h e = ap (rules_links all base rows) (taken rules i rule h e) ∙ rules-append all base rows (take i rules) rule

-- a row with NULL in a referencing column matches none
pub null-none : (from to : List ℕ) (row : List Value) (place : ℕ) (others : Rows) → list_any is_null (cells from row) ≡ true → places_where (agree from to row) place others ≡ []
null-none from to row place [] h = refl
null-none from to row place (o ∷ others) h =
    let no : agree from to row o ≡ false = ap (λ b. row_eq (cells from row) (cells to o) && not b) h ∙ and-false (row_eq (cells from row) (cells to o)) in
    ap (λ b. cond b (place ∷ places_where (agree from to row) (place + 1) others) (places_where (agree from to row) (place + 1) others)) no ∙ null-none from to row (place + 1) others h where
      and-false : (b : Bool) → (b && false) ≡ false
      and-false true = refl
      and-false false = refl

pub each-one : {X : Type 0} (P : X → Type 0) (x : X) (xs : List X) → P x → Each P xs → Each P (x ∷ xs)
each-one P x xs p h zero d b = p
each-one P x xs p h (suc i) d b = h i d (omega (arith, b))

-- what holds of both parts of a list
pub each-both : {X : Type 0} (P : X → Type 0) (xs ys : List X) → Each P xs → Each P ys → Each P (xs ++ ys)
each-both P [] ys p q i d b = q i d b
each-both P (x ∷ xs) ys p q zero d b = p 0 d (omega arith)
each-both P (x ∷ xs) ys p q (suc i) d b = each-both P xs ys (λ j e c. p (suc j) e (omega (arith, c))) q i d (omega (arith, b))

pub each-left : {X : Type 0} (P : X → Type 0) (xs ys : List X) → Each P (xs ++ ys) → Each P xs
each-left P [] ys h i d b = absurd (omega (arith, b))
each-left P (x ∷ xs) ys h zero d b = h 0 d (omega arith)
each-left P (x ∷ xs) ys h (suc i) d b = each-left P xs ys (λ j e c. h (suc j) e (omega (arith, c))) i d (omega (arith, b))

pub each-right : {X : Type 0} (P : X → Type 0) (xs ys : List X) → Each P (xs ++ ys) → Each P ys
each-right P [] ys h = h
each-right P (x ∷ xs) ys h = each-right P xs ys (λ j e c. h (suc j) e (omega (arith, c)))

-- each link is between two places
abbrev pub AreLow : ℕ → List Link → Type 0
AreLow end links = Each (λ l. (l.from < end) × (l.to < end)) links

places-low : (test : List Value → Bool) (from place end : ℕ) (rows : Rows) → from < end → place + length rows ≤ end → AreLow end (map (link from) (places_where test place rows))
places-low test from place end [] f h = λ i d b. absurd (omega (arith, b))
places-low test from place end (row ∷ rows) f h = by (test row) (places-low test from (place + 1) end rows f (omega (arith, h))) where
  by : (t : Bool) → AreLow end (map (link from) (places_where test (place + 1) rows)) → AreLow end (map (link from) (cond t (place ∷ places_where test (place + 1) rows) (places_where test (place + 1) rows)))
  by false r = r
  by true r = each-one (λ l. (l.from < end) × (l.to < end)) (link from place) (map (link from) (places_where test (place + 1) rows)) (f, omega (arith, h)) r

foreign-low : (from to : List ℕ) (others_base : ℕ) (others : Rows) (base : ℕ) (rows : Rows) (end : ℕ) → others_base + length others ≤ end → base + length rows ≤ end → AreLow end (foreign_links from to others_base others base rows)
foreign-low from to others_base others base [] end o h = λ i d b. absurd (omega (arith, b))
foreign-low from to others_base others base (row ∷ rows) end o h =
    each-both (λ l. (l.from < end) × (l.to < end)) (map (link base) (places_where (agree from to row) others_base others)) (foreign_links from to others_base others (base + 1) rows)
    (places-low (agree from to row) base others_base end others (omega (arith, h)) o) (foreign-low from to others_base others (base + 1) rows end o (omega (arith, h)))

table-low : (table : ℕ) (all : Tables) → base_of table all + length (rows_at all table) ≤ places all
table-low table [] = omega arith
table-low zero (rows ∷ all) = omega arith
table-low (suc table) (rows ∷ all) = let r = table-low table all in omega (arith, r)

rules-low : (all : Tables) (base : ℕ) (rows : Rows) (rules : List Rule) → base + length rows ≤ places all → AreLow (places all) (rules_links all base rows rules)
rules-low all base rows [] h = λ i d b. absurd (omega (arith, b))
rules-low all base rows (rule ∷ rules) h =
    each-both (λ l. (l.from < places all) × (l.to < places all)) (rule_links all base rows rule) (rules_links all base rows rules) (one rule) (rules-low all base rows rules h) where
      one : (r : Rule) → AreLow (places all) (rule_links all base rows r)
      one (NotNull column) = λ i d b. absurd (omega (arith, b))
      one (Key key) = λ i d b. absurd (omega (arith, b))
      one (Check check) = λ i d b. absurd (omega (arith, b))
      one (Depend e) = λ i d b. absurd (omega (arith, b))
      one (Foreign f) = foreign-low f.from f.to (base_of f.table all) (rows_at all f.table) base rows (places all) (table-low f.table all) h

tables-low : (all : Tables) (base : ℕ) (tables : List Table) (rest : Tables) → base + places rest ≤ places all → AreLow (places all) (tables_links all base tables rest)
tables-low all base [] rest h = λ i d b. absurd (omega (arith, b))
tables-low all base (table ∷ tables) [] h = λ i d b. absurd (omega (arith, b))
tables-low all base (table ∷ tables) (rows ∷ rest) h =
    each-both (λ l. (l.from < places all) × (l.to < places all)) (rules_links all base rows table.rules) (tables_links all (base + length rows) tables rest)
    (rules-low all base rows table.rules (omega (arith, h))) (tables-low all (base + length rows) tables rest (omega (arith, h)))

pub references-low : (schema : List Table) (tables : Tables) → AreLow (places tables) (references schema tables)
references-low schema tables = tables-low tables 0 schema tables (omega arith)

pub map-more : (f : ℕ → Link) (xs : List ℕ) (i x : ℕ) → i < length xs → x ≡ get_or xs i x → map f (take (i + 1) xs) ≡ map f (take i xs) ++ f x ∷ []
map-more f xs i x h e = ap (map f) (taken xs i x h e) ∙ by (take i xs) where
  by : (ys : List ℕ) → map f (ys ++ x ∷ []) ≡ map f ys ++ f x ∷ []
  by [] = refl
  by (y ∷ ys) = ap (λ ls. f y ∷ ls) (by ys)

-- more links at the end
pub links-more : (old now new first last both : List Link) → now ≡ old ++ first → new ≡ now ++ last → both ≡ first ++ last → new ≡ old ++ both
links-more old now new first last both p q r = q ∙ ap (λ ls. ls ++ last) p ∙ append_assoc old first last ∙ ap (λ ls. old ++ ls) (sym r)

pub low-same : (n m : ℕ) (old new : List Link) → m ≡ n → new ≡ old → AreLow n old → AreLow m new
low-same n m old new e q h = let N : ℕ → Type 0 = λ k. AreLow k new in let L : List Link → Type 0 = AreLow n in subst N (sym e) (subst L (sym q) h)

-- an element that is there does not rest on the default
pub any-default : {X : Type 0} (xs : List X) (i : ℕ) (a b : X) → i < length xs → get_or xs i a ≡ get_or xs i b
any-default [] i a b h = absurd (omega arith)
any-default (x ∷ xs) zero a b h = refl
any-default (x ∷ xs) (suc i) a b h = any-default xs i a b (omega (arith, h))
