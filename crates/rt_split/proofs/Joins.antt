-- What the parts of a condition choose and join is the selection from the product.
use Rattle.std.proofs.Common.{◌≡◌, ℕ, ℤ, Bool, true, false, IsTrue, cond, ◌&&◌, ◌||◌, List, [], ◌∷◌, ◌++◌, length, map, refl, sym, ap, ap₂, subst, ◌∙◌, arith}
use Rattle.std.specs.Prelude.{nat_eq}
use Rattle.std.specs.List.{filter, list_all}
use Rattle.std.proofs.lemmas.Bool.Decides.{nat_tests}
use Rattle.std.proofs.lemmas.List.{append_assoc}
use Rattle.std.proofs.lemmas.List.Elements.{filter-append}
use Rattle.rt_value.specs.declared.value.Value.{Value}
use Rattle.rt_schema.specs.Given.{Rows, Tables}
use Rattle.rt_algebra.specs.Expression.{Env}
use Rattle.rt_algebra.specs.Answer.{join_each, pairs, is_yes, pred_by}
use Rattle.rt_split.specs.Split.{all_simple, keys_yes, members_yes, first, later, whole}
use Rattle.rt_split.specs.Join.{matched, product_rows, joined_rows, are_wide, AreSimple, EachSimple, Joins, JoinsWhole}
use Rattle.rt_algebra.specs.declared.query.Pred.{Pred}
use Rattle.rt_split.specs.declared.parts.KeyPair.{KeyPair}
use Rattle.rt_split.specs.declared.parts.Split.{Split}
use Rattle.rt_algebra.proofs.Rows.{and-left, and-right}
use Rattle.rt_split.proofs.Splitting.{Narrows}

abbrev Every : (List Value → Type 0) → Rows → Type 0
Every P [] = Unit {0}
Every P (x ∷ xs) = P x × Every P xs

every_append : (P : List Value → Type 0) (xs ys : Rows) → Every P xs → Every P ys → Every P (xs ++ ys)
every_append P [] ys p q = q
every_append P (x ∷ xs) ys p q = (p.0, every_append P xs ys p.1 q)

pairs_append : (xs ys rows : Rows) → pairs (xs ++ ys) rows ≡ pairs xs rows ++ pairs ys rows
pairs_append [] ys rows = refl
pairs_append (x ∷ xs) ys rows = ap (λ zs. join_each x rows ++ zs) (pairs_append xs ys rows) ∙ sym (append_assoc (join_each x rows) (pairs xs rows) (pairs ys rows))

product_append : (xs ys : Rows) (members : List Rows) → product_rows (xs ++ ys) members ≡ product_rows xs members ++ product_rows ys members
product_append xs ys [] = refl
product_append xs ys (rows ∷ members) = ap (λ f. product_rows f members) (pairs_append xs ys rows) ∙ product_append (pairs xs rows) (pairs ys rows) members

abbrev AreLong : ℕ → Rows → Type 0
AreLong w rows = IsTrue (list_all (λ row. nat_eq (length row) w) rows)

long : (w : ℕ) (row : List Value) → IsTrue (nat_eq (length row) w) → length row ≡ w
long w row h = grind (arith, nat_tests)

module _ (fit : ℤ → ℤ) (db : Tables) (env : Env) (test rest : List Value → Bool) where
  selected_append : (xs ys : Rows) (members : List Rows)
      → filter test (product_rows (xs ++ ys) members) ≡ filter test (product_rows xs members) ++ filter test (product_rows ys members)
  selected_append xs ys members = ap (filter test) (product_append xs ys members) ∙ filter-append test (product_rows xs members) (product_rows ys members)

  -- no row that begins with these values passes
  abbrev Never : List ℕ → List Value → Type 0
  Never widths x = (ys : Rows) → map length ys ≡ widths → test (whole x ys) ≡ false

  never_join : (w : ℕ) (widths : List ℕ) (x : List Value) (rows : Rows) → AreLong w rows → ((y : List Value) → length y ≡ w → Never widths (x ++ y)) → Every (Never widths) (join_each x rows)
  never_join w widths x [] l n = tt
  never_join w widths x (y ∷ ys) l n = (n y (long w y (and-left _ _ l)), never_join w widths x ys (and-right (nat_eq (length y) w) _ l) n)

  never_pairs : (w : ℕ) (widths : List ℕ) (front rows : Rows) → AreLong w rows → Every (Never (w ∷ widths)) front → Every (Never widths) (pairs front rows)
  never_pairs w widths [] rows l n = tt
  never_pairs w widths (x ∷ xs) rows l n = every_append (Never widths) (join_each x rows) (pairs xs rows)
      (never_join w widths x rows l (λ y e zs h. n.0 (y ∷ zs) (ap₂ ◌∷◌ e h))) (never_pairs w widths xs rows l n.1)

  never_selected : (front : Rows) → Every (Never []) front → filter test front ≡ []
  never_selected [] n = refl
  never_selected (x ∷ xs) n = let e : test x ≡ false = n.0 [] refl in rw e (never_selected xs n.1)

  never_product : (members : List Rows) (widths : List ℕ) (front : Rows) → IsTrue (are_wide widths members) → Every (Never widths) front → filter test (product_rows front members) ≡ []
  never_product [] [] front l n = never_selected front n
  never_product [] (w ∷ widths) front l n = absurd (cc)
  never_product (rows ∷ members) [] front l n = absurd (cc)
  never_product (rows ∷ members) (w ∷ widths) front l n =
      never_product members widths (pairs front rows) (and-right (list_all (λ row. nat_eq (length row) w) rows) _ l) (never_pairs w widths front rows (and-left _ (are_wide widths members) l) n)

  -- a row that begins with these values passes where the members' parts and the other test hold
  abbrev Parted : List ℕ → List (List Pred) → List (List KeyPair) → List Value → Type 0
  Parted widths own keys x = (ys : Rows) → map length ys ≡ widths → test (whole x ys) ≡ (members_yes fit own keys x ys db env && rest (whole x ys))

  module _ (w : ℕ) (widths : List ℕ) (own : List (List Pred)) (keys : List (List KeyPair)) (simple : AreSimple (first own)) where
    abbrev owned : List Value → Bool
    owned row = all_simple fit (first own) (row ∷ env)

    abbrev keyed : List Value → List Value → Bool
    keyed x row = keys_yes (first keys) x row

    abbrev Next : List Value → Type 0
    Next = Parted widths (later own) (later keys)

    -- a row of the member that is left out, and one that is joined
    left_out : (x y : List Value) → Parted (w ∷ widths) own keys x → length y ≡ w → (owned y && keyed x y) ≡ false → Never widths (x ++ y)
    left_out x y h l e zs m = h (y ∷ zs) (ap₂ ◌∷◌ l m) ∙ ap (λ b. (b && members_yes fit (later own) (later keys) (x ++ y) zs db env) && rest (whole (x ++ y) zs)) (ap (λ b. b && keyed x y) (simple fit db (y ∷ env)) ∙ e)

    joins_on : (x y : List Value) → Parted (w ∷ widths) own keys x → length y ≡ w → (owned y && keyed x y) ≡ true → Next (x ++ y)
    joins_on x y h l e zs m = h (y ∷ zs) (ap₂ ◌∷◌ l m) ∙ ap (λ b. (b && members_yes fit (later own) (later keys) (x ++ y) zs db env) && rest (whole (x ++ y) zs)) (ap (λ b. b && keyed x y) (simple fit db (y ∷ env)) ∙ e)

    abbrev joined_of : List Value → Rows → Rows
    joined_of x rows = join_each x (filter (keyed x) (filter owned rows))

    joined_next : (x y : List Value) (ys : Rows) (o k : Bool) → owned y ≡ o → keyed x y ≡ k
        → joined_of x (y ∷ ys) ≡ cond (o && k) ((x ++ y) ∷ joined_of x ys) (joined_of x ys)
    joined_next x y ys true true e f = rw e (rw f refl)
    joined_next x y ys true false e f = rw e (rw f refl)
    joined_next x y ys false k e f = rw e refl

    join_every : (x : List Value) (rows : Rows) → AreLong w rows → Parted (w ∷ widths) own keys x → Every Next (joined_of x rows)
    join_every x [] l h = tt
    join_every x (y ∷ ys) l h =
        let more = join_every x ys (and-right (nat_eq (length y) w) _ l) h in
        let e = long w y (and-left _ _ l) in
        let E : Rows → Type 0 = Every Next in
        let go : (b : Bool) → (owned y && keyed x y) ≡ b → Every Next (cond b ((x ++ y) ∷ joined_of x ys) (joined_of x ys)) =
        (λ b. elim b as (λ b. (owned y && keyed x y) ≡ b → Every Next (cond b ((x ++ y) ∷ joined_of x ys) (joined_of x ys))) [ true ↦ (λ t. (joins_on x y h e t, more)) | false ↦ (λ t. more) ]) in
        subst E (sym (joined_next x y ys (owned y) (keyed x y) refl refl)) (go (owned y && keyed x y) refl)

    matched_every : (front rows : Rows) → AreLong w rows → Every (Parted (w ∷ widths) own keys) front → Every Next (matched (first keys) front (filter owned rows))
    matched_every [] rows l h = tt
    matched_every (x ∷ xs) rows l h = every_append Next (joined_of x rows) (matched (first keys) xs (filter owned rows)) (join_every x rows l h.0) (matched_every xs rows l h.1)

    module _ (members : List Rows) (wide : IsTrue (are_wide widths members)) where
      abbrev chosen : Rows → Rows
      chosen rows = filter test (product_rows rows members)

      join_same : (x : List Value) (rows : Rows) → AreLong w rows → Parted (w ∷ widths) own keys x → chosen (join_each x rows) ≡ chosen (joined_of x rows)
      join_same x [] l h = refl
      join_same x (y ∷ ys) l h =
          let more = join_same x ys (and-right (nat_eq (length y) w) _ l) h in
          let e = long w y (and-left _ _ l) in
          let go : (b : Bool) → (owned y && keyed x y) ≡ b → chosen ((x ++ y) ∷ join_each x ys) ≡ chosen (cond b ((x ++ y) ∷ joined_of x ys) (joined_of x ys)) =
          (λ b. elim b as (λ b. (owned y && keyed x y) ≡ b → chosen ((x ++ y) ∷ join_each x ys) ≡ chosen (cond b ((x ++ y) ∷ joined_of x ys) (joined_of x ys))) [
            | true ↦ (λ t. selected_append ((x ++ y) ∷ []) (join_each x ys) members ∙ ap (λ zs. chosen ((x ++ y) ∷ []) ++ zs) more ∙ sym (selected_append ((x ++ y) ∷ []) (joined_of x ys) members))
            | false ↦ (λ t. selected_append ((x ++ y) ∷ []) (join_each x ys) members ∙ ap₂ (λ (us zs : Rows). us ++ zs) (never_product members widths ((x ++ y) ∷ []) wide (left_out x y h e t, tt)) more)
          ]) in
          go (owned y && keyed x y) refl ∙ ap chosen (sym (joined_next x y ys (owned y) (keyed x y) refl refl))

      step : (front rows : Rows) → AreLong w rows → Every (Parted (w ∷ widths) own keys) front → chosen (pairs front rows) ≡ chosen (matched (first keys) front (filter owned rows))
      step [] rows l h = refl
      step (x ∷ xs) rows l h =
          selected_append (join_each x rows) (pairs xs rows) members
          ∙ ap₂ (λ (us zs : Rows). us ++ zs) (join_same x rows l h.0) (step xs rows l h.1)
          ∙ sym (selected_append (joined_of x rows) (matched (first keys) xs (filter owned rows)) members)

  simple_first : (own : List (List Pred)) → EachSimple own → AreSimple (first own)
  simple_first [] s = λ f d e. refl
  simple_first (ps ∷ own) s = s.0

  simple_later : (own : List (List Pred)) → EachSimple own → EachSimple (later own)
  simple_later [] s = tt
  simple_later (ps ∷ own) s = s.1

  -- on the rows of all members one test may take the place of another
  abbrev Ends : (List Value → Bool) → Type 0
  Ends last = (own : List (List Pred)) (keys : List (List KeyPair)) (front : Rows) → Every (Parted [] own keys) front → filter test front ≡ filter last front

  ends_rest : Ends rest
  ends_rest own keys [] h = refl
  ends_rest own keys (x ∷ xs) h = let e : test x ≡ rest x = h.0 [] refl in rw e (ap (λ zs. cond (rest x) (x ∷ zs) zs) (ends_rest own keys xs h.1))

  joined : (last : List Value → Bool) → Ends last
      → (members : List Rows) (widths : List ℕ) (own : List (List Pred)) (keys : List (List KeyPair)) (front : Rows) → IsTrue (are_wide widths members) → EachSimple own
      → Every (Parted widths own keys) front → filter test (product_rows front members) ≡ filter last (joined_rows fit own keys front members env)
  joined last ends [] [] own keys front l s h = ends own keys front h
  joined last ends [] (w ∷ widths) own keys front l s h = absurd (cc)
  joined last ends (rows ∷ members) [] own keys front l s h = absurd (cc)
  joined last ends (rows ∷ members) (w ∷ widths) own keys front l s h =
      let long_rows = and-left (list_all (λ row. nat_eq (length row) w) rows) (are_wide widths members) l in
      let wide = and-right (list_all (λ row. nat_eq (length row) w) rows) (are_wide widths members) l in
      let simple = simple_first own s in
      step w widths own keys simple members wide front rows long_rows h
      ∙ joined last ends members widths (later own) (later keys) (matched (first keys) front (filter (owned w widths own keys simple) rows)) wide (simple_later own s)
      (matched_every w widths own keys simple front rows long_rows h)

all_kept : (rows : Rows) → filter (λ row. true) rows ≡ rows
all_kept [] = refl
all_kept (row ∷ rows) = ap (λ rs. row ∷ rs) (all_kept rows)

module _ (p : Pred) (widths : List ℕ) (s : Split) (law : Narrows p widths s) (simple : EachSimple s.own) where
  abbrev tested : (ℤ → ℤ) → Tables → Env → List Value → Bool
  tested fit db env row = is_yes (pred_by fit p db (row ∷ env))

  abbrev left : (ℤ → ℤ) → Tables → Env → List Value → Bool
  left fit db env row = s.is_whole || tested fit db env row

  pub joins_law : Joins p widths s
  joins_law fit db env members wide =
      sym (joined fit db env (tested fit db env) (left fit db env) (tested fit db env) (λ own keys front h. refl) members widths s.own s.keys ([] ∷ []) wide simple (law fit db env, tt))

  pub joins_whole : JoinsWhole p widths s
  joins_whole fit db env members wide h =
      sym (all_kept (joined_rows fit s.own s.keys ([] ∷ []) members env))
      ∙ ap (λ b. filter (λ row. b || tested fit db env row) (joined_rows fit s.own s.keys ([] ∷ []) members env)) (sym h)
      ∙ sym (joined fit db env (tested fit db env) (left fit db env) (left fit db env) (ends_rest fit db env (tested fit db env) (left fit db env)) members widths s.own s.keys ([] ∷ []) wide simple (law fit db env, tt))
