-- The rows whose condition holds, layer by layer: those that the algebra answers.
use Rattle.std.proofs.Common.{◌≡◌, ℕ, zero, suc, Bool, true, false, cond, not, ◌&&◌, ◌||◌, List, [], ◌∷◌, ◌++◌, map, get_or, drop, length, ◌∙◌, refl, ap₂}
use Rattle.std.specs.List.{filter}
use Rattle.rt_value.specs.declared.value.Value.{Value}
use Rattle.rt_value.specs.declared.truth.Truth.{Truth}
use Rattle.rt_value.specs.declared.truth.Truth.TheVariants.{Yes, No, Unknown}
use Rattle.rt_value.specs.Truth.{truth_and, truth_or}
use Rattle.rt_value.specs.Row.{row_eq}
use Rattle.rt_schema.specs.Given.{Rows, Tables}
use Rattle.rt_algebra.specs.Answer.{is_yes, some_truth, has_row, cell_truth, member_truth, join_each, pairs}
use Rattle.rt_schema.specs.Kept.{kept, kept_rows}
use Rattle.rt_noted.specs.Entries.{Test, Entry, is_no, head, tail, rows_at, of_rows, of_table, any_entry, member_test, selected, projected, join_entry, paired, stands}

pub yes_and : (a b : Truth) → (is_yes a && is_yes b) ≡ is_yes (truth_and a b)
yes_and No b = refl
yes_and Yes b = refl
yes_and Unknown No = refl
yes_and Unknown Yes = refl
yes_and Unknown Unknown = refl

pub no_and : (a b : Truth) → (is_no a || is_no b) ≡ is_no (truth_and a b)
no_and No b = refl
no_and Yes b = refl
no_and Unknown No = refl
no_and Unknown Yes = refl
no_and Unknown Unknown = refl

pub yes_or : (a b : Truth) → (is_yes a || is_yes b) ≡ is_yes (truth_or a b)
yes_or No b = refl
yes_or Yes b = refl
yes_or Unknown No = refl
yes_or Unknown Yes = refl
yes_or Unknown Unknown = refl

pub no_or : (a b : Truth) → (is_no a && is_no b) ≡ is_no (truth_or a b)
no_or No b = refl
no_or Yes b = refl
no_or Unknown No = refl
no_or Unknown Yes = refl
no_or Unknown Unknown = refl

none_kept : (rs : Rows) → kept_rows rs [] ≡ []
none_kept [] = refl
none_kept (r ∷ rs) = refl

kept_step : (r : List Value) (rs : Rows) (u : List Bool) → cond (head u) (r ∷ kept_rows rs (tail u)) (kept_rows rs (tail u)) ≡ kept_rows (r ∷ rs) u
kept_step r rs [] = none_kept rs
kept_step r rs (b ∷ u) = refl

module _ (s : List Bool) where
  rows_exact : (rs : Rows) (f : List Bool → List Bool) → rows_at s (of_rows rs f) ≡ kept_rows rs (f s)
  rows_exact [] f = refl
  rows_exact (r ∷ rs) f = rw (rows_exact rs (λ u. tail (f u))) (kept_step r rs (f s))

  pub table_exact : (ts : Tables) (f : List Bool → List Bool) (n : ℕ) → rows_at s (of_table ts f n) ≡ get_or (kept ts (f s)) n []
  table_exact [] f zero = refl
  table_exact [] f (suc n) = refl
  table_exact (t ∷ ts) f zero = rows_exact t f
  table_exact (t ∷ ts) f (suc n) = table_exact ts (λ u. drop (length t) (f u)) n

  pub append_exact : (es ds : List Entry) → rows_at s (es ++ ds) ≡ rows_at s es ++ rows_at s ds
  append_exact [] ds = refl
  append_exact (e ∷ es) ds = rw (append_exact es ds)
      (elim (e.1 s) as (λ b. cond b (e.0 ∷ (rows_at s es ++ rows_at s ds)) (rows_at s es ++ rows_at s ds) ≡ cond b (e.0 ∷ rows_at s es) (rows_at s es) ++ rows_at s ds) [ true ↦ refl | false ↦ refl ])

  pub select_exact : (es : List Entry) (p : List Value → Test) (t : List Value → Bool) → ((r : List Value) → (p r).0 s ≡ t r) → rows_at s (selected es p) ≡ filter t (rows_at s es)
  select_exact [] p t h = refl
  select_exact (e ∷ es) p t h = rw (select_exact es p t h, h e.0)
      (elim (e.1 s) as (λ b. cond (b && t e.0) (e.0 ∷ filter t (rows_at s es)) (filter t (rows_at s es)) ≡ filter t (cond b (e.0 ∷ rows_at s es) (rows_at s es))) [ true ↦ refl | false ↦ refl ])

  pub project_exact : (es : List Entry) (f : List Value → List Value) → rows_at s (projected es f) ≡ map f (rows_at s es)
  project_exact [] f = refl
  project_exact (e ∷ es) f = rw (project_exact es f)
      (elim (e.1 s) as (λ b. cond b (f e.0 ∷ map f (rows_at s es)) (map f (rows_at s es)) ≡ map f (cond b (e.0 ∷ rows_at s es) (rows_at s es))) [ true ↦ refl | false ↦ refl ])

  pub join_exact : (e : Entry) (ds : List Entry) → rows_at s (join_entry e ds) ≡ cond (e.1 s) (join_each e.0 (rows_at s ds)) []
  join_exact e [] = elim (e.1 s) as (λ b. ◌≡◌ {A = Rows} [] (cond b [] [])) [ true ↦ refl | false ↦ refl ]
  join_exact e (d ∷ ds) = rw (join_exact e ds) (go (e.1 s) (d.1 s))
    where
      go : (a b : Bool) → cond (a && b) ((e.0 ++ d.0) ∷ cond a (join_each e.0 (rows_at s ds)) []) (cond a (join_each e.0 (rows_at s ds)) [])
          ≡ cond a (join_each e.0 (cond b (d.0 ∷ rows_at s ds) (rows_at s ds))) []
      go true true = refl
      go true false = refl
      go false b = refl

  pub pair_exact : (es ds : List Entry) → rows_at s (paired es ds) ≡ pairs (rows_at s es) (rows_at s ds)
  pair_exact [] ds = refl
  pair_exact (e ∷ es) ds = append_exact (join_entry e ds) (paired es ds) ∙ ap₂ ◌++◌ (join_exact e ds) (pair_exact es ds)
      ∙ elim (e.1 s) as (λ b. cond b (join_each e.0 (rows_at s ds)) [] ++ pairs (rows_at s es) (rows_at s ds) ≡ pairs (cond b (e.0 ∷ rows_at s es) (rows_at s es)) (rows_at s ds)) [ true ↦ refl | false ↦ refl ]

  pub stands_exact : (ds : List Entry) (r : List Value) → stands ds r s ≡ has_row (rows_at s ds) r
  stands_exact [] r = refl
  stands_exact (d ∷ ds) r = rw (stands_exact ds r) (go (row_eq r d.0) refl (d.1 s))
    where
      go : (a : Bool) → a ≡ row_eq r d.0 → (b : Bool) → ((row_eq r d.0 && b) || has_row (rows_at s ds) r) ≡ has_row (cond b (d.0 ∷ rows_at s ds) (rows_at s ds)) r
      go true h true = rw (← h) refl
      go true h false = rw (← h) refl
      go false h true = rw (← h) refl
      go false h false = rw (← h) refl

  pub any_exact : (es : List Entry) → any_entry es s ≡ is_yes (some_truth (rows_at s es))
  any_exact [] = refl
  any_exact (e ∷ es) = rw (any_exact es) (elim (e.1 s) as (λ b. (b || is_yes (some_truth (rows_at s es))) ≡ is_yes (some_truth (cond b (e.0 ∷ rows_at s es) (rows_at s es)))) [ true ↦ refl | false ↦ refl ])

  pub not_any : (rows : Rows) → not (is_yes (some_truth rows)) ≡ is_no (some_truth rows)
  not_any [] = refl
  not_any (r ∷ rs) = refl

  pub member_yes : (x : Value) (es : List Entry) → (member_test x es).0 s ≡ is_yes (member_truth x (rows_at s es))
  member_yes x [] = refl
  member_yes x (e ∷ es) = rw (member_yes x es)
      (elim (e.1 s) as (λ b. ((b && is_yes (cell_truth x e.0)) || is_yes (member_truth x (rows_at s es))) ≡ is_yes (member_truth x (cond b (e.0 ∷ rows_at s es) (rows_at s es))))
      [ true ↦ yes_or (cell_truth x e.0) (member_truth x (rows_at s es)) | false ↦ refl ])

  pub member_no : (x : Value) (es : List Entry) → (member_test x es).1 s ≡ is_no (member_truth x (rows_at s es))
  member_no x [] = refl
  member_no x (e ∷ es) = rw (member_no x es)
      (elim (e.1 s) as (λ b. ((not b || is_no (cell_truth x e.0)) && is_no (member_truth x (rows_at s es))) ≡ is_no (member_truth x (cond b (e.0 ∷ rows_at s es) (rows_at s es))))
      [ true ↦ no_or (cell_truth x e.0) (member_truth x (rows_at s es)) | false ↦ refl ])
