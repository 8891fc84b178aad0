-- A watch goes to another list, as the code does it.
use Rattle.std.proofs.Common.{◌≡◌, ◌≢◌, ℕ, ◌+◌, ◌-◌, ◌/◌, ◌%◌, ◌<◌, ◌≤◌, ◌^◌, List, [], ◌∷◌, ◌++◌, length, get_or, swap, sym, ap, subst, ◌∙◌, Some, arith, slice_set}
use Rattle.std.specs.List.{swap_remove}
use Rattle.rt_clause.specs.Literal.{Literal}
use Rattle.rt_clause.specs.Packed.{packed}
use Rattle.rt_clause.specs.Lists.{line_at}
use Rattle.rt_clause.proofs.Packing.{packed-same}
use Rattle.rt_store.specs.Watching.{Listed, Lists, list_at, noted, literal_in, IsEdited}
use Rattle.rt_solver.specs.Turning.{IsMoved, IsUnwatched, IsShifted}
use Rattle.rt_solver.specs.Propagating.{IsEntry, AreListed}
use Rattle.rt_solver.proofs.Listing.{left-shorter, left-behind}
use Rattle.rt_store.proofs.Looks.{has-at}
use Rattle.rt_solver.proofs.Shifting.{watch-within, literal-has, shifted}
use Rattle.rt_solver.proofs.Turns.{moved}
use Rattle.rt_store.proofs.Copies.{literal-at, literal-long}

-- the entry at the place, and what is known of its clause
pub record IsAt (now : List (List Literal)) (home : ℕ) (e : Listed) (j : ℕ) : Type 0 where
  pub entry : IsEntry now home e
  pub within : e.watch / 2 < length now
  pub long : 2 ≤ length (line_at now (e.watch / 2))
  pub unwatched : IsUnwatched (line_at now (e.watch / 2)) j

pub at-entry : (now : List (List Literal)) (lists : List (List Listed)) (home i j : ℕ) (e : Listed) → AreListed now lists → i < length (list_at lists home) → e ≡ get_or (list_at lists home) i e → IsUnwatched (line_at now (e.watch / 2)) j → IsAt now home e j
at-entry now lists home i j e h b r u =
    let P : Listed → Type 0 = IsEntry now home in
    let x = subst P (sym r) (h.entries home i e b) in
    record { entry = x; within = watch-within now e.watch home x.watch; long = literal-long (line_at now (e.watch / 2)) (e.watch % 2) x.watch.lit x.watch.at; unwatched = u }

-- the literal at the place has a list, and another one
pub to-within : (now : List (List Literal)) (lists : List (List Listed)) (home j to : ℕ) (e : Listed) (c : List Literal) (l : Literal) → AreListed now lists → IsAt now home e j → c ≡ line_at now (e.watch / 2) → l ≡ get_or c j l → to ≡ packed l → to < length lists
to-within now lists home j to e c l h x q r t =
    let P : List Literal → Type 0 = λ d. l ≡ get_or d j l in
    let g = h.wide (e.watch / 2) x.within l (has-at (line_at now (e.watch / 2)) j l x.unwatched.within (subst P q r)) in omega (arith, g, t)

-- the literal of another place of the clause is a small number
pub other-small : (now : List (List Literal)) (lists : List (List Listed)) (home j p : ℕ) (e : Listed) (c : List Literal) (o : Literal) → AreListed now lists → IsAt now home e j → p < 2 → c ≡ line_at now (e.watch / 2) → o ≡ get_or c p o → packed o < 2 ^ 32
other-small now lists home j p e c o h x b q r =
    let P : List Literal → Type 0 = λ d. o ≡ get_or d p o in
    let long = x.long in
    let g = h.wide (e.watch / 2) x.within o (has-at (line_at now (e.watch / 2)) p o (omega (arith, b, long)) (subst P q r)) in
    let f = h.few in omega (arith, g, f)

pub to-other : (now : List (List Literal)) (home j to : ℕ) (e : Listed) (c : List Literal) (l : Literal) → IsAt now home e j → c ≡ line_at now (e.watch / 2) → l ≡ get_or c j l → to ≡ packed l → to ≢ home
to-other now home j to e c l x q r t s =
    let w = x.entry.watch in
    let z : w.lit ≡ l = packed-same w.lit l (w.home ∙ sym s ∙ t) in
    let P : List Literal → Type 0 = λ d. l ≡ get_or d j l in
    let L : Literal → Type 0 = λ k. k ≡ get_or (line_at now (e.watch / 2)) j k in
    x.unwatched.apart (e.watch % 2) w.lit w.at (subst L (sym z) (subst P q r))

pub shift-at : (now : List (List Literal)) (w0 wr w1 w2 : Lists) (home i j n p to : ℕ) (e : Listed) (c new : List Literal) (l o : Literal) → AreListed now w0.lists → i < length (list_at w0.lists home) → e ≡ get_or (list_at w0.lists home) i e → IsAt now home e j
    → wr.lists ≡ w0.lists → list_at w1.lists home ≡ swap_remove (list_at wr.lists home) i e → IsEdited wr w1 home → list_at w2.lists to ≡ list_at w1.lists to ++ noted e o ∷ [] → IsEdited w1 w2 to
    → to ≡ packed l → n ≡ e.watch / 2 → p ≡ e.watch % 2 → c ≡ line_at now (e.watch / 2) → l ≡ get_or c j l → o ≡ get_or c (1 - p) o → new ≡ swap c p j → IsShifted now (slice_set now n new) w0.lists w2.lists home i j
shift-at now w0 wr w1 w2 home i j n p to e c new l o h b r x same left dl joined dj t en ep q rl ro s = record {
  entry = e;
  at = r;
  lit = l;
  read = read;
  clause = new;
  lines = ap (λ k. slice_set now k new) en;
  moved = mv;
  listed = (let L : ℕ → Type 0 = λ k. AreListed (slice_set now k new) w2.lists in subst L (sym en)
      (shifted now wr w1 w2 home i to e new l o (let A : List (List Listed) → Type 0 = AreListed now in subst A (sym same) h) (let B : List (List Listed) → Type 0 = λ ls. i < length (list_at ls home) in subst B (sym same) b)
      (let R : List (List Listed) → Type 0 = λ ls. e ≡ get_or (list_at ls home) i e in subst R (sym same) r) left dl joined dj t mv (literal-has line (1 - e.watch % 2) o other)));
  behind = λ k d g z y. left-behind (list_at w0.lists home) i k e d b g (let a = ap length remains in omega (arith, z, a)) (y ∙ ap (λ es. get_or es k d) remains);
  shorter = ap (λ es. length es + 1) remains ∙ left-shorter (list_at w0.lists home) i e b;
  len = dj.len ∙ dl.len ∙ ap length same;
} where
  line : List Literal
  line = line_at now (e.watch / 2)

  away : home ≢ to
  away z = to-other now home j to e c l x q rl t (sym z)

  remains : list_at w2.lists home ≡ swap_remove (list_at w0.lists home) i e
  remains = dj.others home away ∙ left ∙ ap (λ ls. swap_remove (list_at ls home) i e) same

  read : l ≡ get_or (line_at now (e.watch / 2)) j l
  read = let P : List Literal → Type 0 = λ d. l ≡ get_or d j l in subst P q rl

  other : literal_in (line_at now (e.watch / 2)) (1 - e.watch % 2) ≡ Some o
  other =
      let P : List Literal → ℕ → Type 0 = λ d m. o ≡ get_or d (1 - m) o in
      let Q : List Literal → Type 0 = λ d. P d p in
      literal-at (line_at now (e.watch / 2)) (1 - e.watch % 2) o (omega arith) x.long (subst (P (line_at now (e.watch / 2))) ep (subst Q q ro))

  mv : IsMoved (line_at now (e.watch / 2)) new (e.watch % 2) l
  mv = moved (line_at now (e.watch / 2)) new (e.watch % 2) j o l (omega arith) other x.unwatched.low x.unwatched.within read
      (λ z. x.unwatched.apart (1 - e.watch % 2) o other (let L : Literal → Type 0 = λ k. k ≡ get_or (line_at now (e.watch / 2)) j k in subst L z read))
      (s ∙ ap (λ d. swap d p j) q ∙ ap (λ m. swap (line_at now (e.watch / 2)) m j) ep)
