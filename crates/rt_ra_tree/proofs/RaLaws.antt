-- Trees and texts: each reader keeps to the spelling.
use Rattle.std.proofs.Common.{◌≡◌, ◌∙◌, ◌≤◌, ◌<◌, ◌+◌, ◌-◌, Bor, sym, ap, subst, ℕ, zero, suc, [], ◌∷◌, ◌++◌, length, refl, Bool, false, Option, Some, None, arith, length-append}
use Rattle.std.specs.Prelude.{Result, codes}
use Rattle.rt_token.specs.declared.fixed.Fixed.TheVariants as fixed
use Rattle.rt_token.specs.declared.read_fault.ReadFault.{ReadFault}
use Rattle.rt_token.specs.declared.terminal.Name.{Name}
use Rattle.rt_token.specs.declared.terminal.Terminal.TheVariants as terminal
use Rattle.rt_token.specs.Reads.{Reads}
use Rattle.rt_token.specs.Terminals.{Kinds, after, flag, front, in_paren}
use Rattle.rt_token.specs.Readers.{Parser, both, lead, paren, plain_word, read_end, read_name, ◌>>=◌}
use Rattle.rt_token.proofs.EndLaws.{end-front, end-reads, end-sound}
use Rattle.rt_token.proofs.Laws.{Lawful, both-law, lead-law, loose, made-after, made-sound, paren-law, weaker}
use Rattle.rt_token.proofs.ManyLemmas.{bind-some, some-is}
use Rattle.rt_ra_tree.specs.Heads.{head_at, head_terminal}
use Rattle.rt_ra_tree.specs.Operands.{last_operand}
use Rattle.rt_ra_tree.specs.Reads.{operands, project_of, read_from, read_names, read_ra, read_tests, read_text, read_with, rename_of, select_of, text_of, two_of}
use Rattle.rt_ra_tree.specs.Spelled.{applied, ra_step, spelled_names, spelled_ra, spelled_tests, spelled_text, word_of_two}
use Rattle.rt_ra_tree.specs.declared.heads.Head.{Head}
use Rattle.rt_ra_tree.specs.declared.heads.Head.TheVariants as head
use Rattle.rt_ra_tree.specs.declared.tree.Ra.{Ra}
use Rattle.rt_ra_tree.specs.declared.tree.Ra.TheViews.{out-Ra, roll-Ra, roll-out-Ra}
use Rattle.rt_ra_tree.specs.declared.tree.Ra.TheFolds.{fold-roll-Ra}
use Rattle.rt_ra_tree.specs.declared.tree.Ra.TheOpen as open_
use Rattle.rt_ra_tree.specs.declared.tree.Ra.TheVariants as ra
use Rattle.rt_ra_tree.specs.declared.tree.RaNames.{RaNames}
use Rattle.rt_ra_tree.specs.declared.tree.RaOp.{RaOp}
use Rattle.rt_ra_tree.specs.declared.tree.RaTests.{RaTests}
use Rattle.rt_ra_tree.specs.declared.tree.RaText.{RaText}
use Rattle.rt_ra_tree.proofs.HeadLaws.{head-none, head-reads, head-sound}
use Rattle.rt_ra_tree.proofs.TestLaws.{a-name, names-law, tests-law}

-- ---- what each operator spells

spelled-Table : (n : Name) → spelled_ra (ra.Table n) ≡ terminal.Name n ∷ []
unfolding spelled_ra
spelled-Table n = ap (λ (x : Ra). spelled_ra x) (sym (ra.rolls-Table n)) ∙ fold-roll-Ra Kinds ra_step (open_.Table n)

spelled-Select : (a : Ra) (ts : RaTests) → spelled_ra (ra.Select a ts) ≡ applied (terminal.Fixed fixed.Select) (spelled_ra a) (spelled_tests ts)
unfolding spelled_ra
spelled-Select a ts = ap (λ (x : Ra). spelled_ra x) (sym (ra.rolls-Select a ts)) ∙ fold-roll-Ra Kinds ra_step (open_.Select a ts)

spelled-Project : (a : Ra) (ns : RaNames) → spelled_ra (ra.Project a ns) ≡ applied (plain_word (codes "project")) (spelled_ra a) (spelled_names ns)
unfolding spelled_ra
spelled-Project a ns = ap (λ (x : Ra). spelled_ra x) (sym (ra.rolls-Project a ns)) ∙ fold-roll-Ra Kinds ra_step (open_.Project a ns)

spelled-Rename : (a : Ra) (ns : RaNames) → spelled_ra (ra.Rename a ns) ≡ applied (plain_word (codes "rename")) (spelled_ra a) (spelled_names ns)
unfolding spelled_ra
spelled-Rename a ns = ap (λ (x : Ra). spelled_ra x) (sym (ra.rolls-Rename a ns)) ∙ fold-roll-Ra Kinds ra_step (open_.Rename a ns)

spelled-Two : (o : RaOp) (a b : Ra) → spelled_ra (ra.Two o a b) ≡ applied (word_of_two o) (spelled_ra a) (spelled_ra b)
unfolding spelled_ra
spelled-Two o a b = ap (λ (x : Ra). spelled_ra x) (sym (ra.rolls-Two o a b)) ∙ fold-roll-Ra Kinds ra_step (open_.Two o a b)

ra-cases : (P : Ra → Type 0) → ((n : Name) → P (ra.Table n)) → ((a : Ra) (ts : RaTests) → P (ra.Select a ts)) → ((a : Ra) (ns : RaNames) → P (ra.Project a ns))
    → ((a : Ra) (ns : RaNames) → P (ra.Rename a ns)) → ((o : RaOp) (a b : Ra) → P (ra.Two o a b)) → (x : Ra) → P x
ra-cases P t s p r w x = subst P (roll-out-Ra x) (go (out-Ra x))
  where
    go : (o : open_.Ra-F Ra) → P (roll-Ra o)
    go (open_.Table n) = subst P (sym (ra.rolls-Table n)) (t n)
    go (open_.Select a ts) = subst P (sym (ra.rolls-Select a ts)) (s a ts)
    go (open_.Project a ns) = subst P (sym (ra.rolls-Project a ns)) (p a ns)
    go (open_.Rename a ns) = subst P (sym (ra.rolls-Rename a ns)) (r a ns)
    go (open_.Two o a b) = subst P (sym (ra.rolls-Two o a b)) (w o a b)

-- ---- operators, over a reader of their operands

abbrev pair_kinds : {A : Type 0} → (A → Kinds) → Ra × A → Kinds
pair_kinds sp x = in_paren (spelled_ra x.0 ++ terminal.Fixed fixed.Comma ∷ sp x.1)

-- an operand, a comma and the rest, read at once
abbrev at_once : {A : Type 0} → Parser Ra → Parser A → Parser (Ra × A)
at_once inner p = paren (both inner (lead fixed.Comma p))

abbrev with_rest : {A : Type 0} → A → Kinds → Option (A × Kinds)
with_rest y s = Some (y, s)

abbrev paired : {A : Type 0} → Ra → A × Kinds → Option ((Ra × A) × Kinds)
paired x b = Some ((x, b.0), b.1)

abbrev with_last : {A : Type 0} → Parser A → Ra × Kinds → Option ((Ra × A) × Kinds)
with_last p a = last_operand p a.1 >>= paired a.0

abbrev closed : {A : Type 0} → A × Kinds → Option (A × Kinds)
closed c = after fixed.CloseParen c.1 >>= with_rest c.0

close : {A : Type 0} (x : Ra) (y : A) (o : Option Kinds) → (o >>= with_rest y) >>= paired x ≡ o >>= with_rest {A = Ra × A} (x, y)
close x y None = refl
close x y (Some s) = refl

last-part : {A : Type 0} (x : Ra) (o : Option (A × Kinds)) → (o >>= closed) >>= paired x ≡ (o >>= paired x) >>= closed {A = Ra × A}
last-part x None = refl
last-part x (Some b) = close x b.0 (after fixed.CloseParen b.1)

comma-part : {A : Type 0} (p : Parser A) (x : Ra) (o : Option Kinds) → (o >>= with_rest x) >>= with_last p ≡ ((o >>= p) >>= paired x) >>= closed {A = Ra × A}
comma-part p x None = refl
comma-part p x (Some s) = last-part x (p s)

first-part : {A : Type 0} (p : Parser A) (o : Option (Ra × Kinds)) → (o >>= λ a. after fixed.Comma a.1 >>= with_rest a.0) >>= with_last p ≡ (o >>= λ a. lead fixed.Comma p a.1 >>= paired a.0) >>= closed {A = Ra × A}
first-part p None = refl
first-part p (Some a) = comma-part p a.0 (after fixed.Comma a.1)

in-parts : {A : Type 0} (inner : Parser Ra) (p : Parser A) (o : Option Kinds) → (o >>= λ r. inner r >>= λ a. after fixed.Comma a.1 >>= with_rest a.0) >>= with_last p ≡ o >>= λ r. both inner (lead fixed.Comma p) r >>= closed {A = Ra × A}
in-parts inner p None = refl
in-parts inner p (Some r) = first-part p (inner r)

operands-law : {A : Type 0} (inner : Parser Ra) (p : Parser A) (sp : A → Kinds) (n low : ℕ) → Lawful false inner spelled_ra n 28 → Lawful false p sp n low → low ≤ 33
    → Lawful false (operands inner p) (pair_kinds sp) (n + 2) 0
operands-law {A = A} inner p sp n low l m below =
    let law : Lawful false (at_once inner p) (pair_kinds sp) (n + 2) 0 = paren-law (both inner (lead fixed.Comma p)) (λ (x : Ra × A). spelled_ra x.0 ++ terminal.Fixed fixed.Comma ∷ sp x.1) n low
    (both-law inner (lead fixed.Comma p) spelled_ra (λ (x : A). terminal.Fixed fixed.Comma ∷ sp x) n 28 low l (lead-law fixed.Comma p sp n low m (λ e. omega arith) (λ e. omega arith)) (λ y rest f. omega arith)) below in
    loose (operands inner p) (pair_kinds sp) (n + 2) 0 (λ ks q e. law.sound ks q (sym (in-parts inner p (after fixed.OpenParen ks)) ∙ e))
    (λ x rest h f. in-parts inner p (after fixed.OpenParen (pair_kinds sp x ++ rest)) ∙ law.reads x rest h f)

module _ (inner : Parser Ra) (n : ℕ) (l : Lawful false inner spelled_ra n 28) where
  select-law : Lawful false (operands inner read_tests) (pair_kinds spelled_tests) (n + 2) 0
  select-law = operands-law inner read_tests spelled_tests n 21 l (tests-law n) (omega arith)

  named-law : Lawful false (operands inner read_names) (pair_kinds spelled_names) (n + 2) 0
  named-law = operands-law inner read_names spelled_names n 0 l (weaker read_names spelled_names (n + 2) 0 n 0 (names-law n) (omega arith) (omega arith)) (omega arith)

  two-law : Lawful false (operands inner inner) (pair_kinds spelled_ra) (n + 2) 0
  two-law = operands-law inner inner spelled_ra n 28 l l (omega arith)

  with-sound : (h : Head) (ks : Kinds) (q : Ra × Kinds) → read_with h inner ks ≡ Some q → head_terminal h ∷ ks ≡ spelled_ra q.0 ++ q.1
  with-sound head.Select = made-after (head_terminal head.Select) (operands inner read_tests) select_of (pair_kinds spelled_tests) spelled_ra select-law.sound (λ x. spelled-Select x.0 x.1)
  with-sound head.Project = made-after (head_terminal head.Project) (operands inner read_names) project_of (pair_kinds spelled_names) spelled_ra named-law.sound (λ x. spelled-Project x.0 x.1)
  with-sound head.Rename = made-after (head_terminal head.Rename) (operands inner read_names) rename_of (pair_kinds spelled_names) spelled_ra named-law.sound (λ x. spelled-Rename x.0 x.1)
  with-sound (head.Two o) = made-after (head_terminal (head.Two o)) (operands inner inner) (two_of o) (pair_kinds spelled_ra) spelled_ra two-law.sound (λ x. spelled-Two o x.0 x.1)

  from-sound : (ks : Kinds) (o : Option (Head × Kinds)) (q : Ra × Kinds) → head_at ks ≡ o → read_from inner ks o ≡ Some q → ks ≡ spelled_ra q.0 ++ q.1
  from-sound ks None q a e = made-sound read_name ra.Table (λ (n : Name). terminal.Name n ∷ []) spelled_ra (a-name 0).sound spelled-Table ks q e
  from-sound ks (Some h) q a e = head-sound ks h a ∙ with-sound h.0 h.1 q e

  -- an operator with its operands is read
  abbrev HeadReads : Head → Kinds → Ra → Type 0
  HeadReads h ks x = (rest : Kinds) → length (in_paren ks) < n + 2 → read_with h inner (in_paren ks ++ rest) ≡ Some (x, rest)

  applied-reads : (h : Head) (a b : Kinds) (x : Ra) → spelled_ra x ≡ applied (head_terminal h) a b → HeadReads h (a ++ terminal.Fixed fixed.Comma ∷ b) x
      → (rest : Kinds) → length (spelled_ra x) < suc n → read_from inner (spelled_ra x ++ rest) (head_at (spelled_ra x ++ rest)) ≡ Some (x, rest)
  applied-reads h a b x s r rest k =
      let one = r rest (omega (arith, k, ap length s)) in
      let there = head-reads h ((a ++ terminal.Fixed fixed.Comma ∷ b) ++ (terminal.Fixed fixed.CloseParen ∷ []) ++ rest) in
      rw s (rw there one)

  select-reads : (a : Ra) (ts : RaTests) → HeadReads head.Select (spelled_ra a ++ terminal.Fixed fixed.Comma ∷ spelled_tests ts) (ra.Select a ts)
  select-reads a ts rest k = let one = select-law.reads (a, ts) rest k (omega arith) in rw one refl

  project-reads : (a : Ra) (ns : RaNames) → HeadReads head.Project (spelled_ra a ++ terminal.Fixed fixed.Comma ∷ spelled_names ns) (ra.Project a ns)
  project-reads a ns rest k = let one = named-law.reads (a, ns) rest k (omega arith) in rw one refl

  rename-reads : (a : Ra) (ns : RaNames) → HeadReads head.Rename (spelled_ra a ++ terminal.Fixed fixed.Comma ∷ spelled_names ns) (ra.Rename a ns)
  rename-reads a ns rest k = let one = named-law.reads (a, ns) rest k (omega arith) in rw one refl

  two-reads : (o : RaOp) (a b : Ra) → HeadReads (head.Two o) (spelled_ra a ++ terminal.Fixed fixed.Comma ∷ spelled_ra b) (ra.Two o a b)
  two-reads o a b rest k = let one = two-law.reads (a, b) rest k (omega arith) in rw one refl

  table-reads : (m : Name) (rest : Kinds) → 28 ≤ front rest → read_from inner (terminal.Name m ∷ rest) (head_at (terminal.Name m ∷ rest)) ≡ Some (ra.Table m, rest)
  unfolding read_name
  table-reads m rest f = let none = head-none m rest (omega arith) in rw none refl

  abbrev FromReads : Ra → Type 0
  FromReads x = (rest : Kinds) → length (spelled_ra x) < suc n → 28 ≤ front rest → read_from inner (spelled_ra x ++ rest) (head_at (spelled_ra x ++ rest)) ≡ Some (x, rest)

  from-reads : (x : Ra) → FromReads x
  from-reads = ra-cases FromReads
      (λ m rest h f. rw (spelled-Table m) (table-reads m rest f))
      (λ a ts rest h f. applied-reads head.Select (spelled_ra a) (spelled_tests ts) (ra.Select a ts) (spelled-Select a ts) (select-reads a ts) rest h)
      (λ a ns rest h f. applied-reads head.Project (spelled_ra a) (spelled_names ns) (ra.Project a ns) (spelled-Project a ns) (project-reads a ns) rest h)
      (λ a ns rest h f. applied-reads head.Rename (spelled_ra a) (spelled_names ns) (ra.Rename a ns) (spelled-Rename a ns) (rename-reads a ns) rest h)
      (λ o a b rest h f. applied-reads (head.Two o) (spelled_ra a) (spelled_ra b) (ra.Two o a b) (spelled-Two o a b) (two-reads o a b) rest h)

-- trees of fewer than n terminals are read
pub ra-law : (n : ℕ) → Lawful false (read_ra n) spelled_ra n 28
unfolding read_ra
ra-law zero = loose (read_ra zero) spelled_ra zero 28 (λ ks q e. cc e) (λ x rest h f. absurd (omega arith))
ra-law (suc n) = loose (read_ra (suc n)) spelled_ra (suc n) 28 (λ ks q e. from-sound (read_ra n) n (ra-law n) ks (head_at ks) q refl e) (from-reads (read_ra n) n (ra-law n))

-- what an operator reads is read
pub ra-applied : (n : ℕ) (ks rest : Kinds) (h : Head) (r : Result (Ra × Bor Kinds) ReadFault) → (n ≡ 0 → ⊥) → Some (h, rest) ≡ head_at ks → Reads r (read_with h (read_ra (n - 1)) rest) → Reads r (read_ra n ks)
unfolding read_ra
ra-applied zero ks rest h r e s a = absurd (e refl)
ra-applied (suc n) ks rest h r e s a = let one : suc n - 1 ≡ n = omega arith in rw (← s) (rw one at a)

-- ---- all the terminals

-- what is read is spelled so
pub text-sound : (ks : Kinds) (t : RaText) → read_text ks ≡ Some t → spelled_text t ≡ ks
unfolding read_text
text-sound ks t e =
    let c = bind-some (read_ra (length ks + 1) ks) _ t e in
    let b = bind-some (read_end c.0.1) _ t c.2 in
    let h : text_of (c.0.0, b.0) ≡ t = some-is _ _ b.2 in
    subst (λ (t : RaText). spelled_text t ≡ ks) h
    (ap (λ (r : Kinds). spelled_ra c.0.0 ++ r) (sym (end-sound c.0.1 b.0 b.1)) ∙ sym ((ra-law (length ks + 1)).sound ks c.0 c.1))

front-of : (b : Bool) → 28 ≤ front (flag fixed.Semicolon b)
front-of b = let f = end-front b in omega arith

-- every tree is read from its terminals
pub text-reads : (t : RaText) → read_text (spelled_text t) ≡ Some t
unfolding read_text
text-reads t =
    let one = (ra-law (length (spelled_text t) + 1)).reads t.of (flag fixed.Semicolon t.semi) (omega (arith, length-append (spelled_ra t.of) (flag fixed.Semicolon t.semi))) (front-of t.semi) in
    rw (one, end-reads t.semi) refl
