-- The terminal at the front, and parentheses that are passed over.
use Rattle.std.proofs.Common.{◌≡◌, ◌∙◌, sym, ap, subst, ℕ, zero, suc, List, [], ◌∷◌, ◌++◌, length, refl, Bool, true, false, Option, Some, None, append_assoc, cond, arith, ◌==◌}
use Rattle.std.proofs.lemmas.Bool.Decides.{nat_tests}
use Rattle.std.specs.Prelude.{◌&&◌, bytes_eq, not, replicate}
use Rattle.std.specs.List.{flat_map}
use Rattle.rt_token.specs.declared.fixed.Fixed.{Fixed}
use Rattle.rt_token.specs.declared.fixed.Fixed.TheVariants as fixed
use Rattle.rt_token.specs.declared.terminal.Terminal.{Terminal}
use Rattle.rt_token.specs.declared.terminal.Terminal.TheVariants as terminal
use Rattle.std.proofs.lemmas.Slice.Eq.{bytes_eq-Decides}
use Rattle.rt_token.specs.Readers.{after_word, plain_word}
use Rattle.rt_token.specs.Terminals.{Kinds, Word, after, code, code_of, counted, front, skip}
use Rattle.rt_token.proofs.ManyLemmas.{Each, some-is}

fixed_at : List Fixed → ℕ → Fixed
fixed_at [] n = fixed.Dot
fixed_at (f ∷ fs) zero = f
fixed_at (f ∷ fs) (suc n) = fixed_at fs n

-- by their codes; `Dot` fills in where a code is not that of a fixed terminal
all_fixed : List Fixed
all_fixed = fixed.OpenParen ∷ fixed.Dot ∷ fixed.Star ∷ fixed.Plus ∷ fixed.Minus ∷ fixed.Constraint ∷ fixed.Null ∷ fixed.Primary ∷ fixed.Unique ∷ fixed.References ∷ fixed.Equal ∷ fixed.NotEqual ∷ fixed.Below ∷ fixed.AtMost ∷ fixed.Above ∷ fixed.AtLeast ∷ fixed.Is ∷ fixed.Not ∷ fixed.In ∷ fixed.Between ∷ fixed.And ∷ fixed.Or ∷ fixed.As ∷ fixed.Dot ∷ fixed.Inner ∷ fixed.Join ∷ fixed.Cross ∷ fixed.Check ∷ fixed.Comma ∷ fixed.Where ∷ fixed.Intersect ∷ fixed.Union ∷ fixed.Except ∷ fixed.CloseParen ∷ fixed.Semicolon ∷ fixed.Dot ∷ fixed.From ∷ fixed.On ∷ fixed.Select ∷ fixed.Distinct ∷ fixed.Exists ∷ fixed.Create ∷ fixed.Table ∷ fixed.Foreign ∷ fixed.Dot ∷ fixed.Dot ∷ []

at-code : (f : Fixed) → fixed_at all_fixed (code f) ≡ f
unfolding fixed_at all_fixed
at-code fixed.OpenParen = refl
at-code fixed.Dot = refl
at-code fixed.Star = refl
at-code fixed.Plus = refl
at-code fixed.Minus = refl
at-code fixed.Null = refl
at-code fixed.Constraint = refl
at-code fixed.Primary = refl
at-code fixed.Unique = refl
at-code fixed.References = refl
at-code fixed.Equal = refl
at-code fixed.NotEqual = refl
at-code fixed.Below = refl
at-code fixed.AtMost = refl
at-code fixed.Above = refl
at-code fixed.AtLeast = refl
at-code fixed.Is = refl
at-code fixed.Not = refl
at-code fixed.In = refl
at-code fixed.Between = refl
at-code fixed.And = refl
at-code fixed.Or = refl
at-code fixed.As = refl
at-code fixed.Inner = refl
at-code fixed.Join = refl
at-code fixed.Cross = refl
at-code fixed.Check = refl
at-code fixed.Comma = refl
at-code fixed.Where = refl
at-code fixed.Intersect = refl
at-code fixed.Union = refl
at-code fixed.Except = refl
at-code fixed.CloseParen = refl
at-code fixed.Semicolon = refl
at-code fixed.From = refl
at-code fixed.On = refl
at-code fixed.Select = refl
at-code fixed.Distinct = refl
at-code fixed.Exists = refl
at-code fixed.Create = refl
at-code fixed.Table = refl
at-code fixed.Foreign = refl

same-code : (f g : Fixed) → (code f == code g) ≡ true → f ≡ g
same-code f g e = let h : code f ≡ code g = grind (arith, nat_tests, e) in sym (at-code f) ∙ ap (λ (n : ℕ). fixed_at all_fixed n) h ∙ at-code g

-- no fixed terminal has the code of another kind
unlike : (n : ℕ) (f : Fixed) → (n == code (fixed_at all_fixed n)) ≡ false → (n == code f) ≡ true → ⊥
unlike n f d e =
    let h : n ≡ code f = grind (arith, nat_tests, e) in
    let g : fixed_at all_fixed n ≡ f = ap (λ (n : ℕ). fixed_at all_fixed n) h ∙ at-code f in
    let d2 : (n == code f) ≡ false = subst (λ (f : Fixed). (n == code f) ≡ false) g d in
    cc

pub is-fixed : (f : Fixed) (k : Terminal) → (code_of k == code f) ≡ true → k ≡ terminal.Fixed f
unfolding fixed_at all_fixed
is-fixed f (terminal.Fixed g) e = ap (λ (f : Fixed). terminal.Fixed f) (same-code g f e)
is-fixed f (terminal.Name n) e = absurd (unlike 23 f refl e)
is-fixed f (terminal.Number n) e = absurd (unlike 44 f refl e)
is-fixed f (terminal.Str t) e = absurd (unlike 45 f refl e)

pub chosen : {A : Type 0} (b : Bool) (x : Option A) (y : A) → cond b x None ≡ Some y → (b ≡ true) × (x ≡ Some y)
chosen true x y e = (refl, e)
chosen false x y e = cc e

pub after-sound : (f : Fixed) (ks rest : Kinds) → after f ks ≡ Some rest → ks ≡ terminal.Fixed f ∷ rest
after-sound f [] rest e = cc e
after-sound f (k ∷ ks) rest e = let c = chosen (code_of k == code f) (Some ks) rest e in let h = is-fixed f k c.0 in let t : ks ≡ rest = some-is _ _ c.1 in cc

pub same-nat : (n : ℕ) → (n == n) ≡ true
same-nat n = grind (arith, nat_tests)

pub after-fixed : (f : Fixed) (ks : Kinds) → after f (terminal.Fixed f ∷ ks) ≡ Some ks
after-fixed f ks = rw (same-nat (code f)) refl

pub other-nat : (m n : ℕ) → (m ≡ n → ⊥) → (m == n) ≡ false
other-nat m n h = grind (arith, nat_tests)

-- what is not at the front is not there
pub after-none : (f : Fixed) (ks : Kinds) → (front ks ≡ code f → ⊥) → after f ks ≡ None
after-none f [] h = refl
after-none f (k ∷ ks) h = rw (other-nat (code_of k) (code f) h) refl

-- ---- runs

abbrev run : Bool → ℕ × Kinds → Kinds → ℕ × Kinds
run b more ks = cond b (suc more.0, more.1) (0, ks)

run-sound : (f : Fixed) (b : Bool) (k : Terminal) (ks : Kinds) → (b ≡ true → k ≡ terminal.Fixed f) → ks ≡ replicate (counted f ks).0 (terminal.Fixed f) ++ (counted f ks).1
    → k ∷ ks ≡ replicate (run b (counted f ks) (k ∷ ks)).0 (terminal.Fixed f) ++ (run b (counted f ks) (k ∷ ks)).1
run-sound f true k ks g h = let e = g refl in cc
run-sound f false k ks g h = refl

pub counted-sound : (f : Fixed) (ks : Kinds) → ks ≡ replicate (counted f ks).0 (terminal.Fixed f) ++ (counted f ks).1
counted-sound f [] = refl
counted-sound f (k ∷ ks) = run-sound f (code_of k == code f) k ks (is-fixed f k) (counted-sound f ks)

counted-none : (f : Fixed) (ks : Kinds) → (front ks ≡ code f → ⊥) → counted f ks ≡ (0, ks)
counted-none f [] h = refl
counted-none f (k ∷ ks) h = rw (other-nat (code_of k) (code f) h) refl

-- where the terminal is not at the front, the run is over
stopped : (b : Bool) (more : ℕ × Kinds) (k : Terminal) (ks : Kinds) → cond b (Some ks) None ≡ None → run b more (k ∷ ks) ≡ (0, k ∷ ks)
stopped true more k ks e = cc e
stopped false more k ks e = refl

pub counted-stop : (f : Fixed) (ks : Kinds) → after f ks ≡ None → counted f ks ≡ (0, ks)
counted-stop f [] e = refl
counted-stop f (k ∷ ks) e = stopped (code_of k == code f) (counted f ks) k ks e

pub counted-whole : (f : Fixed) (n : ℕ) (ks : Kinds) → (front ks ≡ code f → ⊥) → counted f (replicate n (terminal.Fixed f) ++ ks) ≡ (n, ks)
counted-whole f zero ks h = counted-none f ks h
counted-whole f (suc n) ks h = rw (same-nat (code f), counted-whole f n ks h) refl

-- ---- parentheses

-- no parenthesis of it is left open, and none is closed that it does not open
pub record Passed (ks : Kinds) : Type 0 where
  pub passes : (more : ℕ) (rest : Kinds) → skip (ks ++ rest) more ≡ skip rest more

pub passed-nil : Passed []
passed-nil = record { passes = λ more rest. refl }

pub passed-cons : (k : Terminal) (ks : Kinds) → (code_of k ≡ code fixed.OpenParen → ⊥) → (code_of k ≡ code fixed.CloseParen → ⊥) → Passed ks → Passed (k ∷ ks)
passed-cons k ks l r p = record { passes = λ more rest. rw (other-nat (code_of k) (code fixed.OpenParen) l, other-nat (code_of k) (code fixed.CloseParen) r) (p.passes more rest) }

pub passed-append : (a b : Kinds) → Passed a → Passed b → Passed (a ++ b)
passed-append a b p q = record { passes = λ more rest. rw (append_assoc a b rest) (p.passes more (b ++ rest) ∙ q.passes more rest) }

pub passed-paren : (a : Kinds) → Passed a → Passed (terminal.Fixed fixed.OpenParen ∷ (a ++ terminal.Fixed fixed.CloseParen ∷ []))
passed-paren a p = record { passes = λ more rest. rw (append_assoc a (terminal.Fixed fixed.CloseParen ∷ []) rest) (p.passes (suc more) (terminal.Fixed fixed.CloseParen ∷ rest)) }

pub passed-replicate : (f : Fixed) (n : ℕ) → (code f ≡ code fixed.OpenParen → ⊥) → (code f ≡ code fixed.CloseParen → ⊥) → Passed (replicate n (terminal.Fixed f))
passed-replicate f zero l r = passed-nil
passed-replicate f (suc n) l r = passed-cons (terminal.Fixed f) _ l r (passed-replicate f n l r)

pub passed-list : {A : Type 0} (spell : A → Kinds) (xs : List A) → Each (λ x. Passed (spell x)) xs → Passed (flat_map spell xs)
passed-list spell [] e = passed-nil
passed-list spell (x ∷ xs) e = passed-append (spell x) (flat_map spell xs) e.0 (passed-list spell xs e.1)

-- one more of a run
pub counted-some : (f : Fixed) (ks rest : Kinds) → after f ks ≡ Some rest → (counted f ks ≡ (suc (counted f rest).0, (counted f rest).1)) × (length ks ≡ suc (length rest))
counted-some f ks rest e = subst (λ (ks : Kinds). (counted f ks ≡ (suc (counted f rest).0, (counted f rest).1)) × (length ks ≡ suc (length rest))) (sym (after-sound f ks rest e)) (rw (same-nat (code f)) refl, refl)

-- what follows a plain word
pub after-word-sound : (w : Word) (ks rest : Kinds) → after_word w ks ≡ Some rest → ks ≡ plain_word w ∷ rest
after-word-sound w [] rest e = cc e
after-word-sound w (terminal.Fixed f ∷ ks) rest e = cc e
after-word-sound w (terminal.Name n ∷ ks) rest e = by-name n.quoted (bytes_eq n.text w) refl refl (chosen (not n.quoted && bytes_eq n.text w) (Some ks) rest e)
  where
    by-name : (q b : Bool) → n.quoted ≡ q → bytes_eq n.text w ≡ b → (((not n.quoted && bytes_eq n.text w) ≡ true) × (Some ks ≡ Some rest)) → terminal.Name n ∷ ks ≡ plain_word w ∷ rest
    by-name true b x y c = let h : (not true && bytes_eq n.text w) ≡ true = subst (λ (q : Bool). (not q && bytes_eq n.text w) ≡ true) x c.0 in cc h
    by-name false true x y c =
        let t : ks ≡ rest = some-is _ _ c.1 in
        let same : n.text ≡ w = (bytes_eq-Decides n.text w).0 y in
        ap (λ (m : Word × (Bool × Kinds)). terminal.Name (record { text = m.0; quoted = m.1.0 }) ∷ m.1.1) (ap (λ (w : Word). (w, (n.quoted, ks))) same ∙ ap (λ (q : Bool). (w, (q, ks))) x ∙ ap (λ (ks : Kinds). (w, (false, ks))) t)
    by-name false false x y c =
        let h : (not n.quoted && false) ≡ true = subst (λ (b : Bool). (not n.quoted && b) ≡ true) y c.0 in
        let g : (not false && false) ≡ true = subst (λ (q : Bool). (not q && false) ≡ true) x h in cc g
after-word-sound w (terminal.Number n ∷ ks) rest e = cc e
after-word-sound w (terminal.Str t ∷ ks) rest e = cc e
