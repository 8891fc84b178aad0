-- The operator at the front: its keyword is found, and no name is taken for it.
use Rattle.std.proofs.Common.{◌≡◌, ◌∙◌, ◌≤◌, ap, subst, List, [], ◌∷◌, refl, Bool, true, false, Option, Some, None, cond, arith, ◌==◌}
use Rattle.std.specs.Prelude.{bytes_eq}
use Rattle.std.proofs.lemmas.Slice.Eq.{bytes_eq-Decides}
use Rattle.rt_token.specs.declared.fixed.Fixed.{Fixed}
use Rattle.rt_token.specs.declared.fixed.Fixed.TheVariants as fixed
use Rattle.rt_token.specs.declared.terminal.Name.{Name}
use Rattle.rt_token.specs.declared.terminal.Terminal.{Terminal}
use Rattle.rt_token.specs.declared.terminal.Terminal.TheVariants as terminal
use Rattle.rt_token.specs.Readers.{plain_word, starts}
use Rattle.rt_token.specs.Terminals.{Kinds, Word, code, front}
use Rattle.rt_token.proofs.FrontLemmas.{is-fixed, other-nat}
use Rattle.rt_token.proofs.ManyLemmas.{Each, some-is}
use Rattle.rt_ra_tree.specs.Heads.{before, by_code, by_word, fixed_heads, head_at, head_of, head_terminal, word_heads}
use Rattle.rt_ra_tree.specs.declared.heads.Head.{Head}
use Rattle.rt_ra_tree.specs.declared.heads.Head.TheVariants as head
use Rattle.rt_ra_tree.specs.declared.tree.RaOp.TheVariants as two

code-if : (f : Fixed) (b : Bool) (x h : Head) (o : Option Head) → (b ≡ true → terminal.Fixed f ≡ head_terminal x) → (o ≡ Some h → terminal.Fixed f ≡ head_terminal h)
    → cond b (Some x) o ≡ Some h → terminal.Fixed f ≡ head_terminal h
code-if f true x h o g k e = subst (λ (h : Head). terminal.Fixed f ≡ head_terminal h) (some-is _ _ e) (g refl)
code-if f false x h o g k e = k e

by-code-sound : (es : List (Fixed × Head)) → Each (λ (e : Fixed × Head). terminal.Fixed e.0 ≡ head_terminal e.1) es → (f : Fixed) (h : Head) → by_code es (code f) ≡ Some h → terminal.Fixed f ≡ head_terminal h
by-code-sound [] a f h e = cc e
by-code-sound (x ∷ es) a f h e = code-if f (code f == code x.0) x.1 h (by_code es (code f)) (λ t. is-fixed x.0 (terminal.Fixed f) t ∙ a.0) (by-code-sound es a.1 f h) e

word-if : (w : Word) (b : Bool) (x h : Head) (o : Option Head) → (b ≡ true → plain_word w ≡ head_terminal x) → (o ≡ Some h → plain_word w ≡ head_terminal h)
    → cond b (Some x) o ≡ Some h → plain_word w ≡ head_terminal h
word-if w true x h o g k e = subst (λ (h : Head). plain_word w ≡ head_terminal h) (some-is _ _ e) (g refl)
word-if w false x h o g k e = k e

by-word-sound : (es : List (Word × Head)) → Each (λ (e : Word × Head). plain_word e.0 ≡ head_terminal e.1) es → (w : Word) (h : Head) → by_word es w ≡ Some h → plain_word w ≡ head_terminal h
by-word-sound [] a w h e = cc e
by-word-sound (x ∷ es) a w h e = word-if w (bytes_eq w x.0) x.1 h (by_word es w) (λ t. ap plain_word ((bytes_eq-Decides w x.0).0 t) ∙ a.0) (by-word-sound es a.1 w h) e

name-sound : (t : Word) (q : Bool) (h : Head) → head_of (terminal.Name (record { text = t; quoted = q })) ≡ Some h → terminal.Name (record { text = t; quoted = q }) ≡ head_terminal h
name-sound t true h e = cc e
name-sound t false h e = by-word-sound word_heads (refl, (refl, (refl, (refl, (refl, (refl, tt)))))) t h e

of-sound : (k : Terminal) (h : Head) → head_of k ≡ Some h → k ≡ head_terminal h
of-sound (terminal.Fixed f) h e = by-code-sound fixed_heads (refl, (refl, (refl, (refl, (refl, (refl, tt)))))) f h e
of-sound (terminal.Name n) h e = name-sound n.text n.quoted h e
of-sound (terminal.Number n) h e = cc e
of-sound (terminal.Str t) h e = cc e

before-sound : (k : Terminal) (ks : Kinds) (o : Option Head) (q : Head × Kinds) → head_of k ≡ o → before ks o ≡ Some q → k ∷ ks ≡ head_terminal q.0 ∷ q.1
before-sound k ks None q a e = cc e
before-sound k ks (Some h) q a e =
    let p : (h, ks) ≡ q = some-is _ _ e in
    subst (λ (q : Head × Kinds). k ∷ ks ≡ head_terminal q.0 ∷ q.1) p (ap (λ (k : Terminal). k ∷ ks) (of-sound k h a))

opened-sound : (b : Bool) (k : Terminal) (ks : Kinds) (q : Head × Kinds) → cond b (before ks (head_of k)) None ≡ Some q → k ∷ ks ≡ head_terminal q.0 ∷ q.1
opened-sound true k ks q e = before-sound k ks (head_of k) q refl e
opened-sound false k ks q e = cc e

-- the operator that is found is there
pub head-sound : (ks : Kinds) (q : Head × Kinds) → head_at ks ≡ Some q → ks ≡ head_terminal q.0 ∷ q.1
head-sound [] q e = cc e
head-sound (k ∷ ks) q e = opened-sound (starts fixed.OpenParen ks) k ks q e

of-reads : (h : Head) → head_of (head_terminal h) ≡ Some h
of-reads head.Select = refl
of-reads head.Project = refl
of-reads head.Rename = refl
of-reads (head.Two two.Cross) = refl
of-reads (head.Two two.Join) = refl
of-reads (head.Two two.Semi) = refl
of-reads (head.Two two.Anti) = refl
of-reads (head.Two two.LeftJoin) = refl
of-reads (head.Two two.Divide) = refl
of-reads (head.Two two.Union) = refl
of-reads (head.Two two.Except) = refl
of-reads (head.Two two.Intersect) = refl

-- the operator that is there is found
pub head-reads : (h : Head) (ks : Kinds) → head_at (head_terminal h ∷ (terminal.Fixed fixed.OpenParen ∷ ks)) ≡ Some (h, terminal.Fixed fixed.OpenParen ∷ ks)
head-reads h ks = rw (of-reads h) refl

-- a name before anything but an opening parenthesis is no operator
pub head-none : (n : Name) (ks : Kinds) → 1 ≤ front ks → head_at (terminal.Name n ∷ ks) ≡ None
head-none n ks f = rw (other-nat (front ks) (code fixed.OpenParen) (λ e. omega arith)) refl
