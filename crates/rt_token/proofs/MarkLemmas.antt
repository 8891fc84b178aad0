-- A token's terminal, and a terminal's token.
use Rattle.std.proofs.Common.{◌≡◌, ◌∙◌, sym, ap, subst, ℕ, List, [], ◌∷◌, ◌++◌, refl, Bool, true, false, Option, Some, None, cond, map}
use Rattle.std.specs.Prelude.{◌&&◌, ◌||◌, not, bytes_eq, ℤ}
use Rattle.std.proofs.lemmas.Slice.Eq.{bytes_eq-Decides}
use Rattle.rt_token.specs.declared.fixed.Fixed.{Fixed}
use Rattle.rt_token.specs.declared.fixed.Fixed.TheVariants as fixed
use Rattle.rt_token.specs.declared.terminal.Terminal.{Terminal}
use Rattle.rt_token.specs.declared.terminal.Terminal.TheVariants as terminal
use Rattle.rt_token.proofs.ManyLemmas.{some-is}
use Rattle.rt_token.specs.Reserved.{is_reserved}
use Rattle.rt_token.specs.declared.sym.Sym.{Sym}
use Rattle.rt_token.specs.declared.sym.Sym.TheVariants as sign
use Rattle.rt_token.specs.declared.token.TokenKind.{TokenKind}
use Rattle.rt_token.specs.declared.token.TokenKind.TheVariants as kind
use Rattle.rt_token.specs.Words.{Entry, all_formed, fixed_kind, in_front, is_formed, kind_of, look_up, mark, marked, marks, name_kind, or_else, sign_of, word_of, words_to_exists, words_to_null, words_to_where}

-- each word is that of its terminal
abbrev EachWord : List Entry → Type 0
EachWord [] = Unit {0}
EachWord (e ∷ es) = (fixed_kind e.1 ≡ kind.Word e.0) × EachWord es

entry-sound : (b : Bool) (e : Entry) (o : Option Fixed) (w : List ℕ) (f : Fixed) → (b ≡ true → w ≡ e.0) → fixed_kind e.1 ≡ kind.Word e.0 → (o ≡ Some f → fixed_kind f ≡ kind.Word w) → cond b (Some e.1) o ≡ Some f → fixed_kind f ≡ kind.Word w
entry-sound true e o w f s k g h = let i : e.1 ≡ f = some-is _ _ h in ap (λ (f : Fixed). fixed_kind f) (sym i) ∙ k ∙ ap (λ (w : List ℕ). kind.Word w) (sym (s refl))
entry-sound false e o w f s k g h = g h

look-sound : (es : List Entry) → EachWord es → (w : List ℕ) (f : Fixed) → look_up es w ≡ Some f → fixed_kind f ≡ kind.Word w
look-sound [] p w f h = cc h
look-sound (e ∷ es) p w f h = entry-sound (bytes_eq w e.0) e (look_up es w) w f (bytes_eq-Decides w e.0).0 p.0 (look-sound es p.1 w f) h

either-sound : (a b : Option Fixed) (w : List ℕ) (f : Fixed) → (a ≡ Some f → fixed_kind f ≡ kind.Word w) → (b ≡ Some f → fixed_kind f ≡ kind.Word w) → or_else a b ≡ Some f → fixed_kind f ≡ kind.Word w
either-sound None b w f x y h = y h
either-sound (Some g) b w f x y h = x h

word-sound : (w : List ℕ) (f : Fixed) → word_of w ≡ Some f → fixed_kind f ≡ kind.Word w
unfolding word_of
word-sound w f h = either-sound (look_up words_to_exists w) (or_else (look_up words_to_null w) (look_up words_to_where w)) w f
    (look-sound words_to_exists (refl, (refl, (refl, (refl, (refl, (refl, (refl, (refl, (refl, (refl, tt)))))))))) w f)
    (either-sound (look_up words_to_null w) (look_up words_to_where w) w f
    (look-sound words_to_null (refl, (refl, (refl, (refl, (refl, (refl, (refl, (refl, (refl, tt))))))))) w f)
    (look-sound words_to_where (refl, (refl, (refl, (refl, (refl, (refl, (refl, (refl, (refl, tt))))))))) w f)) h

sign-kind : (s : Sym) → fixed_kind (sign_of s) ≡ kind.Sym s
sign-kind sign.Left = refl
sign-kind sign.Right = refl
sign-kind sign.Comma = refl
sign-kind sign.Dot = refl
sign-kind sign.Semi = refl
sign-kind sign.Star = refl
sign-kind sign.Plus = refl
sign-kind sign.Minus = refl
sign-kind sign.Eq = refl
sign-kind sign.Ne = refl
sign-kind sign.Lt = refl
sign-kind sign.Le = refl
sign-kind sign.Gt = refl
sign-kind sign.Ge = refl

-- what a token's terminal is
abbrev Marks : TokenKind → Terminal → Type 0
Marks k t = (kind_of t ≡ k) × (is_formed t ≡ true)

plain-marked : (b : Bool) (w : List ℕ) (t : Terminal) → is_reserved w ≡ b → cond b None (Some (terminal.Name (record { text = w; quoted = false }))) ≡ Some t → Marks (kind.Word w) t
plain-marked true w t o h = cc h
plain-marked false w t o h =
    let i : terminal.Name (record { text = w; quoted = false }) ≡ t = some-is _ _ h in
    subst (Marks (kind.Word w)) i (refl, rw o refl)

word-marked : (w : List ℕ) (o : Option Fixed) (t : Terminal) → word_of w ≡ o → marked w o ≡ Some t → Marks (kind.Word w) t
word-marked w (Some f) t a h = let i : terminal.Fixed f ≡ t = some-is _ _ h in subst (Marks (kind.Word w)) i (word-sound w f a, refl)
word-marked w None t a h = plain-marked (is_reserved w) w t refl h

number-marked : (b : Bool) (n : ℤ) (t : Terminal) → is_formed (terminal.Number n) ≡ b → cond b (Some (terminal.Number n)) None ≡ Some t → Marks (kind.Number n) t
number-marked true n t a h = subst (Marks (kind.Number n)) (some-is _ _ h) (refl, a)
number-marked false n t a h = cc h

pub mark-sound : (k : TokenKind) (t : Terminal) → mark k ≡ Some t → Marks k t
mark-sound (kind.Word w) t h = word-marked w (word_of w) t refl h
mark-sound (kind.Quoted w) t h = subst (Marks (kind.Quoted w)) (some-is _ _ h) (refl, refl)
mark-sound (kind.Number n) t h = number-marked (is_formed (terminal.Number n)) n t refl h
mark-sound (kind.Str w) t h = subst (Marks (kind.Str w)) (some-is _ _ h) (refl, refl)
mark-sound (kind.Sym s) t h = subst (Marks (kind.Sym s)) (some-is _ _ h) (sign-kind s, refl)

fixed-mark : (f : Fixed) → mark (fixed_kind f) ≡ Some (terminal.Fixed f)
unfolding word_of
fixed-mark fixed.OpenParen = refl
fixed-mark fixed.Dot = refl
fixed-mark fixed.Star = refl
fixed-mark fixed.Plus = refl
fixed-mark fixed.Minus = refl
fixed-mark fixed.Null = refl
fixed-mark fixed.Constraint = refl
fixed-mark fixed.Primary = refl
fixed-mark fixed.Unique = refl
fixed-mark fixed.References = refl
fixed-mark fixed.Equal = refl
fixed-mark fixed.NotEqual = refl
fixed-mark fixed.Below = refl
fixed-mark fixed.AtMost = refl
fixed-mark fixed.Above = refl
fixed-mark fixed.AtLeast = refl
fixed-mark fixed.Is = refl
fixed-mark fixed.Not = refl
fixed-mark fixed.In = refl
fixed-mark fixed.Between = refl
fixed-mark fixed.And = refl
fixed-mark fixed.Or = refl
fixed-mark fixed.As = refl
fixed-mark fixed.Inner = refl
fixed-mark fixed.Join = refl
fixed-mark fixed.Cross = refl
fixed-mark fixed.Check = refl
fixed-mark fixed.Comma = refl
fixed-mark fixed.Where = refl
fixed-mark fixed.Intersect = refl
fixed-mark fixed.Union = refl
fixed-mark fixed.Except = refl
fixed-mark fixed.CloseParen = refl
fixed-mark fixed.Semicolon = refl
fixed-mark fixed.From = refl
fixed-mark fixed.On = refl
fixed-mark fixed.Select = refl
fixed-mark fixed.Distinct = refl
fixed-mark fixed.Exists = refl
fixed-mark fixed.Create = refl
fixed-mark fixed.Table = refl
fixed-mark fixed.Foreign = refl

-- the words of the grammars are reserved
reserved_kind : TokenKind → Bool
reserved_kind (kind.Word w) = is_reserved w
reserved_kind (kind.Quoted t) = true
reserved_kind (kind.Number n) = true
reserved_kind (kind.Str t) = true
reserved_kind (kind.Sym s) = true

fixed-reserved : (f : Fixed) → reserved_kind (fixed_kind f) ≡ true
unfolding reserved_kind is_reserved
fixed-reserved fixed.OpenParen = refl
fixed-reserved fixed.Dot = refl
fixed-reserved fixed.Star = refl
fixed-reserved fixed.Plus = refl
fixed-reserved fixed.Minus = refl
fixed-reserved fixed.Constraint = refl
fixed-reserved fixed.Null = refl
fixed-reserved fixed.Primary = refl
fixed-reserved fixed.Unique = refl
fixed-reserved fixed.References = refl
fixed-reserved fixed.Equal = refl
fixed-reserved fixed.NotEqual = refl
fixed-reserved fixed.Below = refl
fixed-reserved fixed.AtMost = refl
fixed-reserved fixed.Above = refl
fixed-reserved fixed.AtLeast = refl
fixed-reserved fixed.Is = refl
fixed-reserved fixed.Not = refl
fixed-reserved fixed.In = refl
fixed-reserved fixed.Between = refl
fixed-reserved fixed.And = refl
fixed-reserved fixed.Or = refl
fixed-reserved fixed.As = refl
fixed-reserved fixed.Inner = refl
fixed-reserved fixed.Join = refl
fixed-reserved fixed.Cross = refl
fixed-reserved fixed.Check = refl
fixed-reserved fixed.Comma = refl
fixed-reserved fixed.Where = refl
fixed-reserved fixed.Intersect = refl
fixed-reserved fixed.Union = refl
fixed-reserved fixed.Except = refl
fixed-reserved fixed.CloseParen = refl
fixed-reserved fixed.Semicolon = refl
fixed-reserved fixed.From = refl
fixed-reserved fixed.On = refl
fixed-reserved fixed.Select = refl
fixed-reserved fixed.Distinct = refl
fixed-reserved fixed.Exists = refl
fixed-reserved fixed.Create = refl
fixed-reserved fixed.Table = refl
fixed-reserved fixed.Foreign = refl

word-reserved : (w : List ℕ) (f : Fixed) → word_of w ≡ Some f → is_reserved w ≡ true
unfolding reserved_kind
word-reserved w f e = subst (λ (k : TokenKind). reserved_kind k ≡ true) (word-sound w f e) (fixed-reserved f)

not-reserved : (w : List ℕ) (o : Option Fixed) → word_of w ≡ o → not (is_reserved w) ≡ true → marked w o ≡ Some (terminal.Name (record { text = w; quoted = false }))
not-reserved w (Some f) a h = let r = word-reserved w f a in let g : not true ≡ true = subst (λ (b : Bool). not b ≡ true) r h in cc g
not-reserved w None a h = plain (is_reserved w) refl
  where
    plain : (b : Bool) → is_reserved w ≡ b → cond (is_reserved w) None (Some (terminal.Name (record { text = w; quoted = false }))) ≡ Some (terminal.Name (record { text = w; quoted = false }))
    plain true e = let g : not true ≡ true = subst (λ (b : Bool). not b ≡ true) e h in cc g
    plain false e = rw e refl

name-mark : (q : Bool) (w : List ℕ) → (q || not (is_reserved w)) ≡ true → mark (name_kind q w) ≡ Some (terminal.Name (record { text = w; quoted = q }))
name-mark true w h = refl
name-mark false w h = not-reserved w (word_of w) refl h

pub mark-reads : (t : Terminal) → is_formed t ≡ true → mark (kind_of t) ≡ Some t
mark-reads (terminal.Fixed f) h = fixed-mark f
mark-reads (terminal.Name n) h = name-mark n.quoted n.text h
mark-reads (terminal.Number n) h = rw h refl
mark-reads (terminal.Str t) h = refl

-- ---- all tokens

front-sound : (o : Option Terminal) (p : Option (List Terminal)) (ts : List Terminal) → in_front o p ≡ Some ts → (t : Terminal) × (us : List Terminal) × (o ≡ Some t) × (p ≡ Some us) × (t ∷ us ≡ ts)
front-sound None p ts h = cc h
front-sound (Some t) None ts h = cc h
front-sound (Some t) (Some us) ts h = (t, us, refl, refl, some-is _ _ h)

abbrev AllMark : List TokenKind → List Terminal → Type 0
AllMark ks ts = (map kind_of ts ≡ ks) × (all_formed ts ≡ true)

pub marks-sound : (ks : List TokenKind) (ts : List Terminal) → marks ks ≡ Some ts → AllMark ks ts
marks-sound [] ts h = subst (AllMark []) (some-is _ _ h) (refl, refl)
marks-sound (k ∷ ks) ts h =
    let f = front-sound (mark k) (marks ks) ts h in
    let one = mark-sound k f.0 f.2 in
    let more = marks-sound ks f.1 f.3 in
    subst (AllMark (k ∷ ks)) f.4 (rw (one.0, more.0) refl, rw (one.1, more.1) refl)

both-true : (a b : Bool) → (a && b) ≡ true → (a ≡ true) × (b ≡ true)
both-true true b h = (refl, h)
both-true false b h = cc h

pub marks-reads : (ts : List Terminal) → all_formed ts ≡ true → marks (map kind_of ts) ≡ Some ts
marks-reads [] h = refl
marks-reads (t ∷ ts) h =
    let b = both-true (is_formed t) (all_formed ts) h in
    rw (mark-reads t b.0, marks-reads ts b.1) refl

-- ---- the loop

-- those before, and those of the rest
abbrev pub with_front : List Terminal → Option (List Terminal) → Option (List Terminal)
with_front front None = None
with_front front (Some ts) = Some (front ++ ts)
