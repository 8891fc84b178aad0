-- A formed tree's tokens have no word that is refused.
use Rattle.std.proofs.Common.{◌≡◌, ◌∙◌, sym, ap, subst, ℕ, List, [], ◌∷◌, refl, Bool, true, false, Option, Some, None, cond, map, ◌==◌}
use Rattle.std.specs.Prelude.{◌&&◌, ◌||◌, bytes_eq, codes, not}
use Rattle.std.proofs.lemmas.Slice.Eq.{bytes_eq-Decides}
use Rattle.rt_token.specs.Terminals.{Kinds, Word, code, code_of, front}
use Rattle.rt_token.specs.Words.{all_formed, fixed_kind, is_formed, kind_of, kinds, name_kind}
use Rattle.rt_token.specs.declared.fixed.Fixed.{Fixed}
use Rattle.rt_token.specs.declared.fixed.Fixed.TheVariants as fixed
use Rattle.rt_token.specs.declared.terminal.Name.{Name}
use Rattle.rt_token.specs.declared.terminal.Terminal.{Terminal}
use Rattle.rt_token.specs.declared.terminal.Terminal.TheVariants as terminal
use Rattle.rt_token.proofs.CalmLemmas.{IsCalm, calm, is_call}
use Rattle.rt_token.specs.Reserved.{is_reserved}
use Rattle.rt_token.specs.declared.token.Token.{Token}
use Rattle.rt_token.specs.declared.token.TokenKind.{TokenKind}
use Rattle.rt_token.specs.declared.token.TokenKind.TheVariants as kind
use Rattle.rt_tree.specs.Nesting.{is_left}
use Rattle.rt_sql.specs.Refusals.{begins_left, is_unsupported, one_of, refused_at, refused_word, unsupported, unsupported_to_like, unsupported_to_with}

-- ---- words that no query may have are reserved

abbrev AllReserved : List Word → Type 0
AllReserved [] = Unit {0}
AllReserved (t ∷ ts) = (is_reserved t ≡ true) × AllReserved ts

one-reserved : (b c : Bool) (w t : Word) → (b ≡ true → w ≡ t) → is_reserved t ≡ true → (c ≡ true → is_reserved w ≡ true) → (b || c) ≡ true → is_reserved w ≡ true
one-reserved true c w t f r g h = subst (λ (w : Word). is_reserved w ≡ true) (sym (f refl)) r
one-reserved false c w t f r g h = g h

all-reserved : (ts : List Word) → AllReserved ts → (w : Word) → one_of ts w ≡ true → is_reserved w ≡ true
all-reserved [] a w h = cc h
all-reserved (t ∷ ts) a w h = one-reserved (bytes_eq w t) (one_of ts w) w t (bytes_eq-Decides w t).0 a.0 (all-reserved ts a.1 w) h

either-true : (b c d : Bool) → (b ≡ true → d ≡ true) → (c ≡ true → d ≡ true) → (b || c) ≡ true → d ≡ true
either-true true c d f g h = f refl
either-true false c d f g h = g h

unsupported-reserved : (w : Word) → is_unsupported w ≡ true → is_reserved w ≡ true
unfolding is_unsupported is_reserved
unsupported-reserved w h = either-true (one_of unsupported_to_like w) (one_of unsupported_to_with w) (is_reserved w)
    (all-reserved unsupported_to_like (refl, (refl, (refl, (refl, (refl, (refl, (refl, (refl, tt)))))))) w)
    (all-reserved unsupported_to_with (refl, (refl, (refl, (refl, (refl, (refl, (refl, tt))))))) w) h

-- ---- the token of a terminal

fixed-unrefused : (f : Fixed) (next : List Token) → refused_word (fixed_kind f) next ≡ None
unfolding is_unsupported is_reserved
fixed-unrefused fixed.OpenParen next = refl
fixed-unrefused fixed.Dot next = refl
fixed-unrefused fixed.Star next = refl
fixed-unrefused fixed.Plus next = refl
fixed-unrefused fixed.Minus next = refl
fixed-unrefused fixed.Constraint next = refl
fixed-unrefused fixed.Null next = refl
fixed-unrefused fixed.Primary next = refl
fixed-unrefused fixed.Unique next = refl
fixed-unrefused fixed.References next = refl
fixed-unrefused fixed.Equal next = refl
fixed-unrefused fixed.NotEqual next = refl
fixed-unrefused fixed.Below next = refl
fixed-unrefused fixed.AtMost next = refl
fixed-unrefused fixed.Above next = refl
fixed-unrefused fixed.AtLeast next = refl
fixed-unrefused fixed.Is next = refl
fixed-unrefused fixed.Not next = refl
fixed-unrefused fixed.In next = refl
fixed-unrefused fixed.Between next = refl
fixed-unrefused fixed.And next = refl
fixed-unrefused fixed.Or next = refl
fixed-unrefused fixed.As next = refl
fixed-unrefused fixed.Inner next = refl
fixed-unrefused fixed.Join next = refl
fixed-unrefused fixed.Cross next = refl
fixed-unrefused fixed.Check next = refl
fixed-unrefused fixed.Comma next = refl
fixed-unrefused fixed.Where next = refl
fixed-unrefused fixed.Intersect next = refl
fixed-unrefused fixed.Union next = refl
fixed-unrefused fixed.Except next = refl
fixed-unrefused fixed.CloseParen next = refl
fixed-unrefused fixed.Semicolon next = refl
fixed-unrefused fixed.From next = refl
fixed-unrefused fixed.On next = refl
fixed-unrefused fixed.Select next = refl
fixed-unrefused fixed.Distinct next = refl
fixed-unrefused fixed.Exists next = refl
fixed-unrefused fixed.Create next = refl
fixed-unrefused fixed.Table next = refl
fixed-unrefused fixed.Foreign next = refl

fixed-left : (f : Fixed) → is_left (fixed_kind f) ≡ (code f == code fixed.OpenParen)
fixed-left fixed.OpenParen = refl
fixed-left fixed.Dot = refl
fixed-left fixed.Star = refl
fixed-left fixed.Plus = refl
fixed-left fixed.Minus = refl
fixed-left fixed.Constraint = refl
fixed-left fixed.Null = refl
fixed-left fixed.Primary = refl
fixed-left fixed.Unique = refl
fixed-left fixed.References = refl
fixed-left fixed.Equal = refl
fixed-left fixed.NotEqual = refl
fixed-left fixed.Below = refl
fixed-left fixed.AtMost = refl
fixed-left fixed.Above = refl
fixed-left fixed.AtLeast = refl
fixed-left fixed.Is = refl
fixed-left fixed.Not = refl
fixed-left fixed.In = refl
fixed-left fixed.Between = refl
fixed-left fixed.And = refl
fixed-left fixed.Or = refl
fixed-left fixed.As = refl
fixed-left fixed.Inner = refl
fixed-left fixed.Join = refl
fixed-left fixed.Cross = refl
fixed-left fixed.Check = refl
fixed-left fixed.Comma = refl
fixed-left fixed.Where = refl
fixed-left fixed.Intersect = refl
fixed-left fixed.Union = refl
fixed-left fixed.Except = refl
fixed-left fixed.CloseParen = refl
fixed-left fixed.Semicolon = refl
fixed-left fixed.From = refl
fixed-left fixed.On = refl
fixed-left fixed.Select = refl
fixed-left fixed.Distinct = refl
fixed-left fixed.Exists = refl
fixed-left fixed.Create = refl
fixed-left fixed.Table = refl
fixed-left fixed.Foreign = refl

name-left : (q : Bool) (w : Word) → is_left (name_kind q w) ≡ false
name-left true w = refl
name-left false w = refl

kind-left : (k : Terminal) → is_left (kind_of k) ≡ (code_of k == code fixed.OpenParen)
kind-left (terminal.Fixed f) = fixed-left f
kind-left (terminal.Name n) = name-left n.quoted n.text
kind-left (terminal.Number n) = refl
kind-left (terminal.Str t) = refl

next-left : (next : List Token) (ks : Kinds) → kinds next ≡ map kind_of ks → begins_left next ≡ (front ks == code fixed.OpenParen)
next-left [] [] e = refl
next-left [] (k ∷ ks) e = cc e
next-left (t ∷ ts) [] e = cc e
next-left (t ∷ ts) (k ∷ ks) e = let h : t.kind ≡ kind_of k = cc in ap (λ (k : TokenKind). is_left k) h ∙ kind-left k

plain-unrefused : (u r b : Bool) (w : Word) → (u ≡ true → r ≡ true) → r ≡ false → b ≡ false → cond (u || (not r && b)) (Some w) None ≡ None
plain-unrefused true r b w f g h = let x : r ≡ true = f refl in let y : true ≡ false = sym x ∙ g in cc y
plain-unrefused false true b w f g h = refl
plain-unrefused false false true w f g h = cc h
plain-unrefused false false false w f g h = refl

not-true : (b : Bool) → not b ≡ true → b ≡ false
not-true true h = cc h
not-true false h = refl

name-unrefused : (q : Bool) (w : Word) (next : List Token) → (q || not (is_reserved w)) ≡ true → begins_left next ≡ false → refused_word (name_kind q w) next ≡ None
name-unrefused true w next f h = refl
name-unrefused false w next f h = plain-unrefused (is_unsupported w) (is_reserved w) (begins_left next) w (unsupported-reserved w) (not-true (is_reserved w) f) h

and-left : (a b : Bool) → (a && b) ≡ true → a ≡ true
and-left true b p = refl
and-left false b p = p

and-right : (a b : Bool) → (a && b) ≡ true → b ≡ true
and-right true b p = p
and-right false b p = cc p

kind-unrefused : (k : Terminal) (next : List Token) (ks : Kinds) → is_formed k ≡ true → not (is_call k ks) ≡ true → begins_left next ≡ (front ks == code fixed.OpenParen) → refused_word (kind_of k) next ≡ None
kind-unrefused (terminal.Fixed f) next ks p c e = fixed-unrefused f next
kind-unrefused (terminal.Name n) next ks p c e = name-unrefused n.quoted n.text next p (e ∙ not-true (front ks == code fixed.OpenParen) c)
kind-unrefused (terminal.Number n) next ks p c e = refl
kind-unrefused (terminal.Str t) next ks p c e = refl

-- ---- all tokens

pub calm-supported : (tokens : List Token) (ks : Kinds) → kinds tokens ≡ map kind_of ks → all_formed ks ≡ true → IsCalm ks → unsupported tokens ≡ None
calm-supported [] ks e f c = refl
calm-supported (t ∷ ts) [] e f c = cc e
calm-supported (t ∷ ts) (k ∷ ks) e f c =
    let h : t.kind ≡ kind_of k = cc in
    let more : kinds ts ≡ map kind_of ks = cc in
    let one = kind-unrefused k ts ks (and-left (is_formed k) (all_formed ks) f) (and-left (not (is_call k ks)) (calm ks) c) (next-left ts ks more) in
    let rest = calm-supported ts ks more (and-right (is_formed k) (all_formed ks) f) (and-right (not (is_call k ks)) (calm ks) c) in
    rw (h, one, rest) refl
