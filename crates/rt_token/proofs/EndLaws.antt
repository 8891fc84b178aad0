-- The end of a text: a semicolon, or nothing.
use Rattle.std.proofs.Common.{◌≡◌, ◌≤◌, subst, [], ◌∷◌, refl, Bool, true, false, Some, None, cond, arith, ◌==◌}
use Rattle.rt_token.specs.Readers.{read_end}
use Rattle.rt_token.specs.Terminals.{Kinds, code, code_of, flag, front}
use Rattle.rt_token.specs.declared.fixed.Fixed.TheVariants as fixed
use Rattle.rt_token.specs.declared.terminal.Terminal.{Terminal}
use Rattle.rt_token.specs.declared.terminal.Terminal.TheVariants as terminal
use Rattle.rt_token.proofs.FrontLemmas.{is-fixed}
use Rattle.rt_token.proofs.ManyLemmas.{some-is}

semi-of : (b : Bool) (k : Terminal) (x : Bool) → (b ≡ true → k ≡ terminal.Fixed fixed.Semicolon) → cond b (Some true) None ≡ Some x → k ∷ [] ≡ flag fixed.Semicolon x
semi-of true k x f e = let h : true ≡ x = some-is _ _ e in let g = f refl in subst (λ (x : Bool). k ∷ [] ≡ flag fixed.Semicolon x) h (cc)
semi-of false k x f e = cc e

pub end-sound : (ks : Kinds) (x : Bool) → read_end ks ≡ Some x → ks ≡ flag fixed.Semicolon x
end-sound [] x e = let h : false ≡ x = some-is _ _ e in subst (λ (x : Bool). [] ≡ flag fixed.Semicolon x) h refl
end-sound (k ∷ []) x e = semi-of (code_of k == code fixed.Semicolon) k x (is-fixed fixed.Semicolon k) e
end-sound (k ∷ l ∷ ks) x e = cc e

pub end-reads : (b : Bool) → read_end (flag fixed.Semicolon b) ≡ Some b
end-reads true = refl
end-reads false = refl

pub end-front : (b : Bool) → code fixed.CloseParen ≤ front (flag fixed.Semicolon b)
end-front true = omega arith
end-front false = omega arith
