-- The signs of comparisons: their reader keeps to the spelling.
use Rattle.std.proofs.Common.{◌≡◌, ap, subst, ℕ, [], ◌∷◌, ◌++◌, refl, Bool, true, false, Option, Some, None, cond, ◌==◌}
use Rattle.std.specs.Prelude.{option_map}
use Rattle.rt_value.specs.declared.value.Op.{Op}
use Rattle.rt_value.specs.declared.value.Op.TheVariants as op
use Rattle.rt_token.specs.Comparisons.{op_at, op_sign, read_op}
use Rattle.rt_token.specs.Terminals.{Kinds, code, code_of}
use Rattle.rt_token.specs.declared.terminal.Terminal.{Terminal}
use Rattle.rt_token.specs.declared.terminal.Terminal.TheVariants as terminal
use Rattle.rt_token.proofs.FrontLemmas.{is-fixed}
use Rattle.rt_token.proofs.Laws.{Lawful, loose}
use Rattle.rt_token.proofs.ManyLemmas.{some-is}

op-if : (c : ℕ) (b : Bool) (x : Op) (r : Option Op) (o : Op) → (b ≡ true → (c == code (op_sign x)) ≡ true) → (r ≡ Some o → (c == code (op_sign o)) ≡ true) → cond b (Some x) r ≡ Some o → (c == code (op_sign o)) ≡ true
op-if c true x r o f g e = subst (λ (o : Op). (c == code (op_sign o)) ≡ true) (some-is _ _ e) (f refl)
op-if c false x r o f g e = g e

op-at-sound : (c : ℕ) (o : Op) → op_at c ≡ Some o → (c == code (op_sign o)) ≡ true
op-at-sound c o = op-if c (c == 10) op.Eq _ o (λ e. e) (op-if c (c == 11) op.Ne _ o (λ e. e) (op-if c (c == 12) op.Lt _ o (λ e. e) (op-if c (c == 13) op.Le _ o (λ e. e) (op-if c (c == 14) op.Gt _ o (λ e. e) (op-if c (c == 15) op.Ge _ o (λ e. e) (λ e. cc e))))))

abbrev pub op_kinds : Op → Kinds
op_kinds o = terminal.Fixed (op_sign o) ∷ []

op-found : (k : Terminal) (ks : Kinds) (r : Option Op) (q : Op × Kinds) → op_at (code_of k) ≡ r → option_map (λ o. (o, ks)) r ≡ Some q → k ∷ ks ≡ op_kinds q.0 ++ q.1
op-found k ks None q a e = cc e
op-found k ks (Some o) q a e =
    let h : (o, ks) ≡ q = some-is _ _ e in
    subst (λ (q : Op × Kinds). k ∷ ks ≡ op_kinds q.0 ++ q.1) h (ap (λ (k : Terminal). k ∷ ks) (is-fixed (op_sign o) k (op-at-sound (code_of k) o a)))

op-sound : (ks : Kinds) (q : Op × Kinds) → read_op ks ≡ Some q → ks ≡ op_kinds q.0 ++ q.1
op-sound [] q e = cc e
op-sound (k ∷ ks) q e = op-found k ks (op_at (code_of k)) q refl e

op-reads : (o : Op) (rest : Kinds) → read_op (op_kinds o ++ rest) ≡ Some (o, rest)
op-reads op.Eq rest = refl
op-reads op.Ne rest = refl
op-reads op.Lt rest = refl
op-reads op.Le rest = refl
op-reads op.Gt rest = refl
op-reads op.Ge rest = refl

pub op-law : (n : ℕ) → Lawful false read_op op_kinds n 0
op-law n = loose read_op op_kinds n 0 op-sound (λ o rest h f. op-reads o rest)
