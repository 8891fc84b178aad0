-- What the matches hold.
use Rattle.std.proofs.Common.{◌≡◌, ◌∙◌, ◌<◌, List, [], ◌∷◌, ℕ, refl, Bool, true, false, Option, Some, None, ap, sym, length, arith}
use Rattle.std.specs.Prelude.{All, option_and_then, fold, is_some, ◌||◌, if◌then◌else◌}
use Rattle.std.specs.Str.{IsUtf8}
use Rattle.std.proofs.lemmas.List.{append-nil}
use Rattle.clap.specs.Words.{Kinds, Row, built}
use Rattle.clap.specs.Walk.{Held, finished, nothing_held, settled, walk, with_default}
use Rattle.clap.specs.Faults.{check_fault, defaults_fault, entered_fault, settle_fault, walk_fault}
use Rattle.clap.specs.Simple.{entered}
use Rattle.clap.specs.Words.{HasKind, kind_of}
use Rattle.clap.specs.declared.error.Error.{Error}
use Rattle.rt_io.specs.declared.word_fault.WordFault.{WordFault}
use Rattle.rt_io.specs.declared.word_fault.WordFault.TheVariants.{Usage, NoMemory}
use Rattle.rt_io.proofs.CommandLemmas.{has-fault}
use Rattle.clap.specs.Kinds.{or_else}
use Rattle.clap.proofs.OnLiterals.{clap_on_literals}
use Rattle.rt_io.specs.App.{IsFaultOf, IsRefused, command_app, faults, reading_in, rows_read}
use Rattle.rt_io.specs.Command.{limit_of, limits, limits_of}
use Rattle.rt_io.specs.Reading.{Reading, Text, Setting, conflicts, nothing_read, read, work}
use Rattle.rt_io.proofs.Agreeing.{Agrees, agrees, faults_on, fine, open_at, refused, rows_on}
use Rattle.rt_io.proofs.Standing.{Stands, values_of}
use Rattle.rt_io.proofs.Walking.{anything, at_word, held, nothing, our_rules, shape}
use Rattle.clap.specs.Walk.{Walk, idle}

abbrev start : Walk
start = at_word (held [] nothing) idle

or-true : (b : Bool) → (b || true) ≡ true
or-true true = refl
or-true false = refl

same-either : {A : Type 0} (b : Bool) (x : A) → (if b then x else x) ≡ x
same-either true x = refl
same-either false x = refl

or-nothing : (ks : Kinds) → or_else ks [] ≡ ks
or-nothing [] = refl
or-nothing (k ∷ ks) = refl

no-defaults : (rows : List Row) → defaults_fault rows our_rules ≡ []
unfolding clap_on_literals command_app
no-defaults rows = simp (or-true, same-either)

no-rows-added : (rows : List Row) → fold with_default rows our_rules ≡ rows
unfolding clap_on_literals command_app
no-rows-added rows = simp same-either

-- after the walk there is no further error
level : (stop : Option (Text × List Text)) (k : Kinds) (end : Held) → or_else k (or_else (entered_fault (built command_app) stop) (or_else (settle_fault our_rules false end)
    (or_else (defaults_fault (settled our_rules end).rows our_rules) (check_fault shape (finished our_rules end) (is_some (entered (built command_app) stop))))))
    ≡ or_else k (settle_fault our_rules false end)
unfolding command_app
level None k end = rw (no-defaults (settled our_rules end).rows, or-nothing) refl
level (Some p) k end = rw (no-defaults (settled our_rules end).rows, or-nothing) refl

fault-is : (texts : List Text) → faults texts ≡ faults_on start texts
unfolding faults command_app
fault-is texts = level (walk our_rules [] nothing_held texts).stopped (walk_fault shape [] start texts) (walk our_rules [] nothing_held texts).held

rows-are : (texts : List Text) → rows_read texts ≡ rows_on start texts
unfolding rows_read command_app
rows-are texts = no-rows-added (rows_on start texts)

at-start : Stands nothing_read [] nothing
at-start = record {
  plain = refl;
  given = λ o. elim o as (λ o. values_of o nothing_read ≡ []) [ conflicts ↦ refl | work ↦ refl ];
  full = refl;
  once = λ o. omega arith;
}

reading-is : (r : Reading) (rows : List Row) → Stands r rows nothing → r ≡ reading_in rows
reading-is r rows h =
    let p = h.plain ∙ append-nil _ in
    let c = h.given conflicts ∙ append-nil _ in
    let w = h.given work ∙ append-nil _ in
    rw (← p, ← c, ← w) refl

limits-fail : (c w : Option (Option ℕ)) → w ≡ None → limits_of c w ≡ None
limits-fail (Some c) (Some w) e = cc e
limits-fail (Some c) None e = refl
limits-fail None w e = refl

limit-of-two : (most : ℕ) (texts : List Text) → 1 < length texts → limit_of most texts ≡ None
limit-of-two most [] h = absurd (omega arith)
limit-of-two most (x ∷ []) h = absurd (omega arith)
limit-of-two most (x ∷ y ∷ rest) h = refl

limits-twice : (r : Reading) (o : Setting) → 1 < length (values_of o r) → limits r ≡ None
limits-twice r conflicts h = rw (limit-of-two 10000000 r.conflicts h) refl
limits-twice r work h = limits-fail (limit_of 10000000 r.conflicts) _ (limit-of-two 32000000 r.work h)

module _ (texts : List Text) where
  abbrev Outcome : Option Reading → Type 0
  Outcome o = Agrees o (faults_on start texts) (rows_on start texts)

  read-fine : (o : Option Reading) → Outcome o → faults_on start texts ≡ [] → o ≡ Some (reading_in (rows_on start texts))
  read-fine None n e = absurd (n e)
  read-fine (Some r) (fine q h) e = ap (λ (x : Reading). Some x) (reading-is r (rows_on start texts) h)
  read-fine (Some r) (refused n t) e = absurd (n e)

  read-refused : (o : Option Reading) → Outcome o → (faults_on start texts ≡ [] → ⊥) → option_and_then limits o ≡ None
  read-refused None h n = refl
  read-refused (Some r) (fine q h) n = absurd (n q)
  read-refused (Some r) (refused q t) n = limits-twice r t.option t.again

  outcome : All IsUtf8 texts → Outcome (read texts)
  outcome valid = agrees texts valid (open_at [] nothing anything) nothing_read at-start

  pub parsed : All IsUtf8 texts → faults texts ≡ [] → (rows : List Row) → rows ≡ rows_read texts → read texts ≡ Some (reading_in rows)
  parsed valid e rows is = rw (is, rows-are texts) (read-fine (read texts) (outcome valid) (sym (fault-is texts) ∙ e))

  pub refused-words : All IsUtf8 texts → (e : Error) (f : WordFault) → HasKind (faults texts) e → IsFaultOf (kind_of e) f → IsRefused texts f
  refused-words valid e Usage h k = read-refused (read texts) (outcome valid) (λ q. has-fault (faults texts) e h k (fault-is texts ∙ q))
  refused-words valid e NoMemory h k = tt
