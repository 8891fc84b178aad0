use Rattle.std.proofs.Common.{◌∙◌, ◌≡◌, Bool, true, false, not, ◌&&◌, refl, ap, ap₂, sym}
use Rattle.rt_algebra.specs.Answer.{has_row}
use Rattle.rt_formula.proofs.Meaning.{val-grown}
use Rattle.rt_rules.proofs.Meanings.{below-grown}
use Rattle.rt_noted.proofs.Growing.{grown_trans, two_nodes}
use Rattle.rt_noted.proofs.SameRows.{mapped_stay, rows_stay, same_rows_is}
use Rattle.rt_annot.proofs.aim.goal_beside.Goals as goal

both_of : (a b x y : Bool) → a ≡ x → b ≡ y → (a && (b && true)) ≡ (x && y)
both_of a b x y p q = ap₂ (λ v w. v && (w && true)) p q ∙ ap (λ w. x && w) (and_true y)
  where
    and_true : (b : Bool) → (b && true) ≡ b
    and_true true = refl
    and_true false = refl

pub differ-requires : goal.differ-requires
differ-requires c = record { a = mapped_stay c.annotate.ensures.grown c.args.reference.now.rows c.requires.stands.rows; b = c.in_ok-rows.ensures.nodes }

pub returns-clause-differs : goal.returns-clause-differs
returns-clause-differs c = below-grown c.differ.new.dag c.all.new.self c.in_ok-both.ensures.grown c.in_ok-differs.differs c.in_ok-differs.ensures.node

pub returns-clause-parts : goal.returns-clause-parts
returns-clause-parts c keep =
    c.in_ok-both.ensures.means keep
    ∙ both_of _ _ _ _
    (val-grown c.args.dag.now c.differ.new.dag (grown_trans c.annotate.ensures.grown c.differ.ensures.grown) keep c.args.reference.now.lawful c.requires.stands.lawful)
    (sym (val-grown c.differ.new.dag c.all.new.self c.in_ok-both.ensures.grown keep c.in_ok-differs.differs c.in_ok-differs.ensures.node))

pub returns-clause-means : goal.returns-clause-means
returns-clause-means c keep =
    val-grown c.differ.new.dag c.all.new.self c.in_ok-both.ensures.grown keep c.in_ok-differs.differs c.in_ok-differs.ensures.node
    ∙ c.in_ok-differs.ensures.means keep
    ∙ ap not (same_rows_is _ _ _ _
    (λ r. ap (λ rows. has_row rows r) (rows_stay c.annotate.ensures.grown keep c.args.reference.now.rows c.requires.stands.rows))
    (λ r. c.in_ok-rows.ensures.rows keep r))

pub returns-in_err-differs-clause-grown : goal.returns-in_err-differs-clause-grown
returns-in_err-differs-clause-grown c = grown_trans c.annotate.ensures.grown c.differ.ensures.grown

pub returns-in_err-both-clause-grown : goal.returns-in_err-both-clause-grown
returns-in_err-both-clause-grown c = grown_trans (grown_trans c.annotate.ensures.grown c.differ.ensures.grown) c.all.ensures.grown

pub returns-clause-grown : goal.returns-clause-grown
returns-clause-grown c = grown_trans (grown_trans c.annotate.ensures.grown c.differ.ensures.grown) c.all.ensures.grown

pub all-requires : goal.all-requires
all-requires c =
    two_nodes c.differ.new.dag (below-grown c.args.dag.now c.differ.new.dag (grown_trans c.annotate.ensures.grown c.differ.ensures.grown) c.args.reference.now.lawful c.requires.stands.lawful) c.in_ok-differs.ensures.node
