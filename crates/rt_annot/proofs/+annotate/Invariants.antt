use Rattle.std.proofs.Common.{◌≡◌, ◌+◌, ◌∷◌, Bor, List, map, take, drop, slice_set}
use Rattle.rt_value.specs.declared.value.Value.{Value}
use Rattle.rt_algebra.specs.Answer.{answer_by}
use Rattle.rt_algebra.specs.Expression.{wrapped}
use Rattle.rt_schema.specs.Kept.{kept}
use Rattle.rt_formula.specs.Shared.{IsGrown}
use Rattle.rt_noted.specs.Entries.{selected}
use Rattle.rt_noted.specs.Annotated.{Choosing, Mean, placed, test_under, yes_of, no_of}
use Rattle.rt_noted.specs.Known.{AreKnown}
use Rattle.rt_noted.specs.Joints.{GiveEach, joint_entries}
use Rattle.rt_annot.proofs.+annotate.Given as goal

abbrev pub invariant-conditions::together-loop-condition : goal.invariant-conditions::together-loop-condition
invariant-conditions::together-loop-condition l = record {
  grown : IsGrown l.fn.dag l.dag;
  known : AreKnown l.dag l.tables l.known;
  yes : Mean l.dag l.gates.yes (yes_of (take l.condition-index l.ps) l.tables (map (λ r. r.now) l.env));
  no : Mean l.dag l.gates.no (no_of (take l.condition-index l.ps) l.tables (map (λ r. r.now) l.env));
}

abbrev pub invariant-evaluate::chosen-loop-joint : goal.invariant-evaluate::chosen-loop-joint
invariant-evaluate::chosen-loop-joint l = record {
  choosing : Choosing l.fn.dag l.dag l.out
      (selected (joint_entries l.fn.dag (drop l.joint-index l.joints)) (test_under l.condition l.tables (map (λ r. r.now) l.env)))
      (selected (joint_entries l.fn.dag l.joints) (test_under l.condition l.tables (map (λ r. r.now) l.env)));
  known : AreKnown l.dag l.tables l.known;
}

abbrev pub invariant-evaluate::members-loop-query : goal.invariant-evaluate::members-loop-query
invariant-evaluate::members-loop-query l = record {
  grown : IsGrown l.fn.dag l.dag;
  known : AreKnown l.dag l.tables l.known;
  give : GiveEach l.dag l.out (λ s. map (λ q. answer_by wrapped q (kept l.tables s) (map (λ r. r.now) l.env)) (take l.query-index l.qs));
}

abbrev pub invariant-evaluate::table_selection-loop-at : goal.invariant-evaluate::table_selection-loop-at
invariant-evaluate::table_selection-loop-at l = record {
  choosing : Choosing l.fn.dag l.dag l.out
      (selected (placed (l.base + l.at) (drop l.at l.rows)) (test_under l.condition l.tables (map (λ r. r.now) l.env)))
      (selected (placed l.base l.rows) (test_under l.condition l.tables (map (λ r. r.now) l.env)));
  scope : (row : Bor (List Value)) → map (λ r. r.now) (slice_set l.inner 0 row) ≡ row.now ∷ map (λ r. r.now) l.env;
  known : AreKnown l.dag l.tables l.known;
}
