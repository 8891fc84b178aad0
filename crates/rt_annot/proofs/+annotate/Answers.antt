use Rattle.std.proofs.Common.{◌∙◌, ◌+◌, ◌++◌, ap, ap₂, sym, None, Some, List, Bool, map, Bor, ◌∷◌, ◌&&◌, refl, [], subst, IfOk, get_or, arith, length, rules, slice_set, add-zero, drop, ◌≡◌}
use Rattle.std.proofs.lemmas.List.{take_all}
use Rattle.std.proofs.lemmas.Result.{IfOk-weaker}
use Rattle.std.specs.List.{filter, list_all}
use Rattle.rt_formula.specs.Shared.{bool_at, val}
use Rattle.rt_value.specs.declared.value.Value.{Value}
use Rattle.rt_value.specs.Value.{null_truth, value_truth}
use Rattle.rt_algebra.specs.Answer.{answer_by, has_row, one_of_truth}
use Rattle.rt_algebra.specs.Expression.{wrapped, Env, row_by, value_by}
use Rattle.rt_algebra.specs.declared.query.Query.{Query}
use Rattle.rt_algebra.specs.declared.query.Pred.TheVariants as w
use Rattle.rt_algebra.specs.declared.query.Query.TheVariants as v
use Rattle.rt_schema.specs.Given.{base_of}
use Rattle.rt_rules.proofs.BoolLemmas.{and-false}
use Rattle.rt_split.specs.Probe.{IsProbeOf}
use Rattle.rt_schema.specs.Kept.{kept}
use Rattle.rt_noted.specs.Entries.{rows_at, selected}
use Rattle.rt_noted.specs.Annotated.{IsGate, IsNode, entries_of, placed, set_rows, test_under, yes_when, no_when, yes_of, no_of}
use Rattle.rt_noted.specs.Joints.{GiveEach, joint_entries}
use Rattle.rt_noted.proofs.Exact.{table_exact}
use Rattle.rt_noted.specs.declared.side.Side.TheVariants.{Present, Missing}
use Rattle.rt_noted.specs.declared.subquery.Memo.TheVariants.{Tested, Listed}
use Rattle.rt_noted.specs.Known.{AreKnown}
use Rattle.rt_noted.proofs.Knowing.{gives_under, known_more, known_stay, same_known, some_holds, tells_same, tells_stay, tells_under}
use Rattle.rt_noted.proofs.Growing.{grown_refl, grown_trans, all_stays, mean_stays, node_as, node_never, nodes_are, nodes_stay, noted_stay}
use Rattle.rt_noted.proofs.Distinct.{noted_at}
use Rattle.rt_noted.proofs.Walking.{base_within, next_is, next_placed, scope_again, scope_room, scope_with, table_entries}
use Rattle.rt_algebra.proofs.Equations.{at_table, at_cmp, at_is_null, at_one_of, at_select, at_project, at_union, at_except, at_intersect}
use Rattle.rt_noted.proofs.Layers.{outcome, mean_push, mean_as, yes_more, no_more, joined_gate, joined_stops, and_gate, or_gate, exists_gate, member_gate, gives_as, gives_same, gives_stay, gives_of, gives_projected, gives_merged, choose, leave_out, choosing_at, choosing_start}
use Rattle.rt_noted.proofs.Joining.{joint_below}
use Rattle.rt_noted.proofs.Members.{chosen_rows, choosing_rows, narrowed_rows, whole_rows, members_same, members_below, makes_product, makes_single, give_push, answers_more}
use Rattle.rt_annot.proofs.+annotate.Goals as goal
use Rattle.rt_annot.proofs.+annotate.Goals.{evaluate::chosen-then-not-is_never+in_ok-note, evaluate::chosen-else-not-is_never, evaluate::table_selection-then-not-is_never+in_ok-note, evaluate::table_selection-else-not-is_never}

abbrev scope_of : List (Bor (List Value)) → Env
scope_of rows = map (λ r. r.now) rows

pub evaluate::annotated-returns-in_ok-rows-in-Project-clause-known : goal.evaluate::annotated-returns-in_ok-rows-in-Project-clause-known
evaluate::annotated-returns-in_ok-rows-in-Project-clause-known t c = known_stay c.projection.ensures.grown c.annotated.ensures.known

pub conditions::together-returns-then-is_always-clause-gate : goal.conditions::together-returns-then-is_always-clause-gate
conditions::together-returns-then-is_always-clause-gate t c =
    joined_stops c.args.tables.now (scope_of c.args.env.now) c.args.junction.now c.args.ps.now c.loop-condition.condition-index c.condition-item.result c.loop-condition-test.true c.condition-item.is c.in_ok-gate.ensures.gate
    (λ s. ap (val c.test.new.dag s) (sym c.deciding.ensures) ∙ c.is_always.ensures c.if-is_always.true s)

pub conditions::together-loop-condition-preserved : goal.conditions::together-loop-condition-preserved
conditions::together-loop-condition-preserved t c =
    let g = c.args.tables.now in
    let e = scope_of c.args.env.now in
    let i = c.loop-condition.condition-index in
    let v = c.loop-condition.invariant in
    record {
      grown = grown_trans v.grown c.test.ensures.grown;
      known = c.test.ensures.known;
      yes = mean_as (yes_more g e c.args.ps.now i c.condition-item.result c.loop-condition-test.true c.condition-item.is) (mean_push (mean_stays c.test.ensures.grown v.yes) c.in_ok-gate.ensures.gate.yes c.in_ok-push.ensures.yes);
      no = mean_as (no_more g e c.args.ps.now i c.condition-item.result c.loop-condition-test.true c.condition-item.is) (mean_push (mean_stays c.test.ensures.grown v.no) c.in_ok-gate.ensures.gate.no c.in_ok-push.ensures.no);
    }

pub conditions::together-returns-clause-gate : goal.conditions::together-returns-clause-gate
conditions::together-returns-clause-gate t c =
    let g = c.args.tables.now in
    let e = scope_of c.args.env.now in
    let ps = c.args.ps.now in
    let all = take_all c.loop-condition.condition-index ps c.loop-condition-test.false in
    IfOk-weaker c.of.result _ _
    (λ x h. joined_gate g e c.args.junction.now c.loop-condition.dag c.loop-condition.gates ps (mean_as (ap (λ xs. yes_of xs g e) (sym all)) c.loop-condition.invariant.yes) (mean_as (ap (λ xs. no_of xs g e) (sym all)) c.loop-condition.invariant.no) h) c.of.ensures.gate

pub evaluate::chosen-loop-joint-preserved : goal.evaluate::chosen-loop-joint-preserved
evaluate::chosen-loop-joint-preserved t c =
    let d = c.args.dag.now in
    let i = c.loop-joint.joint-index in
    let j = c.joint-item.result in
    let v = c.loop-joint.invariant.choosing in
    let u = test_under c.args.condition.now c.args.tables.now (scope_of c.args.env.now) in
    let f = λ (s : List Bool). list_all (val d s) j.nodes && (u j.row).0 s in
    let b = joint_below d c.args.joints.now i j c.loop-joint-test.true c.joint-item.is c.requires.joints in
    let tested = c.test_row.new.dag in
    let grown = grown_trans v.grown c.test_row.ensures.grown in
    let gate : IsGate tested c.in_ok-gate.gate (u j.row) = c.in_ok-gate.ensures.gate in
    let node : IsNode c.meeting.new.dag c.in_ok-node.node f =
    node_as f (λ s. ap₂ ◌&&◌ (ap (list_all (val tested s)) c.as_slice.ensures ∙ all_stays grown j.nodes b s) (gate.yes.same s)) c.in_ok-node.ensures.node in
    let next = ap (λ js. selected (joint_entries d js) u) (next_is c.args.joints.now i j c.loop-joint-test.true c.joint-item.is) in
    let more = grown_trans c.test_row.ensures.grown c.meeting.ensures.grown in
    let known : AreKnown c.meeting.new.dag c.args.tables.now c.test_row.new.known = known_stay c.meeting.ensures.grown c.test_row.ensures.known in
    elim c.if-not-is_never.branch [
      | evaluate::chosen-then-not-is_never+in_ok-note w ↦ record { choosing = choosing_at refl w.out-is (choose j.row f v next more (record { row = j.row; node = c.in_ok-node.node }) refl node w.in_ok-note.ensures); known = known }
      | evaluate::chosen-else-not-is_never w ↦ record { choosing = choosing_at refl w.out-is (leave_out j.row f v next more (λ s. sym (node.same s) ∙ c.is_never.ensures w.if-not-is_never.false s)); known = known }
    ]

pub evaluate::members-loop-query-preserved : goal.evaluate::members-loop-query-preserved
evaluate::members-loop-query-preserved t c =
    let v = c.loop-query.invariant in
    record {
      grown = grown_trans v.grown c.annotated.ensures.grown;
      known = c.annotated.ensures.known;
      give = give_push c.annotated.ensures.grown v.give c.in_ok-rows.ensures.gives c.in_ok-push.ensures.ok
          (answers_more c.args.tables.now (scope_of c.args.env.now) c.args.qs.now c.loop-query.query-index c.query-item.result c.loop-query-test.true c.query-item.is);
    }

pub evaluate::annotated-returns-in-Table-clause-known : goal.evaluate::annotated-returns-in-Table-clause-known
evaluate::annotated-returns-in-Table-clause-known t c = known_stay c.table.ensures.grown c.requires.known

pub evaluate::annotated-returns-in_ok-parts-in-Product-clause-known : goal.evaluate::annotated-returns-in_ok-parts-in-Product-clause-known
evaluate::annotated-returns-in_ok-parts-in-Product-clause-known t c = known_stay c.noted_product.ensures.grown c.members.ensures.known

pub evaluate::chosen-returns-in_err-node-clause-known : goal.evaluate::chosen-returns-in_err-node-clause-known
evaluate::chosen-returns-in_err-node-clause-known t c = known_stay c.meeting.ensures.grown c.test_row.ensures.known

pub evaluate::chosen-returns-in_err-note-clause-known : goal.evaluate::chosen-returns-in_err-note-clause-known
evaluate::chosen-returns-in_err-note-clause-known t c = known_stay c.meeting.ensures.grown c.test_row.ensures.known

pub conditions::newly-returns-clause-tells : goal.conditions::newly-returns-clause-tells
conditions::newly-returns-clause-tells t c =
    IfOk-weaker c.of.result _ _
    (λ f h. tells_same (λ s. answer_by wrapped c.args.query.now (kept c.args.tables.now s) [])
    (λ s r. ap (λ ns. has_row (rows_at s (entries_of c.annotated.new.dag ns)) r) c.as_slice.ensures ∙ c.in_ok-rows.ensures.gives.same s r) h) c.of.ensures.tells

pub conditions::newly-returns-clause-known : goal.conditions::newly-returns-clause-known
conditions::newly-returns-clause-known t c = known_stay c.of.ensures.grown c.annotated.ensures.known

pub conditions::together-returns-clause-known : goal.conditions::together-returns-clause-known
conditions::together-returns-clause-known t c = known_stay c.of.ensures.grown c.loop-condition.invariant.known

pub evaluate::chosen-returns-in_err-gate-clause-grown : goal.evaluate::chosen-returns-in_err-gate-clause-grown
evaluate::chosen-returns-in_err-gate-clause-grown t c = grown_trans c.loop-joint.invariant.choosing.grown c.test_row.ensures.grown

pub evaluate::chosen-returns-in_err-node-clause-grown : goal.evaluate::chosen-returns-in_err-node-clause-grown
evaluate::chosen-returns-in_err-node-clause-grown t c = grown_trans (grown_trans c.loop-joint.invariant.choosing.grown c.test_row.ensures.grown) c.meeting.ensures.grown

pub evaluate::chosen-returns-in_err-note-clause-grown : goal.evaluate::chosen-returns-in_err-note-clause-grown
evaluate::chosen-returns-in_err-note-clause-grown t c = grown_trans (grown_trans c.loop-joint.invariant.choosing.grown c.test_row.ensures.grown) c.meeting.ensures.grown

pub evaluate::members-returns-in_err-rows-clause-grown : goal.evaluate::members-returns-in_err-rows-clause-grown
evaluate::members-returns-in_err-rows-clause-grown t c = grown_trans c.loop-query.invariant.grown c.annotated.ensures.grown

pub evaluate::members-returns-in_err-push-clause-grown : goal.evaluate::members-returns-in_err-push-clause-grown
evaluate::members-returns-in_err-push-clause-grown t c = grown_trans c.loop-query.invariant.grown c.annotated.ensures.grown

pub evaluate::annotated-returns-in_ok-rows-in-Project-clause-grown : goal.evaluate::annotated-returns-in_ok-rows-in-Project-clause-grown
evaluate::annotated-returns-in_ok-rows-in-Project-clause-grown t c = grown_trans c.annotated.ensures.grown c.projection.ensures.grown

pub evaluate::annotated-returns-in_ok-parts-in-Product-clause-grown : goal.evaluate::annotated-returns-in_ok-parts-in-Product-clause-grown
evaluate::annotated-returns-in_ok-parts-in-Product-clause-grown t c = grown_trans c.members.ensures.grown c.noted_product.ensures.grown

pub conditions::newly-returns-clause-grown : goal.conditions::newly-returns-clause-grown
conditions::newly-returns-clause-grown t c = grown_trans c.annotated.ensures.grown c.of.ensures.grown

pub conditions::together-returns-in_err-gate-clause-grown : goal.conditions::together-returns-in_err-gate-clause-grown
conditions::together-returns-in_err-gate-clause-grown t c = grown_trans c.loop-condition.invariant.grown c.test.ensures.grown

pub conditions::together-returns-then-is_always-clause-grown : goal.conditions::together-returns-then-is_always-clause-grown
conditions::together-returns-then-is_always-clause-grown t c = grown_trans c.loop-condition.invariant.grown c.test.ensures.grown

pub conditions::together-returns-in_err-push-clause-grown : goal.conditions::together-returns-in_err-push-clause-grown
conditions::together-returns-in_err-push-clause-grown t c = grown_trans c.loop-condition.invariant.grown c.test.ensures.grown

pub conditions::together-returns-clause-grown : goal.conditions::together-returns-clause-grown
conditions::together-returns-clause-grown t c = grown_trans c.loop-condition.invariant.grown c.of.ensures.grown

pub evaluate::chosen-meeting-requires-clause-nodes : goal.evaluate::chosen-meeting-requires-clause-nodes
evaluate::chosen-meeting-requires-clause-nodes t c =
    nodes_are c.test_row.new.dag c.as_slice.ensures
    (nodes_stay (grown_trans c.loop-joint.invariant.choosing.grown c.test_row.ensures.grown) c.joint-item.result.nodes (joint_below c.args.dag.now c.args.joints.now c.loop-joint.joint-index c.joint-item.result c.loop-joint-test.true c.joint-item.is c.requires.joints))

pub evaluate::chosen-meeting-requires-clause-condition : goal.evaluate::chosen-meeting-requires-clause-condition
evaluate::chosen-meeting-requires-clause-condition t c = c.in_ok-gate.ensures.gate.yes.below

pub conditions::newly-of-requires : goal.conditions::newly-of-requires
conditions::newly-of-requires t c = noted_at c.annotated.new.dag c.as_slice.ensures c.in_ok-rows.ensures.gives.below

pub conditions::together-of-requires-clause-yes : goal.conditions::together-of-requires-clause-yes
conditions::together-of-requires-clause-yes t c = c.loop-condition.invariant.yes.below

pub conditions::together-of-requires-clause-no : goal.conditions::together-of-requires-clause-no
conditions::together-of-requires-clause-no t c = c.loop-condition.invariant.no.below

pub evaluate::annotated-returns-in-Table-clause-gives : goal.evaluate::annotated-returns-in-Table-clause-gives
evaluate::annotated-returns-in-Table-clause-gives t c =
    let g = c.args.tables.now in
    let e = scope_of c.args.env.now in
    IfOk-weaker c.table.result _ _
    (λ out h. gives_as (λ s. answer_by wrapped c.args.query.now (kept g s) e)
    (λ s. ap (rows_at s) (table_entries g c.in-Table.t) ∙ table_exact s g (λ u. u) c.in-Table.t ∙ sym (at_table (kept g s) e c.in-Table.t c.in-Table.is))
    (gives_of _ h)) c.table.ensures.reads

pub evaluate::annotated-projection-requires : goal.evaluate::annotated-projection-requires
evaluate::annotated-projection-requires t c = noted_at c.annotated.new.dag c.as_slice-in-Project.ensures c.in_ok-rows-in-Project.ensures.gives.below

pub evaluate::annotated-returns-in_ok-rows-in-Project-clause-gives : goal.evaluate::annotated-returns-in_ok-rows-in-Project-clause-gives
evaluate::annotated-returns-in_ok-rows-in-Project-clause-gives t c =
    let g = c.args.tables.now in
    let e = scope_of c.args.env.now in
    let a = c.in-Project.a in
    let rows = gives_same c.as_slice-in-Project.ensures (gives_as (λ s. answer_by wrapped a (kept g s) e) (λ s. ap (λ q. answer_by wrapped q (kept g s) e) c.get-in-Project.ensures) c.in_ok-rows-in-Project.ensures.gives) in
    IfOk-weaker c.projection.result _ _
    (λ out h. gives_as (λ s. answer_by wrapped c.args.query.now (kept g s) e)
    (λ s. ap (λ es. map (λ r. row_by wrapped es (r ∷ e)) (answer_by wrapped a (kept g s) e)) c.as_slice-in-Project-2.ensures ∙ sym (at_project (kept g s) e a c.in-Project.items c.in-Project.is))
    (gives_merged h (gives_projected c.as_slice-in-Project-2.result.now e rows))) c.projection.ensures.merged

pub evaluate::annotated-noted_product-requires : goal.evaluate::annotated-noted_product-requires
evaluate::annotated-noted_product-requires t c = members_below c.members.new.dag c.as_slice-in-Product-2.ensures c.in_ok-parts-in-Product.ensures.give.below

pub evaluate::annotated-returns-in_ok-parts-in-Product-clause-gives : goal.evaluate::annotated-returns-in_ok-parts-in-Product-clause-gives
evaluate::annotated-returns-in_ok-parts-in-Product-clause-gives t c =
    let qs = c.as_slice-in-Product.result.now in
    IfOk-weaker c.noted_product.result _ _
    (λ out h. whole_rows h refl
    (members_same c.as_slice-in-Product-2.ensures
    (makes_product c.args.tables.now (scope_of c.args.env.now) c.args.query.now qs (c.in-Product.is ∙ ap v.Product (sym c.as_slice-in-Product.ensures)) c.in_ok-parts-in-Product.ensures.give))) c.noted_product.ensures.reads

pub evaluate::source-returns-in-Product-clause-makes : goal.evaluate::source-returns-in-Product-clause-makes
evaluate::source-returns-in-Product-clause-makes t c =
    IfOk-weaker c.members.result _ _
    (λ out h. makes_product c.args.tables.now (scope_of c.args.env.now) c.args.query.now c.as_slice.result.now (c.in-Product.is ∙ ap v.Product (sym c.as_slice.ensures)) h) c.members.ensures.give

pub evaluate::source-returns-in_ok-rows-in_default-clause-makes : goal.evaluate::source-returns-in_ok-rows-in_default-clause-makes
evaluate::source-returns-in_ok-rows-in_default-clause-makes t c =
    IfOk-weaker c.alone.result _ _ (λ out h. makes_single h c.in_ok-rows-in_default.ensures.gives) c.alone.ensures

pub conditions::test-returns-in-And-clause-gate : goal.conditions::test-returns-in-And-clause-gate
conditions::test-returns-in-And-clause-gate t c =
    IfOk-weaker c.together.result _ _
    (λ g h. and_gate c.args.tables.now (scope_of c.args.env.now) c.args.condition.now c.as_slice-in-And.result.now (c.in-And.is ∙ ap w.And (sym c.as_slice-in-And.ensures)) h) c.together.ensures.gate

pub conditions::test-returns-in-Or-clause-gate : goal.conditions::test-returns-in-Or-clause-gate
conditions::test-returns-in-Or-clause-gate t c =
    IfOk-weaker c.together-in-Or.result _ _
    (λ g h. or_gate c.args.tables.now (scope_of c.args.env.now) c.args.condition.now c.as_slice-in-Or.result.now (c.in-Or.is ∙ ap w.Or (sym c.as_slice-in-Or.ensures)) h) c.together-in-Or.ensures.gate

pub conditions::test-returns-in-Exists-clause-gate : goal.conditions::test-returns-in-Exists-clause-gate
conditions::test-returns-in-Exists-clause-gate t c =
    IfOk-weaker c.asked.result _ _
    (λ g h. exists_gate c.args.tables.now (scope_of c.args.env.now) c.args.condition.now c.get-in-Exists.result.now (c.in-Exists.is ∙ ap w.Exists (sym c.get-in-Exists.ensures)) h) c.asked.ensures.gate

pub conditions::test-returns-in_ok-x-in-Member-clause-gate : goal.conditions::test-returns-in_ok-x-in-Member-clause-gate
conditions::test-returns-in_ok-x-in-Member-clause-gate t c =
    IfOk-weaker c.asked-in-Member.result _ _
    (λ g h. member_gate c.args.tables.now (scope_of c.args.env.now) c.args.condition.now c.in-Member.e c.get-in-Member.result.now (c.in-Member.is ∙ ap (w.Member c.in-Member.e) (sym c.get-in-Member.ensures))
    c.in_ok-x-in-Member.x c.in_ok-x-in-Member.ensures h) c.asked-in-Member.ensures.gate

pub conditions::test-returns-in-Cmp-clause-gate : goal.conditions::test-returns-in-Cmp-clause-gate
conditions::test-returns-in-Cmp-clause-gate t c =
    let g = c.args.tables.now in
    let e = scope_of c.args.env.now in
    let k = c.in-Cmp in
    IfOk-weaker c.comparison.result _ _
    (λ x h. outcome g e c.args.condition.now (λ s. value_truth k.op (value_by wrapped k.a e) (value_by wrapped k.b e)) (λ s. at_cmp (kept g s) e k.op k.a k.b k.is) (λ s. refl) (λ s. refl) h) c.comparison.ensures

pub conditions::test-returns-in-IsNull-clause-gate : goal.conditions::test-returns-in-IsNull-clause-gate
conditions::test-returns-in-IsNull-clause-gate t c =
    let g = c.args.tables.now in
    let e = scope_of c.args.env.now in
    let k = c.in-IsNull in
    IfOk-weaker c.missing.result _ _
    (λ x h. outcome g e c.args.condition.now (λ s. null_truth (value_by wrapped k.e e)) (λ s. at_is_null (kept g s) e k.e k.is) (λ s. refl) (λ s. refl) h) c.missing.ensures

pub conditions::test-returns-in-OneOf-clause-gate : goal.conditions::test-returns-in-OneOf-clause-gate
conditions::test-returns-in-OneOf-clause-gate t c =
    let g = c.args.tables.now in
    let e = scope_of c.args.env.now in
    let k = c.in-OneOf in
    let items = c.as_slice.result.now in
    IfOk-weaker c.listed.result _ _
    (λ x h. outcome g e c.args.condition.now (λ s. one_of_truth wrapped (value_by wrapped k.e e) items e) (λ s. at_one_of (kept g s) e k.e items (k.is ∙ ap (w.OneOf k.e) (sym c.as_slice.ensures))) (λ s. refl) (λ s. refl) h) c.listed.ensures

pub conditions::test_row-returns-clause-gate : goal.conditions::test_row-returns-clause-gate
conditions::test_row-returns-clause-gate t c =
    let g = c.args.tables.now in
    let p = c.args.condition.now in
    let G : Env → Type 0 = λ e. IfOk c.test.result (λ x. IsGate c.test.new.dag x (yes_when p g e, no_when p g e)) in
    subst G (ap scope_of c.as_slice.ensures.value ∙ c.in_ok-inner.ensures) c.test.ensures.gate

pub evaluate::table_selection-loop-at-preserved : goal.evaluate::table_selection-loop-at-preserved
evaluate::table_selection-loop-at-preserved t c =
    let g = c.args.tables.now in
    let e = scope_of c.args.env.now in
    let p = c.args.condition.now in
    let i = c.loop-at.at in
    let r = c.index-rows-at.result in
    let base = c.first_place-base.result in
    let u = test_under p g e in
    let v = c.loop-at.invariant.choosing in
    let f = λ (s : List Bool). bool_at s (base + i) && (u r).0 s in
    let node : IsNode c.row_where.new.dag c.in_ok-node.node f =
    node_as f (λ s. ap (λ x. bool_at s (base + i) && yes_when p g x s) (ap scope_of (c.as_slice-in-loop-at.ensures ∙ c.set.ensures) ∙ c.loop-at.invariant.scope _)) c.in_ok-node.ensures.node in
    let next = ap (λ es. selected es u) (next_placed base c.rows_at-rows.result.now i r c.loop-at-test.true c.index-rows-at.is) in
    let P : List (Bor (List Value)) → Type 0 = λ inner. (row : Bor (List Value)) → map (λ r. r.now) (slice_set inner 0 row) ≡ row.now ∷ e in
    let scope = subst P (sym c.set.ensures) (scope_again c.loop-at.inner _ e c.loop-at.invariant.scope) in
    elim c.if-not-is_never.branch [
      | evaluate::table_selection-then-not-is_never+in_ok-note w ↦ record { choosing = choosing_at refl w.out-is (choose r f v next c.row_where.ensures.grown (record { row = r; node = c.in_ok-node.node }) refl node w.in_ok-note.ensures); scope = scope; known = c.row_where.ensures.known }
      | evaluate::table_selection-else-not-is_never w ↦ record { choosing = choosing_at refl w.out-is (leave_out r f v next c.row_where.ensures.grown (λ s. sym (node.same s) ∙ c.is_never.ensures w.if-not-is_never.false s)); scope = scope; known = c.row_where.ensures.known }
    ]

-- a row that the probe refuses never comes
pub evaluate::table_selection-loop-at-preserved-then-refuses : goal.evaluate::table_selection-loop-at-preserved-then-refuses
evaluate::table_selection-loop-at-preserved-then-refuses t c =
    let g = c.args.tables.now in
    let e = scope_of c.args.env.now in
    let p = c.args.condition.now in
    let i = c.loop-at.at in
    let r = c.index-rows-at.result in
    let base = c.first_place-base.result in
    let u = test_under p g e in
    let v = c.loop-at.invariant in
    let f = λ (s : List Bool). bool_at s (base + i) && (u r).0 s in
    let next = ap (λ es. selected es u) (next_placed base c.rows_at-rows.result.now i r c.loop-at-test.true c.index-rows-at.is) in
    let around : drop 1 (scope_of c.as_slice.result.now) ≡ e = ap (drop 1) (ap scope_of (c.as_slice.ensures ∙ c.from_vec-inner.ensures) ∙ c.in_ok-scope.ensures) in
    let P : Env → Type 0 = λ outer. IsProbeOf p outer c.in_ok-probe.probe in
    let refused = subst P around c.in_ok-probe.ensures r (sym c.refuses.ensures ∙ c.if-refuses.true) in
    record {
      choosing = leave_out r f v.choosing next (grown_refl c.loop-at.dag) (λ s. ap (λ b. bool_at s (base + i) && b) (refused (kept g s)) ∙ and-false (bool_at s (base + i)));
      scope = v.scope;
      known = v.known;
    }

pub evaluate::table_selection-returns-in_err-node-clause-grown : goal.evaluate::table_selection-returns-in_err-node-clause-grown
evaluate::table_selection-returns-in_err-node-clause-grown t c = grown_trans c.loop-at.invariant.choosing.grown c.row_where.ensures.grown

pub evaluate::table_selection-returns-in_err-note-clause-grown : goal.evaluate::table_selection-returns-in_err-note-clause-grown
evaluate::table_selection-returns-in_err-note-clause-grown t c = grown_trans c.loop-at.invariant.choosing.grown c.row_where.ensures.grown

pub evaluate::table_selection-row_where-requires : goal.evaluate::table_selection-row_where-requires
evaluate::table_selection-row_where-requires t c =
    let rows : length c.rows_at-rows.result.now ≡ length (get_or c.args.tables.now c.args.number []) = ap length c.rows_at-rows.ensures in
    let room = base_within c.args.tables.now c.args.number in
    let base = c.first_place-base.ensures in
    let all = c.loop-at.invariant.choosing.grown.rows ∙ c.requires.places in
    let here = c.loop-at-test.true in
    (search rules, (all, (c.loop-at.invariant.known, omega (arith, rows, room, base, all, here))))

pub evaluate::table_selection-loop-at-init : goal.evaluate::table_selection-loop-at-init
evaluate::table_selection-loop-at-init t c =
    let e = scope_of c.args.env.now in
    let u = test_under c.args.condition.now c.args.tables.now e in
    record {
      choosing = choosing_start c.args.dag.now c.new-out.ensures (ap (λ k. selected (placed k c.rows_at-rows.result.now) u) (add-zero c.first_place-base.result));
      scope = scope_with c.from_vec-inner.result _ e (ap scope_of c.from_vec-inner.ensures ∙ c.in_ok-scope.ensures);
      known = c.requires.known;
    }

pub evaluate::table_selection-set-requires : goal.evaluate::table_selection-set-requires
evaluate::table_selection-set-requires t c = scope_room c.loop-at.inner (scope_of c.args.env.now) c.loop-at.invariant.scope

pub evaluate::table_selection-overflow_add-base : goal.evaluate::table_selection-overflow_add-base
evaluate::table_selection-overflow_add-base t c =
    let rows : length c.rows_at-rows.result.now ≡ length (get_or c.args.tables.now c.args.number []) = ap length c.rows_at-rows.ensures in
    let room = base_within c.args.tables.now c.args.number in
    let base = c.first_place-base.ensures in
    let all = c.loop-at.invariant.choosing.grown.rows ∙ c.requires.places in
    let here = c.loop-at-test.true in
    omega (arith, rows, room, base, all, here)

pub evaluate::row_where-returns-then-branch-clause-node : goal.evaluate::row_where-returns-then-branch-clause-node
evaluate::row_where-returns-then-branch-clause-node t c =
    node_never (λ s. bool_at s c.args.place) (λ s. yes_when c.args.condition.now c.args.tables.now (scope_of c.args.env.now) s) c.no.ensures.node c.no.ensures.means (λ s. c.in_ok-is_refused.ensures c.if-branch.true (kept c.args.tables.now s))

pub evaluate::row_where-returns-clause-grown : goal.evaluate::row_where-returns-clause-grown
evaluate::row_where-returns-clause-grown t c = grown_trans c.test.ensures.grown c.row_meeting.ensures.grown

pub evaluate::row_where-returns-clause-known : goal.evaluate::row_where-returns-clause-known
evaluate::row_where-returns-clause-known t c = known_stay c.row_meeting.ensures.grown c.test.ensures.known

pub evaluate::row_where-returns-clause-node : goal.evaluate::row_where-returns-clause-node
evaluate::row_where-returns-clause-node t c =
    let gate : IsGate c.test.new.dag c.in_ok-gate.gate (yes_when c.args.condition.now c.args.tables.now (scope_of c.args.env.now), no_when c.args.condition.now c.args.tables.now (scope_of c.args.env.now)) = c.in_ok-gate.ensures.gate in
    IfOk-weaker c.row_meeting.result _ _
    (λ n h. node_as (λ s. bool_at s c.args.place && yes_when c.args.condition.now c.args.tables.now (scope_of c.args.env.now) s) (λ s. ap (λ b. bool_at s c.args.place && b) (gate.yes.same s)) h) c.row_meeting.ensures.node

pub evaluate::annotated-returns-in_ok-first-in-Union-clause-grown : goal.evaluate::annotated-returns-in_ok-first-in-Union-clause-grown
evaluate::annotated-returns-in_ok-first-in-Union-clause-grown t c = grown_trans c.operand.ensures.grown c.combined.ensures.grown

pub evaluate::annotated-returns-in_ok-first-in-Union-clause-gives : goal.evaluate::annotated-returns-in_ok-first-in-Union-clause-gives
evaluate::annotated-returns-in_ok-first-in-Union-clause-gives t c =
    let g = c.args.tables.now in
    let e = scope_of c.args.env.now in
    let rows = λ (q : Query) (s : List Bool). answer_by wrapped q (kept g s) e in
    IfOk-weaker c.combined.result _ _
    (λ out h. gives_as (rows c.args.query.now)
    (λ s. ap₂ (λ a b. set_rows None (rows a s) (rows b s)) c.get-in-Union.ensures c.get-in-Union-2.ensures ∙ sym (at_union (kept g s) e c.in-Union.a c.in-Union.b c.in-Union.is))
    (h (rows c.get-in-Union.result.now) c.in_ok-first-in-Union.ensures.gives)) c.combined.ensures.gives

pub evaluate::annotated-returns-in_ok-first-in-Except-clause-grown : goal.evaluate::annotated-returns-in_ok-first-in-Except-clause-grown
evaluate::annotated-returns-in_ok-first-in-Except-clause-grown t c = grown_trans c.operand-in-Except.ensures.grown c.combined-in-Except.ensures.grown

pub evaluate::annotated-returns-in_ok-first-in-Except-clause-gives : goal.evaluate::annotated-returns-in_ok-first-in-Except-clause-gives
evaluate::annotated-returns-in_ok-first-in-Except-clause-gives t c =
    let g = c.args.tables.now in
    let e = scope_of c.args.env.now in
    let rows = λ (q : Query) (s : List Bool). answer_by wrapped q (kept g s) e in
    IfOk-weaker c.combined-in-Except.result _ _
    (λ out h. gives_as (rows c.args.query.now)
    (λ s. ap₂ (λ a b. set_rows (Some Missing) (rows a s) (rows b s)) c.get-in-Except.ensures c.get-in-Except-2.ensures ∙ sym (at_except (kept g s) e c.in-Except.a c.in-Except.b c.in-Except.is))
    (h (rows c.get-in-Except.result.now) c.in_ok-first-in-Except.ensures.gives)) c.combined-in-Except.ensures.gives

pub evaluate::annotated-returns-in_ok-first-in-Intersect-clause-grown : goal.evaluate::annotated-returns-in_ok-first-in-Intersect-clause-grown
evaluate::annotated-returns-in_ok-first-in-Intersect-clause-grown t c = grown_trans c.operand-in-Intersect.ensures.grown c.combined-in-Intersect.ensures.grown

pub evaluate::annotated-returns-in_ok-first-in-Intersect-clause-gives : goal.evaluate::annotated-returns-in_ok-first-in-Intersect-clause-gives
evaluate::annotated-returns-in_ok-first-in-Intersect-clause-gives t c =
    let g = c.args.tables.now in
    let e = scope_of c.args.env.now in
    let rows = λ (q : Query) (s : List Bool). answer_by wrapped q (kept g s) e in
    IfOk-weaker c.combined-in-Intersect.result _ _
    (λ out h. gives_as (rows c.args.query.now)
    (λ s. ap₂ (λ a b. set_rows (Some Present) (rows a s) (rows b s)) c.get-in-Intersect.ensures c.get-in-Intersect-2.ensures ∙ sym (at_intersect (kept g s) e c.in-Intersect.a c.in-Intersect.b c.in-Intersect.is))
    (h (rows c.get-in-Intersect.result.now) c.in_ok-first-in-Intersect.ensures.gives)) c.combined-in-Intersect.ensures.gives

pub evaluate::joints-returns-clause-below : goal.evaluate::joints-returns-clause-below
evaluate::joints-returns-clause-below t c =
    IfOk-weaker c.narrowed.result _ _ (λ out n. n.below c.source.new.dag (members_below c.source.new.dag c.as_slice.ensures c.in_ok-parts.ensures.makes.below)) c.narrowed.ensures

pub evaluate::joints-returns-clause-selected : goal.evaluate::joints-returns-clause-selected
evaluate::joints-returns-clause-selected t c =
    IfOk-weaker c.narrowed.result _ _ (λ out n. narrowed_rows c.args.condition.now (scope_of c.args.env.now) n (members_same c.as_slice.ensures c.in_ok-parts.ensures.makes)) c.narrowed.ensures

pub evaluate::combined-set_rows-requires-clause-first : goal.evaluate::combined-set_rows-requires-clause-first
evaluate::combined-set_rows-requires-clause-first t c = noted_stay c.operand.ensures.grown _ c.requires.first

pub evaluate::combined-set_rows-requires-clause-second : goal.evaluate::combined-set_rows-requires-clause-second
evaluate::combined-set_rows-requires-clause-second t c = noted_at c.operand.new.dag c.as_slice.ensures c.in_ok-second.ensures.gives.below

pub evaluate::combined-returns-clause-grown : goal.evaluate::combined-returns-clause-grown
evaluate::combined-returns-clause-grown t c = grown_trans c.operand.ensures.grown c.set_rows.ensures.grown

pub evaluate::combined-returns-clause-known : goal.evaluate::combined-returns-clause-known
evaluate::combined-returns-clause-known t c = known_stay c.set_rows.ensures.grown c.operand.ensures.known

pub evaluate::combined-returns-clause-gives : goal.evaluate::combined-returns-clause-gives
evaluate::combined-returns-clause-gives t c =
    IfOk-weaker c.set_rows.result _ _ (λ out h rows i. h rows _ (gives_stay c.operand.ensures.grown i) (gives_same c.as_slice.ensures c.in_ok-second.ensures.gives)) c.set_rows.ensures.gives

pub conditions::asked-gate-requires : goal.conditions::asked-gate-requires
conditions::asked-gate-requires t c = (some_holds _ c.in-Some.is c.found_of.ensures c.args.dag.now c.args.tables.now (same_known c.as_slice.ensures c.requires.known) []).over

pub conditions::asked-returns-in-Some-clause-known : goal.conditions::asked-returns-in-Some-clause-known
conditions::asked-returns-in-Some-clause-known t c = known_stay c.gate.ensures.grown c.requires.known

pub conditions::asked-returns-in-Some-clause-gate : goal.conditions::asked-returns-in-Some-clause-gate
conditions::asked-returns-in-Some-clause-gate t c =
    let tells = some_holds _ c.in-Some.is c.found_of.ensures c.args.dag.now c.args.tables.now (same_known c.as_slice.ensures c.requires.known) in
    IfOk-weaker c.gate.result _ _ (λ g h. h _ (tells (scope_of c.args.env.now))) c.gate.ensures.gate

pub conditions::asked-returns-then-query_is_closed-clause-gate : goal.conditions::asked-returns-then-query_is_closed-clause-gate
conditions::asked-returns-then-query_is_closed-clause-gate t c = IfOk-weaker c.newly_asked.result _ _ (λ g h. h (scope_of c.args.env.now)) c.newly_asked.ensures.gate

pub conditions::newly_asked-gate-requires : goal.conditions::newly_asked-gate-requires
conditions::newly_asked-gate-requires t c = c.in_ok-found.ensures.tells.over

pub conditions::newly_asked-returns-in_err-gate-clause-grown : goal.conditions::newly_asked-returns-in_err-gate-clause-grown
conditions::newly_asked-returns-in_err-gate-clause-grown t c = grown_trans c.newly.ensures.grown c.gate.ensures.grown

pub conditions::newly_asked-returns-in_err-gate-clause-known : goal.conditions::newly_asked-returns-in_err-gate-clause-known
conditions::newly_asked-returns-in_err-gate-clause-known t c = known_stay c.gate.ensures.grown c.newly.ensures.known

pub conditions::newly_asked-returns-in_err-push-clause-grown : goal.conditions::newly_asked-returns-in_err-push-clause-grown
conditions::newly_asked-returns-in_err-push-clause-grown t c = grown_trans c.newly.ensures.grown c.gate.ensures.grown

pub conditions::newly_asked-returns-in_err-push-clause-known : goal.conditions::newly_asked-returns-in_err-push-clause-known
conditions::newly_asked-returns-in_err-push-clause-known t c = same_known c.in_err-push.ensures.err (known_stay c.gate.ensures.grown c.newly.ensures.known)

pub conditions::newly_asked-returns-clause-grown : goal.conditions::newly_asked-returns-clause-grown
conditions::newly_asked-returns-clause-grown t c = grown_trans c.newly.ensures.grown c.gate.ensures.grown

pub conditions::newly_asked-returns-clause-known : goal.conditions::newly_asked-returns-clause-known
conditions::newly_asked-returns-clause-known t c =
    let tells = tells_under c.args.tables.now c.args.query.now c.requires.closed c.in_ok-found.ensures.tells in
    known_more (record { query = c.args.query; memo = Tested c.in_ok-found.found }) (known_stay c.gate.ensures.grown c.newly.ensures.known) (λ env. tells_stay c.gate.ensures.grown (tells env)) c.in_ok-push.ensures.ok

pub conditions::newly_asked-returns-clause-gate : goal.conditions::newly_asked-returns-clause-gate
conditions::newly_asked-returns-clause-gate t c env =
    c.in_ok-gate.ensures.gate (λ s. answer_by wrapped c.args.query.now (kept c.args.tables.now s) env) (tells_under c.args.tables.now c.args.query.now c.requires.closed c.in_ok-found.ensures.tells env)

pub operand::operand-returns-in-Some-clause-gives : goal.operand::operand-returns-in-Some-clause-gives
operand::operand-returns-in-Some-clause-gives t c =
    let gives = some_holds _ c.in-Some.is c.rows_of.ensures c.args.dag.now c.args.tables.now (same_known c.as_slice.ensures c.requires.known) in
    IfOk-weaker c.appended.result _ _ (λ out e. gives_same (e ∙ ap (λ ns. ns ++ c.in-Some.rows.now) c.new.ensures) (gives (scope_of c.args.env.now))) c.appended.ensures

pub operand::operand-returns-clause-gives : goal.operand::operand-returns-clause-gives
operand::operand-returns-clause-gives t c = IfOk-weaker c.newly_listed.result _ _ (λ out h. h (scope_of c.args.env.now)) c.newly_listed.ensures.gives

pub operand::newly_listed-returns-clause-known : goal.operand::newly_listed-returns-clause-known
operand::newly_listed-returns-clause-known t c =
    let same = c.in_ok-copy.ensures ∙ ap₂ (λ xs ys. xs ++ ys) c.new.ensures c.as_slice.ensures in
    known_more (record { query = c.args.query; memo = Listed c.in_ok-copy.copy }) c.annotated.ensures.known
    (gives_under c.args.tables.now c.args.query.now c.requires.closed (gives_same same c.in_ok-rows.ensures.gives)) c.in_ok-push.ensures.ok

pub operand::newly_listed-returns-clause-gives : goal.operand::newly_listed-returns-clause-gives
operand::newly_listed-returns-clause-gives t c = gives_under c.args.tables.now c.args.query.now c.requires.closed c.in_ok-rows.ensures.gives

pub conditions::asked-among-requires : goal.conditions::asked-among-requires
conditions::asked-among-requires t c = noted_at c.annotated.new.dag c.as_slice-in-Some-sought.ensures c.in_ok-rows-in-Some-sought.ensures.gives.below

pub evaluate::members-returns-clause-give : goal.evaluate::members-returns-clause-give
evaluate::members-returns-clause-give t c =
    let rows = λ (q : Query) (s : List Bool). answer_by wrapped q (kept c.args.tables.now s) (scope_of c.args.env.now) in
    let P : List Query → Type 0 = λ qs. GiveEach c.loop-query.dag c.loop-query.out (λ s. map (λ q. rows q s) qs) in
    subst P (take_all c.loop-query.query-index c.args.qs.now c.loop-query-test.false) c.loop-query.invariant.give

pub conditions::asked-returns-in_ok-rows-in-Some-sought-clause-known : goal.conditions::asked-returns-in_ok-rows-in-Some-sought-clause-known
conditions::asked-returns-in_ok-rows-in-Some-sought-clause-known t c = known_stay c.among.ensures.grown c.annotated.ensures.known

pub conditions::asked-returns-in_ok-rows-in-Some-sought-clause-gate : goal.conditions::asked-returns-in_ok-rows-in-Some-sought-clause-gate
conditions::asked-returns-in_ok-rows-in-Some-sought-clause-gate t c =
    IfOk-weaker c.among.result _ _ (λ g h. h _ (gives_same c.as_slice-in-Some-sought.ensures c.in_ok-rows-in-Some-sought.ensures.gives)) c.among.ensures.gate

pub conditions::some_row-returns-in_ok-rows-in_default-clause-grown : goal.conditions::some_row-returns-in_ok-rows-in_default-clause-grown
conditions::some_row-returns-in_ok-rows-in_default-clause-grown t c = grown_trans c.annotated.ensures.grown c.among.ensures.grown

pub conditions::some_row-returns-in_ok-rows-in_default-clause-known : goal.conditions::some_row-returns-in_ok-rows-in_default-clause-known
conditions::some_row-returns-in_ok-rows-in_default-clause-known t c = known_stay c.among.ensures.grown c.annotated.ensures.known

pub conditions::some_row-returns-in_ok-rows-in_default-clause-gate : goal.conditions::some_row-returns-in_ok-rows-in_default-clause-gate
conditions::some_row-returns-in_ok-rows-in_default-clause-gate t c =
    IfOk-weaker c.among.result _ _ (λ g h. h _ (gives_same c.as_slice.ensures c.in_ok-rows-in_default.ensures.gives)) c.among.ensures.gate

pub evaluate::annotated-returns-in-Table-get-clause-gives : goal.evaluate::annotated-returns-in-Table-get-clause-gives
evaluate::annotated-returns-in-Table-get-clause-gives t c =
    let g = c.args.tables.now in
    let e = scope_of c.args.env.now in
    let p = c.in-Select.condition in
    let n = c.in-Table-get.t in
    IfOk-weaker c.table_selection.result _ _
    (λ out h. gives_as (λ s. answer_by wrapped c.args.query.now (kept g s) e)
    (λ s. ap (filter (λ r. yes_when p g (r ∷ e) s)) (ap (rows_at s) (table_entries g n) ∙ table_exact s g (λ u. u) n ∙ sym (at_table (kept g s) e n (sym c.get.ensures ∙ c.in-Table-get.is)))
    ∙ sym (at_select (kept g s) e c.in-Select.a p c.in-Select.is))
    (chosen_rows (placed (base_of n g) (get_or g n [])) p g e h)) c.table_selection.ensures.chosen

pub evaluate::annotated-returns-in_ok-joints-in_default-clause-grown : goal.evaluate::annotated-returns-in_ok-joints-in_default-clause-grown
evaluate::annotated-returns-in_ok-joints-in_default-clause-grown t c = grown_trans c.joints.ensures.grown c.chosen.ensures.grown

pub evaluate::annotated-returns-in_ok-joints-in_default-clause-known : goal.evaluate::annotated-returns-in_ok-joints-in_default-clause-known
evaluate::annotated-returns-in_ok-joints-in_default-clause-known t c = c.chosen.ensures.known

pub evaluate::annotated-returns-in_ok-joints-in_default-clause-gives : goal.evaluate::annotated-returns-in_ok-joints-in_default-clause-gives
evaluate::annotated-returns-in_ok-joints-in_default-clause-gives t c =
    let g = c.args.tables.now in
    let e = scope_of c.args.env.now in
    let p = c.in-Select.condition in
    IfOk-weaker c.chosen.result _ _
    (λ out h. gives_as (λ s. answer_by wrapped c.args.query.now (kept g s) e)
    (λ s. ap (λ x. filter (λ r. yes_when p g (r ∷ e) s) (answer_by wrapped x (kept g s) e)) c.get.ensures ∙ sym (at_select (kept g s) e c.in-Select.a p c.in-Select.is))
    (choosing_rows (λ s. answer_by wrapped c.get.result.now (kept g s) e) p g e c.as_slice.ensures h c.in_ok-joints-in_default.ensures.selected)) c.chosen.ensures.chosen
