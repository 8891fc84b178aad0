use Rattle.std.proofs.Common.{◌∙◌, ◌∷◌, ◌++◌, [], arith, drop, refl, ap, ap₂, map, not, subst, List, Option, IfSome, IfOk, ◌≡◌}
use Rattle.std.proofs.lemmas.Grind.{common_steps}
use Rattle.std.specs.List.{filter}
use Rattle.rt_schema.specs.Given.{Rows}
use Rattle.rt_algebra.specs.Answer.{answer_by, has_row, is_yes, pred_by}
use Rattle.rt_algebra.specs.Expression.{wrapped, row_by}
use Rattle.rt_split.specs.Join.{product_rows}
use Rattle.rt_algebra.specs.declared.query.Query.{Query}
use Rattle.rt_eval.specs.Items.{items_where}
use Rattle.rt_eval.specs.Narrow.{AreEnough, rows_where}
use Rattle.rt_eval.specs.Pairs.{all_joined, first_joined}
use Rattle.rt_eval.specs.declared.pairs.Pairs.{Pairs}
use Rattle.rt_eval.proofs.Pairing.{all_made, items_append, joined_step}
use Rattle.rt_eval.proofs.Joining.{at_except, at_product, at_select}
use Rattle.rt_eval.proofs.+answer.Goals as goal

pub query::answer-returns-in_ok-lists-in-Product : goal.query::answer-returns-in_ok-lists-in-Product
query::answer-returns-in_ok-lists-in-Product t c =
    let db = c.args.tables.now in
    let env = map (λ r. r.now) c.args.env.now in
    let O : Rows → Type 0 = λ rows. IfOk c.product-out.result (λ out. out ≡ rows) in
    subst O (ap (λ (lists : List Rows). product_rows ([] ∷ []) lists)
    (c.as_slice-in-Product-2.ensures ∙ c.in_ok-lists-in-Product.ensures ∙ ap (λ (qs : List Query). map (λ q. answer_by wrapped q db env) qs) c.as_slice-in-Product.ensures)
    ∙ at_product c.in-Product.members db env c.in-Product.is) c.product-out.ensures

pub query::answer-returns-in_ok-lists-in-Product-get : goal.query::answer-returns-in_ok-lists-in-Product-get
query::answer-returns-in_ok-lists-in-Product-get t c =
    let db = c.args.tables.now in
    let env = map (λ r. r.now) c.args.env.now in
    let O : Rows → Type 0 = λ rows. IfOk c.product_selected-out.result (λ out. out ≡ rows) in
    subst O (ap (filter (λ r. is_yes (pred_by wrapped c.in-Select.condition db (r ∷ env))))
    (ap (λ (lists : List Rows). product_rows ([] ∷ []) lists)
    (c.as_slice-in-Product-get.ensures ∙ c.in_ok-lists-in-Product-get.ensures ∙ ap (λ (qs : List Query). map (λ q. answer_by wrapped q db env) qs) c.as_slice.ensures)
    ∙ at_product c.in-Product-get.members db env c.in-Product-get.is ∙ ap (λ (q : Query). answer_by wrapped q db env) c.get.ensures)
    ∙ at_select c.in-Select.source c.in-Select.condition db env c.in-Select.is) c.product_selected-out.ensures

pub query::answer-returns-in_ok-second-in-Except : goal.query::answer-returns-in_ok-second-in-Except
query::answer-returns-in_ok-second-in-Except t c =
    let db = c.args.tables.now in
    let env = map (λ r. r.now) c.args.env.now in
    let O : Rows → Type 0 = λ rows. IfOk c.difference-out.result (λ out. out ≡ rows) in
    subst O (ap₂ (λ (xs ys : Rows). filter (λ r. not (has_row ys r)) xs)
    (c.as_slice-in-Except.ensures ∙ c.in_ok-first-in-Except.ensures ∙ ap (λ (q : Query). answer_by wrapped q db env) c.get-in-Except.ensures)
    (c.in_ok-second-in-Except.ensures ∙ ap (λ (q : Query). answer_by wrapped q db env) c.get-in-Except-2.ensures)
    ∙ at_except c.in-Except.a c.in-Except.b db env c.in-Except.is) c.difference-out.ensures

pub items::pair_items-loop-at-preserved : goal.items::pair_items-loop-at-preserved
items::pair_items-loop-at-preserved t c =
    let db = c.args.tables.now in
    let env = map (λ s. s.now) c.args.env.now in
    let p = c.args.condition.now in
    let es = c.args.items.now in
    let pairs = c.args.pairs.now in
    joined_step (items_where p es db env) (items_append p es db env) pairs.befores pairs.rows pairs.places c.loop-at.at (omega (arith, c.loop-at-test.true, c.len-at-end.ensures)) _ _ _
    (c.in_ok-out.ensures ∙ ap (λ (rows : Rows). c.loop-at.out ++ items_where p es db env rows)
    (c.as_slice.ensures ∙ c.in_ok-rows.ensures ∙ ap (λ (start : Rows). start ++ first_joined (drop c.loop-at.at pairs.befores) pairs.rows (drop c.loop-at.at pairs.places)) c.new.ensures))
    c.loop-at.invariant

pub items::pair_items-returns : goal.items::pair_items-returns
items::pair_items-returns t c =
    let db = c.args.tables.now in
    let env = map (λ s. s.now) c.args.env.now in
    let pairs = c.args.pairs.now in
    all_made (items_where c.args.condition.now c.args.items.now db env) refl pairs.befores pairs.rows pairs.places c.loop-at.at (omega (arith, c.loop-at-test.false, c.len-at-end.ensures)) _ _ c.loop-at.invariant

pub items::projection-returns-in_ok-lists-in-Product : goal.items::projection-returns-in_ok-lists-in-Product
items::projection-returns-in_ok-lists-in-Product t c =
    let db = c.args.tables.now in
    let env = map (λ s. s.now) c.args.env.now in
    let p = c.in-Select.condition in
    let es = c.args.items.now in
    let O : Rows → Type 0 = λ rows. IfOk c.product_items-out.result (λ out. out ≡ rows) in
    subst O (ap (items_where p es db env)
    (ap (λ (lists : List Rows). product_rows ([] ∷ []) lists)
    (c.as_slice-in-Product.ensures ∙ c.in_ok-lists-in-Product.ensures ∙ ap (λ (qs : List Query). map (λ q. answer_by wrapped q db env) qs) c.as_slice.ensures)
    ∙ at_product c.in-Product.members db env c.in-Product.is ∙ ap (λ (q : Query). answer_by wrapped q db env) c.get.ensures)
    ∙ ap (map (λ r. row_by wrapped es (r ∷ env))) (at_select c.in-Select.inner p db env c.in-Select.is)) c.product_items-out.ensures

pub items::projection-returns-in_ok-rows-in_default-get : goal.items::projection-returns-in_ok-rows-in_default-get
items::projection-returns-in_ok-rows-in_default-get t c =
    let db = c.args.tables.now in
    let env = map (λ s. s.now) c.args.env.now in
    let p = c.in-Select.condition in
    let es = c.args.items.now in
    let O : Rows → Type 0 = λ rows. IfOk c.row_items-out.result (λ out. out ≡ rows) in
    subst O (ap₂ (λ (start rows : Rows). start ++ items_where p es db env rows) c.new-in_default-get.ensures
    (c.as_slice-in_default-get.ensures ∙ c.in_ok-rows-in_default-get.ensures ∙ ap (λ (q : Query). answer_by wrapped q db env) c.get-in_default-get.ensures)
    ∙ ap (map (λ r. row_by wrapped es (r ∷ env))) (at_select c.in-Select.inner p db env c.in-Select.is)) c.row_items-out.ensures

pub query::product_selected-returns-then-narrowed : goal.query::product_selected-returns-then-narrowed
query::product_selected-returns-then-narrowed t c = c.in_ok-narrowed.ensures.chosen c.if-narrowed.true c.args.tables.now

pub query::product_selected-returns : goal.query::product_selected-returns
query::product_selected-returns t c =
    let env = map (λ s. s.now) c.args.env.now in
    let O : Rows → Type 0 = λ rows. IfOk c.selected-out.result (λ out. out ≡ rows) in
    subst O (ap (rows_where c.args.condition.now c.args.tables.now env) c.as_slice.ensures ∙ c.in_ok-narrowed.ensures.enough c.args.tables.now) c.selected-out.ensures

pub items::product_items-returns-in-Some : goal.items::product_items-returns-in-Some
items::product_items-returns-in-Some t c =
    let env = map (λ s. s.now) c.args.env.now in
    let N : Option Pairs → Type 0 = λ o. IfSome o (λ p. AreEnough c.args.condition.now c.args.members.now env (all_joined p.befores p.rows p.places)) in
    let O : Rows → Type 0 = λ rows. IfOk c.pair_items-out.result (λ out. out ≡ rows) in
    subst O (ap (map (λ r. row_by wrapped c.args.items.now (r ∷ env))) (subst N c.in-Some.is c.in_ok-narrow_pairs.ensures c.args.tables.now)) c.pair_items-out.ensures

pub items::product_items-returns-in_ok-rows-in-None : goal.items::product_items-returns-in_ok-rows-in-None
items::product_items-returns-in_ok-rows-in-None t c =
    let db = c.args.tables.now in
    let env = map (λ s. s.now) c.args.env.now in
    let O : Rows → Type 0 = λ rows. IfOk c.row_items-out.result (λ out. out ≡ rows) in
    subst O (ap₂ (λ (start rows : Rows). start ++ items_where c.args.condition.now c.args.items.now db env rows) c.new.ensures (c.as_slice.ensures ∙ c.in_ok-rows-in-None.ensures)) c.row_items-out.ensures

pub query::answer-returns-in_ok-rows-in_default : goal.query::answer-returns-in_ok-rows-in_default
query::answer-returns-in_ok-rows-in_default t c =
    let db = c.args.tables.now in
    let env = map (λ r. r.now) c.args.env.now in
    let O : Rows → Type 0 = λ rows. IfOk c.selected-out.result (λ out. out ≡ rows) in
    subst O (ap (filter (λ r. is_yes (pred_by wrapped c.in-Select.condition db (r ∷ env)))) (c.as_slice-in_default.ensures ∙ c.in_ok-rows-in_default.ensures ∙ ap (λ (q : Query). answer_by wrapped q db env) c.get.ensures)
    ∙ at_select c.in-Select.source c.in-Select.condition db env c.in-Select.is) c.selected-out.ensures

pub condition::all-loop-member-preserved : goal.condition::all-loop-member-preserved
condition::all-loop-member-preserved t c = grind (arith, common_steps)

pub condition::any-loop-member-preserved : goal.condition::any-loop-member-preserved
condition::any-loop-member-preserved t c = grind (arith, common_steps)

pub items::row_items-loop-source-preserved : goal.items::row_items-loop-source-preserved
items::row_items-loop-source-preserved t c = grind (arith, common_steps)

pub query::each_answer-loop-query-preserved : goal.query::each_answer-loop-query-preserved
query::each_answer-loop-query-preserved t c = grind (arith, common_steps)

pub query::selected-loop-row-preserved : goal.query::selected-loop-row-preserved
query::selected-loop-row-preserved t c = grind (arith, common_steps)
