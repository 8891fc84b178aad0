use Rattle.std.proofs.Common.{◌≡◌, ◌∷◌, ◌++◌, map, take, drop}
use Rattle.std.specs.List.{filter}
use Rattle.rt_value.specs.Truth.{truth_and, truth_or}
use Rattle.rt_algebra.specs.Expression.{wrapped}
use Rattle.rt_algebra.specs.Answer.{pred_by, answer_by, is_yes, all_of, any_of}
use Rattle.rt_eval.specs.Items.{items_where}
use Rattle.rt_eval.specs.Pairs.{all_joined}
use Rattle.rt_eval.proofs.+answer.Given as goal

abbrev pub invariant-condition::all-loop-member : goal.invariant-condition::all-loop-member
invariant-condition::all-loop-member l =
    truth_and l.truth (all_of (map (pred_by wrapped) (drop l.member-index l.members)) l.tables (map (λ r. r.now) l.env))
    ≡ all_of (map (pred_by wrapped) l.members) l.tables (map (λ r. r.now) l.env)

abbrev pub invariant-condition::any-loop-member : goal.invariant-condition::any-loop-member
invariant-condition::any-loop-member l =
    truth_or l.truth (any_of (map (pred_by wrapped) (drop l.member-index l.members)) l.tables (map (λ r. r.now) l.env))
    ≡ any_of (map (pred_by wrapped) l.members) l.tables (map (λ r. r.now) l.env)

abbrev pub invariant-query::selected-loop-row : goal.invariant-query::selected-loop-row
invariant-query::selected-loop-row l =
    l.out ≡ filter (λ r. is_yes (pred_by wrapped l.condition l.tables (r ∷ map (λ s. s.now) l.env))) (take l.row-index l.rows)

abbrev pub invariant-query::each_answer-loop-query : goal.invariant-query::each_answer-loop-query
invariant-query::each_answer-loop-query l = l.out ≡ map (λ q. answer_by wrapped q l.tables (map (λ r. r.now) l.env)) (take l.query-index l.queries)

abbrev pub invariant-items::pair_items-loop-at : goal.invariant-items::pair_items-loop-at
invariant-items::pair_items-loop-at l =
    l.out ++ items_where l.condition l.items l.tables (map (λ s. s.now) l.env) (all_joined (drop l.at l.pairs.befores) l.pairs.rows (drop l.at l.pairs.places))
    ≡ items_where l.condition l.items l.tables (map (λ s. s.now) l.env) (all_joined l.pairs.befores l.pairs.rows l.pairs.places)

abbrev pub invariant-items::row_items-loop-source : goal.invariant-items::row_items-loop-source
invariant-items::row_items-loop-source l =
    l.out ++ items_where l.condition l.items l.tables (map (λ s. s.now) l.env) (drop l.source-index l.rows)
    ≡ l.fn.out ++ items_where l.condition l.items l.tables (map (λ s. s.now) l.env) l.rows
