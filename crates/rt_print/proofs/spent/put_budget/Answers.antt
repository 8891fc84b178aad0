use Rattle.std.proofs.Common.{◌++◌, ◌∷◌, [], codes}
use Rattle.std.specs.Fmt.{decimal}
use Rattle.std.proofs.lemmas.Result.{on_ok_weaker}
use Rattle.rt_print.proofs.GrowLemmas.{grow}
use Rattle.rt_print.proofs.spent.put_budget.Goals as goal

pub returns : goal.returns
returns c =
    let rest = grow c.extend-2.new.self c.put_number.new.text c.extend.new.self (decimal c.args.budget) (codes " conflicts") c.in_ok-put_number.ensures c.in_ok-extend-2.ensures.ok in
    let all = grow c.extend-2.new.self c.extend.new.self c.args.text.now (codes "undecided: ") (decimal c.args.budget ++ codes " conflicts") c.in_ok-extend.ensures.ok rest in
    on_ok_weaker c.push.result (λ h. grow c.push.new.self c.extend-2.new.self c.args.text.now (codes "undecided: " ++ (decimal c.args.budget ++ codes " conflicts")) (10 ∷ []) all h) c.push.ensures.ok
