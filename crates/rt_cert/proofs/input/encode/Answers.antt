use Rattle.std.proofs.Common.{◌∙◌, ap, arith, sym}
use Rattle.std.specs.Option.{option_copied}
use Rattle.rt_schema.specs.Given.{Instance, places}
use Rattle.rt_cert.proofs.InputLemmas.{encoded-input, most-within}
use Rattle.rt_cert.proofs.input.encode.Goals as goal

pub returns : goal.returns
returns g c =
    let aim = c.in_ok-aim.ensures in
    let rows = aim.grown.rows ∙ c.in_ok-dag.ensures ∙ c.total.ensures.total ∙ ap (λ (x : Instance). places x.tables) c.given-given.ensures in
    encoded-input c.args.input.now (option_copied c.args.keep) c.schema-schema.result.now c.given-given.result.now c.left.result.now c.right.result.now
    c.goal.new.dag c.in_ok-aim.aim.goal c.in_ok-dag.dag.rows c.most_of-most.result (g.A.Adds.lines c.encode_goal.new.to) c.encode_goal.result
    c.schema-schema.ensures.same c.given-given.ensures c.left.ensures c.right.ensures c.most_of-most.ensures rows (sym aim.grown.rows) aim.means c.encode_goal.ensures

pub encode_goal-requires-clause-most : goal.encode_goal-requires-clause-most
encode_goal-requires-clause-most g c =
    let rows = c.in_ok-aim.ensures.grown.rows ∙ c.in_ok-dag.ensures ∙ c.total.ensures.total ∙ ap (λ (x : Instance). places x.tables) c.given-given.ensures in
    let within = most-within (places c.args.input.now.given.tables) (option_copied c.args.keep) c.requires.long in
    omega (arith, rows, within, c.most_of-most.ensures)
