use Rattle.std.proofs.Common.{ap}
use Rattle.rt_input.specs.Accepted.{Accepted}
use Rattle.rt_ra_run.specs.declared.asked.Asked.{Asked}
use Rattle.rt_ra_run.proofs.AskedLemmas.{accepted_of, asked_means, asked_sound}
use Rattle.rt_ra_run.proofs.read.asked_of.Goals as goal

pub new-requires : goal.new-requires
new-requires c = accepted_of c.args.command.now c.args.tables c.args.left c.args.right c.requires.of_schema c.requires.few c.requires.left c.requires.right c.requires.kinds c.requires.range

pub returns-clause-value : goal.returns-clause-value
returns-clause-value c = let made : Accepted → Asked = λ (i : Accepted). record { input = i; left = c.args.left.text; right = c.args.right.text } in ap made c.new.ensures

pub returns-clause-sound : goal.returns-clause-sound
returns-clause-sound c =
    let made : Accepted → Asked = λ (i : Accepted). record { input = i; left = c.args.left.text; right = c.args.right.text } in
    asked_sound c.args.command.now c.args.tables c.args.left c.args.right (made c.new.result) (ap made c.new.ensures) c.requires.of_schema c.requires.few c.tables-rows.ensures.sound c.requires.left c.requires.right c.requires.kinds c.requires.range

pub returns-clause-means : goal.returns-clause-means
returns-clause-means c =
    let made : Accepted → Asked = λ (i : Accepted). record { input = i; left = c.args.left.text; right = c.args.right.text } in
    asked_means c.args.command.now c.args.tables c.args.left c.args.right (made c.new.result) (ap made c.new.ensures) c.requires.left c.requires.right
