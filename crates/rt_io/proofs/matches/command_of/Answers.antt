use Rattle.std.proofs.Common.{◌≡◌, ◌∙◌, ap, ap₂, rules}
use Rattle.clap.specs.Words.{app_of, rule_of, with_rule}
use Rattle.clap.specs.Words.{App}
use Rattle.std.specs.Prelude.{true}
use Rattle.clap.specs.Simple.{app_of_fields, on_top}
use Rattle.clap.specs.declared.builder.command.Command.{Command}
use Rattle.clap.specs.declared.builder.command.Command.TheOpen.{Command-F}
use Rattle.rt_io.specs.App.{command_app, conflicts_rule, empty_app, plain_rule, work_rule}
use Rattle.rt_io.proofs.matches.command_of.Goals as goal

pub returns : goal.returns
unfolding command_app
returns c =
    let plain_is : rule_of c.action-plain.result ≡ plain_rule = search rules in
    let conflicts_is : rule_of c.long-conflicts.result ≡ conflicts_rule = search rules in
    let work_is : rule_of c.long-work.result ≡ work_rule = search rules in
    let empty_is : app_of c.disable_help_flag-empty.result ≡ empty_app =
    ap app_of_fields (c.disable_help_flag-empty.ensures ∙ ap (λ (f : Command-F Command). record f { disable_help_flag = true }) c.no_binary_name.ensures)
    ∙ ap (λ (a : App). on_top (λ s. record s { no_binary_name = true; disable_help_flag = true }) a) c.new.ensures.app in
    let one_is : app_of c.in_ok-one.one ≡ with_rule empty_app plain_rule = c.in_ok-one.ensures.shape (search rules) ∙ ap₂ with_rule empty_is plain_is in
    let two_is : app_of c.in_ok-two.two ≡ with_rule (with_rule empty_app plain_rule) conflicts_rule = c.in_ok-two.ensures.shape (search rules) ∙ ap₂ with_rule one_is conflicts_is in
    c.in_ok-three.ensures.shape (search rules) ∙ ap₂ with_rule two_is work_is
