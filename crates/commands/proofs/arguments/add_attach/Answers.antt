use Rattle.commands.proofs.arguments.add_attach.Goals as goal
use Rattle.clap.specs.Words.{App, app_of, new_app, with_rule, with_subcommand}
use Rattle.{commands.specs.Command.attach_app, std.proofs.Common.{ap, ap₂, codes, rules, ◌∙◌, ◌≡◌}}

pub returns : goal.returns
returns c =
    let bare_is : app_of c.about-bare.result ≡ new_app (codes "attach") = search rules in
    let caps_are =
    c.in_ok-with_caps.ensures.shape c.caps_argument.ensures.local
    ∙ ap₂ with_rule bare_is c.caps_argument.ensures.rule in
    let history_is =
    c.in_ok-with_history.ensures.shape c.history_argument.ensures.local
    ∙ ap₂ with_rule caps_are c.history_argument.ensures.rule in
    let attach_is : app_of c.in_ok-attach.attach ≡ attach_app =
    c.in_ok-attach.ensures.shape c.profile_argument.ensures.local
    ∙ ap₂ with_rule history_is c.profile_argument.ensures.rule in
    c.in_ok-added.ensures.shape (search rules)
    ∙ ap (λ (a : App). with_subcommand (app_of c.args.command) a.top) attach_is
