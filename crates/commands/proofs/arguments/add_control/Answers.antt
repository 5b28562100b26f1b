use Rattle.commands.proofs.arguments.add_control.Goals as goal
use Rattle.clap.specs.Words.{App, app_of, new_app, with_rule, with_subcommand}
use Rattle.{commands.specs.Command.{control_app, file_app}, std.proofs.Common.{ap, ap₂, codes, rules}}
use Rattle.std.proofs.Common.{◌∙◌, ◌≡◌}

pub returns : goal.returns
returns c =
    let bare_is : app_of c.about.result ≡ new_app (codes "control") = search rules in
    let file_is : app_of c.in_ok-with_file.with_file ≡ file_app (codes "control") =
    c.in_ok-with_file.ensures.shape c.file_argument.ensures.local
    ∙ ap₂ with_rule bare_is c.file_argument.ensures.rule in
    let word_is =
    c.in_ok-with_word.ensures.shape c.word_argument.ensures.local
    ∙ ap₂ with_rule file_is c.word_argument.ensures.rule in
    let network_is =
    c.in_ok-with_network.ensures.shape c.network_argument.ensures.local
    ∙ ap₂ with_rule word_is c.network_argument.ensures.rule in
    let control_is : app_of c.in_ok-control.control ≡ control_app =
    c.in_ok-control.ensures.shape c.name_argument.ensures.local
    ∙ ap₂ with_rule network_is c.name_argument.ensures.rule in
    c.in_ok-added.ensures.shape (search rules)
    ∙ ap (λ (a : App). with_subcommand (app_of c.args.command) a.top) control_is
