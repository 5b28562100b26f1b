use Rattle.std.proofs.Common.{◌≡◌, ap, ap₂, codes, ◌∙◌, rules}
use Rattle.clap.specs.Words.{App, app_of, new_app, with_subcommand}
use Rattle.commands.specs.Command.{attach_app, control_app, file_app, file_apps, view_app}
use Rattle.commands.proofs.arguments.grammar.Goals as goal

pub returns : goal.returns
returns c =
    let serve_is =
    c.in_ok-with_serve.ensures
    ∙ ap (λ (a : App). with_subcommand a (file_app (codes "serve")).top) c.in_ok-bare.ensures in
    let check_is =
    c.in_ok-with_check.ensures
    ∙ ap (λ (a : App). with_subcommand a (file_app (codes "check")).top) serve_is in
    let setup_is =
    c.in_ok-with_setup.ensures
    ∙ ap (λ (a : App). with_subcommand a (file_app (codes "setup")).top) check_is in
    let files_are : app_of c.in_ok-with_log.with_log ≡ file_apps =
    c.in_ok-with_log.ensures
    ∙ ap (λ (a : App). with_subcommand a (file_app (codes "log")).top) setup_is in
    let password_is : app_of c.about-password.result ≡ new_app (codes "password") = search rules in
    let password_too =
    c.in_ok-with_password.ensures.shape (search rules)
    ∙ ap₂ with_subcommand files_are (ap (λ (a : App). a.top) password_is) in
    let control_too =
    c.in_ok-with_control.ensures
    ∙ ap (λ (a : App). with_subcommand a control_app.top) password_too in
    let view_is : app_of c.about-view.result ≡ view_app = search rules in
    let view_too =
    c.in_ok-with_view.ensures.shape (search rules)
    ∙ ap₂ with_subcommand control_too (ap (λ (a : App). a.top) view_is) in
    c.in_ok-bnc.ensures ∙ ap (λ (a : App). with_subcommand a attach_app.top) view_too
