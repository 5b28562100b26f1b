use Rattle.quick_view.proofs.state.State.take_line.Goals as goal
use Rattle.net_view.proofs.{AfterFacts.{after_account, after_settled}, Commands.told_of_isupport}
use Rattle.{net_view.proofs.AfterFacts.after_away, std.proofs.Common.{◌∙◌, refl, sym}}
use Rattle.net_view.{proofs.{AfterModes.after_topic, ToldSound.supports_said}, specs.Told.Welcomed}
use Rattle.net_view.proofs.{AfterPart.kick_is_part, Emptied.emptied}
use Rattle.quick_view.{proofs.NamesLaw.names_law, specs.{Kept.view_kept, Listing.listings_in}}
use Rattle.quick_view.proofs.TakeLemmas.{after_silent, names_set, names_sound, on_ok}

pub take_supports-requires : goal.take_supports-requires
take_supports-requires g c =
    let said = rw c.in-Supports.is at (c.told_as.ensures c.args.self.now.support) in
    supports_said c.args.self.now.support c.args.line.now c.in-Supports.line.now.params (sym said)

pub returns-in-Silent-clause-taken : goal.returns-in-Silent-clause-taken
returns-in-Silent-clause-taken g c sound sets =
    rw (← c.told_as.ensures c.args.self.now.support, c.in-Silent.is)
    (sym (after_silent (view_kept c.args.self.now) sets sound.known))

pub returns-in-Welcomed-clause-taken : goal.returns-in-Welcomed-clause-taken
returns-in-Welcomed-clause-taken g c =
    on_ok c.welcome.result c.welcome.ensures.welcomed (λ e sound sets.
    rw (← c.told_as.ensures c.args.self.now.support, c.in-Welcomed.is)
    (e ∙ sym (emptied (view_kept c.args.self.now) (Welcomed c.in-Welcomed.nick.now) (λ d. refl))))

pub returns-in-Supports-clause-taken : goal.returns-in-Supports-clause-taken
returns-in-Supports-clause-taken g c =
    let s = c.args.self.now.support in
    let said = rw c.in-Supports.is at (c.told_as.ensures s) in
    let is = supports_said s c.args.line.now c.in-Supports.line.now.params (sym said) in
    rw (told_of_isupport s c.args.line.now is) c.take_supports.ensures.taken

pub returns-in-Settles-clause-taken : goal.returns-in-Settles-clause-taken
returns-in-Settles-clause-taken g c sound sets =
    rw (← c.told_as.ensures c.args.self.now.support, c.in-Settles.is)
    (c.settle.ensures ∙ sym (after_settled (view_kept c.args.self.now) sets sound.known))

pub returns-in-Kicked-clause-taken : goal.returns-in-Kicked-clause-taken
returns-in-Kicked-clause-taken g c sound sets =
    rw (← c.told_as.ensures c.args.self.now.support, c.in-Kicked.is)
    (c.take_part-in-Kicked.ensures sound sets ∙ sym (kick_is_part _ _ _))

pub returns-in-Titled-clause-taken : goal.returns-in-Titled-clause-taken
returns-in-Titled-clause-taken g c =
    on_ok c.take_topic.result c.take_topic.ensures.taken (λ e sound sets.
    rw (← c.told_as.ensures c.args.self.now.support, c.in-Titled.is)
    (e ∙ sym (after_topic (view_kept c.args.self.now) sets sound.known _ _)))

pub returns-in-Present-clause-taken : goal.returns-in-Present-clause-taken
returns-in-Present-clause-taken g c =
    let s = c.args.self.now.support in
    let listed = c.in-Present.line.now in
    on_ok c.take_names.result c.take_names.ensures.taken (λ e sound sets.
    rw (← c.told_as.ensures s, c.in-Present.is)
    (e ∙ sym (names_law (listings_in s listed) (view_kept c.args.self.now) _ sound sets
    (names_sound s listed) (names_set s listed))))

pub returns-in-HasAccount-clause-taken : goal.returns-in-HasAccount-clause-taken
returns-in-HasAccount-clause-taken g c =
    on_ok c.take_account.result c.take_account.ensures.taken (λ e sound sets.
    rw (← c.told_as.ensures c.args.self.now.support, c.in-HasAccount.is)
    (e ∙ sym (after_account (view_kept c.args.self.now) sets sound.known _ _)))

pub returns-in-IsAway-clause-taken : goal.returns-in-IsAway-clause-taken
returns-in-IsAway-clause-taken g c =
    on_ok c.take_away.result c.take_away.ensures.taken (λ e sound sets.
    rw (← c.told_as.ensures c.args.self.now.support, c.in-IsAway.is)
    (e ∙ sym (after_away (view_kept c.args.self.now) sets sound.known _ _)))
