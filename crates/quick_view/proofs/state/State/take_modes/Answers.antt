use Rattle.quick_view.proofs.state.State.take_modes.Goals as goal
use Rattle.std.specs.FinMap as fin
use Rattle.{irc_names.specs.CaseMapping.key_of, quick_view.proofs.ViewLemmas.modes_are}
use Rattle.quick_view.specs.{Kept.view_kept, Moding.modes_in}

pub returns-clause-taken : goal.returns-clause-taken
returns-clause-taken g c = λ sets known.
    rw (← c.mapping.ensures) (modes_are (view_kept c.args.self.now) sets known
    (key_of c.mapping.result c.args.channel.now) (modes_in c.args.self.now.support c.args.line.now)
    c.change_modes.new.modes _ c.set_modes.ensures
    (λ letter. rw (c.in_ok-change_modes.ensures letter, c.new-modes.ensures, fin.get-empty)))
