use Rattle.quick_view.proofs.state.State.take_supports.Goals as goal
use Rattle.{net_view.proofs.AfterFacts.after_supports, quick_view.proofs.TakeLemmas.on_ok}
use Rattle.quick_view.{proofs.TakeLemmas.view_none, specs.Kept.view_kept}

pub returns-then-not-welcomed-clause-taken : goal.returns-then-not-welcomed-clause-taken
returns-then-not-welcomed-clause-taken g c = λ sound sets.
    rw (after_supports (view_kept c.args.self.now) sets sound.known c.args.line.now.params)
    (rw (view_none, ← c.is_some-welcomed.ensures, c.if-not-welcomed.true))

pub returns-then-self-clause-taken : goal.returns-then-self-clause-taken
returns-then-self-clause-taken g c = λ sound sets.
    rw (after_supports (view_kept c.args.self.now) sets sound.known c.args.line.now.params)
    (rw (view_none, ← c.is_some-welcomed.ensures, c.if-not-welcomed.false, c.if-self.true))

pub returns-clause-taken : goal.returns-clause-taken
returns-clause-taken g c = on_ok c.take.result c.take.ensures.taken (λ e sound sets.
    rw (after_supports (view_kept c.args.self.now) sets sound.known c.args.line.now.params)
    (rw (view_none, ← c.is_some-welcomed.ensures, c.if-not-welcomed.false, c.if-self.false, e)
    (rw c.requires)))
