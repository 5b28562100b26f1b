use Rattle.net_view.proofs.walk.Modes.next.Goals as goal
use Rattle.net_view.{proofs.Walks.{first_left, letter_at_place, mode_here}, specs.Walks.modes_at}
use Rattle.{net_view.specs.Readers.mode_parts, std.proofs.Common.{◌∙◌, None, Some, sym}}

pub returns-in_err-letter : goal.returns-in_err-letter
returns-in_err-letter g c =
    let v = g.V.NetworkView.view c.self.inside.view.now in
    let end = first_left mode_parts (modes_at v c.self.inside.channel) c.self.inside.place None
    ((rw c.in_err-letter.was at c.mode_at.ensures) ∙ mode_here v _ _) in
    rw (c.from_residual.ensures, ← c.self.view_is) (end.0, end.0)

pub place_behind-self-inside-requires : goal.place_behind-self-inside-requires
place_behind-self-inside-requires g c =
    letter_at_place (g.V.NetworkView.view c.self.inside.view.now) _ _ _ _
    (sym (rw c.in_ok-letter.was at c.mode_at.ensures))

pub returns : goal.returns
returns g c =
    let v = g.V.NetworkView.view c.self.inside.view.now in
    rw (← c.self.view_is, c.place_behind-self-inside.ensures)
    (first_left mode_parts (modes_at v c.self.inside.channel) c.self.inside.place (Some _)
    ((rw c.in_ok-letter.was at c.mode_at.ensures) ∙ mode_here v _ _))
