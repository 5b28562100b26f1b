use Rattle.tests_hub.proofs.hub_rows.scripts.searching_view.Goals as goal
use Rattle.net_view.{proofs.StepLaw.view_start, specs.View.{empty_view, view_back, view_of}}
use Rattle.std.proofs.Common.{[], ap, ◌∙◌, ◌≡◌}

start : view_back [] ≡ empty_view
unfolding view_of
start = view_start

pub returns : goal.returns
returns c = ap view_back c.in_ok-view.ensures ∙ start
