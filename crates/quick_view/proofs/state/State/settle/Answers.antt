use Rattle.std.proofs.Common.{rules}
use Rattle.quick_view.proofs.state.State.settle.Goals as goal

pub returns : goal.returns
returns g c = search rules
