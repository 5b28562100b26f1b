use Rattle.std.proofs.Common.{rules}
use Rattle.quick_view.proofs.state.State.take_topic.Goals as goal

pub returns-clause-taken : goal.returns-clause-taken
returns-clause-taken g c = search rules
