use Rattle.net_view.proofs.state_command.StateCommand.of.Goals as goal
use Rattle.net_view.proofs.{Commands.{has_found, is_there}, Words.arith}

pub returns-in_err-likely-clause-value : goal.returns-in_err-likely-clause-value
returns-in_err-likely-clause-value g c = grind (arith, has_found c.args.line.now)

pub returns-then-is-clause-value : goal.returns-then-is-clause-value
returns-then-is-clause-value g c =
    grind (arith, has_found c.args.line.now, is_there c.args.line.now)

pub returns-else-is-clause-value : goal.returns-else-is-clause-value
returns-else-is-clause-value g c = grind (arith, has_found c.args.line.now)
