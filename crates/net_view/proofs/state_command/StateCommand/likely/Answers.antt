use Rattle.net_view.proofs.state_command.StateCommand.likely.Goals as goal
use Rattle.net_view.proofs.{Commands.same_byte, Words.{arith, bytes_eq-Decides}}
use Rattle.std.proofs.lemmas.List.{length-map}

pub returns-in_default-2 : goal.returns-in_default-2
returns-in_default-2 c it e =
    grind (arith, same_byte c.args.command.now _ e, length-map, bytes_eq-Decides)

pub returns-in_default-3 : goal.returns-in_default-3
returns-in_default-3 c it e =
    grind (arith, same_byte c.args.command.now _ e, length-map, bytes_eq-Decides)
