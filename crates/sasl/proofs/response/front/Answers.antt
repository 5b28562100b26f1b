use Rattle.sasl.proofs.response.front.Goals as goal
use Rattle.std.proofs.{Common.{arith, sym}, lemmas.List.take_all}

pub returns-then-text-lt-PIECE : goal.returns-then-text-lt-PIECE
returns-then-text-lt-PIECE c = sym (take_all 400 c.args.text.now (omega arith))
