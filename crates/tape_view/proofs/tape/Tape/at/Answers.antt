use Rattle.tape_view.proofs.tape.Tape.at.Goals as goal
use Rattle.tape_view.proofs.{PlacedKeys.table_places, Words.arith}

pub loop-place-init : goal.loop-place-init
loop-place-init g c = search (arith, (table_places c.args.self.now c.args.table).zero)

pub returns-in_err-name : goal.returns-in_err-name
returns-in_err-name g c = search (arith, (table_places c.args.self.now c.args.table).none)

pub loop-place-preserved : goal.loop-place-preserved
loop-place-preserved g c = search (arith, (table_places c.args.self.now c.args.table).next)
