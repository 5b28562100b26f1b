use Rattle.tape_view.proofs.tape.Tape.count.Goals as goal
use Rattle.tape_view.proofs.{PlacedKeys.table_places, Words.arith}

pub loop-at-init : goal.loop-at-init
loop-at-init g c = search (arith, (table_places c.args.self.now c.args.table).zero)

pub loop-at-preserved : goal.loop-at-preserved
loop-at-preserved g c =
    record {
      within = search (arith, (table_places c.args.self.now c.args.table).below);
      here = search (arith, (table_places c.args.self.now c.args.table).next);
    }
