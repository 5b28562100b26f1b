use Rattle.tape_view.proofs.tape.Tape.letter_at.Goals as goal
use Rattle.tape_view.proofs.{PlacedKeys.letter_places, Words.arith}

pub loop-place-init : goal.loop-place-init
loop-place-init g c = search (arith, (letter_places c.args.self.now c.args.channel.now).zero)

pub returns-in_err-letter : goal.returns-in_err-letter
returns-in_err-letter g c = search (arith, (letter_places c.args.self.now c.args.channel.now).none)

pub loop-place-preserved : goal.loop-place-preserved
loop-place-preserved g c = search (arith, (letter_places c.args.self.now c.args.channel.now).next)
