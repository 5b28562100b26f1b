use Rattle.tape_view.proofs.tape.Tape.topic.Given as goal
use Rattle.{net_view.specs.Topic.topic_of, tape_view.proofs.{LastLine.IsLeft, Words.{key, length}}}

abbrev pub invariant-loop-said : goal.invariant-loop-said
invariant-loop-said g l =
    IsLeft l.tape l.channel (topic_of l.self.readings (key l.self l.channel))
    (topic_of l.tape.readings (key l.tape l.channel))

abbrev pub decreases-loop-said : goal.decreases-loop-said
decreases-loop-said g l = length l.tape.readings
