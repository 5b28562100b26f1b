use Rattle.journal.proofs.batching.Filling.add.Goals as goal

pub returns : goal.returns
returns c = λ k i j l one. c.in_ok-push.ensures k i j (c.in_ok-make_room.ensures k i l) one
