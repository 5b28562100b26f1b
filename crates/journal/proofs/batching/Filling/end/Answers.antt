use Rattle.std.proofs.Common.{refl, rules}
use Rattle.journal.proofs.Fillings.{ended_by}
use Rattle.journal.proofs.batching.Filling.end.Goals as goal

pub returns : goal.returns
returns c = λ k j l.
    ended_by c.args.self.now _ c.args.next (search rules) (search rules) refl refl
    c.requires.number c.requires.may_end k j l
