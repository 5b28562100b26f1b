use Rattle.std.proofs.Common.{rules}
use Rattle.std.proofs.lemmas.Slice.Eq.{bytes_eq-Decides}
use Rattle.journal.proofs.Again.{other_text}
use Rattle.journal.specs.Records.{parts_of_all}
use Rattle.journal.proofs.texts.read_batch.Goals as goal

pub returns-in-Ok-2-clause-none : goal.returns-in-Ok-2-clause-none
returns-in-Ok-2-clause-none c = λ rs b.
    other_text c.args.payload.now c.in-Ok.text.items rs (parts_of_all c.deref-2.result.now)
    (search rules) c.in-Ok.ensures.ok
    (λ same. search (rules, same, bytes_eq-Decides c.in-Ok.text.items c.args.payload.now)) b
