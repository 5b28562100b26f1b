use Rattle.std.proofs.Common.{◌≡◌, ◌∙◌, ◌∷◌, List, ap, refl, rules, sym}
use Rattle.journal.proofs.Fillings.{begun, goes_on}
use Rattle.journal.specs.Kept.{after_each}
use Rattle.journal.specs.Records.{RecordParts, parts_of_all, record_parts}
use Rattle.journal.proofs.batching.in_batches.Goals as goal

pub loop-item-init : goal.loop-item-init
loop-item-init c = λ k kept none done.
    begun _ (parts_of_all c.into_iter-item-iterator.result.rest.items) (search rules)
    (search rules) refl k kept none (search (rules, done))

pub loop-item-preserved : goal.loop-item-preserved
loop-item-preserved c = λ k kept none done.
    let rest = parts_of_all c.next.new.self.rest.items in
    let more : parts_of_all c.loop-item.item-iterator.rest.items
    ≡ record_parts c.in-Some.item ∷ rest = search rules in
    let here = c.loop-item.invariant k kept none done in
    goes_on c.loop-item.filling c.add.new.self (record_parts c.in-Some.item) rest k kept
    c.in_ok-add.ensures
    (here.0, here.1, ap (λ (rs : List RecordParts). after_each rs here.0) (sym more) ∙ here.2)
