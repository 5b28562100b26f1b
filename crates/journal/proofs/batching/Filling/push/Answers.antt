use Rattle.std.proofs.Common.{refl, rules}
use Rattle.journal.proofs.Fillings.{pushed_by}
use Rattle.journal.proofs.batching.Filling.push.Goals as goal

pub returns : goal.returns
returns c = λ k i j l one.
    pushed_by c.args.self.now
    (record {
      whole = c.args.self.now.whole;
      batch = c.push.new.self;
      size = c.saturating_add-self.result;
      next = c.next_after-self.result;
      is_open = c.stays_open-self.result;
    })
    c.args.item refl (search rules) c.next_after-self.ensures c.stays_open-self.ensures k i j l one
