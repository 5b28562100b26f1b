use Rattle.hub_threads.proofs.backlog.Backlog.write_batch.Goals as goal
use Rattle.hub_threads.{proofs.Bytes.{wrote_before, wrote_part}, specs.Backlogs.bytes_in}

pub returns : goal.returns
returns g c = rw c.requires (wrote_before _ _ c.args.self.now.batch.items c.remove.new.batch.items
    (bytes_in c.args.self.now.held) (wrote_part _ _ c.args.self.now.batch.items
    c.remove.new.batch.items c.write_call-count.result.0
    (rw c.as_slice.ensures.value at c.write_call-count.ensures.took) c.remove.ensures))
