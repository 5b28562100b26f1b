use Rattle.hub_threads.proofs.front.Front.write.Goals as goal
use Rattle.{hub_threads.proofs.Bytes.wrote_from, irc_line.specs.Writing.bytes_of}

pub returns : goal.returns
returns g c = wrote_from _ _ (bytes_of c.args.self.packet) c.args.self.at
    c.write_call-count.result.0 (rw c.bytes-bytes.ensures at c.write_call-count.ensures.took)
