use Rattle.hub_threads.proofs.reading.read_by.Goals as goal
use Rattle.hub_threads.{proofs.ReadLemmas.{not_read, read_in}, specs.Rings.put_of}

pub returns-in_default : goal.returns-in_default
returns-in_default g c = not_read c.lost.ensures.put c.lost.ensures.ended

pub returns : goal.returns
returns g c =
    let r = c.read_lines-read in
    rw (c.lost-2.ensures.ended, c.why.ensures)
    (read_in (put_of r.new.taker.end) c.lost-2.ensures.put r.result r.ensures)
