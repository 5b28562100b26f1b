use Rattle.std.proofs.Common.{◌∙◌, rules, take}
use Rattle.irc_line.proofs.InputRead.{last_read, more_read}
use Rattle.irc_line.proofs.input.read_lines.Goals.{in-Ok+in_default, in-Err+else-ne}
use Rattle.irc_line.proofs.input.read_lines.Goals as goal

pub returns-in-Some : goal.returns-in-Some
returns-in-Some g c =
    let so_far = c.loop.invariant.so_far in
    let piece = take c.in-Ok.count c.read.new.buf in
    last_read piece c.in-Some.end so_far c.in-Ok.ensures.bytes.0
    (c.in-Some.ensures c.args.taker.now _ so_far.taken)

pub loop-preserved : goal.loop-preserved
loop-preserved g c =
    let so_far = c.loop.invariant.so_far in
    elim c.match-read.branch [
      | in-Ok+in_default w ↦
          let piece = take w.in-Ok.count c.read.new.buf in
          let taken = w.in_default.ensures c.args.taker.now _ so_far.taken in
          rw (w.splitter-is, w.taker-is) (record {
            room = c.read.auto.buf ∙ c.loop.invariant.room;
            so_far = more_read piece so_far w.in-Ok.ensures.bytes.0 taken.0 taken.1 taken.2;
          })
      | in-Err+else-ne w ↦ rw (w.splitter-is, w.taker-is) (search rules)
    ]
