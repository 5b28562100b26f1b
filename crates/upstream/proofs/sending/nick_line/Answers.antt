use Rattle.upstream.proofs.Writable.{marked_is_clean, marks_at_hand}
use Rattle.upstream.proofs.sending.nick_line.Goals as goal

pub command-requires : goal.command-requires
command-requires c =
    let marks = marks_at_hand c.args.marks c.requires.few in
    rw (c.as_slice.ensures.value, c.in_ok-extend_from_slice.ensures.items)
    (rw (c.in_ok-marked.ensures.items, marks)
    (marked_is_clean c.args.nick.now c.args.marks c.requires.nameable))

pub returns : goal.returns
returns c =
    let text = rw c.in_ok-extend_from_slice.ensures.items at c.as_slice.ensures.value in
    let marks = marks_at_hand c.args.marks c.requires.few in
    rw (text, c.in_ok-marked.ensures.items, marks) at c.command.ensures
