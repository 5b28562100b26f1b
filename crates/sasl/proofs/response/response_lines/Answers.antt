use Rattle.sasl.proofs.CleanLemmas.{clean_drop, clean_take}
use Rattle.sasl.proofs.response.response_lines.Goals as goal
use Rattle.{irc_line.specs.Writing.is_clean, std.proofs.Common.{arith, suc, true, ◌*◌, ◌+◌, ◌≡◌}}

pub piece_line-requires : goal.piece_line-requires
piece_line-requires c =
    let rest = c.split_at.result.1.now in
    let clean = clean_drop (400 * c.loop-place.place) c.args.text.now c.requires in
    let left : is_clean rest ≡ true = rw c.split_at.ensures.back clean in
    rw c.front.ensures (clean_take 400 rest left)

pub loop-place-preserved : goal.loop-place-preserved
loop-place-preserved c =
    let next : c.loop-place.place + 1 ≡ suc c.loop-place.place = omega arith in
    rw (next, c.in_ok-push.ensures.items, c.loop-place.invariant, c.in_ok-piece_line.ensures)
    (rw (c.front.ensures, c.split_at.ensures.back))
