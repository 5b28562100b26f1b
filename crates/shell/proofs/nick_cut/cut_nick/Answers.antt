use Rattle.shell.proofs.NickCuts.{digit_within, nameable_cut, some_kept}
use Rattle.shell.proofs.nick_cut.cut_nick.Goals as goal
use Rattle.std.proofs.Common.{arith, ◌%◌, ◌/◌}

pub returns-clause-nameable : goal.returns-clause-nameable
returns-clause-nameable c =
    let nick = c.args.nick.now in
    let chance = c.args.chance in
    rw (c.in_ok-extend_from_slice.ensures.items, c.in_ok-cut.ensures.items, c.digits.ensures)
    (nameable_cut nick c.kept_of.result _ _ c.requires
    (rw c.kept_of.ensures.value (some_kept nick c.room_of-room.result c.requires))
    (digit_within (chance / 10 % 10) (omega arith)) (digit_within (chance % 10) (omega arith)))
