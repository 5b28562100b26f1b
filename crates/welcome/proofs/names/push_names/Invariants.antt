use Rattle.welcome.proofs.names.push_names.Given as goal
use Rattle.welcome.proofs.TokenRows.{◌++◌, IsSaid, flat_map, is_short, length, map, member_word}
use Rattle.welcome.proofs.TokenRows.{members_at, name_line, name_row, rows_of, shown_word, written}

abbrev pub invariant-loop-member : goal.invariant-loop-member
invariant-loop-member g l =
    let v = g.V.NetworkView.view l.view in
    let mp = l.caps.multi_prefix in IsSaid (name_line l.nick l.name) (l.fn.text.items
    ++ flat_map written (map (name_row v l.name) (rows_of is_short (map (member_word v mp)
    (members_at v l.i))))) l.text.items l.is_begun l.row.items (map (shown_word v mp) l.members)

abbrev pub decreases-loop-member : goal.decreases-loop-member
decreases-loop-member g l = length l.members
