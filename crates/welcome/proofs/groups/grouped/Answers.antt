use Rattle.welcome.proofs.groups.grouped.Goals as goal
use Rattle.welcome.proofs.{PlaybackWhole.has_place, Words.{map, take}}

pub push_at-requires : goal.push_at-requires
push_at-requires g c =
    has_place _ _ _ c.args.names.now
    (map (λ entry. entry.now) (take c.loop-entry.entry-index c.args.entries.now))
    c.place_of-place.result c.loop-entry.invariant c.place_of-place.ensures.within
