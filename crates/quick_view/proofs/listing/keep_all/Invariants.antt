use Rattle.quick_view.proofs.listing.keep_all.Given as goal
use Rattle.{network_tables.specs.People.people_of, quick_view.specs.Listing.listing_of}
use Rattle.{quick_view.specs.Listing.{members_listed, people_listed}, std.proofs.Common.length}
use Rattle.std.{proofs.Common.{map, ◌≡◌, ◌≤◌}, specs.Vec.Iter.into_iter_items}

abbrev pub invariant-loop-one : goal.invariant-loop-one
invariant-loop-one g l =
    (goal.iterator-loop-one g).can_next l.one-iterator ×
    (goal.iterator-loop-one g).is_finite l.one-iterator ×
    (length (into_iter_items l.one-iterator) ≤ l.members.spare) ×
    (length (into_iter_items l.one-iterator) ≤ l.people.spare) ×
    (members_listed l.fn.members.all (map listing_of l.fn.listed.items) ≡ members_listed
    l.members.all (map listing_of (into_iter_items l.one-iterator))) ×
    (people_listed (people_of l.fn.people.all) (map listing_of l.fn.listed.items) ≡ people_listed
    (people_of l.people.all) (map listing_of (into_iter_items l.one-iterator)))
