use Rattle.quick_view.proofs.listing.listed_in.Given as goal
use Rattle.{net_view.specs.StateLines.listing, quick_view.specs.Listing.{listing_of, listings_in}}
use Rattle.std.{proofs.Common.{map, ◌++◌, ◌≡◌}, specs.List.filter_map}

abbrev pub invariant-loop-ranks : goal.invariant-loop-ranks
invariant-loop-ranks g l = listings_in l.support l.line ≡ map listing_of l.listed.items ++
    filter_map (listing l.support) l.ranks-iterator
