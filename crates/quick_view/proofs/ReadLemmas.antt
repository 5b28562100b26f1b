-- What is read by place.
use Rattle.net_view.proofs.Words
use Rattle.std.specs.FinMap as fin
use Words.{◌≡◌, Channel, List, None, Some, Text, arith, slice_get, sym, ℕ}
use Rattle.net_view.proofs.{AfterAlike.view_knowing, KeyPlaces.entry_at, Keys.bytes_exact}
use Rattle.{net_view.proofs.AfterMaps.seen_in, std.proofs.lemmas.Option.slice_get-map}
use Rattle.network_tables.proofs.{ShownLemmas.entries-shown, SwapLemmas.get_shown}
use Rattle.network_tables.specs.{Rooms.{channel_of, rooms_of}, declared.room.Room.Room}
use Rattle.quick_view.specs.{FromLines.ComesFromLines, Kept.view_kept, declared.state.State.State}
use Rattle.std.{proofs.lemmas.List.length-map, specs.Cmp.Lexicographic.nat_list_cmp_total}

-- for an attribute `using`: what is at a place, and what is known by a key
pub ruleset places = (entries-shown, length-map, slice_get-map, get_shown)

-- a member is in sight
pub never_unknown : {A : Type 0} (s : State A) (i j : ℕ) (room : Text × Room A)
    → Some room ≡ slice_get (fin.entries s.rooms.all) i → ComesFromLines (view_kept s)
    → (n : Text × List ℕ) → Some n ≡ slice_get (fin.entries (room.1).members.all) j
    → None ≡ fin.get s.people.all n.0 → ⊥
never_unknown s i j room there from n e none =
    let known = view_knowing (from.0) n.0 in
    let entry : Text × Channel = (room.0, channel_of room.1) in
    let here = entry_at nat_list_cmp_total bytes_exact (rooms_of s.rooms.all) i entry in
    let member = entry_at nat_list_cmp_total bytes_exact (room.1).members.all j n (sym e) in
    grind (arith, places, from.2, seen_in (rooms_of s.rooms.all) room.0 n.0)
