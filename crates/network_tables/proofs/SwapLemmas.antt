-- A value that is taken out of a table, changed, and put back.
use Rattle.net_view.proofs.Words
use Rattle.std.specs.FinMap as fin
use Words.{◌≡◌, Bool, Channel, None, Some, Text, arith, bytes_cmp, false, is_seen}
use Words.{nat_list_cmp_total, option_map, true, ℕ}
use Rattle.net_view.proofs.{AfterAlike.{look_ups, put_again, removed_none}, AfterMaps.seen_in}
use Rattle.net_view.{proofs.Keys.{bytes_exact, same_by_keys}, specs.Changes.renamed_channel}
use Rattle.network_tables.proofs.ShownLemmas.{get-shown, insert-shown, remove-shown}
use Rattle.network_tables.specs.{Rooms.{channel_of, moved_channel}, Table.{swapped_in, swapped_out}}
use Rattle.{network_tables.specs.{Shown.shown, declared.room.Room.Room}, std.specs.Prelude.List}

-- what is put in twice
pub twice_in : {X : Type 0} (m : fin.FinMap bytes_cmp X) (k : Text) (x y : X)
    → fin.insert (fin.insert m k x) k y ≡ fin.insert m k y
twice_in m k x y = same_by_keys (λ q. grind look_ups)

-- what is taken out and put in
pub put_anew : {X : Type 0} (m : fin.FinMap bytes_cmp X) (k : Text) (x : X)
    → fin.insert (fin.remove m k) k x ≡ fin.insert m k x
put_anew m k x = same_by_keys (λ q. grind look_ups)

module _ {X Y : Type 0} (f : X → Y) (m : fin.FinMap bytes_cmp X) (k : Text) where
  -- what was taken out
  pub out_is : (h old : X) → true ≡ fin.contains_key m k → old ≡ swapped_out m k h
      → Some (f old) ≡ fin.get (shown f m) k
  out_is h old there out = grind (arith, get-shown bytes_cmp f m k)

  pub none_is : false ≡ fin.contains_key m k → None ≡ fin.get (shown f m) k
  none_is none = grind (arith, get-shown bytes_cmp f m k)

-- by the keys of a table
pub get_shown : {X Y : Type 0} (f : X → Y) (m : fin.FinMap bytes_cmp X) (k : Text)
    → fin.get (shown f m) k ≡ option_map f (fin.get m k)
get_shown f m k = get-shown bytes_cmp f m k

pub put_shown : {X Y : Type 0} (f : X → Y) (m : fin.FinMap bytes_cmp X) (k : Text) (x : X)
    → shown f (fin.insert m k x) ≡ fin.insert (shown f m) k (f x)
put_shown f m k x = insert-shown bytes_cmp f nat_list_cmp_total bytes_exact m k x

pub out_shown : {X Y : Type 0} (f : X → Y) (m : fin.FinMap bytes_cmp X) (k : Text)
    → shown f (fin.remove m k) ≡ fin.remove (shown f m) k
out_shown f m k = remove-shown bytes_cmp f nat_list_cmp_total bytes_exact m k

-- for an attribute `using`: a value that is changed in its place, and one that gets another key
pub ruleset swaps = (get_shown, put_shown, look_ups, twice_in, put_again)

pub ruleset renames = (get_shown, put_shown, out_shown, look_ups, put_anew, removed_none)

-- taken out, changed and put back
module _ {X Y : Type 0} (f : X → Y) (m m1 m2 : fin.FinMap bytes_cmp X) (k : Text) (h old new : X)
    (there : true ≡ fin.contains_key m k) (first : m1 ≡ swapped_in m k h)
    (out : old ≡ swapped_out m k h) (last : m2 ≡ swapped_in m1 k new) where
  -- put back as it was
  pub put_back : f new ≡ f old → shown f m2 ≡ shown f m
  put_back is = grind swaps

  -- put back as another
  pub put_new : shown f m2 ≡ fin.insert (shown f m) k (f new)
  put_new = grind swaps

-- a channel whose members change
pub with_members : {A : Type 0} (room : Room A) {old new : fin.FinMap bytes_cmp (List ℕ)}
    → old ≡ new
    → record (channel_of room) { members = old } ≡ record (channel_of room) { members = new }
with_members room e = rw e

-- who is a member of no channel need not leave any
pub freely_moved : (cs : fin.FinMap bytes_cmp Channel) (taken : Bool) (old new : Text)
    → (taken ≡ false → is_seen cs new ≡ false)
    → shown (moved_channel taken old new) cs ≡ shown (renamed_channel old new) cs
freely_moved cs taken old new free =
    let gone : (q : Text) (ch : Channel) → fin.get cs q ≡ Some ch → taken ≡ false
    → fin.remove ch.members new ≡ ch.members =
    λ q ch e f. removed_none ch.members new (grind (arith, free f, seen_in cs q new)) in
    same_by_keys (λ q. grind (arith, get-shown {X = Channel} {Y = Channel} bytes_cmp, gone q))
