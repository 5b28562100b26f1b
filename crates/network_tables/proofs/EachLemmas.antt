-- Values that are changed in turn, each in its place.
use Rattle.net_view.proofs.Words
use Rattle.std.specs.FinMap as fin
use Words.{◌++◌, ◌+◌, ◌<◌, ◌∙◌, ◌∷◌, ◌≡◌, Bool, Channel, List, Text, [], ap, arith, bytes_cmp}
use Words.{false, is_seen, length, list_any, map, nat_list_cmp_total, refl, suc, sym, take, true, ℕ}
use Rattle.{net_view.proofs.AfterMaps.{seen_in, seen_somewhere}, std.proofs.lemmas.List.map-set}
use Rattle.{net_view.proofs.Tests.both_or_neither, std.proofs.lemmas.List.Edits.map_over_more}
use Rattle.network_tables.proofs.{BytesLemmas.map_weighs, MarkLemmas.marked_shown, Sorted.find_at}
use Rattle.network_tables.{proofs.ShownLemmas.{entries-shown, sorted_shown}, specs.Table.entry_of}
use Rattle.network_tables.specs.Table.{AreNoted, entry_bytes}
use Rattle.network_tables.specs.Rooms.{channel_of, copy_for, each_changed, room_entry, rooms_of}
use Rattle.{network_tables.specs.Rooms.{copies_of, is_in}, std.proofs.Common.{drop, get_or, set}}
use Rattle.network_tables.specs.{Shown.shown, declared.{room.Room.Room, slot.Slot.Slot}}
use Rattle.std.{proofs.Common.length-append, specs.{Option.option_map_or, Prelude.{T, sum_by, zero, ◌%◌, ◌^◌}}}
use Rattle.std.proofs.lemmas.List.{drop_more, get_or-map, length-map, map-append, take_more}
use Rattle.std.proofs.lemmas.List.{length-drop, length-take, Folds.{Any-from_list_any, list_any_at}}

module _ {Y : Type 0} (g : Y → Y) where
  abbrev done : ℕ → List Y → List Y
  done i xs = map g (take i xs) ++ drop i xs

  long : (xs : List Y) (i : ℕ) → length (done i xs) ≡ length xs
  long xs i = simp (length-append, length-map, length-take, length-drop) (omega arith)

  here : (xs : List Y) (i : ℕ) (d : Y) → get_or (done i xs) i d ≡ get_or xs i d
  here [] zero d = refl
  here [] (suc i) d = refl
  here (x ∷ xs) zero d = refl
  here (x ∷ xs) (suc i) d = here xs i d

-- rooms that are changed in turn
module _ {A : Type 0} (change : Channel → Channel) (xs : List (Text × Channel))
    (s : List (Slot (Room A) A)) (i : ℕ) (x : Slot (Room A) A) (l : i < length s)
    (e : map room_entry s ≡ each_changed change (take i xs) ++ drop i xs)
    (at : x ≡ get_or s i x) where
  abbrev as_changed : Text × Channel → Text × Channel
  as_changed e = (e.0, change e.1)

  within : i < length xs
  within = omega (arith, length-map s room_entry, ap length e, long as_changed xs i)

  -- what is there is not changed yet
  not_yet : room_entry x ≡ get_or xs i (room_entry x)
  not_yet = cc (get_or-map room_entry s i x (room_entry x) l, here as_changed xs i (room_entry x))

  -- the copies for what is there and after it
  pub copies_left : (key n : Text) → copies_of key n (drop i xs)
      ≡ copy_for key n x.entry.value.value.members.all ∷ copies_of key n (drop (i + 1) xs)
  copies_left key n = cc (ap (copies_of key n) (drop_more xs i (room_entry x) within), not_yet)

  -- one more is changed
  pub changed_more : (new : Slot (Room A) A) → room_entry new ≡ as_changed (room_entry x)
      → map room_entry (set s i new) ≡ each_changed change (take (i + 1) xs) ++ drop (i + 1) xs
  changed_more new is =
      let there = get_or-map room_entry s i x (room_entry x) l in
      let next = map_over_more as_changed xs (map room_entry s) i (room_entry x) within e
      (cc there) in
      cc (map-set room_entry s i new)

-- the copies for one room more
pub copies_more : {A : Type 0} (key n : Text) (xs : List (Slot (Room A) A)) (i : ℕ)
    (x : Slot (Room A) A) → i < length xs → x ≡ get_or xs i x
    → copies_of key n (take (i + 1) (map room_entry xs)) ≡ copies_of key n
    (take i (map room_entry xs)) ++ copy_for key n x.entry.value.value.members.all ∷ []
copies_more key n xs i x l at =
    let within : i < length (map room_entry xs) = omega (arith, length-map xs room_entry) in
    let more = take_more (map room_entry xs) i (room_entry x) within in
    rw (more, map-append, get_or-map room_entry xs i x (room_entry x) l, ← at)

-- what is met at a place
pub any_at : {E Y : Type 0} (p : Y → Bool) (f : E → Y) (xs : List E) (i : ℕ) (x : E)
    → i < length xs → x ≡ get_or xs i x → p (f x) ≡ true → true ≡ list_any p (map f xs)
any_at p f xs i x l at is =
    let there : p (get_or (map f xs) i (f x)) ≡ true = rw (get_or-map f xs i x (f x) l, ← at) is in
    sym (list_any_at p (map f xs) i (f x) (omega (arith, length-map xs f)) there)

-- the rooms of a table, by their entries
module _ {A : Type 0} where
  as_rooms : (xs : List (Slot (Room A) A))
      → map (λ e. (e.0, channel_of e.1)) (map entry_of xs) ≡ map room_entry xs
  as_rooms [] = refl
  as_rooms (x ∷ xs) = ap (λ l. room_entry x ∷ l) (as_rooms xs)

  sorted_alike : (xs : List (Slot (Room A) A))
      → fin.is_sorted bytes_cmp (map entry_of xs) ≡ fin.is_sorted bytes_cmp (map room_entry xs)
  sorted_alike xs = rw (← as_rooms xs) (sorted_shown bytes_cmp channel_of (map entry_of xs))

  module _ (xs : List (Slot (Room A) A)) (h : T (fin.is_sorted bytes_cmp (map entry_of xs))) where
    pub rooms_sorted : T (fin.is_sorted bytes_cmp (map room_entry xs))
    rooms_sorted = rw (← sorted_alike xs) h

    pub entries_are : fin.entries (rooms_of (fin.from_sorted (map entry_of xs)))
        ≡ map room_entry xs
    entries_are =
        rw (entries-shown bytes_cmp channel_of, fin.entries-from_sorted bytes_cmp _ h, as_rooms xs)

    pub rooms_are : rooms_of (fin.from_sorted (map entry_of xs))
        ≡ fin.from_sorted (map room_entry xs)
    rooms_are =
        fin.same_entries_map _ _
        (entries_are ∙ sym (fin.entries-from_sorted bytes_cmp _ rooms_sorted))

  module _ (g : Channel → Channel) (xs ys : List (Slot (Room A) A))
      (h : T (fin.is_sorted bytes_cmp (map entry_of xs)))
      (e : map room_entry ys ≡ each_changed g (map room_entry xs)) where
    pub each_sorted : T (fin.is_sorted bytes_cmp (map entry_of ys))
    each_sorted =
        rw (sorted_alike ys, e, ← sorted_shown bytes_cmp g (map room_entry xs)) (rooms_sorted xs h)

    pub each_is : rooms_of (fin.from_sorted (map entry_of ys))
        ≡ shown g (rooms_of (fin.from_sorted (map entry_of xs)))
    each_is =
        fin.same_entries_map _ _
        (rw (entries_are ys each_sorted, entries-shown bytes_cmp g, entries_are xs h) e)

  -- which leaves a table a table
  pub still_tabled : (weight : Room A → ℕ) (g : Channel → Channel) (marks : List Bool)
      (xs ys : List (Slot (Room A) A)) {bytes bytes2 : ℕ}
      → T (fin.is_sorted bytes_cmp (map entry_of xs))
      × AreNoted weight marks bytes (fin.from_sorted (map entry_of xs))
      → map room_entry ys ≡ each_changed g (map room_entry xs)
      → bytes2 ≡ sum_by (entry_bytes weight) (map entry_of ys) % 2 ^ 64
      → T (fin.is_sorted bytes_cmp (map entry_of ys))
      × AreNoted weight marks bytes2 (fin.from_sorted (map entry_of ys))
  still_tabled weight g marks xs ys h e counted =
      let sorted = each_sorted g xs ys h.0 e in
      let marked = marked_shown channel_of g marks (fin.from_sorted (map entry_of xs))
      (fin.from_sorted (map entry_of ys)) h.1.0 (each_is g xs ys h.0 e) in
      (sorted, (marked, rw (map_weighs weight (map entry_of ys) sorted) counted))

-- ---- who is seen

find_any : (p : Text × Channel → Bool) (q : Text) (test : Channel → Bool)
    → ((e : Text × Channel) → p e ≡ test e.1) → (es : List (Text × Channel))
    → option_map_or test (fin.find bytes_cmp q es) false ≡ true → list_any p es ≡ true
find_any p q test same [] h = cc
find_any p q test same (e ∷ es) h = grind (arith, same e, find_any p q test same es)

pub seen_is : (es : List (Text × Channel)) (n : Text) → T (fin.is_sorted bytes_cmp es)
    → list_any (is_in n) es ≡ is_seen (fin.from_sorted es) n
seen_is es n h =
    let cs : fin.FinMap bytes_cmp Channel = fin.from_sorted es in
    both_or_neither (list_any (is_in n) es) (is_seen cs n)
    (λ t. let found = Any-from_list_any (is_in n) es t in
    let e : Text × Channel = get_or es found.0 found.1 in
    let at = find_at nat_list_cmp_total es h found.0 found.1 found.2 in
    seen_in cs e.0 n (grind (arith, fin.get-from_sorted bytes_cmp es e.0 h, found.3, found.4)))
    (λ t. let found = seen_somewhere cs n t in
    find_any (is_in n) (found.0) (λ (ch : Channel). fin.contains_key ch.members n) (λ e. refl) es
    (grind (arith, fin.get-from_sorted bytes_cmp es (found.0) h, found.1)))
