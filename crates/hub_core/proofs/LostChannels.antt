-- The channels of a view, the key of one, and the channels to be joined again.
use Rattle.std.specs.FinMap as fin
use Rattle.hub_core.proofs.Words
use Words.{◌++◌, ◌+◌, ◌∷◌, ◌≡◌, ◌≤◌, Arrival, Bool, IfSome, List, Lost, None, Option, Received}
use Words.{Some, Text, View, [], ap, append-nil, arith, bytes_cmp, bytes_exact, drop, false}
use Words.{joining, length, length-map, list_any, lost_channels, map, nat_list_cmp_total, nat_tests}
use Words.{option_and_then, option_map, option_to_list, refl, reverse, shown, take, view_of, ℕ}
use Rattle.hub_core.specs.LostChannels.{Joining, Joinings, channels_of_view, joining_of}
use Rattle.hub_core.specs.LostChannels.{key_of_channel, lost_at, lost_by, lost_then, put_all}
use Rattle.hub_core.specs.{LostChannels.settles, declared.lost.LostChannel.LostChannel}
use Rattle.{irc_support.specs.Settings.key_by, std.proofs.lemmas.List.{reverse-append, take_all}}
use Rattle.net_view.proofs.{Channels.{channels_get, covers_on}, KeyPlaces.entry_at, Keys.is_same}
use Rattle.net_view.proofs.{Keys.same_by_keys, SoundStep.view_sound, Tests.absent, Walks.first_left}
use Rattle.net_view.specs.{Named.{channels_in, named}, Names.same, Readers.channel_shown}
use Rattle.net_view.specs.{Readers.{channels_shown, mode_shown}, Sound.IsSound, Table.table_gets}
use Rattle.net_view.specs.{Transcript.readings_of, View.{Channel, view_back}, Written.AreWritten}
use Rattle.{network_tables.proofs.ShownLemmas.{entries-shown, get-shown}, std.proofs.Common.T}
use Rattle.std.{proofs.lemmas.Option.slice_get-map, specs.FinMap.Entries.find}
use Rattle.std.{proofs.Common.filter, specs.{Iterator.YieldsFirstBy, Option.option_or}}
use Rattle.std.specs.Ordering.{eq_by_cmp, nat_cmp}
use Rattle.{std.specs.Prelude.slice_get, welcome.proofs.{EntriesRead.none_below, Places.Mode}}
use Rattle.welcome.{proofs.Places.{mode_here, take_next}, specs.Lent.modes_at}

-- ---- the key

-- the key found among these modes
abbrev pub key_in : List Mode → Option Text
key_in modes = option_and_then (λ param. param) (find nat_cmp 107 modes)

module _ (v : View) (i : ℕ) where
  -- the key of the channel at a place is found among its modes
  pub key_at : option_and_then key_of_channel (channel_shown v i) ≡ key_in (modes_at v i)
  key_at = grind (arith, λ (ch : Channel). fin.get-entries ch.modes 107)

  -- what is left from a place on, if a letter is there
  left : (j : ℕ) (o : Option Mode) → mode_shown v i j ≡ o → YieldsFirstBy (λ (m : Mode). m)
      (λ left. left) (drop j (modes_at v i)) o (drop (j + 1) (modes_at v i))
  left j o e = first_left (λ (m : Mode). m) (modes_at v i) j o (grind (arith, e, mode_here v i j))

  -- what is found from a place on, if another letter is there
  pub key_later : (j letter : ℕ) (param : Option Text) → mode_shown v i j ≡ Some (letter, param)
      → (letter ≡ 107 → ⊥) → key_in (drop j (modes_at v i)) ≡ key_in (drop (j + 1) (modes_at v i))
  key_later j letter param e other =
      let no : eq_by_cmp nat_cmp 107 letter ≡ false = grind (arith, nat_tests, other) in
      rw (left j (Some (letter, param)) e, no)

  -- if the letter is there, its parameter is the key
  pub key_here : (j letter : ℕ) (param : Option Text) → mode_shown v i j ≡ Some (letter, param)
      → letter ≡ 107 → key_in (drop j (modes_at v i)) ≡ param
  key_here j letter param e same = rw (left j (Some (letter, param)) e, same)

  -- after the last mode there is none
  pub key_past : (j : ℕ) → mode_shown v i j ≡ None → key_in (drop j (modes_at v i)) ≡ None
  key_past j e = ap key_in (left j None e).0

-- ---- the channels

-- a channel by the key of its name
abbrev keyed_of : Text × Channel → Text × Joining
keyed_of e = (e.0, joining_of e.1)

-- all of them
pub channels_all : (v : View) (i : ℕ) → channels_shown v ≤ i
    → take i (channels_of_view v) ≡ channels_of_view v
channels_all v i past =
    take_all i (channels_of_view v)
    (grind (arith, past, length-map (fin.entries v.channels) keyed_of))

-- a loop over the channels
pub ruleset channel_steps = (channels_all, take_next)

-- ---- one of them

-- a view that comes from a transcript is sound
pub sound_view : (v : View)
    → (items : List Arrival) × AreWritten items × (v ≡ view_of items) → IsSound v
sound_view v (items, written, is) = rw is (view_sound items)

-- a channel of a view is under the key of its name
pub name_key : (v : View) → IsSound v → (i : ℕ) (e : Text × Channel)
    → slice_get (fin.entries v.channels) i ≡ Some e → key_by v.settings e.1.name ≡ e.0
name_key v sound i e is =
    grind (arith, sound.channels e.0 e.1, entry_at nat_list_cmp_total bytes_exact v.channels i e)

-- a channel is added by its name and its key
pub added : (v : View) → IsSound v → (i : ℕ) (name folded copy : Text) (key : Option Text)
    → Some name ≡ option_map (λ (ch : Channel). ch.name) (channel_shown v i)
    → folded ≡ key_by v.settings name → copy ≡ name
    → key ≡ option_and_then key_of_channel (channel_shown v i)
    → (folded, (copy, key)) ∷ [] ≡ option_to_list (slice_get (channels_of_view v) i)
added v sound i name folded copy key e under same k =
    grind (arith, slice_get-map keyed_of (fin.entries v.channels) i, name_key v sound i)

-- if there is no channel, nothing is
pub none_added : (v : View) (i : ℕ) (now : List (Text × Joining))
    → None ≡ option_map (λ (ch : Channel). ch.name) (channel_shown v i)
    → now ≡ now ++ option_to_list (slice_get (channels_of_view v) i)
none_added v i now e =
    grind (arith, slice_get-map keyed_of (fin.entries v.channels) i, e, append-nil now)

-- ---- by place

abbrev joined_as : Text × LostChannel → Text × Joining
joined_as e = (e.0, joining e.1)

-- how many are kept
pub count_is : (m : fin.FinMap bytes_cmp LostChannel) (l : Joinings) → shown joining m ≡ l
    → length (fin.entries m) ≡ length (fin.entries l)
count_is m l e =
    grind (arith, entries-shown bytes_cmp joining m, length-map (fin.entries m) joined_as)

pub lost_at_place : (m : fin.FinMap bytes_cmp LostChannel) (l : Joinings) (i : ℕ)
    → shown joining m ≡ l → option_map joining
    (option_map (λ (e : Text × LostChannel). e.1) (slice_get (fin.entries m) i))
    ≡ option_map (λ (e : Text × Joining). e.1) (slice_get (fin.entries l) i)
lost_at_place m l i e = grind (arith, slice_get-map joined_as, entries-shown bytes_cmp joining)

-- ---- what is found

-- what no item names was not lost
covers_lost : (items : List Arrival) (c : Text)
    → list_any (same c) (named channels_in (readings_of items)) ≡ false → lost_at items c ≡ None
covers_lost [] c h = refl
covers_lost (x ∷ older) c h =
    let before = (absent (same c) _ (named channels_in (readings_of older)) h).1 in
    let on = covers_on (readings_of older) c before in
    grind (arith, channels_get (readings_of older) c, on, covers_lost older c before)

lost_get : (items : List Arrival) (c : Text)
    → fin.get (lost_channels items) c ≡ lost_at (reverse items) c
unfolding lost_channels
lost_get items c = grind (arith, table_gets, nat_list_cmp_total, bytes_exact, covers_lost)

-- ---- the channels of a view

found_in_view : (v : View) (c : Text)
    → fin.find bytes_cmp c (channels_of_view v) ≡ option_map joining_of (fin.get v.channels c)
found_in_view v c =
    rw (← entries-shown bytes_cmp joining_of v.channels, ← fin.get-entries)
    (get-shown bytes_cmp joining_of v.channels c)

-- the channels that an item adds are in the order of their keys
pub sorted_new : (v : View) (x : Arrival) {N : Type 0} (channels : N → List (Text × Joining))
    (new : Option N) → option_map channels new ≡ lost_by v x
    → IfSome new (λ n. T (fin.is_sorted bytes_cmp (channels n)))
sorted_new v x channels new e =
    grind (arith, entries-shown bytes_cmp joining_of, fin.entries_sorted)

-- ---- an item more

lost_step : (x : Arrival) (older : List Arrival) (c : Text) → lost_at (x ∷ older) c
    ≡ lost_then (lost_by (view_back older) x) (settles (view_back older) x c) c (lost_at older c)
lost_step (Received line) older c = refl
lost_step Lost older c = rw found_in_view refl

-- what answers as they do after one more item is them
pub lost_are : (items : List Arrival) (x : Arrival) (m : Joinings) → ((c : Text) → fin.get m c
    ≡ lost_then (lost_by (view_of items) x) (settles (view_of items) x c) c
    (fin.get (lost_channels items) c)) → m ≡ lost_channels (items ++ x ∷ [])
unfolding view_of
lost_are items x m is = same_by_keys (λ c. grind (arith, is c, lost_get, reverse-append, lost_step))

-- before any item there is nothing to join again
pub no_loss : lost_channels [] ≡ fin.empty
no_loss = same_by_keys (λ c. grind (arith, lost_get, fin.get-empty))

-- if an item adds channels it takes none off
pub settled_as : (v : View) (x : Arrival) (c : Text) (off : Bool) (before : Option Joining)
    → lost_then None off c before ≡ lost_then None (settles v x c) c before
    → lost_then (lost_by v x) off c before ≡ lost_then (lost_by v x) (settles v x c) c before
settled_as v x c off before e = grind arith

-- ---- channels put in their places

pub put_in : (m : Joinings) (es : List (Text × Joining)) (c : Text) → T (fin.is_sorted bytes_cmp es)
    → fin.get (put_all m es) c ≡ option_or (fin.find bytes_cmp c es) (fin.get m c)
put_in m [] c h = refl
put_in m (e ∷ es) c h =
    let none = none_below bytes_cmp bytes_exact e.0 es in
    let put = fin.get-insert nat_list_cmp_total m e.0 e.1 c in
    grind (arith, put_in (fin.insert m e.0 e.1) es c, none, put, is_same c e.0)

-- ---- the channels of before

-- a filter over what is shown of each
pub filter_shown : {X Y : Type 0} (f : X → Y) (p : Y → Bool) (xs : List X)
    → map f (filter (λ x. p (f x)) xs) ≡ filter p (map f xs)
filter_shown f p [] = refl
filter_shown f p (x ∷ xs) = grind (arith, filter_shown f p xs)

-- two tests that answer the same keep the same
pub filter_as : {X : Type 0} (p q : X → Bool) → ((x : X) → p x ≡ q x) → (xs : List X)
    → filter p xs ≡ filter q xs
filter_as p q same [] = refl
filter_as p q same (x ∷ xs) = grind (arith, same x, filter_as p q same xs)
