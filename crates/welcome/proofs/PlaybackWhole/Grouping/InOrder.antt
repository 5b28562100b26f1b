-- What a search by order finds among names in the order of their keys.
pub use Rattle.std.specs.FinMap as fin
unfoldable pub use Words.{playback_of}
use Rattle.welcome.proofs.Words
pub use Words.{◌&&◌, ◌++◌, ◌+◌, ◌<◌, ◌==◌, ◌||◌, ◌∙◌, ◌∷◌, ◌≡◌, ◌≤◌, All-from_recursion}
pub use Words.{AllByRecursion, Arrival, Bool, Bor, Caps, CaseMapping, Channel, Each, EntryParts}
pub use Words.{Equal, IsPermutation, Less, List, Ordering, Parts, Text, View, [], ap, append-nil}
pub use Words.{append_assoc, arith, backlog_of, backlogs_of, below_all, burst_of, bytes_cmp}
pub use Words.{bytes_exact, channel_names_of, channel_shown, common_steps, cond, entries_got}
pub use Words.{entry_line, enumerate_from, false, filter, filter-append, flat_map, flat_map-append}
pub use Words.{fold, get_or, grouped_by, is_for, is_for_a_channel, is_same, is_some, key_by, key_of}
pub use Words.{length, length-append, length-map, list_any, map, map-append, map-map, mapping_of}
pub use Words.{nat_list_cmp_total, nat_tests, next_left, nil_from_length, not, option_map}
pub use Words.{position_or_len, refl, replicate, same, same_refl, slice_get, slice_get-map}
pub use Words.{slice_index_or, state_part_of, suc, sym, take_all, true, view_of, view_sound}
pub use Words.{written, ℕ}
pub use Rattle.{history.specs.Entry.bare_line, std.proofs.Common.{Err, slice_set, zero}}
pub use Rattle.std.proofs.lemmas.List.{drop_all, get_or-map, map_more, Elements.filter_agree}
pub use Rattle.std.proofs.lemmas.List.{Kept.AllPairs-cons, Recursion.is_position_or_len}
pub use Rattle.std.proofs.lemmas.List.Sorted.{IsPermutation-append_left, IsPermutation-append_right}
pub use Rattle.std.proofs.lemmas.List.Sorted.{IsPermutation-filter_both, IsPermutation-refl}
pub use Rattle.std.proofs.lemmas.List.Sorted.{IsPermutation-trans, searchable_from_sorted}
pub use Rattle.std.proofs.lemmas.{List.Sums.{fold_push, position_or_len_is}, Simd.splat_is_map}
pub use Rattle.std.specs.{List.{AllPairs, Sorted.IsBinarySearchResult}, Ordering.is_eq}
pub use Rattle.{std.specs.declared.cmp.Ordering.TheVariants.Greater, welcome.proofs.EachOf.all_now}
pub use Rattle.welcome.proofs.{EachOf.{each_kept, each_mapped}, Places.take_next}
pub use Rattle.welcome.proofs.{PlaybackTold.IsMessage, WrittenLaw.untold}
pub use Rattle.welcome.specs.Arranged.{AreInKeyOrder, arranged_by, groups_of, place_among}
pub use Rattle.welcome.specs.Arranged.{places_among, push_at}
pub use Rattle.welcome.specs.declared.playing.Playing.{Playing}
pub use Rattle.welcome.specs.Playing.{burst_by, is_private, others_lines, places_of, playing_whole}
unfoldable pub use Rattle.welcome.specs.Playing.{playback_by}
pub use Rattle.welcome.specs.Playback.{messages_in, played_of}

-- ---- the names

pub name_at : (v : View) (i : ℕ) → slice_get (channel_names_of v) i
    ≡ option_map (λ (ch : Channel). ch.name) (channel_shown v i)
name_at v i =
    grind (arith, slice_get-map (λ (e : Text × Channel). e.1.name) (fin.entries v.channels) i)

-- a loop over the names
pub ruleset name_steps = (name_at, take_next)

-- each channel is kept by its name's key
abbrev pub AreKeyed : View → List (Text × Channel) → Type 0
AreKeyed v cs = AllByRecursion (λ (c : Text × Channel). key_by v.settings c.1.name ≡ c.0) cs

abbrev pub names_in : List (Text × Channel) → List Text
names_in cs = map (λ (c : Text × Channel). c.1.name) cs

abbrev pub keys_in : List (Text × Channel) → List Text
keys_in cs = map (λ (c : Text × Channel). c.0) cs

-- ---- what a search by order finds among names in the order of their keys

module _ (mapping : CaseMapping) (target : Text) where
  -- how a name's key lies to the target's
  abbrev pub lies : Bor Text → Ordering
  lies name = bytes_cmp (key_of mapping name.now) (key_of mapping target)

  abbrev is_it : Bor Text → Bool
  is_it name = same (key_of mapping target) (key_of mapping name.now)

  differs : (name : Bor Text) (r : Ordering) → lies name ≡ r → is_it name ≡ is_eq r
  differs name r e =
      grind
      (arith, e, nat_list_cmp_total.antisymm (key_of mapping target) (key_of mapping name.now))

  -- the place is that of the first name that is it
  place_is : (names : List (Bor Text))
      → position_or_len is_it names ≡ place_among mapping target (all_now names)
  place_is names =
      sym (is_position_or_len (λ ns. place_among mapping target (all_now ns)) is_it refl
      (λ name ns. ap (cond (is_it name) 0) (omega arith)) names)

  abbrev Rises : Bor Text → Bor Text → Type 0
  Rises a b = bytes_cmp (key_of mapping a.now) (key_of mapping b.now) ≡ Less

  -- keys rise
  climb : (names : List (Bor Text)) → AreInKeyOrder mapping (all_now names) → AllPairs Rises names
  climb [] order = λ i j d less within. absurd (omega arith)
  climb (name ∷ names) order =
      AllPairs-cons Rises name names (All-from_recursion (Rises name) names
      (each_mapped (λ later. bytes_cmp (key_of mapping name.now) (key_of mapping later) ≡ Less)
      (λ (n : Bor Text). n.now) names order.0)) (climb names order.1)

  -- the name whose key is the target's is at the place
  pub found_there : (names : List (Bor Text)) (i : ℕ) (d : Bor Text)
      → AreInKeyOrder mapping (all_now names) → i < length names
      → lies (get_or names i d) ≡ Equal → i ≡ place_among mapping target (all_now names)
  found_there names i d order within e =
      let key : key_of mapping (get_or names i d).now ≡ key_of mapping target = bytes_exact
      (key_of mapping (get_or names i d).now) (key_of mapping target) e in sym (position_or_len_is
      is_it names i d (omega arith) (λ k less. differs (get_or names k d) Less (rw key at (climb
      names order k i d less within))) (λ _. differs (get_or names i d) Equal e)) ∙ place_is names

  -- if the search finds none, the target is none of the names
  pub found_nowhere : (names : List (Bor Text)) (i : ℕ) (d : Bor Text)
      → AreInKeyOrder mapping (all_now names) → i ≤ length names → IsBinarySearchResult lies names
      (Err i) → length names ≡ place_among mapping target (all_now names)
  found_nowhere names i d order within found =
      let parts = found (searchable_from_sorted nat_list_cmp_total
      (λ (name : Bor Text). key_of mapping name.now) names (key_of mapping target)
      (λ k d low high. let rises = climb names order k (k + 1) d (omega arith) high in grind
      (arith, rises, nat_list_cmp_total.antisymm (key_of mapping (get_or names (k + 1) d).now)))) in
      sym (position_or_len_is is_it names
      (length names) d (omega arith) (λ k less. let name = get_or names k d in let before : k < i
      → is_it name ≡ false = λ l. differs name Less (parts.0 k d (omega arith) l) in
      let behind : i ≤ k → is_it name ≡ false = λ l. differs name Greater (parts.1 k d l less)
      in grind (arith, before, behind)) (λ no. absurd (omega arith))) ∙ place_is names

-- ---- the channels' names

names_above : (v : View) (key : Text) (cs : List (Text × Channel))
    → below_all bytes_cmp key cs ≡ true → AreKeyed v cs → AllByRecursion
    (λ later. bytes_cmp key (key_of (mapping_of v.settings) later) ≡ Less) (names_in cs)
names_above v key [] below keyed = tt
names_above v key (c ∷ cs) below keyed =
    (rw keyed.0 (grind arith), names_above v key cs (grind arith) keyed.1)

-- the channels are in the order of their names' keys
pub keyed_order : (v : View) (cs : List (Text × Channel)) → fin.is_sorted bytes_cmp cs ≡ true
    → AreKeyed v cs → AreInKeyOrder (mapping_of v.settings) (names_in cs)
keyed_order v [] sorted keyed = tt
keyed_order v (c ∷ cs) sorted keyed =
    (rw keyed.0 (names_above v c.0 cs (grind arith) keyed.1), keyed_order v cs (grind arith) keyed.1)
