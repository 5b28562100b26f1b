-- The persons of the channels, sorted and once each, are those that the view knows.
use Rattle.std.specs.FinMap as fin
use Rattle.welcome.specs.Lent as lent
use Rattle.welcome.specs.declared.persons.Person as lend
use Rattle.welcome.proofs.Words
pub use Words.{◌++◌, ◌+◌, ◌∷◌, ◌≡◌, All-from_recursion, AllByRecursion, Bool, CaseMapping, Channel}
pub use Words.{Each, Equal, HasHead, IsPermutation, IsSomeAnd, IsSound, IsSpelling, Less, List}
pub use Words.{None, Option, Ordering, Person, Some, Text, Token, View, [], ap, append-nil, arith}
pub use Words.{below_all, by_head, bytes_cmp, bytes_exact, channels_shown, cond, entries, flat_map}
pub use Words.{is_equal, is_same, is_some, key_by, key_of, known_at, list_any, map, map-map}
pub use Words.{mapping_of, member_parts, nat_cmp, nat_list_cmp_total, old_member, person_lent}
pub use Words.{person_shown, recursion_from_All, refl, same, same_by_keys, same_refl}
pub use Words.{slice_index_or, take, take_all, true, unwrap_or, ℕ}
pub use Rattle.net_view.proofs.{Keys.some_key, Tests.any_append}
pub use Rattle.{network_tables.proofs.HeadLemmas.by_heads, std.proofs.Common.T}
pub use Rattle.std.proofs.lemmas.{Cmp.on_total, List.Filters.All-dedup}
pub use Rattle.std.proofs.lemmas.List.{Kept.IsStrictlySortedBy-dedup, Sorted.All-permutation}
pub use Rattle.std.{proofs.lemmas.List.Sorted.list_any-IsPermutation, specs.List.dedup}
pub use Rattle.std.specs.List.{dedup_from, Sorted.{IsSorted, IsStrictlySortedBy}}
pub use Rattle.{std.specs.Ordering.ordering_then, welcome.proofs.BurstLaw.NetworkRead.all_in}
pub use Rattle.welcome.proofs.{BurstLaw.NetworkRead.each_entry, EachOf.{each_mapped, mapped}}
pub use Rattle.welcome.{proofs.Places.flat_next, specs.Lent.{persons_at, persons_on_channels}}

-- a member as a person
abbrev pub person_at : View → Text × List ℕ → Person
person_at v m = person_shown (member_parts v m)

-- ---- the channels, place by place

-- those of the channels before a place
unfoldable pub persons_so_far : View → ℕ → List Person
persons_so_far v i =
    flat_map (λ (e : Text × Channel). map (person_at v) (entries e.1.members))
    (take i (entries v.channels))

module _ (v : View) where
  pub persons_begin : persons_so_far v 0 ≡ []
  unfolding persons_so_far
  persons_begin = refl

  pub channel_more : (i : ℕ) → persons_so_far v (i + 1) ≡ persons_so_far v i ++ persons_at v i
  unfolding persons_so_far
  channel_more i =
      let f = λ (e : Text × Channel). map (person_at v) (entries e.1.members) in
      grind (arith, flat_next f (entries v.channels) i, append-nil)

  pub channels_all : (i : ℕ) → i ≡ channels_shown v → persons_so_far v i ≡ persons_on_channels v
  unfolding persons_so_far
  channels_all i e = rw (take_all i (entries v.channels) (omega arith))

-- a loop over the channels
pub ruleset person_steps = (persons_begin, channel_more, channels_all)

-- a loop over the members of one
pub ruleset member_steps = (map-map, append-nil)

-- ---- those that are gathered, sorted and once each

-- a person, as lent
abbrev pub Lent : Type 0
Lent = lend.Person

module _ (settings : List Token) where
  -- the key of a person, and of one that is lent
  abbrev pub key_in : Person → Text
  key_in p = key_by settings (unwrap_or p.spelled [])

  abbrev key_lent : Lent → Text
  key_lent p = key_in (person_lent p)

  -- whether the person has this key
  abbrev pub has_key : Text → Person → Bool
  has_key n p = same n (key_in p)

  abbrev has_lent : Text → Lent → Bool
  has_lent n p = has_key n (person_lent p)

  -- the order of their keys
  abbrev by_key : Lent → Lent → Ordering
  by_key = lent.by_key (mapping_of settings)

  abbrev is_one : Lent → Lent → Bool
  is_one = lent.is_one (mapping_of settings)

  -- under its key
  abbrev keyed : Lent → Text × Person
  keyed p = (key_lent p, person_lent p)

  below_keys : (p : Lent) (ps : List Lent) → Each (λ q. by_key p q ≡ Less) ps
      → below_all bytes_cmp (key_lent p) (map keyed ps) ≡ true
  below_keys p [] h = refl
  below_keys p (q ∷ ps) h = grind (arith, h.0, below_keys p ps h.1)

  rises : (ps : List Lent) → IsStrictlySortedBy by_key ps
      → fin.is_sorted bytes_cmp (map keyed ps) ≡ true
  unfolding IsStrictlySortedBy
  rises [] h = refl
  rises (p ∷ ps) h = grind (arith, below_keys p ps h.0, rises ps h.1)

  -- `dedup` leaves one of each key
  any_from : (n : Text) (k : Lent) (ps : List Lent)
      → list_any (has_lent n) (dedup_from is_one k ps) ≡ list_any (has_lent n) (k ∷ ps)
  any_from n k [] = refl
  any_from n k (p ∷ ps) =
      let one : is_one p k ≡ true → key_lent p ≡ key_lent k = λ e. bytes_exact _ _
      (is_equal (by_key p k) e) in grind (arith, one, any_from n k ps, any_from n p ps)

  any_kept : (n : Text) (ps : List Lent)
      → list_any (has_lent n) (dedup is_one ps) ≡ list_any (has_lent n) ps
  any_kept n ps = grind (arith, any_from)

any_mapped : {X Y : Type 0} (q : Y → Bool) (f : X → Y) (xs : List X)
    → list_any q (map f xs) ≡ list_any (λ x. q (f x)) xs
any_mapped q f [] = refl
any_mapped q f (x ∷ xs) = grind (arith, any_mapped q f xs)

any_flat : {Y : Type 0} (q : Y → Bool) (g : Channel → List Y)
    (c : Text) (ch : Channel) (es : List (Text × Channel)) → fin.find bytes_cmp c es ≡ Some ch
    → list_any q (g ch) ≡ true → list_any q (flat_map (λ (e : Text × Channel). g e.1) es) ≡ true
any_flat q g c ch [] e h = cc
any_flat q g c ch (x ∷ es) e h = grind (arith, any_append, any_flat q g c ch es)

module _ (v : View) where
  -- a person that the view knows
  abbrev IsKnown : Person → Type 0
  IsKnown p = fin.get v.people (key_in v.settings p) ≡ Some p

  -- a member of this key is the person that is known under it
  member_known : (n : Text) (ranks : List ℕ) → IsSomeAnd (known_at (λ p. p.spelled) v n)
      (IsSpelling v.settings n) → (key_in v.settings (person_at v (n, ranks)) ≡ n)
      × (fin.get v.people n ≡ Some (person_at v (n, ranks)))
  member_known n ranks h = grind (arith, h)

  any_member : (n : Text) (ms : List (Text × List ℕ)) → ((r : List ℕ)
      → key_in v.settings (person_at v (n, r)) ≡ n) → is_some (fin.find bytes_cmp n ms) ≡ true
      → list_any (has_key v.settings n) (map (person_at v) ms) ≡ true
  any_member n [] keyed e = e
  any_member n (m ∷ ms) keyed e =
      grind (arith, is_same n m.0, keyed m.1, same_refl n, any_member n ms keyed)

  found_as : (n : Text) (ps : List Lent) → Each (λ p. IsKnown (person_lent p)) ps
      → fin.find bytes_cmp n (map (keyed v.settings) ps)
      ≡ cond (list_any (has_lent v.settings n) ps) (fin.get v.people n) None
  found_as n [] known = refl
  found_as n (p ∷ ps) known =
      grind (arith, is_same n (key_lent v.settings p), known.0, found_as n ps known.1)

  module _ (sound : IsSound v) where
    -- who is a member is known
    known_each : Each IsKnown (persons_on_channels v)
    known_each =
        each_entry IsKnown v.channels (λ ch. map (person_at v) (fin.entries ch.members))
        (λ k ch here. mapped (λ m. fin.get ch.members m.0 ≡ Some m.1) IsKnown (person_at v)
        (λ m there. let is = member_known m.0 m.1 ((sound.channels k ch here).spelled m.0
        (ap is_some there)) in rw is.0 is.1) (fin.entries ch.members) (all_in ch.members))

    seen_at : (n c : Text) (o : Option Channel) → fin.get v.channels c ≡ o → is_some
        (old_member o n) ≡ true → list_any (has_key v.settings n) (persons_on_channels v) ≡ true
    seen_at n c None e h = cc
    seen_at n c (Some ch) e h =
        any_flat
        (has_key v.settings n) (λ (ch : Channel). map (person_at v) (fin.entries ch.members)) c ch
        (fin.entries v.channels) (rw fin.get-entries at e) (any_member n (fin.entries ch.members)
        (λ r. (member_known n r ((sound.channels c ch e).spelled n h)).0) (rw fin.get-entries at h))

    -- and who is known is a member
    known_any : (n : Text) → is_some (fin.get v.people n) ≡ true
        → list_any (has_key v.settings n) (persons_on_channels v) ≡ true
    known_any n h =
        let seen = some_key (λ c. is_some (old_member (fin.get v.channels c) n))
        (fin.keys v.channels) (rw sound.known at h) in
        seen_at n seen.0 (fin.get v.channels seen.0) refl seen.1

    -- the persons of the channels, sorted and once each, are those that the view knows
    pub persons_gathered : (mapping : CaseMapping) → mapping ≡ mapping_of v.settings → (all sorted
        each : List Lent) → map person_lent all ≡ persons_on_channels v → IsPermutation all sorted
        → IsSorted (lent.by_key mapping) sorted → each ≡ dedup (lent.is_one mapping) sorted
        → map person_lent each ≡ map (λ (e : Text × Person). e.1) (fin.entries v.people)
    persons_gathered mapping is all sorted each whole moved rising once =
        let s = v.settings in
        let ps = dedup (is_one s) sorted in
        let One : Lent → Type 0 = λ p. IsKnown (person_lent p) in
        let known = recursion_from_All One ps
        (All-dedup (is_one s) One sorted (All-permutation One all sorted moved (All-from_recursion
        One all (each_mapped IsKnown person_lent all (rw whole known_each))))) in
        let there : (n : Text)
        → is_some (fin.get v.people n) ≡ true → list_any (has_lent s n) ps ≡ true = λ n h.
        rw (any_kept s n sorted, ← list_any-IsPermutation (has_lent s n) all sorted moved)
        (rw (← any_mapped (has_key s n) person_lent all, whole) (known_any n h)) in
        let es = map (keyed s) ps in
        let in_order : T (fin.is_sorted bytes_cmp es) = rw (rises s ps (IsStrictlySortedBy-dedup
        (on_total (key_lent s) nat_list_cmp_total) (λ x y. refl) sorted (rw is at rising))) tt in
        let one : fin.from_sorted {R = bytes_cmp} es
        ≡ v.people = same_by_keys (λ n. let found = fin.get-from_sorted bytes_cmp es n in_order
        in grind (arith, found, found_as n ps known, there n)) in
        rw (once, is, ← one, fin.entries-from_sorted bytes_cmp es in_order) (simp map-map)

-- ---- persons in the order of their heads are in the order of their keys

-- the order by head and key is that by key
by_head_is : (mapping : CaseMapping) (a b : Lent) → HasHead mapping a → HasHead mapping b
    → by_head mapping a b ≡ lent.by_key mapping a b
by_head_is mapping a b h k =
    then_is (nat_cmp a.head b.head) _ (by_heads (key_of mapping a.nick.now) (key_of mapping b.nick.now)
    h.1 k.1 _ (λ i. nat_cmp (h.0 i) (k.0 i)))
  where
    then_is : (r s : Ordering) → ((r ≡ Equal → ⊥) → r ≡ s) → ordering_then r s ≡ s
    then_is r s h = grind (arith, h)

-- what is sorted by head and key is sorted by key, if the heads are those of the keys
pub sorted_by_key : (mapping : CaseMapping) (old new : List Lent)
    → AllByRecursion (HasHead mapping) old → IsPermutation old new
    → IsSorted (by_head mapping) new → IsSorted (lent.by_key mapping) new
sorted_by_key mapping old new heads moved sorted k d low high =
    let all = All-permutation (HasHead mapping) old new moved (All-from_recursion (HasHead mapping)
    old heads) in rw (by_head_is mapping (slice_index_or new (k + 1) d) (slice_index_or new k d)
    (all (k + 1) d high) (all k d (omega (arith, high)))) at (sorted k d low high)
