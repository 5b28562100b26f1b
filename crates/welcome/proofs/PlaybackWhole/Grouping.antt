-- Entries are put into the groups of their channels, and what is said of these is the playback.
pub mod InOrder
unfoldable pub use InOrder.*
use Rattle.std.proofs.Common.{Option}
use Rattle.welcome.specs.Times.{stamped}
use Rattle.welcome.specs.declared.playing.Offset.{Offset}

-- ---- lines said one after the other

pub ruleset said_steps = (common_steps, flat_map-append)

-- a text has grown by these lines
pub record Adds (before now : Text) (lines : List Parts) : Type 0 where
  pub is : now ≡ before ++ flat_map written lines

pub line_added : {before now : Text} (line : Parts) → now ≡ before ++ written line
    → Adds before now (line ∷ [])
line_added {before = before} line e =
    record { is = e ∙ ap (λ t. before ++ t) (sym (append-nil (written line))) }

pub added : {before now : Text} {lines : List Parts} → now ≡ before ++ flat_map written lines
    → Adds before now lines
added e = record { is = e }

pub and_added : {t0 t1 t2 : Text} {xs ys : List Parts} → Adds t0 t1 xs → Adds t1 t2 ys
    → Adds t0 t2 (xs ++ ys)
and_added a b = record { is = rw (b.is, a.is) (simp (append_assoc, flat_map-append)) }

-- ---- the messages of a channel as bytes

-- what is lent of entries
pub lent_mapped : {X : Type 0} (f : EntryParts → X) (es : List (Bor EntryParts))
    → map (λ (e : Bor EntryParts). f e.now) es ≡ map f (all_now es)
lent_mapped f es = sym (map-map f (λ (e : Bor EntryParts). e.now) es)

pub plain_backlog : (caps : Caps) (place : ℕ) (name : Text) (es : List (Bor EntryParts))
    → caps.batch ≡ false → map (λ (e : Bor EntryParts). entry_line caps [] e.now) es
    ≡ backlog_of caps place name (all_now es)
plain_backlog caps place name es b = grind (arith, b, lent_mapped (entry_line caps []) es)

-- ---- what is put into the groups of the channels is the playback

-- the key of an entry's target
abbrev pub key_in : View → EntryParts → Text
key_in v e = key_by v.settings e.target

abbrev in_groups : View → List EntryParts → List (Text × Channel) → List (List EntryParts)
in_groups v es cs = map (λ (c : Text × Channel). filter (is_for v c.0) es) cs

-- an entry of a lesser key is for none of these channels
others : (v : View) (es : List EntryParts) (e : EntryParts) (cs : List (Text × Channel))
    → below_all bytes_cmp (key_in v e) cs ≡ true → in_groups v (es ++ e ∷ []) cs ≡ in_groups v es cs
others v es e [] below = refl
others v es e (c ∷ cs) below =
    grind (arith, filter-append (is_for v c.0) es (e ∷ []), append-nil, others v es e cs)

-- one entry more
pushed_in : (v : View) (es : List EntryParts) (e : EntryParts) (cs : List (Text × Channel)) (rest :
    List EntryParts) → fin.is_sorted bytes_cmp cs ≡ true → AreKeyed v cs → push_at (place_among
    (mapping_of v.settings) e.target (names_in cs)) e (in_groups v es cs ++ rest ∷ []) ≡ in_groups v
    (es ++ e ∷ []) cs ++ cond (list_any (same (key_in v e)) (keys_in cs)) rest (rest ++ e ∷ []) ∷ []
pushed_in v es e [] rest sorted keyed = refl
pushed_in v es e (c ∷ cs) rest sorted keyed =
    let place : ℕ = place_among (mapping_of v.settings) e.target (names_in cs) in
    let later : place + 1 ≡ suc place = omega arith in
    let more = pushed_in v es e cs rest (grind arith) keyed.1 in
    let next = filter-append (is_for v c.0) es (e ∷ []) in
    let same = is_same (key_in v e) c.0 in
    grind (arith, later, keyed.0, sorted, same, next, others v es e cs, append-nil, more)

-- the entries that are for no channel
abbrev pub left_over : View → List EntryParts → List EntryParts
left_over v es = filter (λ e. not (is_for_a_channel v e)) es

-- ---- the playback of the groups

backlogs_are : (v : View) (times : Option Offset) (caps : Caps) (es rest : List EntryParts)
    (place : ℕ) (cs : List (Text × Channel)) → backlogs_of caps place (names_in cs)
    (map (stamped times caps) (in_groups v es cs ++ rest ∷ [])) ≡ flat_map (λ (at : ℕ × (Text
    × Channel)). backlog_of caps at.0 at.1.1.name (stamped times caps (filter (is_for v at.1.0) es)))
    (enumerate_from place cs)
backlogs_are v times caps es rest place [] = refl
backlogs_are v times caps es rest place (c ∷ cs) = rw (backlogs_are v times caps es rest (place + 1) cs)

last_is : (v : View) (es rest : List EntryParts) (cs : List (Text × Channel))
    → slice_index_or (in_groups v es cs ++ rest ∷ []) (length (names_in cs)) [] ≡ rest
last_is v es rest [] = refl
last_is v es rest (c ∷ cs) = last_is v es rest cs

module _ (v : View) (items : List Arrival) (is : v ≡ view_of items) where
  sorted : fin.is_sorted bytes_cmp (fin.entries v.channels) ≡ true
  sorted = grind (arith, fin.entries_sorted v.channels)

  -- each channel is kept by its name's key
  keyed : AreKeyed v (fin.entries v.channels)
  keyed =
      rw is (entries_got (λ (e : Text × Channel). key_by (view_of items).settings e.1.name ≡ e.0)
      (view_of items).channels (λ e at. ((view_sound items).channels e.0 e.1 at).key))

  pub in_order : AreInKeyOrder (mapping_of v.settings) (channel_names_of v)
  in_order = keyed_order v (fin.entries v.channels) sorted keyed

  pushed_next : (es : List EntryParts) (e : EntryParts) → push_at (place_among (mapping_of
      v.settings) e.target (channel_names_of v)) e (groups_of v es) ≡ groups_of v (es ++ e ∷ [])
  pushed_next es e =
      let next = pushed_in v es e (fin.entries v.channels) (left_over v es) sorted keyed in
      let left = filter-append (λ e. not (is_for_a_channel v e)) es (e ∷ []) in
      grind (arith, next, fin.contains_key-keys v.channels (key_in v e), left, append-nil)

  folded : (done es : List EntryParts)
      → fold (λ groups (e : EntryParts). push_at (place_among (mapping_of v.settings) e.target
      (channel_names_of v)) e groups) (groups_of v done) es ≡ groups_of v (done ++ es)
  folded done [] = ap (groups_of v) (sym (append-nil done))
  folded done (e ∷ es) = rw (pushed_next done e) (rw append_assoc at (folded (done ++ e ∷ []) es))

  grouped_right : (entries : List EntryParts) → grouped_by
      (mapping_of v.settings) (channel_names_of v) entries ≡ groups_of v entries
  grouped_right entries = simp map-map (folded [] entries)

  -- what is written of the groups is the playback
  pub arranged_right : (playing : Playing) (caps : Caps) (entries : List EntryParts) → arranged_by
      playing v caps (channel_names_of v) (grouped_by (mapping_of v.settings) (channel_names_of v)
      entries) ≡ playback_by playing v caps entries
  unfolding playback_by
  arranged_right playing caps entries =
      let left = left_over v entries in
      let cs = fin.entries v.channels in
      rw (
        grouped_right entries,
        backlogs_are v playing.times caps entries left 0 cs,
        last_is v entries left cs,
        length-map cs (λ (e : Text × Channel). e.1.name),
      )

  -- and their places are its places
  pub places_right : (playing : Playing) (caps : Caps) (entries : List EntryParts) → places_among
      playing v caps (channel_names_of v) (grouped_by (mapping_of v.settings) (channel_names_of v)
      entries) ≡ places_of playing v caps entries
  places_right playing caps entries =
      let left = left_over v entries in
      let cs = fin.entries v.channels in
      rw (
        grouped_right entries,
        last_is v entries left cs,
        length-map cs (λ (e : Text × Channel). e.1.name),
      )

-- ---- the group at a place

pub pushed : {X Y : Type 0} (f : Y → List X) (gs : List Y) (place : ℕ) (g now : Y) (x : X)
    → place < length gs → g ≡ slice_index_or gs place g → f now ≡ f g ++ x ∷ []
    → map f (slice_set gs place now) ≡ push_at place x (map f gs)
pushed f [] place g now x within at e = absurd (omega (within, arith))
pushed f (h ∷ gs) zero g now x within at e = cc
pushed f (h ∷ gs) (suc place) g now x within at e = simp (pushed f gs place g now x (omega (within, arith)) at e)

length_pushed : {X : Type 0} (place : ℕ) (x : X) (gs : List (List X))
    → length (push_at place x gs) ≡ length gs
length_pushed place x [] = refl
length_pushed zero x (g ∷ gs) = refl
length_pushed (suc place) x (g ∷ gs) = ap suc (length_pushed place x gs)

length_folded : (mapping : CaseMapping) (names : List Text)
    (entries : List EntryParts) (gs : List (List EntryParts)) → length (fold (λ groups
    (e : EntryParts). push_at (place_among mapping e.target names) e groups) gs entries) ≡ length gs
length_folded mapping names [] gs = refl
length_folded mapping names (e ∷ entries) gs =
    grind (arith, length_folded mapping names entries, length_pushed)

abbrev pub no_entries : List Text → List (List EntryParts)
no_entries names = map (λ (name : Text). []) names ++ [] ∷ []

pub has_place : {Y : Type 0} (f : Y → List EntryParts) (gs : List Y) (mapping : CaseMapping) (names
    : List (Bor Text)) (entries : List EntryParts) (place : ℕ) → map f gs ≡ grouped_by mapping
    (all_now names) entries → place ≤ length names → place < length gs
has_place f gs mapping names entries place e within =
    let grouped = length_folded mapping (all_now names) entries (no_entries (all_now names)) in
    omega (arith, length-map gs f, ap length e, simp (length-append, length-map) at grouped)

pub nones : (names : List (Bor Text))
    → map (λ (name : Bor Text). []) names ≡ replicate {A = List EntryParts} (length names) []
nones names = sym (splat_is_map names (length names) [] refl)

-- an entry more in the group at a place
pub ruleset push_steps = (pushed, map-append)

-- a loop over the groups
pub ruleset group_steps = (nones, map-append)

-- a loop over the entries
pub ruleset grouped_steps = (fold_push, map_more, take_all, map-map)

-- a loop over the groups and their names
pub ruleset backlog_steps = (next_left, drop_all, append_assoc, flat_map-append)

-- the last group
pub ruleset last_steps = (get_or-map, length-map, map-map, append_assoc, flat_map-append)
