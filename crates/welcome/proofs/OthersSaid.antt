-- What is played back of messages for no channel that we are on, by a profile.
use Rattle.std.specs.FinMap as fin
unfoldable use Rattle.welcome.specs.Playing.{playback_by}
use Rattle.welcome.proofs.EachOf.{each_kept, flat, mapped}
use Rattle.welcome.proofs.{PlaybackTold.IsMessage, PlaybackWhole.{backlog_told, entries_told}}
use Rattle.welcome.proofs.Stamps.{all_said, both_said, flat_changed, group_plain, group_said}
use Rattle.welcome.proofs.Stamps.{groups_stamped, message_keeps, stamped_each}
use Rattle.welcome.specs.Times.{AreSaidOf, stamped, stamped_entry}
use Rattle.welcome.specs.declared.playing.Offset.{Offset}
use Rattle.welcome.specs.declared.times.Day.{Day}
use Rattle.welcome.specs.declared.times.Minute.{Minute}
use Rattle.welcome.proofs.Words
use Words.{◌++◌, ◌+◌, ◌<◌, ◌∙◌, ◌∷◌, ◌≡◌, ◌≤◌, Bool, Caps, Channel, Each, EntryParts, List, Parts, Text, View}
use Words.{[], append-nil, arith, backlog_of, cond, entry_line, enumerate_from, false, filter, filter-append, flat_map, flat_map-append}
use Words.{None, Option, Some, is_for, is_for_a_channel, length, length-append, length-map, map, map-append, not, refl}
use Words.{true, ℕ}
use Rattle.history.specs.Entry.{bare_line}
use Rattle.net_view.specs.Names.{same}
use Rattle.welcome.specs.declared.others.Sort.{Sort}
use Rattle.welcome.specs.declared.others.Sort.TheVariants.{Channels, Persons, Visits}
use Rattle.welcome.specs.declared.playing.Playing.{Playing}
use Rattle.welcome.specs.Playback.{messages_in}
use Rattle.irc_support.specs.Settings.{is_channel}
use Rattle.welcome.specs.Playing.{apart_groups, apart_lines, around, can_name, firsts, group_key}
use Rattle.welcome.specs.Playing.{is_visiting, sort_of_channels, visit_lines}
use Rattle.welcome.specs.Playing.{group_lines, groups_lines, is_of, is_private, name_by, other_groups}
use Rattle.welcome.specs.Playing.{others_lines, others_played, others_said, places_of, played_by}
use Rattle.welcome.specs.Playing.{said_by}

-- ---- the groups have what the entries have

module _ (Q : EntryParts → Type 0) where
  keyed_each : (key : EntryParts → Text) (ks : List Text) (es : List EntryParts) → Each Q es
      → Each (λ (group : List EntryParts). Each Q group)
      (map (λ k. filter (λ e. same (key e) k) es) ks)
  keyed_each key [] es each = tt
  keyed_each key (k ∷ ks) es each =
      (each_kept Q (λ e. same (key e) k) es each, keyed_each key ks es each)

  pub groups_each : (sort : Sort) (v : View) (es : List EntryParts) → Each Q es
      → Each (λ (group : List EntryParts). Each Q group) (other_groups sort v es)
  groups_each sort v es each =
      keyed_each (group_key sort v) (firsts (group_key sort v) (filter (is_of sort v) es))
      (filter (is_of sort v) es) (each_kept Q (is_of sort v) es each)

-- ---- what the lines say

module _ (v : View) (caps : Caps) where
  -- a JOIN and a PART are no messages
  around_told : (sort : Sort) (name : Text) (lines : List Parts)
      → messages_in (around sort v caps name lines) ≡ messages_in lines
  around_told Channels name lines = refl
  around_told Persons name lines = refl
  around_told Visits name lines = simp (filter-append, append-nil)

  group_told : (sort : Sort) (place : ℕ) (es : List EntryParts) → Each IsMessage es
      → messages_in (group_lines sort v caps place es) ≡ map bare_line es
  group_told sort place [] m = refl
  group_told sort place (e ∷ es) m =
      by (can_name (name_by sort v e)) (around_told sort (name_by sort v e) _
      ∙ backlog_told caps place (name_by sort v e) (e ∷ es) m) (entries_told caps [] (e ∷ es) m) where
        by : (b : Bool) → messages_in (around sort v caps (name_by sort v e)
            (backlog_of caps place (name_by sort v e) (e ∷ es))) ≡ map bare_line (e ∷ es)
            → messages_in (map (entry_line caps []) (e ∷ es)) ≡ map bare_line (e ∷ es)
            → messages_in (cond b (around sort v caps (name_by sort v e)
            (backlog_of caps place (name_by sort v e) (e ∷ es)))
            (map (entry_line caps []) (e ∷ es))) ≡ map bare_line (e ∷ es)
        by true t p = t
        by false t p = p

  groups_told : (sort : Sort) (place : ℕ) (groups : List (List EntryParts))
      → Each (λ (group : List EntryParts). Each IsMessage group) groups
      → messages_in (groups_lines sort v caps place groups)
      ≡ map bare_line (flat_map (λ group. group) groups)
  groups_told sort place [] m = refl
  groups_told sort place (group ∷ groups) m =
      simp (
        filter-append,
        map-append,
        group_told sort place group m.0,
        groups_told sort (place + 1) groups m.1,
      )

  apart_told : (playing : Playing) (first : ℕ) (es : List EntryParts) → Each IsMessage es
      → messages_in (apart_lines playing v caps first es)
      ≡ map bare_line (flat_map (stamped playing.times caps) (apart_groups v es))
  apart_told playing first es m =
      let times = playing.times in
      let channels = other_groups Channels v es in
      let persons = other_groups Persons v es in
      let said = groups_stamped IsMessage message_keeps times caps in
      let one = rw (flat_changed (stamped times caps) channels) at (groups_told
      (sort_of_channels playing v) first (map (stamped times caps) channels)
      (said channels (groups_each IsMessage Channels v es m))) in
      let two = rw (flat_changed (stamped times caps) persons) at (groups_told Persons
      (first + length channels) (map (stamped times caps) persons)
      (said persons (groups_each IsMessage Persons v es m))) in
      simp (filter-append, map-append, flat_map-append, one, two)

module _ (v : View) (caps : Caps) where
  visits_told : (playing : Playing) (es : List EntryParts) → Each IsMessage es
      → messages_in (visit_lines playing v caps es)
      ≡ map bare_line (flat_map (stamped playing.times caps) (other_groups Channels v es)
      ++ stamped playing.times caps (filter (is_of Persons v) es))
  visits_told playing es m =
      let times = playing.times in
      let plain = record caps { batch = false } in
      let channels = other_groups Channels v es in
      let one = rw (flat_changed (stamped times caps) channels) at (groups_told v plain Visits 0
      (map (stamped times caps) channels) (groups_stamped IsMessage message_keeps times caps channels
      (groups_each IsMessage Channels v es m))) in
      let two = entries_told caps [] (stamped times caps (filter (is_of Persons v) es))
      (stamped_each IsMessage message_keeps times caps _
      (each_kept IsMessage (is_of Persons v) es m)) in
      simp (filter-append, map-append, one, two)

  others_told : (playing : Playing) (first : ℕ) (es : List EntryParts) → Each IsMessage es
      → messages_in (others_lines playing v caps first es)
      ≡ map bare_line (others_said playing v caps es)
  others_told playing first es m =
      by (is_private playing caps) (is_visiting playing v) (apart_told v caps playing first es m)
      (visits_told playing es m) (entries_told caps [] (stamped playing.times caps es)
      (stamped_each IsMessage message_keeps playing.times caps es m)) where
        by : (b c : Bool) → messages_in (apart_lines playing v caps first es)
            ≡ map bare_line (flat_map (stamped playing.times caps) (apart_groups v es))
            → messages_in (visit_lines playing v caps es)
            ≡ map bare_line (flat_map (stamped playing.times caps) (other_groups Channels v es)
            ++ stamped playing.times caps (filter (is_of Persons v) es))
            → messages_in (map (entry_line caps []) (stamped playing.times caps es))
            ≡ map bare_line (stamped playing.times caps es)
            → messages_in (cond b (apart_lines playing v caps first es)
            (cond c (visit_lines playing v caps es)
            (map (entry_line caps []) (stamped playing.times caps es)))) ≡ map bare_line
            (cond b (flat_map (stamped playing.times caps) (apart_groups v es))
            (cond c (flat_map (stamped playing.times caps) (other_groups Channels v es)
            ++ stamped playing.times caps (filter (is_of Persons v) es))
            (stamped playing.times caps es)))
        by true c t u p = t
        by false true t u p = u
        by false false t u p = p

  channels_said : (times : Option Offset) (es : List EntryParts) (cs : List (Text × Channel))
      (n : ℕ) → Each IsMessage es → messages_in (flat_map (λ (at : ℕ × (Text × Channel)).
      backlog_of caps at.0 at.1.1.name (stamped times caps (filter (is_for v at.1.0) es)))
      (enumerate_from n cs)) ≡ map bare_line (flat_map (λ (c : Text × Channel).
      stamped times caps (filter (is_for v c.0) es)) cs)
  channels_said times es [] n m = refl
  channels_said times es (c ∷ cs) n m =
      let told = backlog_told caps n c.1.name _ (stamped_each IsMessage message_keeps times caps _
      (each_kept IsMessage (is_for v c.0) es m)) in
      simp (filter-append, map-append, told, channels_said times es cs (n + 1) m)

  pub told_by : (playing : Playing) (es : List EntryParts) → Each IsMessage es
      → messages_in (playback_by playing v caps es) ≡ map bare_line (said_by playing v caps es)
  unfolding playback_by
  told_by playing es m =
      let left = each_kept IsMessage (λ e. not (is_for_a_channel v e)) es m in
      let rest = others_told playing (length (fin.entries v.channels)) _ left in
      let on = channels_said playing.times es (fin.entries v.channels) 0 m in
      simp (filter-append, map-append, on, rest)

-- ---- what holds of the lines

-- an entry for a channel that we are not on
abbrev pub IsElsewhere : View → EntryParts → Type 0
IsElsewhere v e =
    (not (is_for_a_channel v e) ≡ true) × (is_channel v.settings e.target ≡ true)

-- what is asked of an entry that begins a group of this sort
abbrev CanBegin : Sort → View → EntryParts → Type 0
CanBegin Visits v e = IsElsewhere v e
CanBegin Channels v e = Unit {0}
CanBegin Persons v e = Unit {0}

module _ (Q : EntryParts → Type 0) where
  kept_with : (p : EntryParts → Bool) (es : List EntryParts) → Each Q es
      → Each (λ e. Q e × (p e ≡ true)) (filter p es)
  kept_with p [] each = tt
  kept_with p (e ∷ es) each = by (p e) refl (kept_with p es each.1) where
    by : (b : Bool) → p e ≡ b → Each (λ e. Q e × (p e ≡ true)) (filter p es)
        → Each (λ e. Q e × (p e ≡ true)) (cond b (e ∷ filter p es) (filter p es))
    by true h rest = ((each.0, h), rest)
    by false h rest = rest

  weaker : (S : EntryParts → Type 0) → ((e : EntryParts) → S e → Q e) → (es : List EntryParts)
      → Each S es → Each Q es
  weaker S q [] each = tt
  weaker S q (e ∷ es) each = (q e each.0, weaker S q es each.1)

-- lines that have P each give R, which holds of the whole: of lines one after the other, and of
-- those of a visit
module _ (P : Parts → Type 0) (Q : EntryParts → Type 0) (R : List Parts → Type 0)
    (whole : (lines : List Parts) → Each P lines → R lines)
    (more : (a b : List Parts) → R a → R b → R (a ++ b)) (v : View) (caps : Caps) (limit : ℕ)
    (plain : (e : EntryParts) → Q e → P (entry_line caps [] e))
    (batch : (sort : Sort) (place : ℕ) (e : EntryParts) → Q e → place < limit
    → can_name (name_by sort v e) ≡ true → (es : List EntryParts) → Each Q es
    → Each P (backlog_of caps place (name_by sort v e) es))
    (visit : (e : EntryParts) → Q e → IsElsewhere v e → can_name e.target ≡ true
    → (lines : List Parts) → Each P lines → R (around Visits v caps e.target lines)) where
  around_each : (sort : Sort) (e : EntryParts) → Q e → CanBegin sort v e
      → can_name (name_by sort v e) ≡ true → (lines : List Parts) → Each P lines
      → R (around sort v caps (name_by sort v e) lines)
  around_each Channels e q can word lines each = whole lines each
  around_each Persons e q can word lines each = whole lines each
  around_each Visits e q can word lines each = visit e q can word lines each

  module _ (S : EntryParts → Type 0) (sort : Sort) (q : (e : EntryParts) → S e → Q e)
      (can : (e : EntryParts) → S e → CanBegin sort v e) where
    group_each : (place : ℕ) (es : List EntryParts) → place < limit → Each S es
        → R (group_lines sort v caps place es)
    group_each place [] small each = whole [] tt
    group_each place (e ∷ es) small each =
        let all = weaker Q S q (e ∷ es) each in
        by (can_name (name_by sort v e)) (λ word. around_each sort e (q e each.0) (can e each.0) word
        (backlog_of caps place (name_by sort v e) (e ∷ es))
        (batch sort place e (q e each.0) small word (e ∷ es) all))
        (whole _ (mapped Q P (entry_line caps []) plain (e ∷ es) all)) where
          by : (b : Bool) → (b ≡ true → R (around sort v caps (name_by sort v e)
              (backlog_of caps place (name_by sort v e) (e ∷ es))))
              → R (map (entry_line caps []) (e ∷ es))
              → R (cond b (around sort v caps (name_by sort v e)
              (backlog_of caps place (name_by sort v e) (e ∷ es)))
              (map (entry_line caps []) (e ∷ es)))
          by true t p = t refl
          by false t p = p

    lines_each : (place : ℕ) (groups : List (List EntryParts)) → place + length groups ≤ limit
        → Each (λ (group : List EntryParts). Each S group) groups
        → R (groups_lines sort v caps place groups)
    lines_each place [] small each = whole [] tt
    lines_each place (group ∷ groups) small each =
        more (group_lines sort v caps place group) _ (group_each place group
        (omega (small, arith)) each.0) (lines_each (place + 1) groups (omega (small, arith)) each.1)

-- without batches
unbatched : (P : Parts → Type 0) (Q : EntryParts → Type 0) (caps : Caps)
    → ((e : EntryParts) → Q e → P (entry_line caps [] e)) → (place : ℕ) (name : Text)
    (es : List EntryParts) → Each Q es
    → Each P (backlog_of (record caps { batch = false }) place name es)
unbatched P Q caps plain place name [] each = tt
unbatched P Q caps plain place name (e ∷ es) each =
    mapped Q P (entry_line caps []) plain (e ∷ es) each

module _ (P : Parts → Type 0) (Q : EntryParts → Type 0) (R : List Parts → Type 0)
    (whole : (lines : List Parts) → Each P lines → R lines)
    (more : (a b : List Parts) → R a → R b → R (a ++ b)) (v : View) (caps : Caps) (limit : ℕ)
    (plain : (e : EntryParts) → Q e → P (entry_line caps [] e))
    (batch : (sort : Sort) (place : ℕ) (e : EntryParts) → Q e → place < limit
    → can_name (name_by sort v e) ≡ true → (es : List EntryParts) → Each Q es
    → Each P (backlog_of caps place (name_by sort v e) es))
    (visit : (e : EntryParts) → Q e → IsElsewhere v e → can_name e.target ≡ true
    → (lines : List Parts) → Each P lines → R (around Visits v caps e.target lines))
    (keeps : (before : Option Day) (at : Option Minute) (e : EntryParts) → Q e
    → Q (stamped_entry before at e)) (playing : Playing) where
  -- an entry for no channel that we are on, and one for another channel
  abbrev IsOther : EntryParts → Type 0
  IsOther e = Q e × (not (is_for_a_channel v e) ≡ true)

  abbrev IsThere : EntryParts → Type 0
  IsThere e = IsOther e × (is_channel v.settings e.target ≡ true)

  there_keeps : (before : Option Day) (at : Option Minute) (e : EntryParts) → IsThere e
      → IsThere (stamped_entry before at e)
  there_keeps before None e is = is
  there_keeps before (Some at) e is = ((keeps before (Some at) e is.0.0, is.0.1), is.1)

  channels_each : (es : List EntryParts) → Each IsOther es
      → Each (λ (group : List EntryParts). Each IsThere group)
      (map (stamped playing.times caps) (other_groups Channels v es))
  channels_each es each =
      groups_stamped IsThere there_keeps playing.times caps (other_groups Channels v es) (keyed_each
      IsThere (group_key Channels v) (firsts (group_key Channels v) (filter (is_of Channels v) es))
      (filter (is_of Channels v) es) (kept_with IsOther (is_of Channels v) es each))

  can_begin : (e : EntryParts) → IsThere e → CanBegin (sort_of_channels playing v) v e
  can_begin e is = by (is_visiting playing v) where
    by : (b : Bool) → CanBegin (cond b Visits Channels) v e
    by true = (is.0.1, is.1)
    by false = tt

  apart_each : (first : ℕ) (es : List EntryParts)
      → first + length (apart_groups v es) ≤ limit → Each IsOther es
      → R (apart_lines playing v caps first es)
  apart_each first es small each =
      let times = playing.times in
      let channels = other_groups Channels v es in
      let persons = other_groups Persons v es in
      let both = length-append channels persons in
      let one = length-map channels (stamped times caps) in
      let two = length-map persons (stamped times caps) in
      let all = weaker Q IsOther (λ e is. is.0) es each in
      more (groups_lines (sort_of_channels playing v) v caps first (map (stamped times caps) channels)) _
      (lines_each P Q R whole more v caps limit plain batch visit IsThere
      (sort_of_channels playing v) (λ e is. is.0.0) can_begin first
      (map (stamped times caps) channels) (omega (small, both, one, arith)) (channels_each es each))
      (lines_each P Q R whole more v caps limit plain batch visit Q Persons (λ e is. is) (λ e is. tt)
      (first + length channels) (map (stamped times caps) persons)
      (omega (small, both, two, arith)) (groups_stamped Q keeps times caps persons
      (groups_each Q Persons v es all)))

  visits_each : (es : List EntryParts) → Each IsOther es → R (visit_lines playing v caps es)
  visits_each es each =
      let times = playing.times in
      let channels = map (stamped times caps) (other_groups Channels v es) in
      let all = weaker Q IsOther (λ e is. is.0) es each in
      more (groups_lines Visits v (record caps { batch = false }) 0 channels) _
      (lines_each P Q R whole more v (record caps { batch = false }) (length channels) plain
      (λ sort place e is less word. unbatched P Q caps plain place (name_by sort v e)) visit IsThere
      Visits (λ e is. is.0.0) (λ e is. (is.0.1, is.1)) 0 channels (omega arith) (channels_each es each))
      (whole _ (mapped Q P (entry_line caps []) plain _ (stamped_each Q keeps times caps _
      (each_kept Q (is_of Persons v) es all))))

  others_each : (first : ℕ) (es : List EntryParts)
      → first + cond (is_private playing caps) (length (apart_groups v es)) 0 ≤ limit
      → Each IsOther es → R (others_lines playing v caps first es)
  others_each first es small each =
      by (is_private playing caps) (is_visiting playing v) small where
        by : (b c : Bool) → first + cond b (length (apart_groups v es)) 0 ≤ limit
            → R (cond b (apart_lines playing v caps first es)
            (cond c (visit_lines playing v caps es)
            (map (entry_line caps []) (stamped playing.times caps es))))
        by true c s = apart_each first es s each
        by false true s = visits_each es each
        by false false s =
            whole _ (mapped Q P (entry_line caps []) plain _ (stamped_each Q keeps playing.times caps
            es (weaker Q IsOther (λ e is. is.0) es each)))

  pub by_each : (es : List EntryParts) → places_of playing v caps es ≤ limit
      → Each Q es → (At : ℕ × (Text × Channel) → Type 0)
      → Each At (enumerate_from 0 (fin.entries v.channels))
      → ((at : ℕ × (Text × Channel)) → At at → (es : List EntryParts) → Each Q es
      → Each P (backlog_of caps at.0 at.1.1.name es)) → R (playback_by playing v caps es)
  unfolding playback_by
  by_each es small each At all one =
      let said = stamped_each Q keeps playing.times caps in
      more _ _ (whole _ (flat P At (λ at. backlog_of caps at.0 at.1.1.name
      (stamped playing.times caps (filter (is_for v at.1.0) es)))
      (λ at r. one at r _ (said (filter (is_for v at.1.0) es) (each_kept Q (is_for v at.1.0) es each)))
      _ all)) (others_each (length (fin.entries v.channels)) _ small
      (kept_with Q (λ e. not (is_for_a_channel v e)) es each))

-- ---- what is said of each message, in its place

module _ (v : View) (caps : Caps) (playing : Playing) where
  others_are_said : (es : List EntryParts)
      → AreSaidOf (others_played playing v caps es) (others_said playing v caps es)
  others_are_said es = by (is_private playing caps) (is_visiting playing v) where
    by : (b c : Bool) → AreSaidOf (cond b (flat_map (λ group. group) (apart_groups v es))
        (cond c (flat_map (λ group. group) (other_groups Channels v es)
        ++ filter (is_of Persons v) es) es))
        (cond b (flat_map (stamped playing.times caps) (apart_groups v es))
        (cond c (flat_map (stamped playing.times caps) (other_groups Channels v es)
        ++ stamped playing.times caps (filter (is_of Persons v) es)) (stamped playing.times caps es)))
    by true c = all_said playing.times caps (λ (group : List EntryParts). group) (apart_groups v es)
    by false true =
        both_said _ _ _ _ (all_said playing.times caps (λ (group : List EntryParts). group)
        (other_groups Channels v es)) (group_said playing.times caps (filter (is_of Persons v) es))
    by false false = group_said playing.times caps es

  pub said_of_each : (es : List EntryParts)
      → AreSaidOf (played_by playing v caps es) (said_by playing v caps es)
  said_of_each es =
      both_said _ _ _ _ (all_said playing.times caps
      (λ (c : Text × Channel). filter (is_for v c.0) es) (fin.entries v.channels))
      (others_are_said (filter (λ e. not (is_for_a_channel v e)) es))

  -- without times, and with server-time, each text stays as it is
  pub said_without_times : (es : List EntryParts) → playing.times ≡ None
      → said_by playing v caps es ≡ played_by playing v caps es
  said_without_times es h = rw h refl

  channels_untimed : (es : List EntryParts) (cs : List (Text × Channel)) → caps.server_time ≡ true
      → flat_map (λ (c : Text × Channel). stamped playing.times caps (filter (is_for v c.0) es)) cs
      ≡ flat_map (λ (c : Text × Channel). filter (is_for v c.0) es) cs
  channels_untimed es [] h = refl
  channels_untimed es (c ∷ cs) h =
      rw (group_plain playing.times caps h (filter (is_for v c.0) es), channels_untimed es cs h)

  groups_untimed : (groups : List (List EntryParts)) → caps.server_time ≡ true
      → flat_map (stamped playing.times caps) groups ≡ flat_map (λ group. group) groups
  groups_untimed [] h = refl
  groups_untimed (group ∷ groups) h =
      rw (group_plain playing.times caps h group, groups_untimed groups h)

  pub said_with_tags : (es : List EntryParts) → caps.server_time ≡ true
      → said_by playing v caps es ≡ played_by playing v caps es
  said_with_tags es h =
      let left = filter (λ e. not (is_for_a_channel v e)) es in
      rw (
        channels_untimed es (fin.entries v.channels) h,
        groups_untimed (apart_groups v left) h,
        groups_untimed (other_groups Channels v left) h,
        group_plain playing.times caps h (filter (is_of Persons v) left),
        group_plain playing.times caps h left,
      )
