-- What comes before a place, and the next; the channels, place by place.
use Rattle.net_view.specs.declared.channel.Channel as lend
pub use Rattle.net_view.proofs.Walks.{letter_at_place, mode_here}
use Rattle.welcome.proofs.Words
use Words.{◌++◌, ◌+◌, ◌∷◌, ◌≡◌, Bor, Caps, Channel, List, None, Option, Parts, Some, Text, View, []}
use Words.{append-nil, append_assoc, arith, channel_lines, channel_shown, channels_shown, entries}
use Words.{flat_map, flat_map-append, is_short, join_line, lent, listing_lines, map, member_word}
use Words.{members_at, mode_lines, name_row, names_end, option_map, option_to_list, refl, rows_of}
use Words.{slice_get, take, take_all, take_more, topic_lines, written, ℕ}
use Rattle.std.{proofs.lemmas.Option.slice_get_cases, specs.Option.option_map_or}

-- the items before the next place
pub take_next : {X : Type 0} (xs : List X) (i : ℕ)
    → take (i + 1) xs ≡ take i xs ++ option_to_list (slice_get xs i)
take_next xs i =
    grind
    (arith, slice_get_cases xs i, take_more xs i, take_all (i + 1) xs, take_all i xs, append-nil)

-- what the items before the next place give
pub flat_next : {X Y : Type 0} (f : X → List Y) (xs : List X) (i : ℕ) → flat_map f
    (take (i + 1) xs) ≡ flat_map f (take i xs) ++ flat_map f (option_to_list (slice_get xs i))
flat_next f xs i = rw (take_next xs i, flat_map-append)

-- a mode: its letter and its parameter
abbrev pub Mode : Type 0
Mode = ℕ × Option Text

-- ---- the channels, place by place

-- the bytes of a channel's lines, by these
abbrev pub channel_said : (Channel → List Parts) → Option Channel → List ℕ
channel_said lines o = option_map_or (λ (ch : Channel). flat_map written (lines ch)) o []

-- the bytes of the channels before a place
unfoldable pub channels_before : (Channel → List Parts) → View → ℕ → List ℕ
channels_before lines v i =
    flat_map written (flat_map (λ (e : Text × Channel). lines e.1) (take i (entries v.channels)))

pub channels_begin : (lines : Channel → List Parts) (v : View) → channels_before lines v 0 ≡ []
unfolding channels_before
channels_begin lines v = refl

pub channels_next : (lines : Channel → List Parts) (v : View) (i : ℕ) → channels_before lines v
    (i + 1) ≡ channels_before lines v i ++ channel_said lines (channel_shown v i)
unfolding channels_before
channels_next lines v i =
    let next = flat_next (λ (e : Text × Channel). lines e.1) (entries v.channels) i in
    grind (arith, next, flat_map-append, append-nil)

pub channels_all : (lines : Channel → List Parts) (v : View) (i : ℕ) → i ≡ channels_shown v
    → channels_before lines v i
    ≡ flat_map written (flat_map (λ (e : Text × Channel). lines e.1) (entries v.channels))
unfolding channels_before
channels_all lines v i e = rw (take_all i (entries v.channels) (omega arith))

-- a loop over the channels
pub ruleset channel_steps = (channels_begin, channels_next, channels_all, append_assoc, append-nil)

-- ---- one channel's lines, from its lent parts

-- the members of what is lent of a channel, and their end
abbrev pub listing_lent : View → Caps → Channel → List (Text × List ℕ) → List Parts
listing_lent v caps ch members =
    map (name_row v ch.name) (rows_of is_short (map (member_word v caps.multi_prefix) members))
    ++ names_end v ch ∷ []

pub lines_of_lent : (v : View) (caps : Caps) (channel : lend.Channel) (o : Option Channel)
    → Some channel.name.now ≡ option_map (λ (ch : Channel). ch.name) o
    → Some (option_map (λ (topic : Bor Text). topic.now) channel.topic)
    ≡ option_map (λ (ch : Channel). ch.topic) o → flat_map written (join_line v caps
    (lent channel) ∷ (topic_lines v (lent channel) ++ (mode_lines v (lent channel) (option_map_or
    (λ (ch : Channel). entries ch.modes) o []) ++ listing_lent v caps (lent channel) (option_map_or
    (λ (ch : Channel). entries ch.members) o [])))) ≡ channel_said (channel_lines v caps) o
lines_of_lent v caps channel None n t = cc
lines_of_lent v caps channel (Some ch) n t =
    let name : channel.name.now ≡ ch.name = cc in
    let topic : option_map (λ (topic : Bor Text). topic.now) channel.topic ≡ ch.topic = cc in
    simp (name, topic)

pub listing_of_lent : (v : View) (caps : Caps) (i : ℕ) (channel : lend.Channel)
    → Some channel.name.now ≡ option_map (λ (ch : Channel). ch.name) (channel_shown v i) →
    flat_map written (listing_lent v caps (lent channel) (members_at v i))
    ≡ channel_said (listing_lines v caps) (channel_shown v i)
listing_of_lent v caps i channel n = grind (arith, n)
