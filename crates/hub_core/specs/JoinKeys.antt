-- The keys by which channels were asked to be joined, and which keys the network confirmed (RFC
-- 2812, section 3.2.1).
use Rattle.std.specs.Prelude.{◌==◌, Bool, false, ◌&&◌, ◌||◌, not, List, [], ◌∷◌, ◌++◌}
use Rattle.std.specs.Prelude.{find, filter, map, length, slice_get, nat_lt, if◌then◌else◌}
use Rattle.std.specs.List.{list_any, slice_split}
use Rattle.std.specs.Option.{option_map, option_map_or}
use Rattle.std.proofs.Common.{Option, Some, None}
use Rattle.irc_line.specs.Line.{Parts}
use Rattle.irc_names.specs.CaseMapping.{key_of}
use Rattle.irc_names.specs.declared.case_mapping.CaseMapping.{CaseMapping}
use Rattle.irc_support.specs.Settings.{key_by}
use Rattle.irc_support.specs.Text.{Text, has_byte, is_word}
use Rattle.net_view.specs.Arrival.{Arrival, Received, Lost}
use Rattle.net_view.specs.Names.{same}
use Rattle.net_view.specs.StateLines.{told}
use Rattle.net_view.specs.Step.{standing_of}
use Rattle.net_view.specs.Told.{Told, Joined, Parted, Kicked, Quits, Changed, Listed}
use Rattle.net_view.specs.Transcript.{is_us}
use Rattle.net_view.specs.View.{View}
use Rattle.hub_core.specs.declared.join_keys.JoinKey.{JoinKey}
use Rattle.hub_core.specs.declared.key_news.KeyNews.{KeyNews}
use Rattle.hub_core.specs.declared.key_news.KeyNews.TheVariants as news

-- a channel with the key that was named for it, and whether our JOIN of it came since
pub record JoinKeyParts : Type 0 where
  pub name : Text
  pub key : Text
  pub known : Bool

-- ---- what a JOIN asks for

-- the items of a list, which commas part; none if there is no list
abbrev pub items_of : Option Text → List Text
items_of None = []
items_of (Some list) = slice_split (λ b. b == 44) list

-- the key that comes first; none if it can't be in a list again, as an empty one (our own choice)
abbrev pub first_key : List Text → Option Text
first_key [] = None
first_key (key ∷ keys) = if is_word key then Some key else None

-- those after it
abbrev pub later_keys : List Text → List Text
later_keys [] = []
later_keys (key ∷ keys) = keys

-- the first key is for the first channel, and so on
abbrev pub paired : List Text → List Text → List (Text × Option Text)
paired [] keys = []
paired (name ∷ names) keys = (name, first_key keys) ∷ paired names (later_keys keys)

-- the channels of a JOIN, each with its key if it has one
abbrev pub joined_in : Parts → List (Text × Option Text)
joined_in line = paired (items_of (slice_get line.params 0)) (items_of (slice_get line.params 1))

-- ---- what is kept of it

-- whether a channel has this name
abbrev pub is_one : CaseMapping → Text → Text → Bool
is_one mapping name other = same (key_of mapping other) (key_of mapping name)

-- those that the network has not confirmed
abbrev pub asked_among : List JoinKeyParts → List JoinKeyParts
asked_among keys = filter (λ k. not k.known) keys

-- without the first of them
abbrev pub without_oldest : List JoinKeyParts → List JoinKeyParts
without_oldest [] = []
without_oldest (k ∷ keys) = if k.known then k ∷ without_oldest keys else keys

-- at most 63 of them stay (our own choice)
abbrev pub with_room : List JoinKeyParts → List JoinKeyParts
with_room keys = if nat_lt (length (asked_among keys)) 64 then keys else without_oldest keys

-- what was asked for a channel before no longer counts
abbrev pub unasked : (Text → Bool) → List JoinKeyParts → List JoinKeyParts
unasked named keys = filter (λ k. not (not k.known && named k.name)) keys

-- one key more that is asked for
abbrev pub with_key : Text → Option Text → List JoinKeyParts → List JoinKeyParts
with_key name None keys = keys
with_key name (Some key) keys =
    with_room keys ++ record { name = name; key = key; known = false } ∷ []

-- after a channel of a JOIN
abbrev pub ask : CaseMapping → Text × Option Text → List JoinKeyParts → List JoinKeyParts
ask mapping c keys = with_key c.0 c.1 (unasked (is_one mapping c.0) keys)

-- after all of them
abbrev pub ask_all : CaseMapping → List (Text × Option Text) → List JoinKeyParts
    → List JoinKeyParts
ask_all mapping [] keys = keys
ask_all mapping (c ∷ channels) keys = ask_all mapping channels (ask mapping c keys)

-- ---- what the network says about it

-- what is known of a channel is forgotten
abbrev pub unknown : (Text → Bool) → List JoinKeyParts → List JoinKeyParts
unknown named keys = filter (λ k. not (k.known && named k.name)) keys

-- it is known from here on, if it is of a channel that is named
abbrev pub known_if : (Text → Bool) → JoinKeyParts → JoinKeyParts
known_if named k = record k { known = k.known || named k.name }

-- our JOIN of a channel confirms what was asked for it, in place of what was known
abbrev pub confirmed : (Text → Bool) → List JoinKeyParts → List JoinKeyParts
confirmed named keys =
    if list_any (λ k. not k.known && named k.name) keys
    then map (known_if named) (unknown named keys) else keys

-- what was not confirmed is forgotten
abbrev pub known_among : List JoinKeyParts → List JoinKeyParts
known_among keys = filter (λ k. k.known) keys

-- ---- the items of the network

-- whether a channel of this name has this key of names
abbrev pub is_called : View → Text → Text → Bool
is_called v c name = same (key_by v.settings name) c

-- whether the letters of a MODE have k (RFC 2811, section 4.2.10; the letter is the byte 107)
abbrev pub has_key_letter : Parts → Bool
has_key_letter line =
    option_map_or (λ letters. has_byte letters 107) (slice_get line.params 1) false

-- After what a line says: our JOIN confirms. Our PART, a KICK of us and our QUIT end what is known
-- (RFC 2812, sections 3.2.1, 3.2.2, 3.2.8 and 3.1.7), and so do a MODE with k and a 324, by which the
-- view knows the key (sections 3.2.3 and 5.1).
abbrev pub keys_told : View → Parts → Told → List JoinKeyParts → List JoinKeyParts
keys_told v line (Joined channel valid who account) keys =
    if is_us (standing_of v) who.key && valid then confirmed (is_called v channel.key) keys else keys
keys_told v line (Parted channel who) keys =
    if is_us (standing_of v) who then unknown (is_called v channel) keys else keys
keys_told v line (Kicked channel who) keys =
    if is_us (standing_of v) who then unknown (is_called v channel) keys else keys
keys_told v line (Quits who) keys = if is_us (standing_of v) who then asked_among keys else keys
keys_told v line (Changed channel letters modes) keys =
    if has_key_letter line then unknown (is_called v channel) keys else keys
keys_told v line (Listed channel modes) keys = unknown (is_called v channel) keys
keys_told v line _ keys = keys

-- after an item, by the view before it
abbrev pub keys_heard : View → Arrival → List JoinKeyParts → List JoinKeyParts
keys_heard v Lost keys = known_among keys
keys_heard v (Received line) keys = keys_told v line (told v.settings (Received line)) keys

-- the same by the news about it
abbrev pub news_heard : KeyNews → List JoinKeyParts → List JoinKeyParts
news_heard news.Nothing keys = keys
news_heard (news.Joined mapping channel) keys = confirmed (is_one mapping channel.now) keys
news_heard (news.Outdated mapping channel) keys = unknown (is_one mapping channel.now) keys
news_heard news.AllOutdated keys = asked_among keys
news_heard news.Lost keys = known_among keys

-- the key of a channel that is known
abbrev pub known_key : CaseMapping → Text → List JoinKeyParts → Option Text
known_key mapping name keys =
    option_map (λ k. k.key) (find (λ k. k.known && is_one mapping name k.name) keys)

-- ---- what contracts see

abbrev pub join_key : JoinKey → JoinKeyParts
join_key k = record { name = k.name.items; key = k.key.items; known = k.is_known }

abbrev pub join_keys : List JoinKey → List JoinKeyParts
join_keys keys = map join_key keys
