-- What a settings file means as a TOML tree, and its first fault. The format is our own choice.
use Rattle.std.specs.Prelude.{◌≡◌, ◌⊎◌, ℕ, Bool, true, false, pos, List, [], ◌∷◌, ◌++◌, map, Option}
use Rattle.std.specs.Prelude.{Some, None, Result, Ok, Err, unwrap_or, option_and_then, option_map}
use Rattle.std.specs.Prelude.{if◌then◌else◌, IsUtf8, max, ◌/◌, codes}
use Rattle.std.specs.List.{list_any}
use Rattle.std.specs.Option.{option_map_or, option_or}
use Rattle.std.specs.Result.{result_unwrap_or}
use Rattle.std.specs.Str.{bytes_eq}
use Rattle.hex.specs.Hex.{decode_of}
use Rattle.toml.specs.Data.{Data, string, integer, array, table, Items, no_items, item, Members}
use Rattle.toml.specs.Data.{no_members, member, get_member, as_str, as_bool, as_table}
use Rattle.toml.specs.Parse.{parse_document}
use Rattle.bnc_config.specs.Allowed.{all_items, all_members, allows, allows_text, is_optional}
use Rattle.bnc_config.specs.Allowed.{is_text_or_list, is_text_where}
use Rattle.bnc_config.specs.Key.{word_of}
use Rattle.bnc_config.specs.Settings.{Settings, OptionSettings, UserSettings, NetworkSettings}
use Rattle.bnc_config.specs.Settings.{ChannelKey, NetworkOptionSettings, SaslSettings}
use Rattle.bnc_config.specs.Settings.{MessagesSettings, PlaybackSettings, ProfileSettings}
use Rattle.bnc_config.specs.Offset.{offset_of}
use Rattle.bnc_config.specs.Text.{is_channel_key}
use Rattle.bnc_config.specs.declared.fault.ConfigFault.{ConfigFault}
use Rattle.bnc_config.specs.declared.fault.ConfigFault.TheVariants.{NotToml, Missing, BadValue}
use Rattle.bnc_config.specs.declared.fault.ConfigFault.TheVariants.{Twice, OutOfMemory}
use Rattle.bnc_config.specs.declared.key.Key.{Key}
use Rattle.bnc_config.specs.declared.utc_offset.UtcOffset.{UtcOffset}
use Rattle.bnc_config.specs.declared.key.Key.TheVariants.{Listen, History, Retry, User, Kept}
use Rattle.bnc_config.specs.declared.key.Key.TheVariants.{Memory, Metrics, ListenProxy, Proxies}
use Rattle.bnc_config.specs.declared.key.Key.TheVariants.{Messages, MessagesCtcp}
use Rattle.bnc_config.specs.declared.key.Key.TheVariants.{MessagesServerNotices, MessagesNever}
use Rattle.bnc_config.specs.declared.key.Key.TheVariants.{MessagesToSelf, MessagesByPerson}
use Rattle.bnc_config.specs.declared.key.Key.TheVariants.{Playback, PlaybackPrivateBatches}
use Rattle.bnc_config.specs.declared.key.Key.TheVariants.{PlaybackTimes, PlaybackVisits}
use Rattle.bnc_config.specs.declared.key.Key.TheVariants.{PlaybackWait, UserName, UserSalt}
use Rattle.bnc_config.specs.declared.key.Key.TheVariants.{UserPassword, UserNetwork, NetworkName}
use Rattle.bnc_config.specs.declared.key.Key.TheVariants.{NetworkAddress, NetworkNick, NetworkUser}
use Rattle.bnc_config.specs.declared.key.Key.TheVariants.{NetworkRealname, NetworkPassword}
use Rattle.bnc_config.specs.declared.key.Key.TheVariants.{NetworkJoin, NetworkSasl, NetworkSaslUser}
use Rattle.bnc_config.specs.declared.key.Key.TheVariants.{NetworkSaslPassword, NetworkOnConnect}
use Rattle.bnc_config.specs.declared.key.Key.TheVariants.{NetworkJoinAfter, NetworkKeys}
use Rattle.bnc_config.specs.declared.key.Key.TheVariants.{NetworkNicks, NetworkAway}

-- ---- the first fault

-- the fault of the value at a key, or of its absence
abbrev pub fault_at : Key → Bool → (Data → Bool) → Option Data → Option ConfigFault
fault_at key optional allowed None = if optional then None else Some (Missing key)
fault_at key optional allowed (Some value) = if allowed value then None else Some (BadValue key)

abbrev pub key_fault : Members → Key → Option ConfigFault
key_fault tree key = fault_at key (is_optional key) (allows key) (get_member (word_of key) tree)

-- the first fault of a table's keys, in this order
abbrev pub keys_fault : List Key → Members → Option ConfigFault
keys_fault [] tree = None
keys_fault (key ∷ keys) tree = option_or (key_fault tree key) (keys_fault keys tree)

-- the keys of the top, the later ones there, those of what is kept and of the playback, and the keys
-- of a user and of a network and the later ones of that, in the order of the checks
abbrev pub top_keys : List Key
top_keys = Listen ∷ History ∷ Retry ∷ []

abbrev pub option_keys : List Key
option_keys = Kept ∷ Memory ∷ Metrics ∷ ListenProxy ∷ Proxies ∷ []

abbrev pub message_keys : List Key
message_keys =
    MessagesCtcp ∷ MessagesServerNotices ∷ MessagesNever ∷ MessagesToSelf ∷ MessagesByPerson ∷ []

abbrev pub playback_keys : List Key
playback_keys = PlaybackPrivateBatches ∷ PlaybackTimes ∷ PlaybackVisits ∷ PlaybackWait ∷ []

abbrev pub user_keys : List Key
user_keys = UserName ∷ UserSalt ∷ UserPassword ∷ UserNetwork ∷ []

abbrev pub network_keys : List Key
network_keys =
    NetworkName ∷ NetworkAddress ∷ NetworkNick ∷ NetworkUser ∷ NetworkRealname ∷ NetworkPassword ∷
    NetworkJoin ∷ []

abbrev pub network_option_keys : List Key
network_option_keys =
    NetworkOnConnect ∷ NetworkJoinAfter ∷ NetworkKeys ∷ NetworkNicks ∷ NetworkAway ∷ []

abbrev pub optional_table_at : Key → Members → Option Members
optional_table_at key tree = option_and_then as_table (get_member (word_of key) tree)

-- the table at a key, empty if there is none
abbrev pub table_at : Key → Members → Members
table_at key tree = unwrap_or (optional_table_at key tree) no_members

-- the first fault of a table: that it is none, then of its keys
abbrev pub table_fault : Key → List Key → Members → Option ConfigFault
table_fault key keys tree = option_or (key_fault tree key) (keys_fault keys (table_at key tree))

-- the first fault of the tables of what is kept and of the playback
abbrev pub profile_fault : Members → Option ConfigFault
profile_fault tree =
    option_or (table_fault Messages message_keys tree) (table_fault Playback playback_keys tree)

abbrev pub optional_text_at : Key → Members → Option (List ℕ)
optional_text_at key tree = option_and_then as_str (get_member (word_of key) tree)

-- the mechanism is PLAIN
abbrev pub has_plain : Members → Bool
has_plain tree = option_map_or (bytes_eq (codes "PLAIN")) (optional_text_at NetworkSasl tree) false

-- the key may have no value
abbrev pub barred_fault : Members → Key → Option ConfigFault
barred_fault tree key = fault_at key true (λ _. false) (get_member (word_of key) tree)

-- the first fault of the keys of a login by SASL: of its mechanism, then of the account's name and
-- password, which PLAIN alone has
abbrev pub sasl_fault : Members → Option ConfigFault
sasl_fault tree = option_or (key_fault tree NetworkSasl)
    (if has_plain tree
    then option_or (key_fault tree NetworkSaslUser) (key_fault tree NetworkSaslPassword)
    else option_or (barred_fault tree NetworkSaslUser) (barred_fault tree NetworkSaslPassword))

-- the first fault of the later keys of a network: of a login by SASL, then of the options
abbrev pub later_fault : Members → Option ConfigFault
later_fault tree = option_or (sasl_fault tree) (keys_fault network_option_keys tree)

-- the name is earlier in the same list, byte for byte
abbrev pub twice_fault : List (List ℕ) → List ℕ → Option ConfigFault
twice_fault earlier name = if list_any (bytes_eq name) earlier then Some (Twice name) else None

-- the text at a key, empty if there is none
abbrev pub text_at : Key → Members → List ℕ
text_at key tree = unwrap_or (option_and_then as_str (get_member (word_of key) tree)) []

-- the items of a list, none if there is no list
abbrev pub items_of : Option Data → Items
items_of (Some (array items)) = items
items_of _ = no_items

abbrev pub tables_of : Items → List Members
tables_of no_items = []
tables_of (item (table tree) items) = tree ∷ tables_of items
tables_of (item _ items) = tables_of items

-- the tables of the list at a key
abbrev pub tables_at : Key → Members → List Members
tables_at key tree = tables_of (items_of (get_member (word_of key) tree))

-- the first fault of a network that comes after networks of these names: of its keys, then that its
-- name is an earlier one's
abbrev pub network_fault : List (List ℕ) → Members → Option ConfigFault
network_fault earlier tree =
    option_or (keys_fault network_keys tree)
    (option_or (later_fault tree) (twice_fault earlier (text_at NetworkName tree)))

-- the first fault of networks, each after those before it
abbrev pub networks_fault : List (List ℕ) → List Members → Option ConfigFault
networks_fault earlier [] = None
networks_fault earlier (tree ∷ rest) =
    option_or (network_fault earlier tree)
    (networks_fault (earlier ++ text_at NetworkName tree ∷ []) rest)

-- the first fault of a user: of its keys, then of its name, then of its networks
abbrev pub user_fault : List (List ℕ) → Members → Option ConfigFault
user_fault earlier tree = option_or (keys_fault user_keys tree)
    (option_or (twice_fault earlier (text_at UserName tree))
    (networks_fault [] (tables_at UserNetwork tree)))

abbrev pub users_fault : List (List ℕ) → List Members → Option ConfigFault
users_fault earlier [] = None
users_fault earlier (tree ∷ rest) =
    option_or (user_fault earlier tree) (users_fault (earlier ++ text_at UserName tree ∷ []) rest)

-- the first fault of the list of users, then of these
abbrev pub users_fault_at : Members → Option ConfigFault
users_fault_at tree = option_or (key_fault tree User) (users_fault [] (tables_at User tree))

-- the first fault of a file: of the keys at its top, then of its two tables, then of its users
abbrev pub first_fault : Members → Option ConfigFault
first_fault tree = option_or (keys_fault top_keys tree)
    (option_or (keys_fault option_keys tree) (option_or (profile_fault tree) (users_fault_at tree)))

-- ---- what the file means

-- the number at a key, and the default if there is none
abbrev pub number_or : ℕ → Option Data → ℕ
number_or default (Some (integer (pos n))) = n
number_or default _ = default

abbrev pub number_at : ℕ → Key → Members → ℕ
number_at default key tree = number_or default (get_member (word_of key) tree)

abbrev pub texts_of : Items → List (List ℕ)
texts_of no_items = []
texts_of (item (string text) items) = text ∷ texts_of items
texts_of (item _ items) = texts_of items

abbrev pub texts_at : Key → Members → List (List ℕ)
texts_at key tree = texts_of (items_of (get_member (word_of key) tree))

-- the texts of a list, if the key is there
abbrev pub optional_texts_at : Key → Members → Option (List (List ℕ))
optional_texts_at key tree =
    option_map (λ value. texts_of (items_of (Some value))) (get_member (word_of key) tree)

-- one text, or the texts of a list
abbrev pub texts_in : Data → List (List ℕ)
texts_in (string text) = text ∷ []
texts_in (array items) = texts_of items
texts_in _ = []

-- the addresses at a key
abbrev pub addresses_at : Key → Members → List (List ℕ)
addresses_at key tree = option_map_or texts_in (get_member (word_of key) tree) []

-- the texts of a table under their names, in the order of the names' bytes
abbrev pub pairs_of : Members → List ChannelKey
pairs_of no_members = []
pairs_of (member name (string text) members) = (name, text) ∷ pairs_of members
pairs_of (member name _ members) = pairs_of members

-- the members of a table, none if there is no table
abbrev pub members_of : Option Data → Members
members_of (Some (table members)) = members
members_of _ = no_members

abbrev pub channel_keys_at : Members → List ChannelKey
channel_keys_at tree = pairs_of (members_of (get_member (word_of NetworkKeys) tree))

-- the flag at a key, and the default if there is none
abbrev pub flag_or : Bool → Key → Members → Bool
flag_or default key tree =
    unwrap_or (option_and_then as_bool (get_member (word_of key) tree)) default

-- the bytes that the text at a key has in hexadecimal digits
abbrev pub bytes_at : Key → Members → List ℕ
bytes_at key tree = result_unwrap_or (decode_of (text_at key tree)) []

-- the login by SASL of a network with this nick: the account's name is the nick if the file does
-- not say
abbrev pub sasl_of : List ℕ → Members → Option SaslSettings
sasl_of nick tree = if has_plain tree
    then Some (Some (
      unwrap_or (optional_text_at NetworkSaslUser tree) nick,
      text_at NetworkSaslPassword tree,
    ))
    else option_map (λ _. None) (optional_text_at NetworkSasl tree)

abbrev pub network_options_in : Members → NetworkOptionSettings
network_options_in tree = record {
  on_connect = texts_at NetworkOnConnect tree;
  join_after = number_at 3 NetworkJoinAfter tree;
  keys = channel_keys_at tree;
  nicks = optional_texts_at NetworkNicks tree;
  away = flag_or false NetworkAway tree;
}

abbrev pub network_in : Members → NetworkSettings
network_in tree = record {
  name = text_at NetworkName tree;
  address = text_at NetworkAddress tree;
  nick = text_at NetworkNick tree;
  user = text_at NetworkUser tree;
  realname = text_at NetworkRealname tree;
  password = optional_text_at NetworkPassword tree;
  join = texts_at NetworkJoin tree;
  sasl = sasl_of (text_at NetworkNick tree) tree;
  options = network_options_in tree;
}

abbrev pub user_in : Members → UserSettings
user_in tree = record {
  name = text_at UserName tree;
  salt = bytes_at UserSalt tree;
  digest = bytes_at UserPassword tree;
  networks = map network_in (tables_at UserNetwork tree);
}

-- the memory of a network in MiB if the file does not say: 64, or a sixteenth of the history if that
-- is more
abbrev pub default_memory : ℕ → ℕ
default_memory history = max 64 (history / 16)

-- the options at the top, with a history of this many messages
abbrev pub options_in : ℕ → Members → OptionSettings
options_in history tree = record {
  kept = optional_text_at Kept tree;
  memory = number_at (default_memory history) Memory tree;
  metrics = optional_text_at Metrics tree;
  listen_proxy = addresses_at ListenProxy tree;
  proxies = optional_texts_at Proxies tree;
}

abbrev pub messages_in : Members → MessagesSettings
messages_in tree = record {
  ctcp = flag_or true MessagesCtcp tree;
  server_notices = flag_or true MessagesServerNotices tree;
  never = texts_at MessagesNever tree;
  to_self = flag_or true MessagesToSelf tree;
  by_person = flag_or false MessagesByPerson tree;
}

abbrev pub offset_at : Members → Option UtcOffset
offset_at tree = option_and_then offset_of (optional_text_at PlaybackTimes tree)

abbrev pub playback_in : Members → PlaybackSettings
playback_in tree = record {
  private_batches = flag_or false PlaybackPrivateBatches tree;
  times = offset_at tree;
  visits = flag_or false PlaybackVisits tree;
  wait = number_at 0 PlaybackWait tree;
}

-- what the two tables mean; a table that is left out means what an empty one does
abbrev pub profile_in : Members → ProfileSettings
profile_in tree = record {
  messages = messages_in (table_at Messages tree);
  playback = playback_in (table_at Playback tree);
}

-- the settings that a file without a fault means; other keys are not looked at
abbrev pub settings_in : Members → Settings
settings_in tree = record {
  listens = addresses_at Listen tree;
  history = number_at 500 History tree;
  retry = number_at 30 Retry tree;
  options = options_in (number_at 500 History tree) tree;
  profile = profile_in tree;
  users = map user_in (tables_at User tree);
}

-- ---- what is answered

-- the text is UTF-8, and by the grammar of TOML this tree
abbrev pub IsTree : List ℕ → Members → Type 0
IsTree text tree = IsUtf8 text × (parse_document text ≡ Some tree)

-- the text means these settings: it is a tree without a fault
abbrev pub Means : List ℕ → Settings → Type 0
Means text settings =
    (tree : Members) × IsTree text tree × (first_fault tree ≡ None) × (settings ≡ settings_in tree)

-- this is the first fault of the text, of those that a tree can have; running out of memory is a
-- fault of no text
abbrev pub IsFaultBy : (Members → Option ConfigFault) → List ℕ → ConfigFault → Type 0
IsFaultBy first text OutOfMemory = Unit {0}
IsFaultBy first text NotToml = (tree : Members) → IsTree text tree → ⊥
IsFaultBy first text fault = (tree : Members) × IsTree text tree × (first tree ≡ Some fault)

abbrev pub IsFaultOf : List ℕ → ConfigFault → Type 0
IsFaultOf = IsFaultBy first_fault

-- the same for a text of which only the two tables are read
abbrev pub MeansProfile : List ℕ → ProfileSettings → Type 0
MeansProfile text profile =
    (tree : Members) × IsTree text tree × (profile_fault tree ≡ None) × (profile ≡ profile_in tree)

abbrev pub IsProfileFaultOf : List ℕ → ConfigFault → Type 0
IsProfileFaultOf = IsFaultBy profile_fault

-- what is read of a part of a tree: seen as what the part means if it has no fault, else the
-- part's first fault; running out of memory may come in place of either
abbrev pub Reads : {T V : Type 0} → (T → V) → Result T ConfigFault → Option ConfigFault → V → Type 0
Reads seen (Ok value) fault meant = (fault ≡ None) × (seen value ≡ meant)
Reads seen (Err e) fault meant = (e ≡ OutOfMemory) ⊎ (fault ≡ Some e)

-- copies of the texts of a list if the key allows them all, else nothing
abbrev pub AreCopied : Key → Items → Option (List (List ℕ)) → Type 0
AreCopied key items None = all_items (is_text_where (allows_text key)) items ≡ false
AreCopied key items (Some texts) =
    (all_items (is_text_where (allows_text key)) items ≡ true) × (texts ≡ texts_of items)

-- copies of the texts of a value, one or a list of one to this many, if the key allows them all,
-- else nothing
abbrev pub AreAddresses : Key → ℕ → Data → Option (List (List ℕ)) → Type 0
AreAddresses key most value None = is_text_or_list (allows_text key) most value ≡ false
AreAddresses key most value (Some texts) =
    (is_text_or_list (allows_text key) most value ≡ true) × (texts ≡ texts_in value)

-- copies of the texts of a table with their names if they all are channels' keys, else nothing
abbrev pub ArePairs : Members → Option (List ChannelKey) → Type 0
ArePairs members None = all_members (is_text_where is_channel_key) members ≡ false
ArePairs members (Some pairs) =
    (all_members (is_text_where is_channel_key) members ≡ true) × (pairs ≡ pairs_of members)
