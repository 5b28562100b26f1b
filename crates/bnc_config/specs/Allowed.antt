-- Which values a key of a settings file allows. The format is our own choice.
use Rattle.std.specs.Prelude.{ℕ, suc, Bool, true, false, ◌&&◌, nat_le, pos, List, is_some}
use Rattle.irc_names.specs.Nick.{is_nameable}
use Rattle.toml.specs.Data.{Data, string, integer, array, table, Items, no_items, item, Members}
use Rattle.toml.specs.Data.{no_members, member, as_bool, as_table}
use Rattle.bnc_config.specs.Offset.{is_offset}
use Rattle.bnc_config.specs.Text.{is_name, is_word, is_one_line, is_path, is_address}
use Rattle.bnc_config.specs.Text.{is_account_password, is_channel_key, is_ip, is_mechanism}
use Rattle.bnc_config.specs.Text.{is_hexadecimal, is_digest}
use Rattle.bnc_config.specs.Command.{is_sent_at_connect}
use Rattle.bnc_config.specs.declared.key.Key.{Key}
use Rattle.bnc_config.specs.declared.key.Key.TheVariants.{Listen, History, Retry, User, Kept}
use Rattle.bnc_config.specs.declared.key.Key.TheVariants.{Memory, Metrics, ListenProxy, Proxies}
use Rattle.bnc_config.specs.declared.key.Key.TheVariants.{Messages, MessagesCtcp}
use Rattle.bnc_config.specs.declared.key.Key.TheVariants.{MessagesServerNotices, MessagesNever}
use Rattle.bnc_config.specs.declared.key.Key.TheVariants.{MessagesToSelf, MessagesByPerson}
use Rattle.bnc_config.specs.declared.key.Key.TheVariants.{Playback, PlaybackPrivateBatches}
use Rattle.bnc_config.specs.declared.key.Key.TheVariants.{PlaybackTimes, PlaybackVisits}
use Rattle.bnc_config.specs.declared.key.Key.TheVariants.{PlaybackWait, UserName, UserSalt}
use Rattle.bnc_config.specs.declared.key.Key.TheVariants.{UserPassword, UserNetwork, NetworkName}
use Rattle.bnc_config.specs.declared.key.Key.TheVariants.{NetworkAddress, NetworkNick, NetworkUser}
use Rattle.bnc_config.specs.declared.key.Key.TheVariants.{NetworkRealname, NetworkPassword}
use Rattle.bnc_config.specs.declared.key.Key.TheVariants.{NetworkJoin, NetworkSasl, NetworkSaslUser}
use Rattle.bnc_config.specs.declared.key.Key.TheVariants.{NetworkSaslPassword, NetworkOnConnect}
use Rattle.bnc_config.specs.declared.key.Key.TheVariants.{NetworkJoinAfter, NetworkKeys}
use Rattle.bnc_config.specs.declared.key.Key.TheVariants.{NetworkNicks, NetworkAway}

-- a text that passes the test
abbrev pub is_text_where : (List ℕ → Bool) → Data → Bool
is_text_where test (string text) = test text
is_text_where test _ = false

-- an integer within the two bounds
abbrev pub is_number_within : ℕ → ℕ → Data → Bool
is_number_within low high (integer (pos n)) = nat_le low n && nat_le n high
is_number_within low high _ = false

abbrev pub is_table : Data → Bool
is_table value = is_some (as_table value)

abbrev pub all_items : (Data → Bool) → Items → Bool
all_items test no_items = true
all_items test (item value items) = test value && all_items test items

abbrev pub item_count : Items → ℕ
item_count no_items = 0
item_count (item value items) = suc (item_count items)

-- a list of at most this many values, each of which passes the test
abbrev pub is_list_where : (Data → Bool) → Data → Bool
is_list_where test (array items) = all_items test items
is_list_where test _ = false

abbrev pub has_at_most : ℕ → Data → Bool
has_at_most most (array items) = nat_le (item_count items) most
has_at_most most _ = false

-- a list of at most this many texts, each of which passes the test
abbrev pub is_text_list : (List ℕ → Bool) → ℕ → Data → Bool
is_text_list test most value = is_list_where (is_text_where test) value && has_at_most most value

-- a text that passes the test, or a list of such texts, of one to this many
abbrev pub is_text_or_list : (List ℕ → Bool) → ℕ → Data → Bool
is_text_or_list test most (string text) = test text
is_text_or_list test most (array items) =
    all_items (is_text_where test) items
    && (nat_le 1 (item_count items) && nat_le (item_count items) most)
is_text_or_list test most _ = false

abbrev pub all_members : (Data → Bool) → Members → Bool
all_members test no_members = true
all_members test (member name value members) = test value && all_members test members

abbrev pub member_count : Members → ℕ
member_count no_members = 0
member_count (member name value members) = suc (member_count members)

-- a table of at most this many texts, each of which passes the test, under any names
abbrev pub is_text_table : (List ℕ → Bool) → ℕ → Data → Bool
is_text_table test most (table members) =
    nat_le (member_count members) most && all_members (is_text_where test) members
is_text_table test most _ = false

-- `true` or `false`
abbrev pub is_flag : Data → Bool
is_flag value = is_some (as_bool value)

-- the texts that a key, or each item of its list or table, allows: a key with no texts, or hexadecimal ones,
-- has none here
abbrev pub allows_text : Key → List ℕ → Bool
allows_text Listen = is_address
allows_text Kept = is_path
allows_text Metrics = is_path
allows_text ListenProxy = is_address
allows_text Proxies = is_ip
allows_text MessagesNever = is_word
allows_text PlaybackTimes = is_offset
allows_text UserName = is_name
allows_text NetworkName = is_name
allows_text NetworkAddress = is_address
allows_text NetworkNick = is_nameable
allows_text NetworkUser = is_word
allows_text NetworkRealname = is_one_line
allows_text NetworkPassword = is_word
allows_text NetworkJoin = is_word
allows_text NetworkSasl = is_mechanism
allows_text NetworkSaslUser = is_word
allows_text NetworkSaslPassword = is_account_password
allows_text NetworkOnConnect = is_sent_at_connect
allows_text NetworkKeys = is_channel_key
allows_text NetworkNicks = is_nameable
allows_text _ = λ text. false

-- the values that a key allows
abbrev pub allows : Key → Data → Bool
allows Listen = is_text_or_list is_address 8
allows History = is_number_within 1 10000
allows Retry = is_number_within 1 3600
allows Memory = is_number_within 8 65536
allows ListenProxy = is_text_or_list is_address 8
allows Proxies = is_text_list is_ip 16
allows Messages = is_table
allows MessagesCtcp = is_flag
allows MessagesServerNotices = is_flag
allows MessagesNever = is_text_list is_word 64
allows MessagesToSelf = is_flag
allows MessagesByPerson = is_flag
allows Playback = is_table
allows PlaybackPrivateBatches = is_flag
allows PlaybackVisits = is_flag
allows PlaybackWait = is_number_within 0 60
allows User = is_list_where is_table
allows UserSalt = is_text_where is_hexadecimal
allows UserPassword = is_text_where is_digest
allows UserNetwork = is_list_where is_table
allows NetworkJoin = is_text_list is_word 64
allows NetworkOnConnect = is_text_list is_sent_at_connect 16
allows NetworkJoinAfter = is_number_within 0 60
allows NetworkKeys = is_text_table is_channel_key 64
allows NetworkNicks = is_text_list is_nameable 8
allows NetworkAway = is_flag
allows key = is_text_where (allows_text key)

-- the keys that may be left out
abbrev pub is_optional : Key → Bool
is_optional History = true
is_optional Retry = true
is_optional Kept = true
is_optional Memory = true
is_optional Metrics = true
is_optional ListenProxy = true
is_optional Proxies = true
is_optional Messages = true
is_optional MessagesCtcp = true
is_optional MessagesServerNotices = true
is_optional MessagesNever = true
is_optional MessagesToSelf = true
is_optional MessagesByPerson = true
is_optional Playback = true
is_optional PlaybackPrivateBatches = true
is_optional PlaybackTimes = true
is_optional PlaybackVisits = true
is_optional PlaybackWait = true
is_optional User = true
is_optional UserNetwork = true
is_optional NetworkPassword = true
is_optional NetworkJoin = true
is_optional NetworkSasl = true
is_optional NetworkSaslUser = true
is_optional NetworkOnConnect = true
is_optional NetworkJoinAfter = true
is_optional NetworkKeys = true
is_optional NetworkNicks = true
is_optional NetworkAway = true
is_optional _ = false
