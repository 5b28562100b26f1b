-- What the settings are.
use Rattle.std.specs.Prelude.{◌≡◌, ℕ, ◌≤◌, ◌++◌, List, [], Option, option_map, option_and_then}
use Rattle.std.specs.Prelude.{position, sum_by, length, IsSomeAnd, IfSome, IsTrue, Bool}
use Rattle.std.specs.Prelude.{unwrap_or}
use Rattle.std.specs.List.{list_all, slice_get}
use Rattle.std.specs.Option.{option_map_or}
use Rattle.std.specs.Str.{bytes_eq}
use Rattle.irc_names.specs.CaseMapping as names
use Rattle.irc_names.specs.Nick.{is_nameable}
use Rattle.irc_names.specs.declared.case_mapping.CaseMapping.{CaseMapping}
use Rattle.irc_names.specs.declared.case_mapping.CaseMapping.TheVariants.{Ascii}
use Rattle.sha2.specs.Sha256.{sha256}
use Rattle.bnc_config.specs.Text.{is_account_password, is_address, is_name, is_one_line, is_path}
use Rattle.bnc_config.specs.Text.{is_channel_key, is_ip, is_word}
use Rattle.bnc_config.specs.Command.{is_sent_at_connect}
use Rattle.bnc_config.specs.declared.utc_offset.UtcOffset.{UtcOffset}

-- a login by SASL: the account and its password by PLAIN, neither by EXTERNAL
abbrev pub SaslSettings : Type 0
SaslSettings = Option (List ℕ × List ℕ)

-- a channel's name and its key
abbrev pub ChannelKey : Type 0
ChannelKey = List ℕ × List ℕ

-- what may be left out of a network beside its password, its channels and its login: the lines that
-- are sent before the channels are joined, and the seconds from these to the channels; the keys of
-- channels; further nicks, with which the wanted one is asked for again; whether an AWAY is sent
-- again after a loss
pub record NetworkOptionSettings : Type 0 where
  pub on_connect : List (List ℕ)
  pub join_after : ℕ
  pub keys : List ChannelKey
  pub nicks : Option (List (List ℕ))
  pub away : Bool

-- a network of a user
pub record NetworkSettings : Type 0 where
  pub name : List ℕ
  pub address : List ℕ
  pub nick : List ℕ
  pub user : List ℕ
  pub realname : List ℕ
  pub password : Option (List ℕ)
  pub join : List (List ℕ)
  pub sasl : Option SaslSettings
  pub options : NetworkOptionSettings

-- a user: the digest is that of the salt's bytes followed by the password's
pub record UserSettings : Type 0 where
  pub name : List ℕ
  pub salt : List ℕ
  pub digest : List ℕ
  pub networks : List NetworkSettings

-- what may be left out at the top: the folder of what is kept; the memory of a network in MiB; the
-- file of the figures; the addresses for proxies; the addresses from which proxies may connect
pub record OptionSettings : Type 0 where
  pub kept : Option (List ℕ)
  pub memory : ℕ
  pub metrics : Option (List ℕ)
  pub listen_proxy : List (List ℕ)
  pub proxies : Option (List (List ℕ))

-- what is kept: CTCP, servers' notices and what a client says to our own nick; no messages of these
-- names; a history for each person
pub record MessagesSettings : Type 0 where
  pub ctcp : Bool
  pub server_notices : Bool
  pub never : List (List ℕ)
  pub to_self : Bool
  pub by_person : Bool

-- how it is played back: a batch for each person; times in texts, as they are at this offset;
-- channels that we are not on entered and left; the seconds that a login waits for the channels
pub record PlaybackSettings : Type 0 where
  pub private_batches : Bool
  pub times : Option UtcOffset
  pub visits : Bool
  pub wait : ℕ

-- both
pub record ProfileSettings : Type 0 where
  pub messages : MessagesSettings
  pub playback : PlaybackSettings

-- all settings: history in messages, retry in seconds
pub record Settings : Type 0 where
  pub listens : List (List ℕ)
  pub history : ℕ
  pub retry : ℕ
  pub options : OptionSettings
  pub profile : ProfileSettings
  pub users : List UserSettings

-- what a login by SASL is like
abbrev pub IsSasl : SaslSettings → Type 0
IsSasl sasl = IfSome sasl
    (λ account. IsTrue (is_word account.0) × IsTrue (is_account_password account.1))

abbrev pub are_channel_keys : List ChannelKey → Bool
are_channel_keys keys = list_all (λ (pair : ChannelKey). is_channel_key pair.1) keys

-- what the options of a network are like
abbrev pub IsNetworkOptions : NetworkOptionSettings → Type 0
IsNetworkOptions options = record {
  on_connect : IsTrue (list_all is_sent_at_connect options.on_connect);
  few_lines : length options.on_connect ≤ 16;
  join_after : options.join_after ≤ 60;
  keys : IsTrue (are_channel_keys options.keys);
  few_keys : length options.keys ≤ 64;
  nicks : IfSome options.nicks
      (λ nicks. IsTrue (list_all is_nameable nicks) × (length nicks ≤ 8));
}

-- what the settings of a network are like, whatever file they come from
abbrev pub IsNetwork : NetworkSettings → Type 0
IsNetwork network = record {
  name : IsTrue (is_name network.name);
  address : IsTrue (is_address network.address);
  nick : IsTrue (is_nameable network.nick);
  user : IsTrue (is_word network.user);
  realname : IsTrue (is_one_line network.realname);
  password : IfSome network.password (λ password. IsTrue (is_word password));
  join : IsTrue (list_all is_word network.join);
  few : length network.join ≤ 64;
}

-- two networks are dialled alike: all is the same except their names, the channels to join and the
-- options, which count from the next dial on
abbrev pub AreDialledAlike : NetworkSettings → NetworkSettings → Type 0
AreDialledAlike one other =
    record one { name = other.name; join = other.join; options = other.options } ≡ other

-- the key that a channel has: that of the first pair whose name is the channel's under a mapping
abbrev pub is_key_by : CaseMapping → List ℕ → ChannelKey → Bool
is_key_by mapping channel pair =
    bytes_eq (names.key_of mapping pair.0) (names.key_of mapping channel)

abbrev pub key_by : CaseMapping → List ChannelKey → List ℕ → Option (List ℕ)
key_by mapping keys channel = option_and_then
    (λ i. option_map (λ (pair : ChannelKey). pair.1) (slice_get keys i))
    (position (is_key_by mapping channel) keys)

-- the same in letters of either case, since no CASEMAPPING of the network is known yet
abbrev pub key_for : List ChannelKey → List ℕ → Option (List ℕ)
key_for = key_by Ascii

-- what a user is like, except for the networks, each of which is like a network
abbrev pub IsUser : UserSettings → Type 0
IsUser user = IsTrue (is_name user.name)

-- what the options at the top are like
abbrev pub IsOptions : OptionSettings → Type 0
IsOptions options = record {
  kept : IfSome options.kept (λ path. IsTrue (is_path path));
  memory : (8 ≤ options.memory) × (options.memory ≤ 65536);
  metrics : IfSome options.metrics (λ path. IsTrue (is_path path));
  listen_proxy : IsTrue (list_all is_address options.listen_proxy);
  few_listens : length options.listen_proxy ≤ 8;
  proxies : IfSome options.proxies
      (λ proxies. IsTrue (list_all is_ip proxies) × (length proxies ≤ 16));
}

-- what the settings of what is kept are like
abbrev pub IsMessages : MessagesSettings → Type 0
IsMessages messages = record {
  never : IsTrue (list_all is_word messages.never);
  few : length messages.never ≤ 64;
}

-- what those of the playback are like: an offset is at most 14 hours
abbrev pub IsPlayback : PlaybackSettings → Type 0
IsPlayback playback = record {
  times : IfSome playback.times (λ offset. offset.minutes ≤ 840);
  wait : playback.wait ≤ 60;
}

-- what the other settings at the top are like
abbrev pub IsTop : Settings → Type 0
IsTop settings = record {
  listens : IsTrue (list_all is_address settings.listens);
  few_listens : (1 ≤ length settings.listens) × (length settings.listens ≤ 8);
  history : (1 ≤ settings.history) × (settings.history ≤ 10000);
  retry : (1 ≤ settings.retry) × (settings.retry ≤ 3600);
}

-- the first of the addresses for clients
abbrev pub first_listen : Settings → List ℕ
first_listen settings = unwrap_or (slice_get settings.listens 0) []

-- the user at a place, from 0
abbrev pub user_at : Settings → ℕ → Option UserSettings
user_at settings u = slice_get settings.users u

-- how many networks all users have together
abbrev pub network_total : Settings → ℕ
network_total settings = sum_by (λ user. length user.networks) settings.users

-- the networks of the user at a place
abbrev pub networks_at : Settings → ℕ → List NetworkSettings
networks_at settings u =
    option_map_or (λ (user : UserSettings). user.networks) (user_at settings u) []

-- the network at a place among those of the user at a place
abbrev pub network_at : Settings → ℕ → ℕ → Option NetworkSettings
network_at settings u n = slice_get (networks_at settings u) n

-- where the user, or the network, of a name is among some, from 0: the names are compared byte
-- for byte
abbrev pub place_of_user : List ℕ → List UserSettings → Option ℕ
place_of_user name users = position (λ (user : UserSettings). bytes_eq user.name name) users

abbrev pub place_of_network : List ℕ → List NetworkSettings → Option ℕ
place_of_network name networks =
    position (λ (network : NetworkSettings). bytes_eq network.name name) networks

-- the place of the network of a name that the user of a name has
abbrev pub place_of : Settings → List ℕ → List ℕ → Option (ℕ × ℕ)
place_of settings user network = option_and_then
    (λ u. option_map (λ n. (u, n)) (place_of_network network (networks_at settings u)))
    (place_of_user user settings.users)

-- the digest of the salt and the password is that of the user of this name
abbrev pub Matches : Settings → List ℕ → List ℕ → Type 0
Matches settings name password =
    IsSomeAnd (option_and_then (user_at settings) (place_of_user name settings.users))
    (λ (user : UserSettings). sha256 (user.salt ++ password) ≡ user.digest)
