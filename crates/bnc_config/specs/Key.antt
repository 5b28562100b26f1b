-- The keys of a settings file. The format is our own choice.
use Rattle.std.specs.Prelude.{ℕ, List, ◌++◌, codes}
use Rattle.bnc_config.specs.declared.key.Key.{Key}
use Rattle.bnc_config.specs.declared.key.Key.TheVariants.{Listen, History, Retry, User}
use Rattle.bnc_config.specs.declared.key.Key.TheVariants.{Kept, Memory, Metrics}
use Rattle.bnc_config.specs.declared.key.Key.TheVariants.{ListenProxy, Proxies}
use Rattle.bnc_config.specs.declared.key.Key.TheVariants.{Messages, MessagesCtcp}
use Rattle.bnc_config.specs.declared.key.Key.TheVariants.{MessagesServerNotices, MessagesNever}
use Rattle.bnc_config.specs.declared.key.Key.TheVariants.{MessagesToSelf, MessagesByPerson}
use Rattle.bnc_config.specs.declared.key.Key.TheVariants.{Playback, PlaybackPrivateBatches}
use Rattle.bnc_config.specs.declared.key.Key.TheVariants.{PlaybackTimes, PlaybackVisits}
use Rattle.bnc_config.specs.declared.key.Key.TheVariants.{PlaybackWait}
use Rattle.bnc_config.specs.declared.key.Key.TheVariants.{UserName, UserSalt, UserPassword}
use Rattle.bnc_config.specs.declared.key.Key.TheVariants.{UserNetwork}
use Rattle.bnc_config.specs.declared.key.Key.TheVariants.{NetworkName, NetworkAddress, NetworkNick}
use Rattle.bnc_config.specs.declared.key.Key.TheVariants.{NetworkUser}
use Rattle.bnc_config.specs.declared.key.Key.TheVariants.{NetworkRealname, NetworkPassword}
use Rattle.bnc_config.specs.declared.key.Key.TheVariants.{NetworkJoin, NetworkSasl}
use Rattle.bnc_config.specs.declared.key.Key.TheVariants.{NetworkSaslUser, NetworkSaslPassword}
use Rattle.bnc_config.specs.declared.key.Key.TheVariants.{NetworkOnConnect, NetworkJoinAfter}
use Rattle.bnc_config.specs.declared.key.Key.TheVariants.{NetworkKeys, NetworkNicks, NetworkAway}

-- the key's word in its table
abbrev pub word_of : Key → List ℕ
word_of Listen = codes "listen"
word_of History = codes "history"
word_of Retry = codes "retry"
word_of Kept = codes "kept"
word_of Memory = codes "memory"
word_of Metrics = codes "metrics"
word_of ListenProxy = codes "listen_proxy"
word_of Proxies = codes "proxies"
word_of Messages = codes "messages"
word_of MessagesCtcp = codes "ctcp"
word_of MessagesServerNotices = codes "server_notices"
word_of MessagesNever = codes "never"
word_of MessagesToSelf = codes "to_self"
word_of MessagesByPerson = codes "by_person"
word_of Playback = codes "playback"
word_of PlaybackPrivateBatches = codes "private_batches"
word_of PlaybackTimes = codes "times"
word_of PlaybackVisits = codes "visits"
word_of PlaybackWait = codes "wait"
word_of User = codes "user"
word_of UserName = codes "name"
word_of UserSalt = codes "salt"
word_of UserPassword = codes "password"
word_of UserNetwork = codes "network"
word_of NetworkName = codes "name"
word_of NetworkAddress = codes "address"
word_of NetworkNick = codes "nick"
word_of NetworkUser = codes "user"
word_of NetworkRealname = codes "realname"
word_of NetworkPassword = codes "password"
word_of NetworkJoin = codes "join"
word_of NetworkSasl = codes "sasl"
word_of NetworkSaslUser = codes "sasl_user"
word_of NetworkSaslPassword = codes "sasl_password"
word_of NetworkOnConnect = codes "on_connect"
word_of NetworkJoinAfter = codes "join_after"
word_of NetworkKeys = codes "keys"
word_of NetworkNicks = codes "nicks"
word_of NetworkAway = codes "away"

-- how a fault names the key: with the words of the tables that it is in, and dots between
abbrev pub path_of : Key → List ℕ
path_of Listen = word_of Listen
path_of History = word_of History
path_of Retry = word_of Retry
path_of Kept = word_of Kept
path_of Memory = word_of Memory
path_of Metrics = word_of Metrics
path_of ListenProxy = word_of ListenProxy
path_of Proxies = word_of Proxies
path_of Messages = word_of Messages
path_of MessagesCtcp = codes "messages." ++ word_of MessagesCtcp
path_of MessagesServerNotices = codes "messages." ++ word_of MessagesServerNotices
path_of MessagesNever = codes "messages." ++ word_of MessagesNever
path_of MessagesToSelf = codes "messages." ++ word_of MessagesToSelf
path_of MessagesByPerson = codes "messages." ++ word_of MessagesByPerson
path_of Playback = word_of Playback
path_of PlaybackPrivateBatches = codes "playback." ++ word_of PlaybackPrivateBatches
path_of PlaybackTimes = codes "playback." ++ word_of PlaybackTimes
path_of PlaybackVisits = codes "playback." ++ word_of PlaybackVisits
path_of PlaybackWait = codes "playback." ++ word_of PlaybackWait
path_of User = word_of User
path_of UserName = codes "user." ++ word_of UserName
path_of UserSalt = codes "user." ++ word_of UserSalt
path_of UserPassword = codes "user." ++ word_of UserPassword
path_of UserNetwork = codes "user." ++ word_of UserNetwork
path_of NetworkName = codes "user.network." ++ word_of NetworkName
path_of NetworkAddress = codes "user.network." ++ word_of NetworkAddress
path_of NetworkNick = codes "user.network." ++ word_of NetworkNick
path_of NetworkUser = codes "user.network." ++ word_of NetworkUser
path_of NetworkRealname = codes "user.network." ++ word_of NetworkRealname
path_of NetworkPassword = codes "user.network." ++ word_of NetworkPassword
path_of NetworkJoin = codes "user.network." ++ word_of NetworkJoin
path_of NetworkSasl = codes "user.network." ++ word_of NetworkSasl
path_of NetworkSaslUser = codes "user.network." ++ word_of NetworkSaslUser
path_of NetworkSaslPassword = codes "user.network." ++ word_of NetworkSaslPassword
path_of NetworkOnConnect = codes "user.network." ++ word_of NetworkOnConnect
path_of NetworkJoinAfter = codes "user.network." ++ word_of NetworkJoinAfter
path_of NetworkKeys = codes "user.network." ++ word_of NetworkKeys
path_of NetworkNicks = codes "user.network." ++ word_of NetworkNicks
path_of NetworkAway = codes "user.network." ++ word_of NetworkAway
