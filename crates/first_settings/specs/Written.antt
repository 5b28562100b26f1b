-- The settings file that the answers make: TOML, with the keys of the example. Our own choice.
use Rattle.std.specs.Prelude.{◌==◌, ◌++◌, ℕ, List, [], ◌∷◌, codes, if◌then◌else◌}
use Rattle.std.specs.List.{flat_map}
use Rattle.sha2.specs.Sha256.{sha256}
use Rattle.hex.specs.Hex.{encode_lower}
use Rattle.irc_support.specs.NamesReply.{words_between}
use Rattle.first_settings.specs.Interviews.{Given}

-- a byte of a TOML basic string: quotation mark and backslash have a backslash in front (TOML,
-- 'String'); control bytes, which no answer has, aside
abbrev pub escaped : ℕ → List ℕ
escaped b = if b == 34 then 92 ∷ 34 ∷ [] else if b == 92 then 92 ∷ 92 ∷ [] else b ∷ []

-- a text as a basic string
abbrev pub quoted : List ℕ → List ℕ
quoted text = codes "\"" ++ (flat_map escaped text ++ codes "\"")

-- a key's line
unfoldable pub line_of : List ℕ → List ℕ → List ℕ
line_of key text = key ++ (codes " = " ++ (quoted text ++ 10 ∷ []))

-- the items of a list after the first
abbrev pub more : List (List ℕ) → List ℕ
more words = flat_map (λ word. codes ", " ++ quoted word) words

-- the items of a list
abbrev pub items : List (List ℕ) → List ℕ
items [] = []
items (word ∷ words) = quoted word ++ more words

-- a user's lines `salt` and `password`: the salt in hexadecimal, and the SHA-256 digest of its bytes
-- and then the password's
unfoldable pub password_lines : List ℕ → List ℕ → List ℕ
password_lines salt password =
    line_of (codes "salt") (encode_lower salt)
    ++ line_of (codes "password") (encode_lower (sha256 (salt ++ password)))

-- the text before the user
abbrev pub top : List ℕ
top = codes "# Settings of bnc: docs/SETTINGS.md has each key.\nlisten = \"127.0.0.1:6667\"\nhistory = 500\nretry = 30\n# what is kept over a restart, in a folder beside this file\n#kept = \"kept\"\n\n[[user]]\n"

-- the tables of what is kept and how it is played back
unfoldable pub tables : List ℕ
tables = codes "\n# not kept: requests by CTCP, notices of servers, what you say to yourself, and what is said to or by services\n[messages]\nctcp = false\nserver_notices = false\nto_self = false\nnever = [\"NickServ\", \"ChanServ\"]\n# who talks much pushes out nobody else\nby_person = true\n\n# private messages come person by person to clients that know batches, and with their times in the text to clients\n# that know none; a client that attaches just after a reconnect waits for the channels, at most 10 seconds\n[playback]\nprivate_batches = true\ntimes = \"UTC\"\nwait = 10\n"

-- what a network calls us: the nick in all three
unfoldable pub name_lines : List ℕ → List ℕ
name_lines nick =
    line_of (codes "nick") nick
    ++ (line_of (codes "user") nick ++ line_of (codes "realname") nick)

-- the channels to join
unfoldable pub join_line : List ℕ → List ℕ
join_line channels = codes "join = [" ++ (items (words_between channels) ++ codes "]\n")

-- a network with this address, this nick and these channels
unfoldable pub network_lines : List ℕ → List ℕ → List ℕ → List ℕ
network_lines address nick channels =
    codes "\n[[user.network]]\nname = \"net\"\n"
    ++ (line_of (codes "address") address ++ (name_lines nick ++ join_line channels))

-- the whole file
abbrev pub text_of : Given → List ℕ → List ℕ
text_of given salt =
    top
    ++ (line_of (codes "name") given.nick
    ++ (password_lines salt given.password
    ++ (network_lines given.address given.nick given.channels ++ tables)))
