-- What a text of the settings file may be. The format is our own choice.
use Rattle.std.specs.Prelude.{ℕ, Bool, true, false, ◌&&◌, ◌||◌, ◌==◌, not, nat_le, nat_lt, List, []}
use Rattle.std.specs.Prelude.{◌∷◌, length, codes, Some, None}
use Rattle.std.specs.List.{list_any, list_all, before_first, after_first}
use Rattle.std.specs.Char.{is_ascii_digit}
use Rattle.std.specs.Net.Reader.{Read, read_ipv4, read_ipv6}
use Rattle.std.specs.Result.{is_ok}
use Rattle.std.specs.Str.{bytes_eq}
use Rattle.std.specs.Str.Parse.{digits_value}
use Rattle.hex.specs.Hex.{decode_of}

abbrev pub is_empty : List ℕ → Bool
is_empty [] = true
is_empty (b ∷ bs) = false

-- a control byte of ASCII
abbrev pub is_control : ℕ → Bool
is_control b = nat_lt b 32 || b == 127

-- the byte is one of these
abbrev pub is_one_of : List ℕ → ℕ → Bool
is_one_of bytes b = list_any (λ c. b == c) bytes

-- what no name holds: control bytes, spaces, and what parts the names in a login
-- `user@client/network:password`
abbrev pub bars_name : ℕ → Bool
bars_name b = is_control b || is_one_of (codes "/@: ") b

-- a name of a user or a network
abbrev pub is_name : List ℕ → Bool
is_name text = not (is_empty text) && not (list_any bars_name text)

-- what no word holds
abbrev pub bars_word : ℕ → Bool
bars_word b = is_control b || b == 32

-- a word: a text that a line can hold as any of its parameters (RFC 2812, section 2.3.1, `middle`),
-- without control bytes: it is not empty and does not begin with a colon
abbrev pub is_word : List ℕ → Bool
is_word [] = false
is_word (b ∷ bs) = not (b == 58) && not (list_any bars_word (b ∷ bs))

-- a text on one line, which may have spaces and may be empty
abbrev pub is_one_line : List ℕ → Bool
is_one_line text = not (list_any is_control text)

-- the mechanisms of a login by SASL: PLAIN (RFC 4616) and EXTERNAL (RFC 4422, appendix A)
abbrev pub is_mechanism : List ℕ → Bool
is_mechanism text = bytes_eq text (codes "PLAIN") || bytes_eq text (codes "EXTERNAL")

-- the password of an account: PLAIN's has no NUL (RFC 4616, section 2); that it has at most 300
-- bytes is our own choice
abbrev pub is_account_password : List ℕ → Bool
is_account_password text =
    nat_le 1 (length text) && (nat_le (length text) 300 && not (list_any (λ b. b == 0) text))

-- the path of a file or a folder
abbrev pub is_path : List ℕ → Bool
is_path text = not (is_empty text) && is_one_line text

-- a port: a number from 1 to 65535, in decimal digits
abbrev pub is_port : List ℕ → Bool
is_port text =
    list_all is_ascii_digit text
    && (nat_le 1 (digits_value 10 text) && nat_le (digits_value 10 text) 65535)

-- HOST:PORT; the host is not empty and, ending at the first colon, holds none
abbrev pub is_host_and_port : List ℕ → Bool
is_host_and_port text =
    not (is_empty (before_first (λ b. b == 58) text)) && is_port (after_first (λ b. b == 58) text)

-- the bytes of the text of an IPv6 address (RFC 4291, section 2.2): hexadecimal digits, colons and
-- dots; no zone
abbrev pub is_ipv6_byte : ℕ → Bool
is_ipv6_byte b =
    nat_le 48 b && nat_le b 57 || (nat_le 97 b && nat_le b 102 || (nat_le 65 b && nat_le b 70
    || (b == 58 || b == 46)))

abbrev pub is_ipv6_text : List ℕ → Bool
is_ipv6_text text = not (is_empty text) && list_all is_ipv6_byte text

abbrev pub is_colon_and_port : List ℕ → Bool
is_colon_and_port text =
    is_empty (before_first (λ b. b == 58) text) && is_port (after_first (λ b. b == 58) text)

abbrev pub is_ipv6_and_port : List ℕ → Bool
is_ipv6_and_port text =
    is_ipv6_text (before_first (λ b. b == 93) text)
    && is_colon_and_port (after_first (λ b. b == 93) text)

-- [IPV6]:PORT (RFC 3986, section 3.2.2)
abbrev pub is_bracketed : List ℕ → Bool
is_bracketed text =
    is_empty (before_first (λ b. b == 91) text)
    && is_ipv6_and_port (after_first (λ b. b == 91) text)

-- HOST:PORT or [IPV6]:PORT
unfoldable pub is_address : List ℕ → Bool
is_address text = is_host_and_port text || is_bracketed text

-- an address was read, and nothing comes after it
abbrev pub is_whole : Read (List ℕ) → Bool
is_whole None = false
is_whole (Some found) = is_empty found.1

-- an address without a port: IPv4, four decimal numbers below 256 with dots between them, or IPv6
-- (RFC 4291, section 2.2), without a zone
abbrev pub is_ip : List ℕ → Bool
is_ip text = is_whole (read_ipv4 text) || is_whole (read_ipv6 text)

-- a channel's key: a word, and no comma, which parts the keys of a JOIN (RFC 2812, section 3.2.1)
abbrev pub is_channel_key : List ℕ → Bool
is_channel_key text = is_word text && not (list_any (λ b. b == 44) text)

-- bytes in hexadecimal digits, two a byte, in either case
abbrev pub is_hexadecimal : List ℕ → Bool
is_hexadecimal text = is_ok (decode_of text)

-- a SHA-256 digest: 32 bytes in hexadecimal digits
abbrev pub is_digest : List ℕ → Bool
is_digest text = length text == 64 && is_hexadecimal text
