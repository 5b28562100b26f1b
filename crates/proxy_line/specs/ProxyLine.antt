-- A PROXY line, version 1, and the client that it names (The PROXY protocol, section 2.1).
use Rattle.std.specs.Prelude.{◌≡◌, ℕ, ◌-◌, ◌≤◌, ◌==◌, Bool, true, false, List, [], ◌∷◌}
use Rattle.std.specs.Prelude.{Option, Some, None, codes, drop, length, take}
use Rattle.std.specs.List.{after_first, before_first, list_any}
use Rattle.std.specs.Net.Addr.{is_ipv4}
use Rattle.std.specs.Net.Grammar.{IsIpText}
use Rattle.std.specs.declared.net.ip_addr.IpAddr.{IpAddr}
use Rattle.proxy_line.specs.Port.{is_port}
use Rattle.proxy_line.specs.declared.line.Origin.{Origin}
use Rattle.proxy_line.specs.declared.line.Origin.TheVariants.{Address, Unknown}
use Rattle.proxy_line.specs.declared.reading.ProxyFault.{ProxyFault}
use Rattle.proxy_line.specs.declared.reading.ProxyFault.TheVariants.{Bad, Cut, OutOfMemory, Silent}
use Rattle.proxy_line.specs.declared.reading.ProxyFault.TheVariants.{TooLong}

-- a space
abbrev pub is_space : ℕ → Bool
is_space b = b == 32

-- the text before the first space, or all of the text if there is none; and the text after that
-- space
abbrev pub word_of : List ℕ → List ℕ
word_of text = before_first is_space text

abbrev pub behind : List ℕ → List ℕ
behind text = after_first is_space text

-- the client's address, the address that it connected to, and their ports, with one space between
-- each two; both addresses are of this family
pub record AreEnds (is_v4 : Bool) (ends : List ℕ) (address : IpAddr) : Type 0 where
  pub source : IsIpText (word_of ends) address
  pub family : is_ipv4 address ≡ is_v4
  pub destination : (other : IpAddr) × IsIpText (word_of (behind ends)) other
      × (is_ipv4 other ≡ is_v4)
  pub source_port : is_port (word_of (behind (behind ends))) ≡ true
  pub destination_port : is_port (behind (behind (behind ends))) ≡ true

abbrev pub family_name : Bool → List ℕ
family_name true = codes "TCP4"
family_name false = codes "TCP6"

-- a text without CR LF names this client; if it is unknown, the text after that does not
-- count
abbrev pub NamesClient : List ℕ → Origin → Type 0
NamesClient text (Address address) =
    (word_of text ≡ codes "PROXY")
    × (word_of (behind text) ≡ family_name (is_ipv4 address))
    × AreEnds (is_ipv4 address) (behind (behind text)) address
NamesClient text Unknown =
    (word_of text ≡ codes "PROXY") × (word_of (behind text) ≡ codes "UNKNOWN")

-- a line without its last two bytes
abbrev pub text_of : List ℕ → List ℕ
text_of line = take (length line - 2) line

-- a line of at most 107 bytes, which ends in CR LF and has no other LF, names this client
pub record IsProxyLine (line : List ℕ) (client : Origin) : Type 0 where
  pub short : length line ≤ 107
  pub ended : drop (length line - 2) line ≡ 13 ∷ 10 ∷ []
  pub one_line : list_any (λ b. b == 10) (text_of line) ≡ false
  pub names : NamesClient (text_of line) client

-- the byte that was read, if one was
abbrev pub bytes_in : Option ℕ → List ℕ
bytes_in None = []
bytes_in (Some b) = b ∷ []

-- why no client was named, if these bytes were read
abbrev pub IsCauseOf : List ℕ → ProxyFault → Type 0
IsCauseOf bytes Silent = bytes ≡ []
IsCauseOf bytes Cut = list_any (λ b. b == 10) bytes ≡ false
IsCauseOf bytes TooLong = (list_any (λ b. b == 10) bytes ≡ false) × (length bytes ≡ 107)
IsCauseOf bytes OutOfMemory = Unit {0}
IsCauseOf bytes Bad = (client : Origin) → IsProxyLine bytes client → ⊥
