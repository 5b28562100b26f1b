-- Addresses as `IpAddr` reads them.
use Rattle.bnc_config.specs.Text.{is_ip, is_whole}
use Rattle.std.proofs.Common.{Bool, List, None, Some, [], append-nil, arith, false, lit≤, refl, true}
use Rattle.std.proofs.Common.{◌++◌, ◌∷◌, ◌≡◌, ℕ}
use Rattle.std.proofs.NetLemmas.Ipv4.{read_ipv4_complete, read_ipv4_sound}
use Rattle.std.proofs.NetLemmas.Ipv6.{EndsGroups-nil, read_ipv6_complete, read_ipv6_sound}
use Rattle.std.proofs.lemmas.Bool.{false≢true}
use Rattle.std.specs.Net.Grammar.{IsColonHex, IsDotted, IsIpText}
use Rattle.std.specs.Net.Reader.{Read, read_ipv4, read_ipv6}
use Rattle.std.specs.declared.net.ip_addr.IpAddr.{IpAddr}
use Rattle.std.specs.declared.net.ip_addr.IpAddr.TheVariants as Ip

-- what was read to the end of a text is spelled by it
spelled : (Spells : List ℕ → List ℕ → Type 0) (text : List ℕ) (found : Read (List ℕ))
    → ((value rest : List ℕ) → found ≡ Some (value, rest)
    → (front : List ℕ) × (text ≡ front ++ rest) × Spells front value)
    → is_whole found ≡ true → (value : List ℕ) × Spells text value
spelled Spells text None sound h = absurd (false≢true h)
spelled Spells text (Some (value, [])) sound h =
    let (front, is, spells) = sound value [] refl in
    (value, rw (is, append-nil) spells)
spelled Spells text (Some (value, b ∷ bs)) sound h = absurd (false≢true h)

dotted_read : (text octets : List ℕ) → IsDotted text octets → is_whole (read_ipv4 text) ≡ true
dotted_read text octets h =
    let read = rw append-nil at (read_ipv4_complete text octets [] h (lit≤ tt)) in
    rw read refl

colon_hex_read : (text segments : List ℕ) → IsColonHex text segments
    → is_whole (read_ipv6 text) ≡ true
colon_hex_read text segments h =
    let read = rw append-nil at (read_ipv6_complete text segments [] h EndsGroups-nil) in
    rw read refl

-- the text of an address is one
pub is_ip-text : (text : List ℕ) (a : IpAddr) → IsIpText text a → true ≡ is_ip text
is_ip-text text (Ip.V4 a) h = rw (dotted_read text _ h) refl
is_ip-text text (Ip.V6 a) h = grind (arith, colon_hex_read text _ h)

not_true : (b : Bool) → (b ≡ true → ⊥) → b ≡ false
not_true true h = absurd (h refl)
not_true false h = refl

-- a text of no address is none
pub is_ip-other : (text : List ℕ) → ((a : IpAddr) → IsIpText text a → ⊥) → false ≡ is_ip text
is_ip-other text none =
    let no_v4 = not_true (is_whole (read_ipv4 text)) (λ h.
    let (octets, dotted) = spelled IsDotted text (read_ipv4 text) (λ o rest. read_ipv4_sound text o rest) h in
    none (Ip.V4 (record { octets = octets })) dotted) in
    let no_v6 = not_true (is_whole (read_ipv6 text)) (λ h.
    let (segments, hex) = spelled IsColonHex text (read_ipv6 text) (λ s rest. read_ipv6_sound text s rest) h in
    none (Ip.V6 (record { segments = segments })) hex) in
    rw (no_v4, no_v6) refl
