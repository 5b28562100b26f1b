-- Numbers of addresses.
use Rattle.std.specs.Prelude.{◌≡◌, ◌/◌, ◌^◌, ℕ}
use Rattle.std.specs.declared.net.ip_addr.IpAddr.{IpAddr}
use Rattle.std.specs.Net.Addr.{IsCanonicalOf, MatchIp, ipv4_bits, ipv6_bits}

-- the number of an address that is not IPv4 mapped into IPv6: the bits of IPv4, the first 64 of IPv6
-- (our own choice)
abbrev pub IsBitsOf : ℕ → IpAddr → Type 0
IsBitsOf number address =
    MatchIp address (λ ip. number ≡ ipv4_bits ip) (λ ip. number ≡ ipv6_bits ip / 2 ^ 64)

-- the number of an address, by the IPv4 address that may be mapped into it
abbrev pub IsKeyOf : ℕ → IpAddr → Type 0
IsKeyOf number address = MatchIp address (λ _. IsBitsOf number address)
    (λ ip. (canonical : IpAddr) × IsCanonicalOf ip canonical × IsBitsOf number canonical)
