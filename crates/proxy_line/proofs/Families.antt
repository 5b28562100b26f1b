-- Texts that write no address of a family.
use Rattle.std.proofs.Common.{List, arith, false, true, ℕ, ◌≡◌}
use Rattle.std.specs.Net.{Addr.is_ipv4, Grammar.{IsIpText, IsIpv4Text, IsIpv6Text}}
use Rattle.std.specs.declared.net.{ip_addr.IpAddr.IpAddr, ipv4_addr.Ipv4Addr.Ipv4Addr}
use Rattle.std.specs.declared.net.{ip_addr.IpAddr.TheVariants.{V4, V6}, ipv6_addr.Ipv6Addr.Ipv6Addr}

pub no_v4 : (text : List ℕ) → ((x : Ipv4Addr) → IsIpv4Text text x → ⊥) → (a : IpAddr)
    → IsIpText text a → is_ipv4 a ≡ true → ⊥
no_v4 text none (V4 x) h e = none x h
no_v4 text none (V6 x) h e = grind arith

pub no_v6 : (text : List ℕ) → ((x : Ipv6Addr) → IsIpv6Text text x → ⊥) → (a : IpAddr)
    → IsIpText text a → is_ipv4 a ≡ false → ⊥
no_v6 text none (V4 x) h e = grind arith
no_v6 text none (V6 x) h e = none x h
