use Rattle.network_tables.proofs.sought.order_behind.Goals as goal
use Rattle.{irc_names.specs.CaseMapping.{key_byte, key_of}, network_tables.proofs.HeadLemmas.behind}
use Rattle.std.proofs.{Common.{arith, drop, length, ◌≤◌}, lemmas.List.{drop-map, length-map}}
use Rattle.std.specs.Cmp.Lexicographic.{nat_list_cmp_total}

pub returns : goal.returns
returns c key_bytes bytes heads =
    let key = c.args.key.now in
    let m = c.in-Name.mapping in
    let name = c.in-Name.name.now in
    let long = length-map name (key_byte m) in
    let within : 8 ≤ length (key_of m name) = omega (arith, long, c.if-name-lt8.false) in
    rw (c.in-Name.is, c.reverse.ensures, c.order_to_key.ensures, c.rest.ensures, c.rest-2.ensures)
    (rw (← nat_list_cmp_total.antisymm (drop 8 key) (key_of m (drop 8 name)), ← drop-map)
    (behind 8 key (key_of m name) c.if-key-lt8.false within key_bytes
    (rw c.in-Name.is at bytes) (rw c.in-Name.is at heads)))
