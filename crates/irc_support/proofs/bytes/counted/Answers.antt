use Rattle.irc_support.proofs.bytes.counted.Goals as goal
use Rattle.irc_support.proofs.TokenBytes.{bytes_none, bytes_push}
use Rattle.std.proofs.Common.{map, refl}
use Rattle.std.proofs.lemmas.{List.map_push, Map.Iter.iter_end}
use Rattle.std.specs.Map.Iter.{deref_pair}

pub loop-name-init : goal.loop-name-init
loop-name-init g c = rw bytes_none refl

pub loop-name-preserved : goal.loop-name-preserved
loop-name-preserved g c =
    let so_far = map deref_pair c.loop-name.yielded in
    rw (map_push deref_pair c.loop-name.yielded (c.in-Some.name, c.in-Some.value))
    (rw (bytes_push so_far (c.in-Some.name.now, c.in-Some.value.now))
    (c.more-bytes.ensures _ _ c.loop-name.invariant
    (rw (c.len.ensures, c.in-Some.name.now.ok.0) at c.token_bytes.ensures)))

pub returns : goal.returns
returns g c =
    let all =
    (iter_end deref_pair c.args.tokens.now.entries c.loop-name.yielded _ c.loop-name.name-iterator
    c.next.new.self c.next.result c.into_iter-name-iterator.ensures.into_iter_gives.0
    c.loop-name.yielded_by c.in-None.is c.next.ensures.steps).0 in
    rw (← all) c.loop-name.invariant
