use Rattle.hub_core.proofs.join_keys.confirm_each.Goals as goal
use Rattle.hub_core.proofs.JoinKeys.{each_known}
use Rattle.hub_core.specs.JoinKeys.{is_one, join_keys, known_if}
use Rattle.std.proofs.Common.{arith, length, ◌<◌}
use Rattle.std.proofs.lemmas.List.{length-map}

pub loop-key-preserved : goal.loop-key-preserved
loop-key-preserved c =
    let h : c.loop-key.key-index < length c.loop-key.keys = omega (arith, c.loop-key.auto.keys) in
    let within : c.loop-key.key-index < length (join_keys c.args.keys.now) =
    rw length-map c.loop-key-test.true in
    each_known (known_if (is_one c.args.mapping c.args.name.now)) (join_keys c.args.keys.now)
    c.loop-key.keys c.loop-key.key-index c.key-item.result c.confirm_one.new.key h within
    c.loop-key.invariant c.confirm_one.ensures
