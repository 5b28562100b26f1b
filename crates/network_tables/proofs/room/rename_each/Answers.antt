use Rattle.network_tables.proofs.room.rename_each.Goals as goal
use Rattle.network_tables.{proofs.EachLemmas.{changed_more, copies_left}, specs.Sought.sought_key}
use Rattle.std.proofs.Common.{◌∷◌, ◌≡◌, List, ap, arith, length, length-set}
use Rattle.std.proofs.lemmas.List.{length-map}

parts : {X : Type 0} {x y : X} {xs ys : List X} → x ∷ xs ≡ y ∷ ys → (x ≡ y) × (xs ≡ ys)
parts e = (cc, cc)

pub rename_member-requires-clause-copy : goal.rename_member-requires-clause-copy
rename_member-requires-clause-copy g c =
    let before = c.loop-place.invariant in
    let within = rw (c.len-place-end.ensures, ← before.as_long) at c.loop-place-test.true in
    let left = copies_left _ _ _ _ _ within before.changed c.at_mut-room.ensures.value
    c.args.new.now (sought_key c.args.old) in
    rw c.deref_mut.ensures.value (parts (rw (c.in-Some.ensures.items, left) at before.copies)).0

pub unreachable-requires : goal.unreachable-requires
unreachable-requires g c =
    let before = c.loop-place.invariant in
    let within = rw (c.len-place-end.ensures, ← before.as_long) at c.loop-place-test.true in
    let left = copies_left _ _ _ _ _ within before.changed c.at_mut-room.ensures.value
    c.args.new.now (sought_key c.args.old) in
    let some = simp length-map at (ap length (rw left at before.copies)) in
    omega (arith, some, c.in-None.ensures.cases.0)

pub loop-place-preserved : goal.loop-place-preserved
loop-place-preserved g c =
    let before = c.loop-place.invariant in
    let within = rw (c.len-place-end.ensures, ← before.as_long) at c.loop-place-test.true in
    let at = c.at_mut-room.ensures.value in
    let left = copies_left _ _ _ _ _ within before.changed at c.args.new.now
    (sought_key c.args.old) in
    record {
      changed = changed_more _ _ _ _ _ within before.changed at _
          (rw (c.rename_member.ensures, c.deref_mut.ensures.value));
      as_long = rw length-set before.as_long;
      copies = (parts (rw (c.in-Some.ensures.items, left) at before.copies)).1;
    }
