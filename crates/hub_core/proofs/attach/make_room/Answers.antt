use Rattle.std.specs.FinMap as map
use Rattle.hub_core.proofs.attach.make_room.Goals as goal
use Rattle.{history.specs.Marks.NameMarks, hub_core.proofs.Words.{◌≡◌, Bool, None, Option, Text}}
use Rattle.hub_core.{proofs.Words.{arith, false, if◌then◌else◌, rules}, specs.Attaching.is_new_name}
use Rattle.{hub_core.specs.Attaching.{with_name, without_name}, net_view.proofs.AfterAlike.look_ups}
use Rattle.net_view.proofs.{Keys.same_by_keys, Tests.none_of_is_some}

-- what is put at a new name and removed again leaves no trace
removed_again : (m : NameMarks) (n : Text) → map.contains_key m n ≡ false
    → map.remove (map.insert m n None) n ≡ m
removed_again m n new = same_by_keys (λ q. grind (look_ups, none_of_is_some (map.get m n) new))

withdrawn_of : (name : Option Text) (m : NameMarks)
    → (if is_new_name name m then without_name name (with_name name m) else with_name name m) ≡ m
withdrawn_of name m = grind (look_ups, removed_again m)

-- a call that admits a name, and withdraws it if it was new, changes nothing
taken_back : (name : Option Text) (old mid new : NameMarks) (is_new : Bool)
    → is_new ≡ is_new_name name old → mid ≡ with_name name old
    → new ≡ (if is_new then without_name name mid else mid) → new ≡ old
taken_back name old mid new is_new e admits withdraws = grind (arith, withdrawn_of name old)

pub returns-then-not-room-clause-err : goal.returns-then-not-room-clause-err
returns-then-not-room-clause-err g c = (
  taken_back _ _ _ _ _ c.in_ok-is_new.ensures.ok.0 c.in_ok-is_new.ensures.ok.1 c.withdraw.ensures,
  search rules,
)
