-- What is no journal is no log.
use Rattle.std.proofs.Common.{ℕ, List, Option, length, ◌-◌, ◌≡◌}
use Rattle.commands.specs.Log.{IsCauseOf, IsLogOf, IsNoJournal, IsRecalledOf}
use Rattle.journal.specs.{Shown.text_of_messages, declared.recalling.Recalled.Recalled}
use Rattle.commands.specs.declared.fault.Fault.{Fault}
use Rattle.commands.specs.declared.fault.Fault.TheVariants as fault

pub no_journal : (bytes : List ℕ) (old new : Option (List ℕ)) (f : Fault) → IsNoJournal bytes f
    → IsCauseOf bytes old new f
no_journal bytes old new fault.CannotListen h = absurd h
no_journal bytes old new (fault.CannotListenAt why) h = absurd h
no_journal bytes old new fault.CannotRead h = absurd h
no_journal bytes old new fault.CannotWrite h = absurd h
no_journal bytes old new (fault.CannotReadFile why) h = absurd h
no_journal bytes old new (fault.Damaged count) h = absurd h
no_journal bytes old new (fault.Exists path) h = absurd h
no_journal bytes old new fault.LaterVersion h = h
no_journal bytes old new fault.LineTooLong h = absurd h
no_journal bytes old new fault.NoAnswer h = absurd h
no_journal bytes old new (fault.NobodyReads path) h = absurd h
no_journal bytes old new fault.NotAJournal h = h
no_journal bytes old new fault.NotReady h = absurd h
no_journal bytes old new fault.OutOfMemory h = tt
no_journal bytes old new (fault.Settings f) h = absurd h
no_journal bytes old new (fault.SettingsAt f place) h = absurd h

-- a text of what was recalled is the log of its bytes
pub is_log : (bytes text : List ℕ) (r : Recalled) (damaged : ℕ) → IsRecalledOf bytes r
    → text ≡ text_of_messages r.kept.history → damaged ≡ length bytes - r.used
    → IsLogOf bytes text damaged
is_log bytes text r damaged of messages left = record {
  recalled = r;
  of = of;
  messages = messages;
  left = left;
}
