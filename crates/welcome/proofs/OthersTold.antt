-- A playback by a profile says nothing about the network.
unfoldable use Rattle.welcome.proofs.Words.{state_lines}
use Rattle.welcome.proofs.{EachOf.backlog_each, OthersSaid.{IsElsewhere, by_each}, Stamps.message_keeps}
use Rattle.welcome.proofs.PlaybackTold.{IsMessage, IsUnread, entry_unread}
use Rattle.welcome.proofs.Words.{[], ◌++◌, ◌∷◌, Caps, Each, EntryParts, List, Parts, View, arith, batch_tag}
use Rattle.welcome.proofs.Words.{recursion_from_All, refl}
use Rattle.welcome.specs.declared.playing.Playing.{Playing}
use Rattle.welcome.specs.declared.others.Sort.TheVariants.{Visits}
use Rattle.welcome.specs.Playing.{around, name_by, places_of, playback_by}

-- so what holds of lines that no view reads, of such lines one after the other, and of visits, holds
-- of the playback
pub by_unread : (R : List Parts → Type 0) → ((lines : List Parts) → Each IsUnread lines → R lines)
    → ((a b : List Parts) → R a → R b → R (a ++ b)) → (playing : Playing) (v : View) (caps : Caps)
    (entries : List EntryParts) → ((e : EntryParts) → IsElsewhere v e → (lines : List Parts)
    → Each IsUnread lines → R (around Visits v caps e.target lines)) → Each IsMessage entries
    → R (playback_by playing v caps entries)
unfolding state_lines
by_unread R whole more playing v caps entries visit each =
    by_each IsUnread IsMessage R whole more v caps (places_of playing v caps entries)
    (entry_unread caps [])
    (λ sort place e m less word. backlog_each IsUnread IsMessage caps place (name_by sort v e) refl
    refl (entry_unread caps (batch_tag place ∷ [])) (entry_unread caps []))
    (λ e m is word. visit e is) message_keeps
    playing entries (omega arith) each (λ _. Unit {0})
    (recursion_from_All (λ _. Unit {0}) _ (λ k d less. tt))
    (λ at _. backlog_each IsUnread IsMessage caps at.0 at.1.1.name refl refl
    (entry_unread caps (batch_tag at.0 ∷ [])) (entry_unread caps []))
