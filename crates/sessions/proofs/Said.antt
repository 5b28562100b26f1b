-- How a session goes on by what its client says.
use Rattle.hub_core.specs.declared.said.Meant.TheVariants as means
use Rattle.client_caps.specs.{Answers.asked, declared.answers.Asked.Asked}
use Rattle.hub_core.specs.{Saying.{Says, SaysBy, meant_by, unheard_commands}, States.HubState}
use Rattle.hub_core.specs.declared.{hub.HubError.HubError, said.{Meant.Meant, Said.Said}}
use Rattle.{irc_line.specs.Line.{Parts, has_command}, sessions.specs.Answers.is_quit}
use Rattle.{sessions.specs.Leaving.{LeavesBy, leave_by}, std.proofs.Common.{Bool, Result, arith}}
use Rattle.std.{proofs.Common.{false, inl, inr, refl, true, ℕ, ◌≡◌}, specs.List.list_any}
use Rattle.std.specs.Prelude.{if◌then◌else◌}

-- a line that is no QUIT
goes_on : (m : Meant) (alone : Bool) (old : HubState) (id : ℕ) (line : Parts) (moment : ℕ)
    (answer : Result Said HubError) (new : HubState) → (m ≡ means.Quits → ⊥) → is_quit line ≡ false
    → SaysBy m alone old id line moment answer new → LeavesBy line (leave_by answer)
goes_on m alone old id line moment answer new other none h = grind arith

no_quit_meant : (unheard : Bool) (a : Asked)
    → (if unheard then means.Nothing else meant_by a) ≡ means.Quits → ⊥
no_quit_meant unheard a h = grind arith

by_meaning : (quit : Bool) (alone : Bool) (old : HubState) (id : ℕ) (line : Parts) (moment : ℕ)
    (answer : Result Said HubError) (new : HubState) → is_quit line ≡ quit
    → SaysBy (if quit then means.Quits else
    if list_any (has_command line) unheard_commands then means.Nothing else meant_by (asked line))
    alone old id line moment answer new
    → LeavesBy line (leave_by answer)
by_meaning true alone old id line moment answer new is h = rw (h.0) is
by_meaning false alone old id line moment answer new is h =
    goes_on _ alone old id line moment answer new
    (no_quit_meant (list_any (has_command line) unheard_commands) (asked line)) is h

pub leaves_by : (alone : Bool) (old : HubState) (id : ℕ) (line : Parts) (moment : ℕ)
    (answer : Result Said HubError) (new : HubState)
    → Says alone old id line moment answer new → LeavesBy line (leave_by answer)
leaves_by alone old id line moment answer new says = elim says [
  | inl none ↦ rw (none.1) tt
  | inr h ↦ by_meaning (is_quit line) alone old id line moment answer new refl h.1
]
