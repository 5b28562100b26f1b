-- What happened, and what is answered, computed at lists of deeds, the newest first, and of events.
use Rattle.hub_runs.specs.declared.event.Event.TheVariants as on
use Rattle.hub_core.specs.declared.attach.AttachError.TheVariants as refused
use Rattle.hub_core.specs.declared.detach.Seen.TheVariants as seen
use Prim.Native.String.{String}
use Rattle.client_caps.specs.{Caps.no_caps, Request.request_of}
use Rattle.client_caps.specs.declared.moment.Moment.{Moment}
use Rattle.hub_core.specs.declared.hub.Pumped.TheVariants.{Taken}
use Rattle.hub_core.specs.Attaching.{left_by}
use Rattle.hub_core.specs.States.{whole_profile}
use Rattle.hub_ends.specs.Came.{Came}
use Rattle.hub_runs.specs.Course.{Asked, Deed, Joined, Took, held_since, session_then}
use Rattle.hub_runs.specs.Ran.{none_before}
use Rattle.hub_runs.specs.Replies.{Limits, OfAttach, OfDetach, OfLines, replies_of}
use Rattle.irc_support.specs.Text.{Text}
use Rattle.irc_support.specs.{Settings.mapping_of, Tokens.set_tokens}
use Rattle.net_view.specs.{Arrival.Lost, StateLines.{state_lines, told}}
use Rattle.std.proofs.Common.{◌∷◌, ◌≡◌, Err, List, None, Ok, Option, Some, [], codes, false, refl}
use Rattle.std.proofs.Common.{true, ℕ}
use Rattle.std.specs.Prelude.{Vec}
use Rattle.std.specs.declared.alloc.Global.{Global}

-- ---- a session

abbrev pc : Option Text
pc = Some (codes "pc")

abbrev an_item : Came
an_item = (Lost, 0)

abbrev requests : String → Deed
requests words = Asked 1 (record {
  tags = None;
  source = None;
  command = codes "CAP";
  params = codes "REQ" ∷ codes words ∷ [];
})

abbrev came : List Deed
came = Took an_item ∷ Joined 1 pc no_caps 8 ∷ Took an_item ∷ []

-- its name, and its capabilities by its last request
names_and_capabilities : (session_then 2 came ≡ None)
    × (session_then 1 came ≡ Some (pc, no_caps))
    × (session_then 1 (requests "batch" ∷ came) ≡ Some (pc, record no_caps { batch = true }))
    × (session_then 1 (requests "-batch" ∷ requests "batch" ∷ came) ≡ Some (pc, no_caps))
    × (session_then 1 (requests "sasl" ∷ came) ≡ Some (pc, no_caps))
unfolding request_of
names_and_capabilities = (refl, refl, refl, refl, refl)

-- how many items had come when it attached, or when its capabilities last changed
boundaries : (held_since 1 came ≡ 1)
    × (held_since 1 (requests "batch" ∷ came) ≡ 2)
    × (held_since 1 (requests "-batch" ∷ came) ≡ 1)
    × (held_since 1 (requests "batch" ∷ Took an_item ∷ requests "batch" ∷ came) ≡ 2)
unfolding request_of
boundaries = (refl, refl, refl, refl)

-- ---- the mark that a session leaves

-- by what its client has seen, the number of the last message, and the mark of before
marks_left : (left_by seen.All (Some 9) (Some 3) ≡ Some 9)
    × (left_by seen.All None (Some 3) ≡ None)
    × (left_by (seen.UpTo (Some 5)) (Some 9) (Some 3) ≡ Some 5)
    × (left_by (seen.UpTo (Some 2)) (Some 9) (Some 3) ≡ Some 3)
    × (left_by (seen.UpTo (Some 12)) (Some 9) (Some 3) ≡ Some 9)
    × (left_by (seen.UpTo (Some 5)) (Some 9) None ≡ Some 5)
    × (left_by (seen.UpTo (Some 12)) (Some 9) None ≡ Some 9)
    × (left_by (seen.UpTo (Some 5)) None (Some 3) ≡ None)
    × (left_by (seen.UpTo None) (Some 9) (Some 3) ≡ None)
marks_left = (refl, refl, refl, refl, refl, refl, refl, refl, refl)

-- ---- answers

-- two messages of each target are kept, the next session is 7, and the outlet to the network has
-- room for four packets
abbrev setup : Limits
setup = record { before = none_before whole_profile 2 1; first_session = 7; upstream = 4 }

-- before the network is ready
too_early : (name : Option (Vec ℕ Global))
    → replies_of setup (on.Attach no_caps name 8 ∷ on.Detach 7 ∷ [])
    ≡ OfAttach (Err refused.NotReady) ∷ OfDetach false ∷ []
too_early name = refl

-- two lines make it ready; an outlet without room gets no session; a session goes once
attached_and_detached : (bytes : Vec ℕ Global) (m : Moment)
    → bytes.items ≡ codes ":s 001 Me :hi\r\n:s 376 Me :end\r\n"
    → replies_of setup (on.Up bytes m ∷ on.Attach no_caps None 8 ∷ on.Attach no_caps None 0
    ∷ on.Detach 7 ∷ on.Detach 7 ∷ [])
    ≡ OfLines (Taken 0 ∷ Taken 0 ∷ []) ∷ OfAttach (Ok 7) ∷ OfAttach (Err refused.OutletFull)
    ∷ OfDetach true ∷ OfDetach false ∷ []
unfolding told state_lines mapping_of set_tokens
attached_and_detached bytes m is = rw is refl

-- the same of a session that is left
attached_and_left : (bytes : Vec ℕ Global) (m : Moment)
    → bytes.items ≡ codes ":s 001 Me :hi\r\n:s 376 Me :end\r\n"
    → replies_of setup (on.Up bytes m ∷ on.Attach no_caps None 8 ∷ on.Leave 7 (Some 5)
    ∷ on.Leave 7 None ∷ [])
    ≡ OfLines (Taken 0 ∷ Taken 0 ∷ []) ∷ OfAttach (Ok 7) ∷ OfDetach true ∷ OfDetach false ∷ []
unfolding told state_lines mapping_of set_tokens
attached_and_left bytes m is = rw is refl
