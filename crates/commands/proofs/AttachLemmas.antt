-- The messages of a transcript that is read line by line.
use Rattle.bnc_config.specs.{Document.MeansProfile, Settings.ProfileSettings}
use Rattle.client_caps.{proofs.PartsWritten.formed, specs.Moment.time_text_of}
use Rattle.client_caps.specs.declared.caps.Caps.{Caps}
use Rattle.commands.specs.Attach.{IsAttachFault, IsKept, IsProfiledFault, last_messages}
use Rattle.commands.specs.Attach.{last_messages_by, message_by, message_in, room_of, stream_burst}
use Rattle.commands.specs.{Attach.stream_burst_by, Stream.transcript_of}
use Rattle.commands.specs.declared.fault.Fault.{Fault}
use Rattle.commands.specs.declared.fault.Fault.TheVariants.{OutOfMemory, Settings as OfSettings}
use Rattle.history.{proofs.{KeptLines.whole_heard, LastMessages.one_more}}
use Rattle.history.specs.{Entry.{EntryParts, in_ring}, Keeping.{Kept, if_kept, whole}}
use Rattle.history.specs.Keeping.{in_ring_heard, is_kept_heard, ring_heard}
use Rattle.history.specs.Messages.{Messages, history_of, is_with_person, missed_by, missed_of}
use Rattle.history.specs.Messages.{retained_of, target_key, target_limit, with_message}
use Rattle.history.specs.Retained.{is_held, is_retained, is_to, of_kind, was_held}
use Rattle.irc_line.specs.{Line.Parts, Tags.is_tag_byte, Writing.written}
use Rattle.irc_line.specs.Tags.{time_form, time_of, time_value, value_behind}
use Rattle.net_view.specs.{Arrival.{Arrival, Lost, Received}, View.view_of}
use Rattle.std.proofs.Common.{◌++◌, ◌∷◌, ◌≡◌, List, None, Option, is_some}
use Rattle.std.proofs.Common.{Some, [], ap, append-nil, arith, codes, false, refl, sym, true, ℕ}
use Rattle.std.proofs.lemmas.{Bool.le-ltb, List.Elements.filter_map-append}
use Rattle.std.specs.{Io.KnownBytes.Consumes, List.{enumerate_from, filter_map, list_all}}
use Rattle.std.specs.{List.flat_map, Option.{option_and_then, option_map, option_map_or, unwrap_or}}
use Rattle.std.specs.Prelude.{◌&&◌, Bool, filter, if◌then◌else◌, length, reverse}
use Rattle.welcome.{proofs.PlaybackWhole.whole_played, specs.Burst.state_part_of}
use Rattle.welcome.specs.{Playing.playing_whole, declared.playing.Playing.Playing}

-- the time of a line is made of what a tag's value is made of
value_tagged : (value time : List ℕ) → time_value value ≡ Some time
    → list_all is_tag_byte time ≡ true
value_tagged value time e = grind (arith, formed time_form value refl)

pub time_tagged : (line : Parts) (time : List ℕ) → time_of line ≡ Some time
    → list_all is_tag_byte time ≡ true
time_tagged line time e = in_tags line.tags e where
  in_value : (o : Option (List ℕ)) → option_and_then time_value o ≡ Some time
      → list_all is_tag_byte time ≡ true
  in_value None e = cc
  in_value (Some value) e = value_tagged value time e

  in_tags : (o : Option (List ℕ))
      → option_and_then (λ tags. option_and_then time_value (value_behind (codes "time=") tags)) o
      ≡ Some time → list_all is_tag_byte time ≡ true
  in_tags None e = cc
  in_tags (Some tags) e = in_value (value_behind (codes "time=") tags) e

-- ---- the messages that are kept

-- what is kept, if it is, is the message in its ring
pub kept_in : (k : Kept) (o : Option EntryParts) (ring : Option (List ℕ)) → true
    ≡ is_some (option_map (in_ring_heard k) (option_and_then (if_kept (is_kept_heard k)) o))
    → ring ≡ option_and_then (ring_heard k) o → option_map (in_ring ring) o
    ≡ option_map (in_ring_heard k) (option_and_then (if_kept (is_kept_heard k)) o)
kept_in k None ring is r = refl
kept_in k (Some e) ring is r = rw r (by (is_kept_heard k e) is) where
  by : (b : Bool)
      → true ≡ is_some (option_map (in_ring_heard k) (if b then Some e else None))
      → Some (in_ring_heard k e) ≡ option_map (in_ring_heard k) (if b then Some e else None)
  by true is = refl
  by false is = cc

-- ---- the messages that are retained, of those that a function makes of the items

-- one message more
pub message_more : (f : Arrival → Option EntryParts) (n : ℕ) (items : List Arrival) (x : Arrival)
    (entry : EntryParts) (number : ℕ) (held : Messages)
    → held ≡ history_of n 1 (filter_map f items) → held.next ≡ Some number → f x ≡ Some entry
    → with_message number entry held ≡ history_of n 1 (filter_map f (items ++ x ∷ []))
message_more f n items x entry number held is next e =
    rw (is, filter_map-append f items (x ∷ []), e)
    (one_more n 1 number (filter_map f items) entry (rw is at next))

-- a line that is none
pub no_message : (f : Arrival → Option EntryParts) (n : ℕ) (items : List Arrival) (x : Arrival)
    (held : Messages) → held ≡ history_of n 1 (filter_map f items) → f x ≡ None
    → held ≡ history_of n 1 (filter_map f (items ++ x ∷ []))
no_message f n items x held is e =
    rw (is, filter_map-append f items (x ∷ []), e, append-nil)

-- if none is to be kept, none is
none_stands : (k : List ℕ) (back : List (ℕ × EntryParts))
    → is_retained target_key target_limit 0 k back ≡ false
none_stands k back =
    ap (λ b. b && (is_held target_key target_limit 0 k back
    && was_held target_key target_limit 0 k back))
    (le-ltb (length (filter (is_to target_key k) back)) 0 (omega arith))

none_passes : (ms : List (ℕ × EntryParts)) → retained_of 0 ms ≡ []
none_passes [] = refl
none_passes (m ∷ later) =
    rw (none_stands (target_key m)
    (filter (of_kind is_with_person (is_with_person m)) (reverse later))) (none_passes later)

-- what is handed to the burst
pub retained_then : (k : Kept) (recent : Option Messages) (items : List Arrival)
    → IsKept k recent items
    → option_map_or (missed_by None) recent [] ≡ last_messages_by k (room_of recent) items
retained_then k None items kept =
    sym (ap (missed_of None) (none_passes (enumerate_from 1 (filter_map (message_by k) items))))
retained_then k (Some h) items kept = ap (missed_by None) kept.0

-- ---- the whole profile

-- if each message is kept, what is kept is each message
whole_message : (x : Arrival) → message_by whole x ≡ message_in x
whole_message (Received line) = whole_heard (unwrap_or (time_of line) (time_text_of 0)) line
whole_message Lost = refl

whole_messages : (items : List Arrival)
    → filter_map (message_by whole) items ≡ filter_map message_in items
whole_messages [] = refl
whole_messages (x ∷ items) = grind (arith, whole_message x, whole_messages items)

-- what is written by the whole profile is what is written by none
pub whole_burst : (k : Kept) (playing : Playing) (caps : Caps) (n : ℕ) (bytes : List ℕ)
    → k ≡ whole → playing ≡ playing_whole
    → stream_burst_by k playing caps n bytes ≡ stream_burst caps n bytes
whole_burst k playing caps n bytes e f =
    let v = view_of (transcript_of bytes) in
    let entries = last_messages n (transcript_of bytes) in
    rw (e, whole_messages (transcript_of bytes))
    (ap (λ lines. flat_map written (state_part_of v caps ++ lines))
    (whole_played playing v caps entries f))

-- ---- the profile of a settings file

-- nothing was read
pub nothing_read : (left : Option (List ℕ)) → Consumes left left []
nothing_read None = tt
nothing_read (Some bytes) = refl

-- a fault of the input is one of it with the profile of a file that means one
pub fault_profiled : (text bytes : List ℕ) (left : Option (List ℕ)) (fault : Fault)
    → (profile : ProfileSettings) → MeansProfile text profile → IsAttachFault bytes left fault
    → IsProfiledFault text bytes left fault
fault_profiled text bytes left (OfSettings fault) profile means is = absurd is
fault_profiled text bytes left OutOfMemory profile means is = is
fault_profiled text bytes left _ profile means is = ((profile, means), is)
