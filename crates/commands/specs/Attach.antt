-- What `bnc attach` writes for the bytes that a network sent, and why it fails.
use Rattle.std.specs.Prelude.{◌≡◌, ℕ, IfSome, List, [], Option, None, false, true, unwrap_or}
use Rattle.std.specs.List.{filter_map, flat_map}
use Rattle.std.specs.Option.{option_and_then, option_map, option_map_or}
use Rattle.std.specs.Io.KnownBytes.{IsAtEnd}
use Rattle.irc_line.specs.Lines.{is_too_long}
use Rattle.irc_line.specs.Tags.{time_of}
use Rattle.irc_line.specs.Writing.{written}
use Rattle.net_view.specs.Arrival.{Arrival, Received, Lost}
use Rattle.net_view.specs.View.{view_of}
use Rattle.client_caps.specs.declared.caps.Caps.{Caps}
use Rattle.client_caps.specs.Moment.{time_text_of}
use Rattle.bnc_config.specs.Document.{IsProfileFaultOf, MeansProfile}
use Rattle.bnc_config.specs.Settings.{ProfileSettings}
use Rattle.history.specs.Entry.{EntryParts, message_of}
use Rattle.history.specs.Keeping.{Kept, if_kept, in_ring_heard, is_kept_heard}
use Rattle.history.specs.Messages.{AreWrittenMessages, Messages, history_of, missed_by}
use Rattle.welcome.specs.Playback.{burst_of}
use Rattle.welcome.specs.Playing.{burst_by}
use Rattle.welcome.specs.declared.playing.Playing.{Playing}
use Rattle.profile_settings.specs.Profiles.{kept_of as kept_in, played_of}
use Rattle.commands.specs.Stream.{IsRefusal, transcript_of}
use Rattle.commands.specs.declared.fault.Fault.{Fault}
use Rattle.commands.specs.declared.fault.Fault.TheVariants.{CannotWrite, NotReady, OutOfMemory}
use Rattle.commands.specs.declared.fault.Fault.TheVariants.{Settings as OfSettings}

-- the message that a line is, if it is one; without a time of its own it came at
-- 1970-01-01T00:00:00Z (our own choice)
abbrev pub message_in : Arrival → Option EntryParts
message_in (Received line) =
    message_of (unwrap_or (time_of line) (time_text_of 0)) line.source line
message_in Lost = None

-- the same if a profile keeps it, in its ring
abbrev pub message_by : Kept → Arrival → Option EntryParts
message_by k x =
    option_map (in_ring_heard k) (option_and_then (if_kept (is_kept_heard k)) (message_in x))

-- the history of a transcript's messages, which keeps this many to each target
abbrev pub kept_of : ℕ → List Arrival → Messages
kept_of n items = history_of n 1 (filter_map message_in items)

-- the history of those which a profile keeps, this many in each ring
abbrev pub history_by : Kept → ℕ → List Arrival → Messages
history_by k n items = history_of n 1 (filter_map (message_by k) items)

-- how many a history keeps in each ring, if there is one
abbrev pub room_of : Option Messages → ℕ
room_of recent = option_map_or (λ (h : Messages). h.capacity) recent 0

-- what is kept by a profile once these items came: the history of their messages, if there is one
abbrev pub IsKept : Kept → Option Messages → List Arrival → Type 0
IsKept k recent items =
    IfSome recent (λ h. (h ≡ history_by k h.capacity items) × AreWrittenMessages h)

-- the messages of a transcript that are retained, this many to each target, the oldest first
abbrev pub last_messages : ℕ → List Arrival → List EntryParts
last_messages n items = missed_by None (kept_of n items)

abbrev pub last_messages_by : Kept → ℕ → List Arrival → List EntryParts
last_messages_by k n items = missed_by None (history_by k n items)

-- what a client is sent that comes when these bytes were read
abbrev pub stream_burst : Caps → ℕ → List ℕ → List ℕ
stream_burst caps n bytes =
    let items = transcript_of bytes in
    flat_map written (burst_of (view_of items) caps (last_messages n items))

-- the same by a profile: which messages are kept, and how they are played back
abbrev pub stream_burst_by : Kept → Playing → Caps → ℕ → List ℕ → List ℕ
stream_burst_by k playing caps n bytes =
    let items = transcript_of bytes in
    flat_map written (burst_by playing (view_of items) caps (last_messages_by k n items))

-- the same by the profile of a settings file
abbrev pub profiled_burst : ProfileSettings → Caps → ℕ → List ℕ → List ℕ
profiled_burst profile = stream_burst_by (kept_in profile.messages) (played_of profile.playback)

-- why it fails, if that is left to read: the network is not ready, or the burst was not written
-- of one that is; else for the reasons of `bnc view`
abbrev pub IsAttachFault : List ℕ → Option (List ℕ) → Fault → Type 0
IsAttachFault bytes left NotReady =
    (is_too_long bytes ≡ false) × IsAtEnd left × ((view_of (transcript_of bytes)).ready ≡ false)
IsAttachFault bytes left CannotWrite =
    (is_too_long bytes ≡ false) × IsAtEnd left × ((view_of (transcript_of bytes)).ready ≡ true)
IsAttachFault bytes left fault = IsRefusal bytes fault

-- why it fails with the profile of a settings file: the file's first fault of a profile, and then
-- nothing was read of the input; else, for the reasons above, if the file has no such fault or
-- memory is out
abbrev pub IsProfiledFault : List ℕ → List ℕ → Option (List ℕ) → Fault → Type 0
IsProfiledFault text bytes left (OfSettings fault) = (bytes ≡ []) × IsProfileFaultOf text fault
IsProfiledFault text bytes left OutOfMemory = IsAttachFault bytes left OutOfMemory
IsProfiledFault text bytes left fault =
    ((profile : ProfileSettings) × MeansProfile text profile) × IsAttachFault bytes left fault
