-- What the settings say of messages, as histories and bursts take it.
use Rattle.std.specs.Prelude.{option_and_then}
use Rattle.bnc_config.specs.Settings.{MessagesSettings, PlaybackSettings}
use Rattle.bnc_config.specs.declared.utc_offset.UtcOffset.{UtcOffset}
use Rattle.history.specs.Keeping.{Kept}
use Rattle.welcome.specs.Offset.{offset_apart}
use Rattle.welcome.specs.declared.playing.Playing.{Playing}

-- which messages are kept, and in whose rings
abbrev pub kept_of : MessagesSettings → Kept
kept_of messages = record {
  ctcp = messages.ctcp;
  server_notices = messages.server_notices;
  to_self = messages.to_self;
  by_person = messages.by_person;
  never = messages.never;
}

-- how they are played back
abbrev pub played_of : PlaybackSettings → Playing
played_of playback = record {
  private_batches = playback.private_batches;
  times = option_and_then (λ (offset : UtcOffset). offset_apart offset.is_behind offset.minutes)
      playback.times;
  visits = playback.visits;
}
