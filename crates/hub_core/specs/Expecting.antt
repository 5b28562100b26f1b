-- A channel that is about to be asked for by a key.
use Rattle.std.proofs.Common.{Some}
use Rattle.irc_support.specs.Settings.{mapping_of}
use Rattle.irc_support.specs.Text.{Text}
use Rattle.hub_core.specs.JoinKeys.{ask}
use Rattle.hub_core.specs.States.{HubState, view_now}

-- the same hub once the channel of this name is asked for by this key, as by a JOIN of a client (RFC
-- 2812, section 3.2.1)
abbrev pub expecting : Text → Text → HubState → HubState
expecting name key h = record h {
  wishes = record h.wishes {
    keys = ask (mapping_of (view_now h).settings) (name, Some key) h.wishes.keys;
  };
}
