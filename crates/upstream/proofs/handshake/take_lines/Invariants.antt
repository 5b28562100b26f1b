use Rattle.upstream.proofs.handshake.take_lines.Given as goal
use Rattle.{bnc_config.specs.Settings.NetworkSettings, irc_line.specs.Line.Parts}
use Rattle.{irc_line.specs.Writing.bytes_of, std.proofs.Common.{List, false, take, ◌++◌, ◌≡◌}}
use Rattle.{std.specs.Io.KnownBytes.Appends, upstream.specs.Handshake.sent_for}
use Rattle.upstream.specs.{Registration.has_ended, Taken.HasTaken}

abbrev pub invariant-loop-place : goal.invariant-loop-place
invariant-loop-place g l = (network : NetworkSettings) (before : List Parts)
    → HasTaken network before l.fn.register
    → has_ended network before ≡ false → record {
      taken : HasTaken network (before ++ take l.place l.lines) l.register;
      going : has_ended network (before ++ take l.place l.lines) ≡ false;
      sent : Appends (g.W.Write.contents l.fn.writer) (g.W.Write.contents l.writer)
          (bytes_of (sent_for network before (take l.place l.lines)));
    }
