use Rattle.sessions.proofs.arrival.take_lines.Given as goal
use Rattle.{irc_line.specs.{Line.Parts, Writing.bytes_of}, sessions.specs.Answers.has_ended}
use Rattle.{sessions.specs.{Logins.sent_for, Taken.HasTaken}, std.proofs.Common.{List, false, take}}
use Rattle.std.{proofs.Common.{◌++◌, ◌≡◌}, specs.Io.KnownBytes.Appends}

abbrev pub invariant-loop-place : goal.invariant-loop-place
invariant-loop-place g l = (before : List Parts) → HasTaken before l.fn.login
    → has_ended before ≡ false → record {
      taken : HasTaken (before ++ take l.place l.lines) l.login;
      going : has_ended (before ++ take l.place l.lines) ≡ false;
      sent : Appends (g.W.Write.contents l.fn.writer) (g.W.Write.contents l.writer)
          (bytes_of (sent_for before (take l.place l.lines)));
    }
