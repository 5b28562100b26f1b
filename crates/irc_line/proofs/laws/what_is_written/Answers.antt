use Rattle.irc_line.proofs.laws.what_is_written.Goals as goal
use Rattle.irc_line.proofs.{Spelled.line-spelled, Making.{spells-writable, writable-again}}
use Rattle.irc_line.proofs.WrittenStream.{written-lines}

pub returns : goal.returns
returns c =
    record {
      again = writable-again;
      stream = written-lines;
      any_text = λ line text e.
          spells-writable line text (line-spelled line text e);
    }
