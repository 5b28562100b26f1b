use Rattle.irc_line.proofs.Streams.{put-together, none-has-lf, made-of}
use Rattle.irc_line.proofs.laws.the_segments.Goals as goal

pub returns : goal.returns
returns c = record { whole = put-together; without_lf = none-has-lf; no_others = made-of }
