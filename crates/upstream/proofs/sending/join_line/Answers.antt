use Rattle.upstream.proofs.Writable.{keyed_is_writable, word_is_clean}
use Rattle.upstream.proofs.sending.join_line.Goals as goal

pub command-requires : goal.command-requires
command-requires c =
    keyed_is_writable c.args.channel.now c.in-Some.key.now c.requires c.in-Some.ensures.clean

pub command-requires-in-None : goal.command-requires-in-None
command-requires-in-None c = word_is_clean c.args.channel.now c.requires
