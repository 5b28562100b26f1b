use Rattle.upstream.proofs.Writable.{user_is_writable}
use Rattle.upstream.proofs.sending.user_line.Goals as goal

pub command-requires : goal.command-requires
command-requires c =
    user_is_writable c.user.result.now c.realname.result.now c.user.ensures.clean
    c.realname.ensures.clean
