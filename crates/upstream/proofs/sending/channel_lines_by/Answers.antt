use Rattle.upstream.proofs.Writable.{channel_is_word}
use Rattle.upstream.proofs.sending.channel_lines_by.Goals as goal

pub join_line-requires : goal.join_line-requires
join_line-requires c =
    rw c.as_bytes.ensures
    (channel_is_word c.join-channels.result.now c.loop-channel.channel-index c.channel-item.result
    c.join-channels.ensures.clean c.loop-channel-test.true c.channel-item.is)
