use Rattle.bnc_config.proofs.ChannelLemmas.{equal_told}
use Rattle.bnc_config.proofs.channel_keys.ChannelKey.is_for.Goals as goal

pub returns : goal.returns
returns c = equal_told c.same.result _ _ (rw c.channel.ensures at c.same.ensures)
