use Rattle.client_caps.proofs.images.account_joined.Goals as goal
use Rattle.std.proofs.Common.{rules}

pub returns : goal.returns
returns g c = search rules
