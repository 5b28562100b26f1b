use Rattle.client_caps.proofs.images.push_highest.Goals as goal
use Rattle.std.proofs.Common.{rules}

pub returns-in_ok-push : goal.returns-in_ok-push
returns-in_ok-push g c = search rules

pub returns-in_default-symbol : goal.returns-in_default-symbol
returns-in_default-symbol g c = search rules

pub returns-in_default : goal.returns-in_default
returns-in_default g c = search rules
