use Rattle.client_caps.proofs.images.is_link_command.Goals as goal
use Rattle.std.proofs.Common.{rules}

pub returns-then-eq_ignore_ascii_case-5 : goal.returns-then-eq_ignore_ascii_case-5
returns-then-eq_ignore_ascii_case-5 c = search rules

pub returns-else-eq_ignore_ascii_case-5 : goal.returns-else-eq_ignore_ascii_case-5
returns-else-eq_ignore_ascii_case-5 c = search rules
