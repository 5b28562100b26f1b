use Rattle.std.proofs.Common.{rules}
use Rattle.network_tables.proofs.room.rename_member.Goals as goal

pub returns-in-Some-remove_by : goal.returns-in-Some-remove_by
returns-in-Some-remove_by g c = search rules
