-- When a loop of pumps ends.
use Rattle.std.specs.Prelude.{◌+◌, ℕ, Option, None, Some, Result, Ok, Err, min, nat_le}
use Rattle.std.specs.Prelude.{if◌then◌else◌}
use Rattle.hub_core.specs.declared.hub.HubError.{HubError}
use Rattle.hub_core.specs.declared.hub.HubError.TheVariants as fault
use Rattle.hub_core.specs.declared.hub.Pumped.{Pumped}
use Rattle.hub_threads.specs.declared.pumping.PumpEnd.{PumpEnd}
use Rattle.hub_threads.specs.declared.pumping.PumpEnd.TheVariants as end

-- how many allocations were refused in succession after one more pump, counted up to 1,000 (our own
-- choice)
abbrev pub refused_after : ℕ → Result Pumped HubError → ℕ
refused_after n (Ok did) = 0
refused_after n (Err fault.Spent) = n
refused_after n (Err fault.OutOfMemory) = min (n + 1) 1000

-- whether the loop ends there, and why: at the first message without a number, and at the
-- thousandth refusal for memory
abbrev pub end_after : ℕ → Result Pumped HubError → Option PumpEnd
end_after n (Ok did) = None
end_after n (Err fault.Spent) = Some end.Spent
end_after n (Err fault.OutOfMemory) = if nat_le 1000 (n + 1) then Some end.Memory else None
