use Rattle.irc_support.proofs.bytes.counted.Given as goal
use Rattle.irc_support.specs.{Edits.tokens_in, Weights.settings_bytes}
use Rattle.std.{proofs.Common.{map, ◌%◌, ◌^◌, ◌≡◌}, specs.Map.Iter.deref_pair}

abbrev pub invariant-loop-name : goal.invariant-loop-name
invariant-loop-name g l = l.bytes ≡ settings_bytes (tokens_in (map deref_pair l.yielded)) % 2 ^ 64
