use Rattle.irc_support.proofs.pending.Pending.make.Given as goal
use Rattle.irc_support.specs.{Edits.{left_to, tokens_in, with_all}, Weights.settings_bytes}
use Rattle.{indexmap.specs.IndexMap.{spare}, std.proofs.Common.{vec_len, ◌%◌, ◌^◌, ◌≡◌, ◌≤◌}}

abbrev pub invariant-loop-name : goal.invariant-loop-name
invariant-loop-name g l =
    (with_all (tokens_in l.tokens.entries) l.left.items
    ≡ left_to l.fn.self.removed.keys l.fn.self.set.items (tokens_in l.fn.tokens.entries)) ×
    (vec_len l.left ≤ spare l.tokens) ×
    (l.bytes ≡ settings_bytes (tokens_in l.tokens.entries) % 2 ^ 64)

abbrev pub decreases-loop-name : goal.decreases-loop-name
decreases-loop-name g l = goal.left-loop-name g l
