use Rattle.irc_line.proofs.tags.tag_value.Given as goal
use Rattle.{irc_line.specs.Tags.value_behind, std.proofs.Common.{length, ◌≡◌}}

-- the tags that are left decide
abbrev pub invariant-loop-tag : goal.invariant-loop-tag
invariant-loop-tag l = value_behind l.front l.rest ≡ value_behind l.front l.fn.tags

abbrev pub decreases-loop-tag : goal.decreases-loop-tag
decreases-loop-tag l = length l.rest
