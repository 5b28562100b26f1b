use Rattle.irc_support.proofs.chan_modes.set_kind.Given as goal
use Rattle.irc_support.specs.{Text.has_byte, declared.kind.Kind.TheVariants.Prefix}
use Rattle.std.proofs.Common.{drop, if◌then◌else◌, length, slice_index_or, ℕ, ◌<◌, ◌≡◌}

abbrev pub invariant-loop-letter : goal.invariant-loop-letter
invariant-loop-letter l =
    (length l.kinds ≡ 256) × ((letter : ℕ) → letter < 256 →
    (if has_byte (drop l.letter-index l.letters) letter then l.kind
    else slice_index_or l.kinds letter Prefix)
    ≡ (if has_byte l.letters letter then l.kind else slice_index_or l.initial.kinds letter Prefix))
