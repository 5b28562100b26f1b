use Rattle.std.proofs.Common.{◌≡◌, ◌+◌, length, map}
use Rattle.std.specs.List.{flat_map}
use Rattle.frames.specs.Frames.{frame}
use Rattle.journal.proofs.sizes.frames_length.Given as goal

abbrev pub invariant-loop-payload : goal.invariant-loop-payload
invariant-loop-payload l =
    l.size + length (flat_map frame (map (λ p. p.now) l.payload-iterator.rest.items))
    ≡ length (flat_map frame (map (λ p. p.now) l.fn.payloads.items))
