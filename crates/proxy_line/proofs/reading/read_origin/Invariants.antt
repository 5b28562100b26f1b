use Rattle.std.proofs.Common.{false, length, ◌==◌, ◌≡◌}
use Rattle.std.specs.{Io.KnownBytes.Consumes, List.list_any}
use Rattle.proxy_line.proofs.reading.read_origin.Given as goal

abbrev pub invariant-loop : goal.invariant-loop
invariant-loop g l =
    Consumes (g.R.Read.remaining l.fn.input) (g.R.Read.remaining l.input) l.line.items
    × (list_any (λ b. b == 10) l.line.items ≡ false) × (length l.line.items ≡ l.counter)
