use Rattle.std.proofs.Common.{◌≡◌, ◌+◌, ℕ, length, map}
use Rattle.journal.specs.Kept.{KeptParts, kept_parts, nothing}
use Rattle.journal.specs.Recalls.{StopsAt, TakesAll}
use Rattle.journal.specs.declared.damage.Damage.{Damage}
use Rattle.journal.proofs.replaying.redo_all.Given as goal

abbrev pub invariant-loop-payload : goal.invariant-loop-payload
invariant-loop-payload l = record {
  count : l.done + length l.payload-iterator.rest.items ≡ length l.fn.payloads.items;
  took : (final : KeptParts)
      → TakesAll (map (λ p. p.now) l.payload-iterator.rest.items) (kept_parts l.kept) final
      → TakesAll (map (λ p. p.now) l.fn.payloads.items) (nothing l.capacity l.first) final;
  stops : (n : ℕ) (d : Damage)
      → StopsAt (map (λ p. p.now) l.payload-iterator.rest.items) (kept_parts l.kept) n d
      → StopsAt (map (λ p. p.now) l.fn.payloads.items) (nothing l.capacity l.first) (l.done + n) d;
}
