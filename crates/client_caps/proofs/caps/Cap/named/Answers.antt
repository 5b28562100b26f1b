use Rattle.client_caps.proofs.caps.Cap.named.Goals as goal
use Rattle.{client_caps.specs.Caps.{cap_name, offered_caps}, std.proofs.Common.{Bool, List, ap}}
use Rattle.std.proofs.Common.{arith, drop, drop-cons, false, get_or, length, refl, sym, ℕ, ◌+◌, ◌<◌}
use Rattle.std.{proofs.Common.{◌∙◌, ◌≡◌}, specs.{List.find, Str.bytes_eq}}

-- what is not the one that is sought is left out
find_next : {X : Type 0} (p : X → Bool) (xs : List X) (i : ℕ) (d : X) → i < length xs
    → p (get_or xs i d) ≡ false → find p (drop (i + 1) xs) ≡ find p (drop i xs)
find_next p xs i d within other = grind (arith, drop-cons xs i d within)

pub loop-cap-preserved : goal.loop-cap-preserved
loop-cap-preserved c = record {
  six = refl;
  none_before =
      find_next (λ cap. bytes_eq c.args.name.now (cap_name cap)) offered_caps c.loop-cap.cap-index _
      c.loop-cap-test.true (ap (bytes_eq c.args.name.now) (sym c.name.ensures) ∙ sym c.eq.ensures
      ∙ c.if-eq.false)
      ∙ c.loop-cap.invariant.none_before;
}
