-- What lasts from event to event.
use Rattle.std.proofs.Common.{◌≡◌, ◌∙◌, is_some, true, ap, arith}
use Rattle.steward.specs.declared.steward.Steward.{Steward}
use Rattle.steward.specs.Lasting.{Lasts}

pub stays_stopped : (a b : Steward) → Lasts a b → is_some a.stop ≡ true → is_some b.stop ≡ true
stays_stopped a b l h = ap is_some (l.1 h) ∙ h

pub lasts_on : (a b c : Steward) → Lasts a b → Lasts b c → Lasts a c
lasts_on a b c l m = (
  omega (arith, l.0, m.0),
  λ h. m.1 (stays_stopped a b l h) ∙ l.1 h,
  (m.2.0 ∙ l.2.0, m.2.1 ∙ l.2.1),
)
