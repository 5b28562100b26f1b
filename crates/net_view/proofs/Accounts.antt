-- The account that is known under a nick.
use Rattle.net_view.proofs.Words.{◌≡◌, true, is_nameable, Text, key_by, View, known_at}
use Rattle.net_view.specs.{Readers.account_shown}

-- under a nameable nick it is the person's
pub account_named : (v : View) (nick : Text) → is_nameable nick ≡ true
    → account_shown v nick ≡ known_at (λ p. p.account) v (key_by v.settings nick)
account_named v nick e = cc
