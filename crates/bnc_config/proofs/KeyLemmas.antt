-- Faults of one key.
use Rattle.bnc_config.specs.Allowed.{is_text_where}
use Rattle.bnc_config.specs.Document.{fault_at}
use Rattle.bnc_config.specs.declared.{fault.ConfigFault.ConfigFault, key.Key.Key}
use Rattle.std.proofs.Common.{Bool, List, Option, Some, arith, false, true, ℕ, ◌≡◌}
use Rattle.toml.specs.Data.{Data}

-- what is no text is a fault whichever texts are allowed
pub fault_at_any_text : (key : Key) (test : List ℕ → Bool) (found : Option Data) (e : ConfigFault)
    → fault_at key false (is_text_where (λ _. true)) found ≡ Some e
    → fault_at key false (is_text_where test) found ≡ Some e
fault_at_any_text key test found e h = grind arith
