-- What `bnc check` prints of a settings file, and why it fails. The format is our own choice.
use Rattle.std.specs.Prelude.{ℕ, List, ◌++◌, codes, length}
use Rattle.std.specs.Fmt.{decimal}
use Rattle.bnc_config.specs.Document.{IsFaultOf, Means}
use Rattle.bnc_config.specs.Settings.{Settings, network_total}
use Rattle.commands.specs.declared.fault.Fault.{Fault}
use Rattle.commands.specs.declared.fault.Fault.TheVariants.{Settings as OfSettings, CannotWrite}

-- the one line: how many users there are, and how many networks they have together
abbrev pub report_of : Settings → List ℕ
report_of settings =
    codes "users " ++ decimal (length settings.users) ++ codes " networks "
    ++ decimal (network_total settings) ++ codes "\n"

-- the cause of a fault of a check: the first fault of the file, or that the line of a file without
-- one was not written
abbrev pub IsCauseOf : List ℕ → Fault → Type 0
IsCauseOf text (OfSettings fault) = IsFaultOf text fault
IsCauseOf text CannotWrite = (settings : Settings) × Means text settings
IsCauseOf text _ = ⊥
