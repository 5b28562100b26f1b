-- What a fault's report says. The words are our own choice.
use Rattle.std.specs.Prelude.{ℕ, List, ◌++◌, codes}
use Rattle.bnc_config.specs.Key.{path_of}
use Rattle.bnc_config.specs.declared.fault.ConfigFault.{ConfigFault}
use Rattle.bnc_config.specs.declared.fault.ConfigFault.TheVariants.{NotToml, Missing, BadValue}
use Rattle.bnc_config.specs.declared.fault.ConfigFault.TheVariants.{Twice, OutOfMemory}

-- the text of a fault
abbrev pub text_of : ConfigFault → List ℕ
text_of NotToml = codes "not TOML"
text_of (Missing key) = codes "missing " ++ path_of key
text_of (BadValue key) = codes "bad value " ++ path_of key
text_of (Twice name) = codes "twice " ++ name
text_of OutOfMemory = codes "out of memory"
