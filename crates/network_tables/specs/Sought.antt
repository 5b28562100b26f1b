-- What is looked for in a table.
use Rattle.irc_names.specs.CaseMapping.{key_of}
use Rattle.irc_support.specs.Text.{Text}
use Rattle.network_tables.specs.declared.sought.Sought.{Sought}
use Rattle.network_tables.specs.declared.sought.Sought.TheVariants.{Key, Name}

-- the key that it has
abbrev pub sought_key : Sought → Text
sought_key (Key key) = key.now
sought_key (Name mapping name) = key_of mapping name.now
