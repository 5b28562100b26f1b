-- What a tape reads as, and its last line.
use Rattle.std.specs.Prelude.{◌≡◌, Bool, List, ◌∷◌}
use Rattle.irc_support.specs.Text.{Text}
use Rattle.irc_support.specs.Tokens.{Token}
use Rattle.irc_support.specs.Settings.{key_by}
use Rattle.net_view.specs.Told.{Told}
use Rattle.net_view.specs.Arrival.{Arrival}
use Rattle.net_view.specs.Transcript.{Reading, readings_of, settings_of, ours}
use Rattle.net_view.specs.Tells.{meant}
use Rattle.tape_view.specs.Marks.{IsMarked}
use Rattle.tape_view.specs.declared.tape.Said.{Said}

-- the settings in force, and the readings, the newest first
pub record Heard : Type 0 where
  pub settings : List Token
  pub readings : List Reading

-- what a transcript, the newest item first, reads as by these settings
abbrev pub read_by : List Token → List Arrival → Heard
read_by settings items = record { settings = settings; readings = readings_of items }

-- and by those in force after it
abbrev pub heard : List Arrival → Heard
heard items = read_by (settings_of items) items

-- the key of a name, by the settings in force
abbrev pub key : Heard → Text → Text
key tape name = key_by tape.settings name

-- what a line means by the settings that it is read by
abbrev pub meaning : {A : Type 0} → Said A → Told
meaning said = meant said.support.now said.telling

-- and by those of a tape
abbrev pub meaning_in : {A : Type 0} → Heard → Said A → Told
meaning_in tape said = meant tape.settings said.telling

-- the key of a name, by the settings of a line
abbrev pub key_there : {A : Type 0} → Said A → Text → Text
key_there said name = key_by said.support.now name

-- these persons are us, by the marks of a line
abbrev pub IsBy : {A : Type 0} → (Text → Bool) → Said A → Type 0
IsBy us said = IsMarked us (meaning said) said.marks

-- A tape's last line, and the tape before it. The line is read by the settings in force.
pub record IsLast {A : Type 0} (tape : Heard) (said : Said A) (older : Heard) : Type 0 where
  pub reading : Reading
  pub whole : tape.readings ≡ reading ∷ older.readings
  pub told : meaning said ≡ reading.told
  pub marks : IsBy (ours reading) said
  pub settings : said.support.now ≡ tape.settings
  pub same_settings : older.settings ≡ tape.settings
