-- The command line, as `clap`'s contract names its grammar.
use Rattle.std.specs.Prelude.{◌≡◌, ◌≢◌, ◌⊎◌, ◌≤◌, ◌==◌, ℕ, List, [], ◌∷◌, Option, Some, None, true}
use Rattle.std.specs.Prelude.{codes, if◌then◌else◌, map, option_map, string_bytes}
use Rattle.std.specs.Str.Parse.{IsNumeral, digits_value, without_leading_plus}
use Rattle.clap.specs.Words.{App, IsAmong, Row, Rule, Text, fault_of, first_of, new_app, new_rule}
use Rattle.clap.specs.Words.{subcommand_of, with_rule, with_subcommand}
use Rattle.clap.specs.declared.builder.action.ArgAction.TheVariants.{Set}
use Rattle.clap.specs.declared.builder.value_parser.ValueParser.TheVariants.{Unsigned}
use Rattle.clap.specs.declared.error.kind.ErrorKind.{ErrorKind}
use Rattle.clap.specs.declared.error.kind.ErrorKind.TheVariants as kind
use Rattle.commands.specs.declared.words.Command.{Command}
use Rattle.client_caps.specs.declared.caps.Caps.{Caps}
use Rattle.client_caps.specs.Caps.{no_caps}
use Rattle.client_caps.specs.Request.{request_of}
use Rattle.commands.specs.declared.words.Command.TheVariants.{Attach, AttachBy, Check}
use Rattle.commands.specs.declared.words.Command.TheVariants.{Control as ControlIt, Log, Password}
use Rattle.commands.specs.declared.words.Command.TheVariants.{Serve, Setup, View}
use Rattle.commands.specs.declared.words.Control.{Control}
use Rattle.commands.specs.declared.words.WordsFault.{WordsFault}
use Rattle.commands.specs.declared.words.WordsFault.TheVariants.{Bad, Help, OutOfMemory}

-- an argument that has to be there, and one that may be left out, each by its place
abbrev pub required_rule : Text → Rule
required_rule id = record (new_rule id) { required = true; action = Some Set; value_names = 1 }

abbrev pub optional_rule : Text → Rule
optional_rule id = record (new_rule id) { action = Some Set; value_names = 1 }

-- FILE
abbrev pub file_rule : Rule
file_rule = required_rule (codes "file")

-- a command with FILE
abbrev pub file_app : Text → App
file_app name = with_rule (new_app name) file_rule

-- control FILE WORD [NETWORK [NAME]]
abbrev pub control_app : App
control_app =
    with_rule (with_rule (with_rule (file_app (codes "control")) (required_rule (codes "word")))
    (optional_rule (codes "network"))) (optional_rule (codes "name"))

-- --caps LIST
abbrev pub caps_rule : Rule
caps_rule =
    record (new_rule (codes "caps")) {
      long = Some (codes "caps");
      action = Some Set;
      value_names = 1;
      defaults = [] ∷ [];
    }

-- --history N, with N from 1 to 10,000
abbrev pub history_rule : Rule
history_rule =
    record (new_rule (codes "history")) {
      long = Some (codes "history");
      action = Some Set;
      value_names = 1;
      parser = Some (Unsigned 1 10000);
      defaults = codes "500" ∷ [];
    }

-- --profile FILE
abbrev pub profile_rule : Rule
profile_rule =
    record (new_rule (codes "profile")) {
      long = Some (codes "profile");
      action = Some Set;
      value_names = 1;
    }

-- attach [--caps LIST] [--history N] [--profile FILE]
abbrev pub attach_app : App
attach_app =
    with_rule (with_rule (with_rule (new_app (codes "attach")) caps_rule) history_rule)
    profile_rule

-- view
abbrev pub view_app : App
view_app = new_app (codes "view")

-- bnc COMMAND; the words come without the program's name
abbrev pub bare_app : App
bare_app = let app = new_app (codes "bnc") in
    record app {
      top = record app.top {
        no_binary_name = true;
        subcommand_required = true;
        has_version = true;
      };
    }

-- with the commands whose argument is a file
abbrev pub file_apps : App
file_apps =
    with_subcommand (with_subcommand (with_subcommand (with_subcommand bare_app
    (file_app (codes "serve")).top) (file_app (codes "check")).top)
    (file_app (codes "setup")).top) (file_app (codes "log")).top

abbrev pub bnc_app : App
bnc_app =
    with_subcommand (with_subcommand (with_subcommand (with_subcommand file_apps
    (new_app (codes "password")).top) control_app.top) view_app.top) attach_app.top

-- LIST has the words of a request, with commas in place of spaces
abbrev pub space_for_comma : ℕ → ℕ
space_for_comma b = if b == 44 then 32 else b

abbrev pub spaced : Text → Text
spaced list = map space_for_comma list

-- the text is this number, in decimal digits and with or without a plus, from 1 to 10,000
abbrev pub IsHistory : Text → ℕ → Type 0
IsHistory text n = IsNumeral 10 (without_leading_plus text)
    × (digits_value 10 (without_leading_plus text) ≡ n)
    × (1 ≤ n)
    × (n ≤ 10000)

-- the options ask for these capabilities and this number of messages
abbrev pub IsAttach : List Row → Caps → ℕ → Type 0
IsAttach rows caps n = (list : Text)
    × (first_of (codes "caps") rows ≡ Some list)
    × (request_of no_caps (spaced list) ≡ Some caps)
    × (text : Text)
    × (first_of (codes "history") rows ≡ Some text)
    × IsHistory text n

-- why the options ask for no capabilities and number; running out of memory is a fault of no words
abbrev pub IsOptionsCause : List Row → WordsFault → Type 0
IsOptionsCause rows Bad = (caps : Caps) (n : ℕ) → IsAttach rows caps n → ⊥
IsOptionsCause rows OutOfMemory = Unit {0}
IsOptionsCause rows (Help text) = ⊥

-- the arguments are these of `control`
abbrev pub IsControl : List Row → Control → Type 0
IsControl rows control = (first_of (codes "file") rows ≡ Some (string_bytes control.file))
    × (first_of (codes "word") rows ≡ Some (string_bytes control.word))
    × (first_of (codes "network") rows ≡ option_map string_bytes control.network)
    × (first_of (codes "name") rows ≡ option_map string_bytes control.name)

-- why an argument that has to be there gives no text
abbrev pub IsTextCause : Option Text → WordsFault → Type 0
IsTextCause found Bad = found ≡ None
IsTextCause found OutOfMemory = Unit {0}
IsTextCause found (Help text) = ⊥

-- the command of this name asks for this with these options and arguments
abbrev pub IsCommandOf : Text → List Row → Command → Type 0
IsCommandOf name rows View = name ≡ codes "view"
IsCommandOf name rows (Attach caps n) =
    (name ≡ codes "attach") × IsAttach rows caps n × (first_of (codes "profile") rows ≡ None)
IsCommandOf name rows (AttachBy caps n file) =
    (name ≡ codes "attach") × IsAttach rows caps n
    × (first_of (codes "profile") rows ≡ Some (string_bytes file))
IsCommandOf name rows (Check file) =
    (name ≡ codes "check") × (first_of (codes "file") rows ≡ Some (string_bytes file))
IsCommandOf name rows (Serve file) =
    (name ≡ codes "serve") × (first_of (codes "file") rows ≡ Some (string_bytes file))
IsCommandOf name rows (Setup file) =
    (name ≡ codes "setup") × (first_of (codes "file") rows ≡ Some (string_bytes file))
IsCommandOf name rows (Log file) =
    (name ≡ codes "log") × (first_of (codes "file") rows ≡ Some (string_bytes file))
IsCommandOf name rows Password = name ≡ codes "password"
IsCommandOf name rows (ControlIt control) = (name ≡ codes "control") × IsControl rows control

-- why it asks for nothing; running out of memory is a fault of no words
abbrev pub IsCommandCause : Text → List Row → WordsFault → Type 0
IsCommandCause name rows Bad = (command : Command) → IsCommandOf name rows command → ⊥
IsCommandCause name rows OutOfMemory = Unit {0}
IsCommandCause name rows (Help text) = ⊥

-- the words ask for the command, by the grammar
abbrev pub AsksFor : List Text → Command → Type 0
AsksFor words command = (name : Text) × (rows : List Row)
    × (subcommand_of bnc_app words ≡ Some (name, rows))
    × IsCommandOf name rows command

-- an error of this kind is no fault: help or the version was asked for
abbrev pub IsAsked : ErrorKind → Type 0
IsAsked k = (k ≡ kind.DisplayHelp) ⊎ (k ≡ kind.DisplayVersion)

-- an error of this kind is reported as such; running out of memory may be reported for any
abbrev pub IsOfKind : ErrorKind → WordsFault → Type 0
IsOfKind k (Help text) = IsAsked k
IsOfKind k Bad = (k ≢ kind.OutOfMemory) × (IsAsked k → ⊥)
IsOfKind k OutOfMemory = Unit {0}

-- the grammar finds that the words ask for help or the version
abbrev pub AsksForText : List Text → Type 0
AsksForText words = (k : ErrorKind) × IsAsked k × IsAmong k (fault_of bnc_app words)

-- it finds another fault in them
abbrev pub IsAtFault : List Text → Type 0
IsAtFault words = (k : ErrorKind) × (IsAsked k → ⊥) × IsAmong k (fault_of bnc_app words)

-- the cause of a fault of the words: the grammar finds that they ask for help or the version, or
-- are at fault in another way, or they ask for nothing; running out of memory is a fault of no words
abbrev pub IsCauseOf : List Text → WordsFault → Type 0
IsCauseOf words (Help text) = AsksForText words
IsCauseOf words Bad = IsAtFault words ⊎ ((command : Command) → AsksFor words command → ⊥)
IsCauseOf words OutOfMemory = Unit {0}

-- why there is a text about what is wrong with the words, or none: the grammar finds a fault
-- other than that they ask for help or the version, or it finds no such fault
abbrev pub IsExplained : {T : Type 0} → List Text → Option T → Type 0
IsExplained words (Some text) = IsAtFault words
IsExplained words None = (fault_of bnc_app words ≡ []) ⊎ AsksForText words
