-- A client name that is forgotten.
use Rattle.std.specs.Prelude.{Bool, false, List}
use Rattle.std.specs.FinMap as fin
use Rattle.std.specs.List.{list_any}
use Rattle.std.specs.Option.{option_map_or}
use Rattle.std.specs.Str.{bytes_eq}
use Rattle.irc_support.specs.Text.{Text}
use Rattle.hub_core.specs.States.{HubState, SessionState}

-- whether a session is of a client with this name
abbrev pub has_name : Text → SessionState → Bool
has_name name s = option_map_or (λ own. bytes_eq own name) s.name false

-- whether some session is
abbrev pub is_in_use : Text → List SessionState → Bool
is_in_use name ss = list_any (has_name name) ss

-- the same hub, which does not know the name, nor what it has seen
abbrev pub forgotten : Text → HubState → HubState
forgotten name h = record h { marks = fin.remove h.marks name }
