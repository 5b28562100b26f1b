-- How settings read names: CASEMAPPING and CHANTYPES (isupport draft, sections 3.1 and 3.5).
use Rattle.std.specs.Prelude.{ℕ, Bool, false, ◌||◌, ◌&&◌, not, ◌==◌, if◌then◌else◌, List, [], ◌∷◌}
use Rattle.std.specs.Prelude.{unwrap_or, codes}
use Rattle.std.specs.List.{list_any}
use Rattle.std.specs.Str.{bytes_eq}
use Rattle.irc_names.specs.declared.case_mapping.CaseMapping.{CaseMapping}
use Rattle.irc_names.specs.declared.case_mapping.CaseMapping.TheVariants.{Ascii, Rfc1459, Strict}
use Rattle.irc_names.specs.CaseMapping.{key_of}
use Rattle.irc_support.specs.Text.{Text, has_byte}
use Rattle.irc_support.specs.Tokens.{Token, value_of}

-- the mapping of this name; an unknown one counts as ascii (our own choice)
abbrev pub mapping_named : Text → CaseMapping
mapping_named name =
    if bytes_eq name (codes "rfc1459") then Rfc1459 else
    if bytes_eq name (codes "strict-rfc1459") then Strict else
    Ascii

-- the mapping under these settings; without the token it is rfc1459
unfoldable pub mapping_of : List Token → CaseMapping
mapping_of settings =
    mapping_named (unwrap_or (value_of settings (codes "CASEMAPPING")) (codes "rfc1459"))

-- what a name is compared by
abbrev pub key_by : List Token → Text → Text
key_by settings name = key_of (mapping_of settings) name

-- how a channel's name can begin; without the token `#` and `&`
abbrev pub channel_types : List Token → Text
channel_types settings = unwrap_or (value_of settings (codes "CHANTYPES")) (codes "#&")

-- what no channel name holds: space, comma and BELL (RFC 2812, section 1.3)
abbrev pub is_outside_channel : ℕ → Bool
is_outside_channel b = b == 32 || b == 44 || b == 7

-- Whether this is a channel's name. A name that begins with a colon can't be a parameter of its
-- own.
unfoldable pub is_channel : List Token → Text → Bool
is_channel settings [] = false
is_channel settings (b ∷ name) =
    has_byte (channel_types settings) b && not (b == 58)
    && not (list_any is_outside_channel (b ∷ name))
