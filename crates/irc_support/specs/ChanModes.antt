-- The kinds of channel modes (`CHANMODES`; isupport draft, section 3.3).
use Rattle.std.specs.Prelude.{ℕ, Bool, true, false, ◌==◌, if◌then◌else◌, List, unwrap_or, is_some}
use Rattle.std.specs.Prelude.{codes}
use Rattle.std.specs.List.{position_from, slice_split}
use Rattle.std.specs.Option.{option_map_or}
use Rattle.irc_support.specs.Text.{Text, has_byte}
use Rattle.irc_support.specs.Tokens.{Token, value_of}
use Rattle.irc_support.specs.Ranking.{rank_of_letter}
use Rattle.irc_support.specs.declared.kind.Kind.{Kind}
use Rattle.irc_support.specs.declared.kind.Kind.TheVariants.{Prefix, A, B, C, D, Unknown}

-- the lists that a value names, with commas between them
abbrev pub lists_in : Text → List Text
lists_in value = slice_split (λ b. b == 44) value

-- the lists under these settings; without the token they are `b,k,l,imnpst` (our own choice)
abbrev pub mode_lists : List Token → List Text
mode_lists settings =
    lists_in (unwrap_or (value_of settings (codes "CHANMODES")) (codes "b,k,l,imnpst"))

-- the kind of the letters of the list at this place; lists after the fourth say nothing (our own
-- choice)
abbrev pub kind_at : ℕ → Kind
kind_at place =
    if place == 0 then A else
    if place == 1 then B else
    if place == 2 then C else
    if place == 3 then D else
    Unknown

-- the kind of a letter by the first list that has it
abbrev pub kind_in : List Text → ℕ → Kind
kind_in lists letter =
    option_map_or kind_at (position_from (λ list. has_byte list letter) 0 lists) Unknown

-- the kind of a letter: PREFIX comes first, then the lists
unfoldable pub kind_of : List Token → ℕ → Kind
kind_of settings letter =
    if is_some (rank_of_letter settings letter) then Prefix else
    kind_in (mode_lists settings) letter

-- whether a letter of this kind takes a parameter, set (true) or unset
abbrev pub takes_parameter : Kind → Bool → Bool
takes_parameter Prefix plus = true
takes_parameter A plus = true
takes_parameter B plus = true
takes_parameter C plus = plus
takes_parameter D plus = false
takes_parameter Unknown plus = false
