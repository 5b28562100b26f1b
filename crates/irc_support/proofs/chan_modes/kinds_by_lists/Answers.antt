use Rattle.irc_support.proofs.chan_modes.kinds_by_lists.Goals as goal
use Rattle.irc_support.{proofs.WordCuts.parts_cut, specs.{ChanModes.{kind_at, lists_in}, Text.Text}}
use Rattle.{irc_support.specs.Text.cut_at, std.specs.{List.position_from, Option.option_map_or}}
use Rattle.irc_support.specs.{Text.has_byte, declared.kind.Kind.TheVariants.{Prefix, Unknown}}
use Rattle.std.proofs.Common.{◌+◌, ◌∷◌, ◌≡◌, ◌≤◌, Bool, List, Some, [], arith, cond, refl, ℕ}
use Rattle.std.proofs.{Common.unwrap_or, lemmas.{Bool.Decides.nat_tests, List.get_or-replicate}}

abbrev has_in : ℕ → Text → Bool
has_in letter list = has_byte list letter

-- the text after the first comma
abbrev behind : Text → Text
behind value = unwrap_or (cut_at 44 value).1 []

-- the first list that has a letter is the one before the first comma, else one after it
first_list : (letter place : ℕ) (value : Text) →
    position_from (has_in letter) place (lists_in value)
    ≡ cond (has_byte (cut_at 44 value).0 letter) (Some place)
    (position_from (has_in letter) (place + 1) (lists_in (behind value)))
first_list letter place value = grind (arith, parts_cut 44 value)

-- from the fifth list on letters have no kind
unknown_from : (letter place : ℕ) (lists : List Text) → 4 ≤ place →
    option_map_or kind_at (position_from (has_in letter) place lists) Unknown ≡ Unknown
unknown_from letter place [] late = refl
unknown_from letter place (list ∷ lists) late =
    grind (arith, nat_tests, unknown_from letter (place + 1) lists)

pub returns : goal.returns
returns c letter fits =
    let value = c.args.value.now in
    let rest = behind (behind (behind (behind value))) in
    let first = first_list letter 0 value in
    let second = first_list letter 1 (behind value) in
    let third = first_list letter 2 (behind (behind value)) in
    let fourth = first_list letter 3 (behind (behind (behind value))) in
    rw (c.set_kind-4.ensures letter fits, c.set_kind-3.ensures letter fits)
    (rw (c.set_kind-2.ensures letter fits, c.set_kind.ensures letter fits)
    (rw (c.first_list-2.ensures.list, c.first_list-3.ensures.list, c.first_list-4.ensures.list)
    (rw (c.first_list-3.ensures.rest, c.first_list-2.ensures.rest, c.first_list.ensures.rest)
    (rw (get_or-replicate 256 letter Unknown Prefix fits, c.first_list.ensures.list)
    (grind (arith, first, second, third, fourth, unknown_from letter 4 (lists_in rest)))))))
