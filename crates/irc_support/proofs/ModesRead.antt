-- Modes that are written out are read back as they are.
use Rattle.irc_support.specs.{ModeChanges.{ChangeParts, changes, signed, with_params}, Tokens.Token}
use Rattle.irc_support.specs.{Text.Text, Written.{IsWrittenMode, is_sign, mode_params, set_change}}
use Rattle.std.{proofs.Common.{None, Option, Some, arith, refl}, specs.List.filter_map}
use Rattle.std.specs.{List.AllByRecursion, Prelude.{◌∷◌, ◌≡◌, Bool, List, [], false, map, true, ℕ}}

-- ---- a sign is no letter

-- no change is of a sign
abbrev pub AreUnsigned : List ChangeParts → Type 0
AreUnsigned cs = AllByRecursion (λ (change : ChangeParts). is_sign change.letter ≡ false) cs

unsigned : (settings : List Token) (plus : Bool) (text : Text) (params : List Text) →
    AreUnsigned (with_params settings (signed plus text) params)
unsigned settings plus [] params = tt
unsigned settings plus (b ∷ text) params =
    let same = unsigned settings plus text in
    grind (arith, unsigned settings true text params, unsigned settings false text params, same)

pub changes_unsigned : (settings : List Token) (params : List Text) →
    AreUnsigned (changes settings params)
unfolding changes
changes_unsigned settings [] = tt
changes_unsigned settings (text ∷ params) = unsigned settings true text params

-- ---- modes that are written out

modes_read : (settings : List Token) (modes : List (ℕ × Option Text)) →
    AllByRecursion (IsWrittenMode settings) modes →
    with_params settings (signed true (map (λ (m : ℕ × Option Text). m.0) modes))
    (filter_map (λ (m : ℕ × Option Text). m.1) modes) ≡ map set_change modes
modes_read settings [] each = refl
modes_read settings ((b, None) ∷ modes) each = grind (arith, modes_read settings modes)
modes_read settings ((b, Some param) ∷ modes) each = grind (arith, modes_read settings modes)

-- what the letters after a plus and their parameters change
pub changes_read : (settings : List Token) (modes : List (ℕ × Option Text)) →
    AllByRecursion (IsWrittenMode settings) modes →
    changes settings (mode_params modes) ≡ map set_change modes
unfolding changes
changes_read settings modes each = modes_read settings modes each
