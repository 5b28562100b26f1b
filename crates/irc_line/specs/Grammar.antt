-- Which texts spell which lines (RFC 2812, section 2.3.1, with tags before the source as IRCv3
-- message-tags has them).
--
--     line     = *SP ["@" tags 1*SP] [":" source 1*SP] command *(1*SP middle)
--                (*SP / 1*SP ":" trailing)
--     tags     = 1*(any byte but SP)           source   = 1*(any byte but SP)
--     command  = 1*letter / 3digit
--     middle   = 1*(any byte but SP), not beginning with ":"
--     trailing = *(any byte)
--
-- No byte is NUL, CR or LF. Our own choices: spaces may come at the front, more than one between
-- parts, and neither the number of parameters (RFC 2812 has fifteen) nor, here, a line's length is
-- limited.
use Rattle.std.specs.Prelude.{◌≡◌, ℕ, true, false, IsTrue, ◌⊎◌, ◌==◌, List, [], ◌∷◌, ◌++◌, Option}
use Rattle.std.specs.Prelude.{Some, None}
use Rattle.std.specs.List.{AllByRecursion}
use Rattle.irc_line.specs.Line.{Parts, is_space, is_line_byte, is_command}

abbrev pub AreSpaces : List ℕ → Type 0
AreSpaces text = AllByRecursion (λ b. is_space b ≡ true) text

-- one space or more
abbrev pub IsGap : List ℕ → Type 0
IsGap [] = ⊥
IsGap (b ∷ bs) = AreSpaces (b ∷ bs)

-- one byte or more, none a space
abbrev pub IsToken : List ℕ → Type 0
IsToken [] = ⊥
IsToken (b ∷ bs) = AllByRecursion (λ c. is_space c ≡ false) (b ∷ bs)

-- a middle: a token that does not begin with a colon
abbrev pub IsWord : List ℕ → Type 0
IsWord [] = ⊥
IsWord (b ∷ bs) = ((b == 58) ≡ false) × AllByRecursion (λ c. is_space c ≡ false) (b ∷ bs)

-- the text of tags or a source, which may be missing: its mark, the part, a gap
abbrev pub SpellsMarked : ℕ → Option (List ℕ) → List ℕ → Type 0
SpellsMarked mark None text = text ≡ []
SpellsMarked mark (Some part) text =
    IsToken part × (gap : List ℕ) × IsGap gap × (text ≡ mark ∷ (part ++ gap))

-- the text after a command: each parameter after a gap, the last perhaps after a colon
abbrev pub SpellsParams : List (List ℕ) → List ℕ → Type 0
SpellsParams [] text = AreSpaces text
SpellsParams (param ∷ params) text = (gap : List ℕ) × IsGap gap × (
    (IsWord param × (rest : List ℕ) × SpellsParams params rest × (text ≡ gap ++ (param ++ rest)))
    ⊎ ((params ≡ []) × (text ≡ gap ++ (58 ∷ param)))
    )

-- the text spells the line
pub record Spells (line : Parts) (text : List ℕ) : Type 0 where
  pub indent : List ℕ
  pub tags : List ℕ
  pub source : List ℕ
  pub params : List ℕ
  pub whole : text ≡ indent ++ (tags ++ (source ++ (line.command ++ params)))
  pub indented : AreSpaces indent
  pub with_tags : SpellsMarked 64 line.tags tags
  pub with_source : SpellsMarked 58 line.source source
  pub with_command : IsTrue (is_command line.command)
  pub with_params : SpellsParams line.params params
  pub clean : AllByRecursion (λ b. IsTrue (is_line_byte b)) text
