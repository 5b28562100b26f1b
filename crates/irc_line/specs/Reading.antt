-- The line that a text spells, computed. That this is the grammar's is a law, `the_grammar`: what
-- is read here is what `Grammar` says, and all of it.
use Rattle.std.specs.Prelude.{ℕ, Bool, true, false, ◌&&◌, ◌==◌, List, [], ◌∷◌, Option, Some, None}
use Rattle.std.specs.Prelude.{if◌then◌else◌}
use Rattle.std.specs.List.{list_all, onto_first}
use Rattle.irc_line.specs.Line.{Parts, is_space, is_line_byte, is_command}

-- a text without the spaces at its front
abbrev pub trimmed : List ℕ → List ℕ
trimmed [] = []
trimmed (b ∷ bs) = if is_space b then trimmed bs else b ∷ bs

-- the text before the first space
abbrev pub token : List ℕ → List ℕ
token [] = []
token (b ∷ bs) = if is_space b then [] else b ∷ token bs

-- the text from the first space on
abbrev pub after_token : List ℕ → List ℕ
after_token [] = []
after_token (b ∷ bs) = if is_space b then b ∷ bs else after_token bs

-- x, or y if the list is empty
abbrev pub unless_empty : {X : Type 0} → List ℕ → X → X → X
unless_empty [] x y = y
unless_empty (b ∷ bs) x y = x

-- the part after a mark, if the text begins with the mark and a part
abbrev pub marked : ℕ → List ℕ → Option (List ℕ)
marked mark [] = None
marked mark (b ∷ bs) = if b == mark then unless_empty (token bs) (Some (token bs)) None else None

-- the text after such a part, or all of the text if there is none
abbrev pub after_marked : ℕ → List ℕ → List ℕ
after_marked mark [] = []
after_marked mark (b ∷ bs) =
    if b == mark then unless_empty (token bs) (trimmed (after_token bs)) (b ∷ bs) else b ∷ bs

-- The parameters after a command. In a word the first is the rest of that word; a colon before a
-- word makes all that follows one parameter.
abbrev pub params_at : Bool → List ℕ → List (List ℕ)
params_at true [] = [] ∷ []
params_at false [] = []
params_at true (b ∷ bs) =
    if is_space b then [] ∷ params_at false bs else onto_first b (params_at true bs)
params_at false (b ∷ bs) =
    if is_space b then params_at false bs else
    if b == 58 then bs ∷ [] else
    onto_first b (params_at true bs)

-- a text from the place after its tags, and from its command on
abbrev pub untagged : List ℕ → List ℕ
untagged text = after_marked 64 (trimmed text)

abbrev pub body : List ℕ → List ℕ
body text = after_marked 58 (untagged text)

abbrev pub parts_of : List ℕ → Parts
parts_of text = record {
  tags = marked 64 (trimmed text);
  source = marked 58 (untagged text);
  command = token (body text);
  params = params_at false (after_token (body text));
}

-- whether the text is a line
abbrev pub is_line : List ℕ → Bool
is_line text = list_all is_line_byte text && is_command (token (body text))

-- the line that the text is
abbrev pub line_of : List ℕ → Option Parts
line_of text = if is_line text then Some (parts_of text) else None
