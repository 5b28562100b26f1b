-- Lines that are taken one by one from a list.
use Rattle.{irc_line.specs.Line.Parts, std.proofs.Common.{List, [], add-one, append_assoc}}
use Rattle.std.proofs.Common.{drop, get_or, length, take, ℕ, ◌++◌, ◌+◌, ◌<◌, ◌∷◌}
use Rattle.std.proofs.{Common.◌≡◌, Math.Seq.drop-cons, lemmas.List.{take-append-drop, take_more}}

-- a line more, after those before
pub behind : (before done lines : List Parts) (line : Parts) → lines ≡ done ++ line ∷ []
    → before ++ lines ≡ (before ++ done) ++ line ∷ []
behind before done lines line is = rw (is, append_assoc)

-- the lines up to a place, and the line there
pub up_to : (lines : List Parts) (i : ℕ) (line : Parts) → i < length lines → line
    ≡ get_or lines i line → take (i + 1) lines ≡ take i lines ++ line ∷ []
up_to lines i line within is = rw (← is) at (take_more lines i line within)

pub from_place : (lines : List Parts) (i : ℕ) (line : Parts) → i < length lines → line
    ≡ get_or lines i line → drop i lines ≡ line ∷ drop (i + 1) lines
from_place lines i line within is = rw (add-one, drop-cons lines i line within, ← is)

pub place_parts : (lines : List Parts) (i : ℕ) (line : Parts) → drop i lines
    ≡ line ∷ drop (i + 1) lines → lines ≡ take i lines ++ line ∷ drop (i + 1) lines
place_parts lines i line here = cc (take-append-drop i lines)

pub parted : (lines : List Parts) (i : ℕ) (line : Parts) → i < length lines → line
    ≡ get_or lines i line → lines ≡ take i lines ++ line ∷ drop (i + 1) lines
parted lines i line within is = place_parts lines i line (from_place lines i line within is)

pub place_taken : (lines : List Parts) (i : ℕ) (line : Parts) → i < length lines
    → drop i lines ≡ line ∷ drop (i + 1) lines → take (i + 1) lines ≡ take i lines ++ line ∷ []
place_taken lines i line within here =
    cc (take_more lines i line within, drop-cons lines i line within)
