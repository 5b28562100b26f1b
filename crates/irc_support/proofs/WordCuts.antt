-- A text cut at its first space, word by word.
use Rattle.{irc_line.proofs.Segments.{split-at, split-none}, irc_support.specs.Text.{Text, cut_at}}
use Rattle.{irc_support.specs.NamesReply.words_between, std.specs.List.slice_split}
use Rattle.std.proofs.Common.{◌==◌, ◌∷◌, ◌≡◌, Bool, [], arith, false, length, not, unwrap_or, ℕ}
use Rattle.std.{proofs.lemmas.{Bool.Decides.nat_tests, List.take_all}, specs.Option.option_map_or}

abbrev pub is_gap : ℕ → Bool
is_gap b = b == 32

abbrev pub is_some_word : Text → Bool
is_some_word word = not (length word == 0)

-- the parts of a text are the one before such a byte and those after it, if there is one
pub parts_cut : (b : ℕ) (text : Text) →
    slice_split (λ c. c == b) text
    ≡ (cut_at b text).0 ∷ option_map_or (slice_split (λ c. c == b)) (cut_at b text).1 []
parts_cut b text = grind (arith, nat_tests, split-at b text, split-none b text, take_all)

pub cut_word : (text word rest : Text) → word ≡ (cut_at 32 text).0 →
    rest ≡ unwrap_or (cut_at 32 text).1 [] → (length word == 0) ≡ false →
    words_between text ≡ word ∷ words_between rest
cut_word text word rest w r some = grind (arith, parts_cut 32 text)
