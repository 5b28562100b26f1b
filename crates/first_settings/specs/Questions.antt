-- The questions of `bnc setup`, and which answers they take. Our own choice, except what a channel's
-- name begins with (RFC 2812, section 1.3).
use Rattle.std.specs.Prelude.{◌==◌, ◌&&◌, ℕ, Bool, List, [], ◌∷◌, Option, Some, None, length, codes}
use Rattle.std.specs.Prelude.{nat_le, false}
use Rattle.std.specs.List.{list_all, list_any}
use Rattle.std.specs.Str.{bytes_eq}
use Rattle.irc_support.specs.NamesReply.{words_between}
use Rattle.bnc_config.specs.Text.{is_address, is_name, is_word}
use Rattle.irc_names.specs.Nick.{is_nameable}
use Rattle.first_settings.specs.declared.question.Question.{Question}
use Rattle.first_settings.specs.declared.question.Question.TheVariants.{Address, Again, Channels}
use Rattle.first_settings.specs.declared.question.Question.TheVariants.{Nick, Password}

-- the question after a good answer
abbrev pub after : Question → Option Question
after Address = Some Nick
after Nick = Some Channels
after Channels = Some Password
after Password = Some Again
after Again = None

-- what is asked after a bad answer: the password again if it was not the same twice
abbrev pub again : Question → Question
again Again = Password
again question = question

-- a channel: a word that begins as the names of channels do
abbrev pub is_channel : List ℕ → Bool
is_channel [] = false
is_channel (b ∷ name) = list_any (λ c. b == c) (codes "#&+!") && is_word (b ∷ name)

-- channels, with spaces between them: no more than the settings take
abbrev pub are_channels : List ℕ → Bool
are_channels line =
    list_all is_channel (words_between line) && nat_le (length (words_between line)) 64

-- a good answer to a question, if this is the password that was given
abbrev pub is_good : Question → List ℕ → List ℕ → Bool
is_good Address password line = is_address line
is_good Nick password line = is_nameable line && is_name line
is_good Channels password line = are_channels line
is_good Password password line = is_word line
is_good Again password line = bytes_eq line password
