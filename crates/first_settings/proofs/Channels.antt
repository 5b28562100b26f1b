-- Channels, read word by word.
use Rattle.std.proofs.Common.{◌&&◌, ◌+◌, ◌∷◌, ◌≡◌, ◌≤◌, Bool, List, [], arith, false, length}
use Rattle.std.proofs.Common.{nat_le, true, ℕ}
use Rattle.{first_settings.specs.Questions.is_channel, std.specs.List.list_all}
use Rattle.irc_support.specs.NamesReply.{words_between}

-- the rest are channels, and with this many before them not too many
abbrev pub channels_after : ℕ → List ℕ → Bool
channels_after count text =
    list_all is_channel (words_between text) && nat_le (count + length (words_between text)) 64

module _ (text word rest : List ℕ) (split : words_between text ≡ word ∷ words_between rest) where
  pub channel_taken : (count : ℕ) → is_channel word ≡ true
      → channels_after count text ≡ channels_after (count + 1) rest
  channel_taken count is = grind (arith, split, is)

  pub channel_refused : (count : ℕ) → is_channel word ≡ false → channels_after count text ≡ false
  channel_refused count is = grind (arith, split, is)

  pub channel_too_many : channels_after 64 text ≡ false
  channel_too_many = grind (arith, split)

pub channels_ended : (text : List ℕ) (count : ℕ) → words_between text ≡ [] → count ≤ 64
    → channels_after count text ≡ true
channels_ended text count e few = grind (arith, e, few)

pub ruleset channel_steps = (channel_taken, channel_refused, channel_too_many, channels_ended)
