use Rattle.irc_support.proofs.laws.settings_depend_on_the_tokens_alone.Goals as goal
use Rattle.irc_support.specs.{Text.Text, Tokens.{Token, after_param, set_tokens, token_params}}
use Rattle.std.proofs.{Common.{List, [], fold, refl, ◌∷◌, ◌≡◌}, lemmas.List.Sums.fold-append}
use Rattle.std.specs.List.{flat_map}

-- line by line is token by token
by_tokens : (lines : List (List Text)) (settings : List Token) →
    fold set_tokens settings lines ≡ fold after_param settings (flat_map token_params lines)
unfolding set_tokens
by_tokens [] settings = refl
by_tokens (line ∷ lines) settings = rw (by_tokens lines, fold-append)

pub returns : goal.returns
returns c settings lines others same = rw (by_tokens lines, same, by_tokens others)
