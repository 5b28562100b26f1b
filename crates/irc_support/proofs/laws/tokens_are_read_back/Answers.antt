use Rattle.irc_support.proofs.laws.tokens_are_read_back.Goals as goal
use Rattle.irc_support.{proofs.TokensRead.{tokens_read, tokens_set}, specs.Text.Text}
use Rattle.irc_support.specs.{Tokens.{Token, set_tokens}, Written.AreTokens}
use Rattle.std.proofs.Common.{List, [], fold, ◌∷◌}

after_lines : (lines : List (List Text)) (settings : List Token) → AreTokens settings →
    AreTokens (fold set_tokens settings lines)
after_lines [] settings all = all
after_lines (params ∷ lines) settings all =
    after_lines lines (set_tokens settings params) (tokens_set settings params all)

pub returns : goal.returns
returns c =
    record { in_force = λ lines. after_lines lines [] tt; kept = tokens_set; read = tokens_read }
