use Rattle.client_caps.proofs.images.highest_names.Given as goal
use Rattle.{client_caps.proofs.JoinedTexts.joined_on, irc_support.specs.Line.split_words_in}
use Rattle.{irc_support.specs.Written.highest_text, std.proofs.Common.{map, ◌≡◌}}
use Rattle.std.specs.List.{join_with_byte}

abbrev pub invariant-loop-ranks : goal.invariant-loop-ranks
invariant-loop-ranks g l =
    let settings = (g.V.NetworkView.view l.view).settings in
    joined_on 32 l.is_first l.names.items (map (highest_text settings) l.ranks-iterator)
    ≡ join_with_byte 32 (map (highest_text settings) (split_words_in settings l.line))
