use Rattle.client_caps.proofs.images.listed.Goals as goal
use Rattle.client_caps.proofs.Words.{◌≡◌, ◌≤◌, List, Parts, Text, Token, [], ap, arith, codes}
use Rattle.client_caps.proofs.Words.{has_command, join_with_byte, length, map, names_with_highest}
use Rattle.client_caps.proofs.Words.{slice_get, true, unwrap_or, with_param, words_between}
use Rattle.irc_support.specs.{Line.split_words_in, NamesReply.{split_word, split_words}}
use Rattle.{irc_support.specs.Written.highest_text, std.proofs.lemmas.Simd.map-map}

-- the words taken apart and put together
highest_in : (settings : List Token) (line : Parts) → has_command line (codes "353") ≡ true →
    join_with_byte 32 (map (highest_text settings) (split_words_in settings line))
    ≡ names_with_highest settings (unwrap_or (slice_get line.params 3) [])
unfolding split_words
highest_in settings line is =
    rw is (ap (join_with_byte 32) (map-map (highest_text settings) (split_word settings)
    (words_between (unwrap_or (slice_get line.params 3) []))))

-- parameter 3, if there is one, and nothing else
put_at_3 : (f : Text → Text) (params : List Text) → 4 ≤ length params
    → with_param 3 (λ _. f (unwrap_or (slice_get params 3) [])) params ≡ with_param 3 f params
put_at_3 f params h = grind arith

pub relisted-requires : goal.relisted-requires
relisted-requires g c = grind (arith, highest_in, put_at_3)

pub returns : goal.returns
returns g c =
    let settings = (g.V.NetworkView.view c.args.view.now).settings in
    let params = c.args.line.now.params in
    let put : with_param 3 (λ _. c.deref.result.now) params
    ≡ with_param 3 (names_with_highest settings) params =
    let high = highest_in settings c.args.line.now c.requires.names in
    rw (c.deref.ensures.value, c.in_ok-names.ensures, high)
    (put_at_3 (names_with_highest settings) params (omega arith)) in
    rw (← put) c.relisted.ensures
