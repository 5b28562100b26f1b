-- Requests, read word by word.
use Rattle.client_caps.proofs.Words.{◌∷◌, ◌≡◌, Bool, Caps, List, None, Some, Text, [], arith}
use Rattle.client_caps.{proofs.Words.words_between, specs.Caps.{Cap, with_cap}}
use Rattle.client_caps.specs.Request.{caps_after, request_of, wish_of}

-- the first wish, and then the others
after_first : (caps : Caps) (cap : Cap) (held : Bool) (wishes : List (Cap × Bool))
    → caps_after caps ((cap, held) ∷ wishes) ≡ caps_after (with_cap caps cap held) wishes
after_first caps cap held wishes = grind arith

module _ (caps : Caps) (text word rest : Text)
    (split : words_between text ≡ word ∷ words_between rest) where
  -- a request whose first word is a wish
  pub request_taken : (cap : Cap) (held : Bool) → wish_of word ≡ Some (cap, held)
      → request_of caps text ≡ request_of (with_cap caps cap held) rest
  unfolding request_of
  request_taken cap held w = grind (arith, split, after_first)

  -- one whose first word is none
  pub request_refused : wish_of word ≡ None → request_of caps text ≡ None
  unfolding request_of
  request_refused w = grind (arith, split)

-- one without a word
pub request_ended : (caps : Caps) (text : Text) → words_between text ≡ []
    → request_of caps text ≡ Some caps
unfolding request_of
request_ended caps text e = grind (arith, e)

-- a request, word by word
pub ruleset request_steps = (request_taken, request_refused, request_ended)
