-- The capabilities that are held, after one more request.
use Rattle.client_caps.specs.{Answers.asked, Request.{caps_after, request_of}}
use Rattle.client_caps.specs.declared.answers.Asked.{Asked, TheVariants.{Change, End, Offered}}
use Rattle.{client_caps.specs.declared.caps.{Cap.Cap, Caps.Caps}, irc_line.specs.Line.Parts}
use Rattle.{irc_support.specs.Text.Text, sessions.proofs.LookedBack.last_unwrapped}
use Rattle.sessions.specs.Given.{held_in, is_open, negotiation_in, opens, wishes_by, wishes_in}
use Rattle.sessions.specs.declared.negotiation.Negotiation.{Negotiation}
use Rattle.std.proofs.{Common.{append-nil, arith, refl}, lemmas.Grind.flat_map-append}
use Rattle.std.specs.Prelude.{Bool, List, [], false, unwrap_or, ◌++◌, ◌∷◌, ◌≡◌}

-- wishes, and then others
caps_after_both : (caps : Caps) (xs ys : List (Cap × Bool))
    → caps_after caps (xs ++ ys) ≡ caps_after (caps_after caps xs) ys
caps_after_both caps xs ys = simp last_unwrapped

-- a request that can't be taken changes nothing
pub caps_after_text : (caps : Caps) (text : Text)
    → unwrap_or (request_of caps text) caps ≡ caps_after caps (wishes_in text)
unfolding request_of
caps_after_text caps text =
    grind arith

-- the line's wishes come last
held_more : (before : List Parts) (line : Parts)
    → held_in (before ++ line ∷ []) ≡ caps_after (held_in before) (wishes_by line (asked line))
held_more before line = simp (flat_map-append, caps_after_both, append-nil)

open_more : (before : List Parts) (line : Parts)
    → is_open (before ++ line ∷ []) ≡ unwrap_or (opens (asked line)) (is_open before)
open_more before line =
    last_unwrapped (λ (l : Parts). opens (asked l)) before (line ∷ []) false

-- its state after a line that asks this
pub negotiated : (before : List Parts) (line : Parts) (n : Negotiation) (a : Asked)
    → a ≡ asked line → n ≡ negotiation_in before
    → ◌≡◌ {A = Negotiation} (record {
      is_open = unwrap_or (opens a) n.is_open;
      held = caps_after n.held (wishes_by line a);
    }) (negotiation_in (before ++ line ∷ []))
negotiated before line n a asks at =
    rw (at, asks, open_more before line, held_more before line) refl

-- a line that asks nothing of capabilities
pub unchanged : (line : Parts) (n : Negotiation) (a : Asked)
    → (a ≡ Offered → ⊥) → (a ≡ Change → ⊥) → (a ≡ End → ⊥)
    → ◌≡◌ {A = Negotiation} n (record {
      is_open = unwrap_or (opens a) n.is_open;
      held = caps_after n.held (wishes_by line a);
    })
unchanged line n Offered f g h = absurd (f refl)
unchanged line n Change f g h = absurd (g refl)
unchanged line n End f g h = absurd (h refl)
unchanged line n _ f g h = refl
