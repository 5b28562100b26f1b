-- Lines that are kept, and those that are not.
use Rattle.history.proofs.Words.{Bool, List, None, Option, Some, [], arith, entry_parts, map}
use Rattle.history.proofs.Words.{false, nat_tests, option_map, refl, true, ℕ, ◌∷◌, ◌≡◌, EntryParts}
use Rattle.history.proofs.Words.{◌&&◌, cond}
use Rattle.history.proofs.Messages.{message_is, two}
use Rattle.history.specs.Entry.{is_message, message_of, target_and_text}
use Rattle.history.specs.Keeping.{Kept, heard_message, if_kept, is_kept_heard, is_kept_line, whole}
use Rattle.history.specs.Keeping.{in_ring_heard, is_kept_said, is_person, ring_heard, ring_said}
use Rattle.history.specs.Keeping.{said_ring}
use Rattle.irc_line.specs.Line.{nick_of}
use Rattle.std.specs.Option.{option_and_then}
use Rattle.irc_line.specs.Line.{Parts}
use Rattle.irc_names.specs.declared.case_mapping.CaseMapping.{CaseMapping}
use Rattle.std.proofs.Common.{is_some}
use Rattle.std.specs.List.{list_any}

-- a test of what is in a list's items
pub any_in : {X Y : Type 0} (f : X → Y) (p : Y → Bool) (xs : List X)
    → list_any p (map f xs) ≡ list_any (λ x. p (f x)) xs
any_in f p [] = refl
any_in f p (x ∷ xs) = grind (arith, any_in f p xs)

-- what a test lets stay
is_kept : (test : EntryParts → Bool) (e : EntryParts) → is_some (if_kept test e) ≡ test e
is_kept test e = grind arith

-- a message, by its parts
module _ (k : Kept) (line : Parts) (target text : List ℕ) (rest : List (List ℕ))
    (message : is_message line ≡ true) (params : line.params ≡ target ∷ text ∷ rest) where
  pub heard_is : (time source : List ℕ) → line.source ≡ Some source
      → is_some (heard_message k time line)
      ≡ is_kept_heard k (entry_parts [] source line.command target text)
  heard_is time source from =
      let made = message_is line time source line.command target text rest message refl params in
      let e = entry_parts time source line.command target text in
      let all : heard_message k time line
      ≡ option_map (in_ring_heard k) (if_kept (is_kept_heard k) e) = rw (from, made) refl in
      rw all (grind (arith, is_kept (is_kept_heard k) e))

  pub said_is : (own : Option (List ℕ)) (mapping : CaseMapping)
      → is_kept_line k own mapping line ≡ is_kept_said k own mapping target text
  said_is own mapping =
      let both = two line target text rest params message in grind (arith, both, message)

  -- in whose ring it is kept
  pub ring_is : (time source : List ℕ) → line.source ≡ Some source
      → option_and_then (ring_heard k) (message_of time line.source line)
      ≡ cond (k.by_person && is_person target) (Some (nick_of source)) None
  ring_is time source from =
      let made = message_is line time source line.command target text rest message refl params in
      rw (from, made) refl

  pub said_ring_is : option_and_then (λ p. ring_said k p.0) (target_and_text line.params)
      ≡ cond (k.by_person && is_person target) (Some target) None
  said_ring_is = let both = two line target text rest params message in rw both refl

-- what is no message is in nobody's ring
pub no_ring : (k : Kept) (time : List ℕ) (line : Parts) → is_message line ≡ false
    → option_and_then (ring_heard k) (message_of time line.source line) ≡ None
no_ring k time line e = grind (arith, nat_tests, e)

pub no_said_ring : (k : Kept) (line : Parts) → is_message line ≡ false
    → said_ring k line ≡ None
no_said_ring k line e = grind (arith, nat_tests, e)

-- what is no message
pub none_heard : (k : Kept) (time : List ℕ) (line : Parts) → is_message line ≡ false
    → is_some (heard_message k time line) ≡ false
none_heard k time line e = grind (arith, nat_tests, e)

-- if each message is kept, what is kept is each message
pub whole_heard : (time : List ℕ) (line : Parts)
    → heard_message whole time line ≡ message_of time line.source line
whole_heard time line = grind arith

pub whole_said : (own : Option (List ℕ)) (mapping : CaseMapping) (line : Parts)
    → is_kept_line whole own mapping line ≡ is_message line
whole_said own mapping line = grind (arith, nat_tests)
