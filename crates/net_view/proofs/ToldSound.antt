-- What each line says is well formed, whichever lines views read; only 005 gives more settings.
use Rattle.{irc_support.specs.Ranking.rank_of_letter, net_view.proofs.Holds.of_told}
use Rattle.net_view.proofs.PartsSound.{Each, IsSoundListing, IsSoundMode, IsSoundTold, each_found}
use Rattle.net_view.proofs.{PartsSound.listing_sound, Words.{◌<◌, ◌∷◌, ◌≡◌, Arrival, IfSome}}
use Rattle.net_view.proofs.Words.{LetterChange, List, Lost, Parts, Received, Supports, Text, Token}
use Rattle.net_view.proofs.Words.{[], arith, codes, filter_map, has_command, listing, map}
use Rattle.net_view.proofs.Words.{mode_change, position-Some, rank_limit, state_lines, told, true}
use Rattle.net_view.{proofs.Words.{word_of, words, ℕ}, specs.StateLines.letter_change}

module _ (settings : List Token) where
  listings_sound : (texts : List Text) → Each (IsSoundListing settings)
      (filter_map (listing settings) (map (word_of settings) texts))
  listings_sound [] = tt
  listings_sound (text ∷ texts) = grind (arith, listing_sound settings text, listings_sound texts)

  -- what any item says is well formed
  pub told_sound : (x : Arrival) → IsSoundTold settings (told settings x)
  unfolding told state_lines words
  told_sound (Received line) =
      let rank : (letter : ℕ) → IfSome (rank_of_letter settings letter)
      (λ rank. rank < rank_limit settings) = λ letter. grind (arith, position-Some) in
      let letters = each_found (λ (l : LetterChange). l.rank < rank_limit settings)
      (letter_change settings) (λ change. grind (arith, rank change.letter)) in
      let modes = each_found (IsSoundMode settings) (mode_change settings) (λ m. grind arith) in
      of_told (IsSoundTold settings) settings line tt
      (search (arith, letters, modes, listings_sound))
  told_sound Lost = tt

  -- only 005 gives more settings
  pub supports_said : (line : Parts) (params : List Text)
      → told settings (Received line) ≡ Supports params → has_command line (codes "005") ≡ true
  unfolding state_lines
  supports_said line params =
      of_told (λ t. t ≡ Supports params → has_command line (codes "005") ≡ true) settings line
      (grind arith) (search arith)
