-- What the words of a name list say: members; with the highest symbols alone, their highest ranks.
use Rattle.client_caps.proofs.{Telling.{IsRanked, highest_listing}, Words.{◌∷◌, ◌≡◌, IsPlain, List}}
use Rattle.client_caps.proofs.Words.{Listing, Text, Token, [], arith, highest_plain, join_with_byte}
use Rattle.client_caps.proofs.Words.{listings_of, map, names_with_highest, refl, symbols_before}
use Rattle.client_caps.proofs.Words.{with_highest, word_of, words_between}
use Rattle.irc_support.proofs.{HighestWords.highest_read, SpelledWords.{words_joined, words_plain}}
use Rattle.{irc_support.specs.NamesReply.{shows_rank, words}, net_view.specs.StateLines.listing}
use Rattle.std.specs.List.{AllByRecursion, filter_map}

-- the members that words list
abbrev pub listed : List Token → List Text → List Listing
listed settings ws = filter_map (λ w. listing settings (word_of settings w)) ws

module _ (settings : List Token) where
  each_word : (ws : List Text)
      → filter_map (listing settings) (map (word_of settings) ws) ≡ listed settings ws
  each_word [] = refl
  each_word (w ∷ ws) = grind (arith, each_word ws)

  -- what a text lists, by its words
  listings-words : (text : Text) → listings_of settings text ≡ listed settings (words_between text)
  unfolding words
  listings-words text = each_word (words_between text)

  pub listings_joined : (ws : List Text) → AllByRecursion IsPlain ws
      → listings_of settings (join_with_byte 32 ws) ≡ listed settings ws
  listings_joined ws each = simp (listings-words, words_joined)

  -- ---- with the highest symbols alone

  each_highest : (ws : List Text) → AllByRecursion IsPlain ws
      → AllByRecursion IsPlain (map (with_highest settings) ws)
  each_highest [] each = tt
  each_highest (w ∷ ws) each = (highest_plain settings w each.0, each_highest ws each.1)

  listed_highest : (ws : List Text) → listed settings (map (with_highest settings) ws)
      ≡ map highest_listing (listed settings ws)
  listed_highest [] = refl
  listed_highest (w ∷ ws) = grind (arith, highest_read settings w, listed_highest ws)

  pub listings_highest : (text : Text) → listings_of settings (names_with_highest settings text)
      ≡ map highest_listing (listings_of settings text)
  listings_highest text =
      let plain = each_highest (words_between text) (words_plain text) in
      rw (listings_joined _ plain, listed_highest, listings-words text) refl

  -- ---- the ranks are a set

  listed_ranked : (ws : List Text) → AllByRecursion IsRanked (listed settings ws)
  listed_ranked [] = tt
  listed_ranked (w ∷ ws) =
      grind (arith, listed_ranked ws, shows_rank settings (symbols_before settings w))

  pub listings_ranked : (text : Text) → AllByRecursion IsRanked (listings_of settings text)
  listings_ranked text = rw (listings-words text) (listed_ranked (words_between text))
