-- The view after one word of a name list; a list is its words in turn (`name_lists_add_up`).
use Rattle.std.specs.FinMap as fin
use Rattle.net_view.proofs.{AfterAlike.{HasSets, seen_put, us_of, view_put}, Words.told_person}
use Rattle.net_view.proofs.AfterAlike.{IsKnowing, channel_is, look_ups, member_stays, view_stays}
use Rattle.net_view.{proofs.Words.{◌∷◌, ◌≡◌, Some, Text, View, [], same}, specs.Changes.with_ranks}
use Rattle.net_view.proofs.Words.{Channel, Listing, None, Present, after_told, has_rank, ranks_that}

module _ (v : View) (sets : HasSets v) (known : IsKnowing v) (c : Text) (l : Listing) where
  -- of a channel that we are not on
  pub after_word_elsewhere : fin.get v.channels c ≡ None → after_told v (Present c (l ∷ [])) ≡ v
  after_word_elsewhere none =
      view_stays v sets (Present c (l ∷ [])) c (λ d e. grind look_ups) known (grind look_ups)
      (λ n. grind look_ups)

  -- a word of 353 (RFC 2812, section 5.1)
  pub after_word : (ch : Channel) → fin.get v.channels c ≡ Some ch
      → after_told v (Present c (l ∷ [])) ≡ record v {
        channels = fin.insert v.channels c
            (with_ranks l.person.key (ranks_that (has_rank l.ranks)) ch);
        people = fin.insert v.people l.person.key
            (told_person (Some (Some l.person.spelled)) None None (fin.get v.people l.person.key));
      }
  after_word ch there =
      let t = Present c (l ∷ []) in
      let is = with_ranks l.person.key (ranks_that (has_rank l.ranks)) ch in
      view_put v sets t c (λ d e. grind look_ups) is _
      (grind (look_ups, channel_is (us_of v) t c (Some ch) is, member_stays ch (sets c ch there)))
      (λ n. grind (look_ups, known n, seen_put v.channels c is n (same n l.person.key)))
