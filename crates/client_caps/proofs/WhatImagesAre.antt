-- What images are, and what agreement means, in a reader's words.
use Rattle.std.specs.FinMap as fin
use Rattle.client_caps.proofs.Words.{◌∷◌, ◌≡◌, Agrees, Caps, HeldCaps, Parts, Some, Text, View, []}
use Rattle.client_caps.proofs.Words.{account_joined, arith, as_sent, false, get-thinned_channels}
use Rattle.client_caps.proofs.Words.{had_rank, image_params, is_passed_on, is_some, is_some_map}
use Rattle.client_caps.proofs.Words.{kept_alike, nat_tests, old-thinned, old_member, option_map}
use Rattle.client_caps.proofs.Words.{slice_get, thinned, thinned_ranks, true, ℕ}
use Rattle.client_caps.specs.{Caps.all_caps, Images.{image_of, is_bare_join}}
use Rattle.{irc_line.proofs.Logic.cases_Bool, net_view.proofs.RankSets.has_of_set}

-- an image is the line as it is sent
pub image_is : (v : View) (caps : Caps) (moment : Text) (line image : Parts)
    → image_of v caps moment line ≡ Some image → image ≡ as_sent v caps moment line
unfolding image_of
image_is v caps moment line image e = grind (arith, e, cases_Bool (is_passed_on caps line))

-- with all six its parameters are the line's, but at a JOIN without a real name
pub same_params : (v : View) (line : Parts) → is_bare_join v line ≡ false
    → image_params v all_caps line ≡ line.params
same_params v line h = grind (arith, nat_tests)

pub joined_params : (v : View) (channel : Text) (line : Parts) → is_bare_join v line ≡ true
    → slice_get line.params 0 ≡ Some channel
    → image_params v all_caps line ≡ channel ∷ account_joined v line ∷ [] ∷ []
joined_params v channel line h first = grind (arith, nat_tests)

-- an image, and its parameters with all six
pub ruleset what_is_sent = (image_is, same_params, joined_params)

-- ---- agreement

module _ (caps : HeldCaps) (w v : View) (a : Agrees caps w v) (c n : Text) where
  -- a member of a channel of w, from the same of v
  member_thin : old_member (fin.get w.channels c) n
      ≡ option_map (thinned_ranks caps (a.shown c n)) (old_member (fin.get v.channels c) n)
  member_thin =
      let kept = kept_alike caps w (thinned caps a.shown v) a.kept in
      simp (kept.channels, get-thinned_channels, old-thinned)

  -- the members are the same
  pub same_members : is_some (old_member (fin.get w.channels c) n)
      ≡ is_some (old_member (fin.get v.channels c) n)
  same_members = rw member_thin (is_some_map _ _)

  -- and each rank that a client knows is held
  pub known_ranks_are_held : (rank : ℕ) → had_rank rank (old_member (fin.get w.channels c) n) ≡ true
      → had_rank rank (old_member (fin.get v.channels c) n) ≡ true
  known_ranks_are_held rank h = grind (arith, member_thin, has_of_set)
