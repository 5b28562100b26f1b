-- The view after a PART, by what it changes in the maps of the view before.
use Rattle.std.specs.FinMap as fin
use Rattle.net_view.proofs.AfterAlike.{HasSets, IsKnowing, channel_is, look_ups, member_stays}
use Rattle.net_view.proofs.AfterAlike.{quiet_channel, removed_none, seen_put, us_of, view_after}
use Rattle.net_view.proofs.{AfterAlike.{view_put, view_stays}, Words.{◌≡◌, Channel, Kicked, Parted}}
use Rattle.net_view.proofs.Words.{Some, Text, Told, View, after_told, bytes_cmp, cond, false}
use Rattle.net_view.proofs.Words.{is_seen, is_us, refl, standing_of, true, without_member}
use Rattle.net_view.specs.Changes.{parted_from, parted_view}

module _ (v : View) (channel who : Text) (other : is_us (standing_of v) who ≡ false)
    (sets : HasSets v) (known : IsKnowing v) where
  abbrev t : Told
  t = Parted channel who

  -- of a channel that we are on
  on : (ch : Channel) → fin.get v.channels channel ≡ Some ch
      → after_told v t ≡ parted_from v channel who ch (fin.get ch.members who)
  on ch there =
      let is = without_member who ch in
      let new = fin.insert v.channels channel is in
      let left = channel_is (us_of v) t channel (Some ch) is refl (λ letter. refl)
      (λ n. grind (look_ups, member_stays ch (sets channel ch there) n)) in
      let gone = view_put v sets t channel (λ d e. grind look_ups) is
      (cond (is_seen new who) v.people (fin.remove v.people who)) (grind (look_ups, left))
      (λ n. grind (look_ups, known n, seen_put v.channels channel is n false)) in
      let kept = view_stays v sets t channel (λ d e. grind look_ups) known in
      grind (look_ups, gone, kept, left, removed_none ch.members who)

  -- another's PART
  pub after_part : after_told v (Parted channel who) ≡ parted_view v channel who
  after_part = grind (look_ups, on, view_stays v sets t channel (λ d e. grind look_ups) known)

-- a KICK changes what a PART of the same person does
pub kick_is_part : (v : View) (channel who : Text)
    → after_told v (Kicked channel who) ≡ after_told v (Parted channel who)
kick_is_part v channel who = refl

module _ (v : View) (channel who : Text) (ours : is_us (standing_of v) who ≡ true)
    (sets : HasSets v) (known : IsKnowing v) where
  abbrev new : fin.FinMap bytes_cmp Channel
  new = fin.remove v.channels channel

  -- our own PART, and so our own KICK: the channel goes, and with it who is seen nowhere else
  pub after_own_part : after_told v (Parted channel who)
      ≡ record v { channels = new; people = fin.retain_keys v.people (is_seen new) }
  after_own_part =
      let t = Parted channel who in
      view_after v t new _ (λ c. grind (look_ups, quiet_channel (us_of v) t c, sets c))
      (λ n. grind (look_ups, known))
