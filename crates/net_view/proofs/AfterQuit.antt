-- The view after another's QUIT: the person goes from all channels.
use Rattle.net_view.proofs.Words.{◌≡◌, false, option_map, Some, refl, Text, bytes_cmp, Quits, is_us}
use Rattle.net_view.proofs.Words.{Channel, View, standing_of, after_told, without_member}
use Rattle.std.specs.FinMap as fin
use Rattle.net_view.proofs.AfterAlike.{HasSets, IsKnowing, us_of, look_ups, member_stays}
use Rattle.net_view.proofs.AfterAlike.{channel_is, seen_alike, view_after}

module _ (v : View) (sets : HasSets v) (known : IsKnowing v) (who : Text)
    (other : is_us (standing_of v) who ≡ false) (new : fin.FinMap bytes_cmp Channel)
    (is_new : (c : Text)
    → fin.get new c ≡ option_map (without_member who) (fin.get v.channels c)) where
  -- a QUIT of another (RFC 2812, section 3.1.7); new are the channels without the person
  pub after_quit : after_told v (Quits who)
      ≡ record v { channels = new; people = fin.remove v.people who }
  after_quit =
      let left = λ (c : Text) (ch : Channel) (e : fin.get v.channels c ≡ Some ch).
      channel_is (us_of v) (Quits who) c (Some ch) (without_member who ch) refl (λ letter. refl)
      (λ n. grind (look_ups, member_stays ch (sets c ch e) n)) in
      view_after v (Quits who) new _ (λ c. grind (look_ups, left c, is_new c))
      (λ n. grind (look_ups, is_new, known n, seen_alike v.channels new n n))
