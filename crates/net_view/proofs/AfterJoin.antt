-- The view after a JOIN. One that begins nothing is another's, or our own by a name that is no
-- channel's, though its key may be our channel's: of us it says what another's says of the other.
use Rattle.std.specs.FinMap as fin
use Rattle.net_view.proofs.AfterAlike.{HasSets, IsKnowing, channel_is, get_put, look_ups}
use Rattle.net_view.proofs.AfterAlike.{member_stays, no_ranks, seen_put, us_of, view_put}
use Rattle.net_view.proofs.{AfterAlike.view_stays, Words.{◌&&◌, ◌≡◌, Bool, Channel, Joined, Name}}
use Rattle.net_view.proofs.Words.{None, Option, Some, Text, Told, View, after_told, arith, begins}
use Rattle.net_view.proofs.Words.{bytes_cmp, false, is_seen, is_some, is_us, readied, same}
use Rattle.net_view.{proofs.Words.{standing_of, told_person, true}, specs.Changes.fresh_channel}
use Rattle.net_view.specs.Changes.{joined_view, with_member}

module _ (v : View) (channel : Name) (valid : Bool) (who : Name)
    (account : Option (Option Text)) where
  abbrev t : Told
  t = Joined channel valid who account

  -- one that begins nothing
  module _ (sets : HasSets v) (known : IsKnowing v) (old : (us_of v who.key && valid) ≡ false)
      (mem : (ch : Channel) → fin.get v.channels channel.key ≡ Some ch → us_of v who.key ≡ true
      → is_some (fin.get ch.members who.key) ≡ true) where
    after_either : after_told v t ≡ readied (joined_view v channel.key who.key who.spelled account)
    after_either =
        let off = view_stays v sets t channel.key (λ c h. grind look_ups) known in
        let on = λ (ch : Channel) (there : fin.get v.channels channel.key ≡ Some ch).
        let is = with_member who.key ch in
        let made = channel_is (us_of v) t channel.key (Some ch) is (grind arith)
        (λ letter. grind arith) (λ n. let stays = member_stays ch (sets channel.key ch there) n in
        grind (look_ups, no_ranks, stays, mem ch there)) in
        let told = told_person (Some (Some who.spelled)) account None (fin.get v.people who.key) in
        view_put v sets t channel.key (λ c h. grind look_ups) is (fin.insert v.people who.key told)
        (grind (look_ups, made, there)) (λ n.
        grind (look_ups, known n, seen_put v.channels channel.key is n (same n who.key))) in
        grind (look_ups, on, off)

  -- another's JOIN
  pub after_join : is_us (standing_of v) who.key ≡ false → HasSets v → IsKnowing v
      → after_told v t ≡ readied (joined_view v channel.key who.key who.spelled account)
  after_join other sets known = after_either sets known (grind look_ups) (λ ch there ours. cc)

  -- our own JOIN that begins nothing
  pub after_void_join : (is_us (standing_of v) who.key ≡ true) × (valid ≡ false) → HasSets v
      → IsKnowing v → ((ch : Channel) → fin.get v.channels channel.key ≡ Some ch
      → is_some (fin.get ch.members who.key) ≡ true)
      → after_told v t ≡ readied (joined_view v channel.key who.key who.spelled account)
  after_void_join void sets known mem =
      after_either sets known (grind look_ups) (λ ch there ours. mem ch there)

module _ (v : View) (sets : HasSets v) (known : IsKnowing v) (channel who : Name)
    (account : Option (Option Text)) (ours : is_us (standing_of v) who.key ≡ true) where
  abbrev new : fin.FinMap bytes_cmp Channel
  new = fin.insert v.channels channel.key (fresh_channel channel.spelled who.key)

  -- our own JOIN of a channel (RFC 2812, section 3.2.1)
  pub after_own_join : after_told v (Joined channel true who account) ≡ record v {
    ready = is_some v.own;
    channels = new;
    people = fin.retain_keys (fin.insert v.people who.key (told_person (Some (Some who.spelled))
        account None (fin.get v.people who.key))) (is_seen new);
  }
  after_own_join =
      let t = Joined channel true who account in
      let is = fresh_channel channel.spelled who.key in
      let begun : begins (us_of v) t channel.key ≡ Some channel.spelled = grind look_ups in
      let made = channel_is (us_of v) t channel.key (fin.get v.channels channel.key) is (simp begun)
      (λ letter. simp (begun, fin.get-empty))
      (λ n. simp (begun, no_ranks, get_put, fin.get-empty)) in
      view_put v sets t channel.key (λ d h. grind look_ups) is _ (grind (look_ups, begun, made))
      (λ n. grind (look_ups, known n, fin.get-empty))
