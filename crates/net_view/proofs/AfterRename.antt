-- The view after a NICK: the person is under the new key in all channels, with what was known.
use Rattle.std.specs.FinMap as fin
use Rattle.net_view.proofs.AfterAlike.{HasSets, channel_is, look_ups, seen_alike, us_of, view_after}
use Rattle.net_view.proofs.AfterAlike.{IsKnowing, all_channels_stay, all_persons_stay, member_stays}
use Rattle.net_view.proofs.{AfterAlike.{get_put, is_same}, Words.{Channel, after_told, standing_of}}
use Rattle.net_view.{proofs.Words.◌≡◌, specs.Changes.{renamed_channel, renamed_in, spelled_as}}
use Rattle.net_view.proofs.Words.{List, Name, None, Some, Text, Told, View, cond, refl, same, true}
use Rattle.net_view.proofs.Words.{Renamed, bytes_cmp, counts, false, is_seen, is_us, option_map, ℕ}

-- what is under a key after a NICK
renamed_at : {X : Type 0} (change : X → X) (old new : Text) (m : fin.FinMap bytes_cmp X) (n : Text)
    → fin.get (renamed_in change old new m) n
    ≡ cond (same n new) (option_map change (fin.get m old)) (cond (same n old) None (fin.get m n))
renamed_at {X} change old new m n =
    grind (look_ups, is_same n old, λ (x : X). get_put (fin.remove m old) new (change x) n)

module _ (v : View) (sets : HasSets v) (known : IsKnowing v) (old : Text) (new : Name) where
  abbrev t : Told
  t = Renamed old new

  -- one that does not count: another takes our own nick
  pub after_no_rename : counts (is_us (standing_of v)) old new.key ≡ false → after_told v t ≡ v
  after_no_rename not_ours =
      let cs = all_channels_stay (us_of v) t v.channels sets (λ c. grind look_ups) in
      let ps = all_persons_stay (us_of v) t v.channels v.people known (λ n. simp not_ours) in
      grind (look_ups, cs, ps)

  module _ (ours : counts (is_us (standing_of v)) old new.key ≡ true)
      (is : fin.FinMap bytes_cmp Channel) (is_new : (c : Text)
      → fin.get is c ≡ option_map (renamed_channel old new.key) (fin.get v.channels c)) where
    -- a NICK that counts (RFC 2812, section 3.1.2); is are the channels with the person renamed
    pub after_rename : after_told v t ≡ record v {
      own = cond (is_us (standing_of v) old) (Some new.spelled) v.own;
      channels = is;
      people = renamed_in (spelled_as new.spelled) old new.key v.people;
    }
    after_rename =
        let at_new = renamed_at (λ (ranks : List ℕ). ranks) old new.key in
        let left = λ (c : Text) (ch : Channel) (e : fin.get v.channels c ≡ Some ch).
        let stays = member_stays ch (sets c ch e) in
        channel_is (us_of v) t c (Some ch) (renamed_channel old new.key ch)
        refl (λ letter. refl) (λ n. grind (look_ups, at_new ch.members n, stays n, stays old)) in
        view_after v t is _ (λ c. grind (look_ups, left c, is_new c)) (λ n.
        let as_old : same n new.key ≡ true → is_seen is n ≡ is_seen v.channels old =
        λ e. seen_alike v.channels is n old (λ c. grind (look_ups, is_new c, at_new)) in
        let stays : same n new.key ≡ false → same n old ≡ false
        → is_seen is n ≡ is_seen v.channels n =
        λ d e. seen_alike v.channels is n n (λ c. grind (look_ups, is_new c, at_new)) in
        let told = renamed_at (spelled_as new.spelled) old new.key v.people n in
        grind (look_ups, told, ours, known n, known old, as_old, stays, is_new, at_new))
