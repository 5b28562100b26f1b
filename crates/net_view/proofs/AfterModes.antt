-- The view after TOPIC, 332, 331, MODE and 324; what MODE and 324 leave is said by look-ups.
use Rattle.std.specs.FinMap as fin
use Rattle.net_view.proofs.AfterAlike.{HasSets, IsKnowing, channel_is, look_ups, member_stays}
use Rattle.net_view.proofs.{AfterAlike.{seen_put, us_of, view_put, view_stays}, Words.◌≡◌}
use Rattle.net_view.proofs.Words.{Changed, Channel, LetterChange, List, Listed, ModeChange, None}
use Rattle.net_view.proofs.Words.{Option, Some, Text, Titled, View, after_told, bytes_cmp, false}
use Rattle.net_view.proofs.Words.{last_in, nat_cmp, option_map, refl, setting_of, unwrap_or, ℕ}
use Rattle.net_view.specs.{Changes.{on_channel, with_topic}, MemberSets.ranks_changed}

module _ (v : View) (sets : HasSets v) (known : IsKnowing v) (c : Text) where
  -- ---- TOPIC, 332 and 331

  pub after_topic : (topic : Option Text)
      → after_told v (Titled c topic) ≡ on_channel v c (with_topic topic)
  after_topic topic =
      let t = Titled c topic in
      let on = λ (ch : Channel) (e : fin.get v.channels c ≡ Some ch).
      let is = with_topic topic ch in
      view_put v sets t c (λ d h. grind look_ups) is v.people
      (grind (look_ups, channel_is (us_of v) t c (Some ch) is, member_stays ch (sets c ch e)))
      (λ n. grind (look_ups, known n, seen_put v.channels c is n false)) in
      grind (look_ups, view_stays v sets t c (λ d h. grind look_ups) known, on)

  -- ---- MODE

  pub after_mode_elsewhere : (letters : List LetterChange) (modes : List ModeChange)
      → fin.get v.channels c ≡ None → after_told v (Changed c letters modes) ≡ v
  after_mode_elsewhere letters modes e =
      view_stays v sets (Changed c letters modes) c (λ d h. grind look_ups) known (cc) (λ n. refl)

  pub after_mode : (letters : List LetterChange) (modes : List ModeChange) (ch : Channel)
      → fin.get v.channels c ≡ Some ch
      → (ms : fin.FinMap nat_cmp (Option Text)) (ps : fin.FinMap bytes_cmp (List ℕ)) → ((letter : ℕ)
      → fin.get ms letter ≡ unwrap_or (last_in (setting_of letter) modes) (fin.get ch.modes letter))
      → ((n : Text) → fin.get ps n ≡ option_map (ranks_changed letters n) (fin.get ch.members n))
      → after_told v (Changed c letters modes)
      ≡ record v { channels = fin.insert v.channels c (record ch { modes = ms; members = ps }) }
  after_mode letters modes ch e ms ps modes_are members_are =
      let t = Changed c letters modes in
      let is = record ch { modes = ms; members = ps } in
      view_put v sets t c (λ d h. grind look_ups) is v.people
      (grind (look_ups, channel_is (us_of v) t c (Some ch) is, modes_are, members_are))
      (λ n. grind (look_ups, known n, members_are n, seen_put v.channels c is n false))

  -- ---- 324

  pub after_modes_elsewhere : (modes : List ModeChange) → fin.get v.channels c ≡ None
      → after_told v (Listed c modes) ≡ v
  after_modes_elsewhere modes e =
      view_stays v sets (Listed c modes) c (λ d h. grind look_ups) known (cc) (λ n. refl)

  pub after_modes : (modes : List ModeChange) (ch : Channel) → fin.get v.channels c ≡ Some ch
      → (ms : fin.FinMap nat_cmp (Option Text)) → ((letter : ℕ) → fin.get ms letter
      ≡ unwrap_or (last_in (setting_of letter) modes) None) → after_told v (Listed c modes)
      ≡ record v { channels = fin.insert v.channels c (record ch { modes = ms }) }
  after_modes modes ch e ms modes_are =
      let t = Listed c modes in
      let is = record ch { modes = ms } in
      let made = channel_is (us_of v) t c (Some ch) is in
      view_put v sets t c (λ d h. grind look_ups) is v.people
      (grind (look_ups, made, modes_are, member_stays ch (sets c ch e)))
      (λ n. grind (look_ups, known n, seen_put v.channels c is n false))
