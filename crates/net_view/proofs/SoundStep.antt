-- Every network view is sound: its persons and its channels are so after one more item.
use Rattle.std.specs.FinMap as fin
use Rattle.net_view.proofs.Words
use Words.{◌<◌, ◌∙◌, ◌∷◌, ◌≡◌, Arrival, Bool, Channel, ForSome, IfSome, IsAccount, IsFilled, IsKept}
use Words.{IsSomeAnd, IsSound, IsSoundChannel, IsSpelling, List, ModeChange, Name, None, Option}
use Words.{Person, Renamed, Some, Standing, Text, Token, Told, View, [], after, after_told, arith}
use Words.{begins, channel_after, channel_from, channels_after, cond, empty_view, ends, false}
use Words.{had_rank, has_rank, is_channel, is_seen, is_some, is_us, key_by, kind_of, name_before}
use Words.{old_member, old_mode, option_and_then, option_map, own_after, rank_limit, ranks_that}
use Words.{ready_after, reverse, same, says_account, says_away, says_member, says_mode, says_rank}
use Words.{says_spelling, says_topic, setting_of, settings_after, standing_of, sym, table, told}
use Words.{true, unwrap_or, view_back, view_of, ℕ}
use Rattle.net_view.proofs.AfterMaps.{channels_are, contains-members_after, get-channels_after}
use Rattle.net_view.proofs.AfterMaps.{get-members_after, get-modes_after, get-people_after, seen_in}
use Rattle.net_view.proofs.{AfterMaps.seen_somewhere, Emptied.{no_keys, no_people}, Holds.for_some}
use Rattle.net_view.proofs.{Holds.{if_some, of_last, of_test}, Keys.{is_same, same_refl}}
use Rattle.net_view.proofs.PartsSound.{IsSoundMode, IsSoundTold, said_sound, then_sound}
use Rattle.net_view.proofs.PeopleSound.{new_member_is_spelled, said_spelling, unspelled_keeps_name}
use Rattle.net_view.proofs.{RankSets.has_of_set, StepLaw.view_back_step, Tests.no_true}
use Rattle.net_view.{proofs.ToldSound.told_sound, specs.{Sound.IsSoundPerson, Step.known_after}}
use Rattle.std.proofs.lemmas.Option.{cond_some}

-- a member of a channel after the item
pub in_channel_after : (us : Text → Bool) (t : Told) (c : Text) (old : Option Channel) (n : Text)
    → is_some (old_member (channel_after us t c old) n) ≡ true → unwrap_or (says_member c us t n)
    (is_some (option_and_then (old_member old) (name_before us t n))) ≡ true
in_channel_after us t c old n h = grind (arith, contains-members_after)

said_or_before : {X : Type 0} (said : Option (Option X)) (before : Option X) (P : X → Type 0)
    → IfSome said (λ x. IsSomeAnd x P) → (said ≡ None → IsSomeAnd before P)
    → IsSomeAnd (unwrap_or said before) P
said_or_before said before P h f = grind arith

pub seen_is_spelled : (v : View) (t : Told) → IsSound v → IsSoundTold v.settings t → (n : Text)
    → is_seen (channels_after (is_us (standing_of v)) t v.channels) n ≡ true → IsSomeAnd
    (known_after says_spelling (λ p. p.spelled) (is_us (standing_of v)) t
    (channels_after (is_us (standing_of v)) t v.channels) v.people n) (IsSpelling v.settings n)
seen_is_spelled v t sound told n h =
    let us = is_us (standing_of v) in
    let cs = channels_after us t v.channels in
    let on = fin.contains_key cs in
    let at = seen_somewhere cs n h in
    let c = at.0 in
    let old = fin.get v.channels c in
    let was = if_some (IsSoundChannel v c) old (sound.channels c) in
    said_or_before (says_spelling us on t n) _ _ (said_spelling v.settings us on t n told) (λ e.
    let told = new_member_is_spelled c us on t n in
    let member = in_channel_after us t c old n (cc (get-channels_after us t v.channels c, at.1)) in
    let nb : name_before us t n ≡ Some n = grind (arith, at.1, unspelled_keeps_name us on t n) in
    grind (arith, nb, was, at.1))

-- ---- we stay a member of the channels that we are on, under whatever nick

-- whether we are a member of the channel after an item
abbrev pub WeAreIn : Text → Standing → Told → Option Channel → Type 0
WeAreIn c s t old =
    IsSomeAnd (own_after t s) (λ mine. let n = key_by s.settings mine in
    unwrap_or (says_member c (is_us s) t n)
    (is_some (option_and_then (old_member old) (name_before (is_us s) t n))) ≡ true)

-- under our own nick's key we stay a member, but at our own NICK
stays : (us : Text → Bool) (t : Told) (c k : Text) (ch : Channel) → ((n : Text) → us n ≡ same k n)
    → ends us t c ≡ false → begins us t c ≡ None → fin.contains_key ch.members k ≡ true
    → ((old : Text) (new : Name) → t ≡ Renamed old new → us old ≡ false)
    → unwrap_or (says_member c us t k)
    (is_some (option_and_then (old_member (Some ch)) (name_before us t k))) ≡ true
stays us t c k ch mine h b m other = grind arith

-- we are a member after an item that leaves us on the channel
we_stay : (s : Standing) (t : Told) (c nick : Text) (ch : Channel) → s.own ≡ Some nick
    → IsSoundTold s.settings t → fin.contains_key ch.members (key_by s.settings nick) ≡ true
    → ends (is_us s) t c ≡ false → begins (is_us s) t c ≡ None → WeAreIn c s t (Some ch)
we_stay s t c nick ch own sound member h b =
    let key = key_by s.settings nick in
    grind (arith, own, same_refl, is_same key, stays (is_us s) t c key ch)

-- how we are on a channel after an item: it says so, or we were, and it says nothing of that
begun_or_kept : (P : Channel → Type 0) (from : Text → Channel) (e : Bool) (b : Option Text)
    (old : Option Channel) (ch : Channel) → option_map from (unwrap_or
    (cond e (Some None) (option_map Some b)) (option_map (λ (ch : Channel). ch.name) old)) ≡ Some ch
    → ((name : Text) → b ≡ Some name → P (from name))
    → ((was : Channel) → old ≡ Some was → e ≡ false → b ≡ None → P (from was.name)) → P ch
begun_or_kept P from e b old ch h begun kept = grind arith

-- ---- topic, modes and ranks

setting_of_sound : (settings : List Token) (letter : ℕ) (m : ModeChange) → IsSoundMode settings m
    → IfSome (setting_of letter m) (λ x. IfSome x (IsKept (kind_of settings letter)))
setting_of_sound settings letter m s = grind arith

module _ (settings : List Token) (us : Text → Bool) (t : Told) (c : Text)
    (told : IsSoundTold settings t) where
  says_mode_sound : (letter : ℕ)
      → IfSome (says_mode c letter us t) (λ x. IfSome x (IsKept (kind_of settings letter)))
  says_mode_sound letter = grind (arith, of_last, setting_of_sound)

  -- that a rank is held is said only of ranks that there are
  says_rank_sound : (rank : ℕ) (n : Text)
      → IfSome (says_rank c rank us t n) (λ held. held ≡ true → rank < rank_limit settings)
  says_rank_sound rank n = grind (arith, no_true, of_last)

  ranks_sound : (n : Text) (before : Option (List ℕ))
      → ((rank : ℕ) → had_rank rank before ≡ true → rank < rank_limit settings) → (rank : ℕ)
      → has_rank (ranks_that (λ r. unwrap_or (says_rank c r us t n) (had_rank r before))) rank
      ≡ true → rank < rank_limit settings
  ranks_sound n before h rank held = grind (arith, says_rank_sound rank n, h rank, has_of_set)

-- ---- a channel after the item

-- what is known of how we come to be on it
pub record IsOnAfter (v : View) (t : Told) (c : Text) (ch : Channel) : Type 0 where
  pub made : channel_from (is_us (standing_of v)) t c (fin.get v.channels c) ch.name ≡ ch
  pub settings : settings_after t (standing_of v) ≡ v.settings
  pub ready : ready_after t (standing_of v) ≡ true
  pub named : is_channel v.settings ch.name ≡ true
  pub keyed : key_by v.settings ch.name ≡ c
  pub own : WeAreIn c (standing_of v) t (fin.get v.channels c)

module _ (v : View) (t : Told) (sound : IsSound v) (told : IsSoundTold v.settings t) where
  pub on_after : (c : Text) → ForSome (fin.get (after_told v t).channels c) (IsOnAfter v t c)
  on_after c ch h =
      let us = is_us (standing_of v) in
      let old = fin.get v.channels c in
      begun_or_kept (IsOnAfter v t c) (channel_from us t c old) (ends us t c) (begins us t c) old ch
      (sym (get-channels_after us t v.channels c) ∙ h)
      (λ name b. grind (arith, b, told, is_same c))
      (λ before at stays none. let was = sound.channels c before at in
      grind (arith, was.ready, was.name, was.key, at, was.own, stays, we_stay (standing_of v) t c))

  pub channels_sound : (c : Text)
      → ForSome (fin.get (after_told v t).channels c) (IsSoundChannel (after_told v t) c)
  channels_sound c ch h =
      let us = is_us (standing_of v) in
      let old = fin.get v.channels c in
      let on = on_after c ch h in
      let was = if_some (IsSoundChannel v c) old (sound.channels c) in
      rw (← on.made) (record {
        ready = on.ready;
        name = cc (on.settings, on.named);
        key = cc (on.settings, on.keyed);
        own = simp (on.settings, contains-members_after us t c old) on.own;
        topic = said_sound IsFilled (says_topic c us t) _ (grind arith) (grind (arith, was));
        modes = λ letter. simp (on.settings, get-modes_after us t c old)
            (said_sound _ _ (old_mode old letter) (says_mode_sound v.settings us t c told letter)
            (grind (arith, was)));
        ranks = λ n. simp (on.settings, get-members_after us t c old) (for_some _ _
            (grind (arith, was, of_test, ranks_sound v.settings us t c told)));
        spelled = λ n e.
            let seen = seen_in (after_told v t).channels c n (cc (h, on.made, e)) in
            simp (on.settings, get-people_after us t, seen) (seen_is_spelled v t sound told n seen);
      })

-- before a welcome
stays_empty : (t : Told) → own_after t (standing_of empty_view) ≡ None
    → after_told empty_view t ≡ empty_view
stays_empty t h =
    let cs = channels_are (λ _. false) t fin.empty fin.empty (λ c. grind (arith, fin.get-empty)) in
    grind (arith, cs, no_people)

pub sound_step : (v : View) (t : Told) → IsSound v → IsSoundTold v.settings t
    → IsSound (after_told v t)
sound_step v t sound told = record {
  unwelcomed = λ e. grind (arith, sound.unwelcomed, stays_empty);
  own = λ nick e. grind (arith, told, sound.own);
  channels = channels_sound v t sound told;
  people = λ n p h.
      let us = is_us (standing_of v) in
      let cs = (after_told v t).channels in
      let on = fin.contains_key cs in
      let made = cond_some (is_seen cs n) _ p (sym (get-people_after us t cs v.people n) ∙ h) in
      let at = seen_somewhere cs n (made.0) in
      let here = if_some (IsOnAfter v t (at.0)) _ (on_after v t sound told (at.0)) in
      let person = λ (m : Text). if_some (IsSoundPerson v m) _ (sound.people m) in
      let was = λ (field : Person → Option Text) (m : Text).
      option_and_then field (fin.get v.people m) in
      rw (← made.1) (record {
        spelled = grind (arith, at.1, here, seen_is_spelled v t sound told n (made.0));
        account = said_sound IsAccount (says_account us on t n) _ (grind arith)
            (then_sound _ _ (was (λ p. p.account)) (λ m. grind (arith, person m)));
        away = said_sound IsFilled (says_away us on t n) _ (grind arith)
            (then_sound _ _ (was (λ p. p.away)) (λ m. grind (arith, person m)));
      });
  known = λ n. grind (arith, get-people_after);
}

pub sound_back : (items : List Arrival) → IsSound (view_back items)
unfolding after table
sound_back [] = grind (arith, fin.get-empty, no_keys)
sound_back (x ∷ older) = search (arith, view_back_step, sound_step, told_sound, sound_back older)

-- every network view is sound
pub view_sound : (items : List Arrival) → IsSound (view_of items)
unfolding view_of
view_sound items = sound_back (reverse items)
