-- Our JOIN of a channel that is not there and our PART of it leave a view as it was.
use Rattle.welcome.proofs.BurstLaw.NetworkRead.ChannelsRead.LinesRead.{account_written}
use Rattle.std.specs.FinMap as fin
use Rattle.welcome.proofs.BurstLaw.NetworkRead.ChannelsRead.LinesRead.WordsRead.Leading.{Caps, Channel, IfSome, IsAccount, Joined, Leads, List, None, Option}
use Rattle.welcome.proofs.BurstLaw.NetworkRead.ChannelsRead.LinesRead.WordsRead.Leading.{Parts, Person, Some, Text, View, account_named, account_said, actor_of_nick, after_own_join}
use Rattle.welcome.proofs.BurstLaw.NetworkRead.ChannelsRead.LinesRead.WordsRead.Leading.{and_then, ap, arith, bytes_cmp, cond, fresh_channel, get_read, is_same, is_seen}
use Rattle.welcome.proofs.BurstLaw.NetworkRead.ChannelsRead.LinesRead.WordsRead.Leading.{is_some, key_by, known_at, look_ups, one_line, option_and_then, read_view, refl, same_by_keys}
use Rattle.welcome.proofs.BurstLaw.NetworkRead.ChannelsRead.LinesRead.WordsRead.Leading.{same_refl, seen_in, seen_somewhere, slice_get, sym, told_of_join, told_person, true, us_of}
use Rattle.welcome.proofs.BurstLaw.NetworkRead.ChannelsRead.LinesRead.WordsRead.Leading.{◌∷◌, ◌∙◌, ◌≡◌, ◌++◌, []}
unfoldable use Rattle.welcome.proofs.BurstLaw.NetworkRead.ChannelsRead.LinesRead.WordsRead.Leading.{people_read}
use Rattle.net_view.proofs.AfterAlike.{get_out, get_put}
use Rattle.net_view.proofs.AfterPart.{after_own_part}
use Rattle.net_view.proofs.Commands.{told_of_part}
use Rattle.net_view.specs.Told.{Parted}
use Rattle.irc_names.specs.Nick.{is_nameable}
use Rattle.irc_support.specs.Settings.{is_channel}
use Rattle.welcome.specs.Playing.{own_spelled, visit_join, visit_part}

-- a client's view in which a visit can be made under the nick as it is spelled
pub record CanVisit (v : View) (me named : Text) (caps : Caps) (cs : fin.FinMap bytes_cmp Channel)
    (facts : Text → Person) : Type 0 where
  pub own : v.own ≡ Some me
  pub ready : v.ready ≡ true
  pub nick : own_spelled v ≡ Some named
  pub nameable : is_nameable named ≡ true
  pub ours : is_nameable me ≡ true
  pub keyed : key_by v.settings named ≡ key_by v.settings me
  pub word : IfSome (known_at (λ p. p.account) v (key_by v.settings me)) IsAccount
  pub spelled : is_seen cs (key_by v.settings me) ≡ true
      → (facts (key_by v.settings me)).spelled ≡ Some named
  pub account : is_seen cs (key_by v.settings me) ≡ true → caps.extended_join ≡ true
      → (facts (key_by v.settings me)).account
      ≡ known_at (λ p. p.account) v (key_by v.settings me)

module _ (v : View) (own nick : Text) (caps : Caps) (cs : fin.FinMap bytes_cmp Channel)
    (facts : Text → Person) (can : CanVisit v own nick caps cs facts) (name : Text)
    (off : fin.get cs (key_by v.settings name) ≡ None)
    (valid : is_channel v.settings name ≡ true) where
  abbrev us : Text
  us = key_by v.settings own

  abbrev k : Text
  k = key_by v.settings name

  abbrev w : View
  w = read_view v cs facts

  abbrev ds : fin.FinMap bytes_cmp Channel
  ds = fin.insert cs k (fresh_channel name us)

  -- the account that our JOIN gives
  abbrev own_said : Option (Option Text)
  own_said = cond caps.extended_join (Some (known_at (λ p. p.account) v us)) None

  abbrev after_join : View
  after_join = record w {
    ready = is_some v.own;
    channels = ds;
    people = fin.retain_keys (fin.insert w.people us (told_person (Some (Some nick)) own_said None
        (fin.get w.people us))) (is_seen ds);
  }

  ours : (x : View) → x.own ≡ v.own → x.settings ≡ v.settings → us_of x us ≡ true
  ours x o s = grind (arith, o, s, can.own, same_refl us)

  join_leads : Leads w (visit_join v caps name ∷ []) after_join
  join_leads =
      let line = visit_join v caps name in
      let account = account_named v own can.ours in
      let written = account_written (known_at (λ p. p.account) v us) can.word in
      let said : option_and_then account_said (slice_get line.params 1) ≡ own_said =
      grind (arith, can.own, account, written) in
      let actor = actor_of_nick line nick can.nick can.nameable in
      one_line w line (Joined (record { key = k; spelled = name }) true
      (record { key = us; spelled = nick }) own_said) _
      (simp (told_of_join v.settings line refl, actor, said, valid, can.keyed)) (λ is.
      after_own_join w is.sets is.sound.known (record { key = k; spelled = name })
      (record { key = us; spelled = nick }) own_said (ours w refl refl))

  grows : (n : Text) → is_seen cs n ≡ true → is_seen ds n ≡ true
  grows n seen =
      let at = seen_somewhere cs n seen in
      let put = get_put cs k (fresh_channel name us) at.0 in
      seen_in ds at.0 n (grind (arith, put, is_same at.0 k, at.1, off))

  back : fin.remove ds k ≡ cs
  back =
      same_by_keys (λ c. grind (arith, get_out ds k c, get_put cs k (fresh_channel name us) c, is_same c k, off))

  part_leads : Leads after_join (visit_part v name ∷ []) w
  part_leads =
      let line = visit_part v name in
      let actor = actor_of_nick line nick can.nick can.nameable in
      let people : fin.retain_keys after_join.people (is_seen (fin.remove ds k))
      ≡ people_read cs facts = rw back (same_by_keys (λ n. grind (
        look_ups,
        get_read cs facts,
        grows n,
        is_same n us,
        can.spelled,
        can.account,
      ))) in
      let ready : is_some v.own ≡ v.ready = ap is_some can.own ∙ sym can.ready in
      one_line after_join line (Parted k us) _
      (simp (told_of_part v.settings line refl, actor, can.keyed))
      (λ is. after_own_part after_join k us (ours after_join refl refl) is.sets is.sound.known
      ∙ (λ i. record v { ready = ready i; channels = back i; people = people i }))

  -- with lines between them that no view reads
  pub visit_leads : (lines : List Parts) → ((x : View) → Leads x lines x)
      → Leads w (visit_join v caps name ∷ (lines ++ visit_part v name ∷ [])) w
  visit_leads lines unread =
      and_then (visit_join v caps name ∷ []) _ join_leads
      (and_then lines _ (unread after_join) part_leads)
