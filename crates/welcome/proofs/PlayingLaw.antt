-- The law of the burst holds of each profile.
use Rattle.std.specs.FinMap as fin
use Rattle.welcome.proofs.BurstLaw.NetworkRead.ChannelsRead.LinesRead.WordsRead.Leading.{Arrival, Caps, Channel, Each, EntryParts, IfSome, IsAccount, IsMessage, IsSomeAnd}
use Rattle.welcome.proofs.BurstLaw.NetworkRead.ChannelsRead.LinesRead.WordsRead.Leading.{IsSpelling, Leads, List, None, Option, Parts, Person, Some, Text}
use Rattle.welcome.proofs.BurstLaw.NetworkRead.ChannelsRead.LinesRead.WordsRead.Leading.{View, and_then, arith, as_received, bytes_cmp, false, fold, get-thinned_channels, held}
use Rattle.welcome.proofs.BurstLaw.NetworkRead.ChannelsRead.LinesRead.WordsRead.Leading.{if_some, is_seen, is_some, kept_by, key_by, known_at, length, no_true, option_and_then_some}
use Rattle.welcome.proofs.BurstLaw.NetworkRead.ChannelsRead.LinesRead.WordsRead.Leading.{read_view, refl, same_refl, seen-thinned, seen_since, sym, thinned_channels, true}
use Rattle.welcome.proofs.BurstLaw.NetworkRead.ChannelsRead.LinesRead.WordsRead.Leading.{unread_lines, ◌∙◌, ◌≡◌, []}
unfoldable use Rattle.welcome.proofs.BurstLaw.NetworkRead.ChannelsRead.LinesRead.WordsRead.Leading.{after, view_of, state_part_of}
use Rattle.welcome.proofs.BurstLaw.{at_boundary, state_leads}
use Rattle.welcome.proofs.BurstLaw.NetworkRead.{all_told, persons_kept, tell, told_more}
use Rattle.welcome.proofs.BurstLaw.NetworkRead.ChannelsRead.{first_person, highest_of}
use Rattle.welcome.proofs.BurstLaw.NetworkRead.ChannelsRead.LinesRead.WordsRead.{IsSource, source_of}
use Rattle.welcome.proofs.OthersSaid.{IsElsewhere}
use Rattle.welcome.proofs.{OthersTold.by_unread, PlaybackTold.IsUnread}
use Rattle.welcome.proofs.VisitLaw.{CanVisit, visit_leads}
use Rattle.welcome.specs.declared.playing.Playing.{Playing}
use Rattle.welcome.specs.Playing.{burst_by, playback_by}

-- lines that no view reads lead nowhere
quiet_lines : (w : View) (lines : List Parts) → Each IsUnread lines → Leads w lines w
quiet_lines w lines each = record { on = λ items is. unread_lines lines items each ∙ is }

module _ (v : View) (src : IsSource v) (caps : Caps) where
  abbrev us : Text
  us = key_by v.settings src.nick

  abbrev cs : fin.FinMap bytes_cmp Channel
  cs = thinned_channels (held caps) (highest_of v) v.channels

  abbrev first : Text → Person
  first = first_person v caps us

  abbrev facts : Text → Person
  facts = fold (tell (told_more caps)) first (fin.entries v.people)

  -- after the state part a visit can be made
  abbrev Can : Type 0
  Can = (nick : Text) × CanVisit v src.nick nick caps cs facts

  known_word : IfSome (known_at (λ p. p.account) v us) IsAccount
  known_word =
      if_some IsAccount _ (λ a e. option_and_then_some (λ (p : Person). p.account)
      (fin.get v.people us) a e (λ p is at. (src.sound.people us p is).account a at))

  seen_known : is_seen cs us ≡ true → is_some (fin.get v.people us) ≡ true
  seen_known seen =
      src.sound.known us ∙ (sym (seen-thinned (held caps) (highest_of v) v.channels us) ∙ seen)

  -- if nobody sees us, under our own nick
  can_unseen : fin.get v.people us ≡ None → Can
  can_unseen at =
      let unseen : is_seen cs us ≡ true → false ≡ true = λ seen. rw at at (seen_known seen) in (
        src.nick,
        record {
          own = src.own;
          ready = src.ready;
          nick = grind (arith, src.own, at);
          nameable = src.sound.own src.nick src.own;
          ours = src.sound.own src.nick src.own;
          keyed = refl;
          word = known_word;
          spelled = λ seen. absurd (no_true (unseen seen));
          account = λ seen ext. absurd (no_true (unseen seen));
        },
      )

  can_seen : (p : Person) → fin.get v.people us ≡ Some p → (o : Option Text) → p.spelled ≡ o
      → IsSomeAnd o (IsSpelling v.settings us) → Can
  can_seen p at None e spells = absurd spells
  can_seen p at (Some nick) e spells =
      let told : facts us ≡ told_more caps p (first us) =
      all_told v (told_more caps) (λ p q. grind arith) first us p at in (
        nick,
        record {
          own = src.own;
          ready = src.ready;
          nick = grind (arith, src.own, at, e);
          nameable = spells.nameable;
          ours = src.sound.own src.nick src.own;
          keyed = spells.keyed;
          word = known_word;
          spelled = λ seen. grind (arith, told, at, e);
          account = λ seen ext. grind (arith, told, at, ext, same_refl us);
        },
      )

  can_visit : Can
  can_visit = by (fin.get v.people us) refl where
    by : (o : Option Person) → fin.get v.people us ≡ o → Can
    by None at = can_unseen at
    by (Some p) at = can_seen p at p.spelled refl (src.sound.people us p at).spelled

  -- a channel that we are not on is not among the client's
  off : (e : EntryParts) → IsElsewhere v e → fin.get cs (key_by v.settings e.target) ≡ None
  off e is =
      let k = key_by v.settings e.target in
      grind (arith, get-thinned_channels (held caps) (highest_of v) v.channels k, is.0)

  -- the playback leads nowhere
  pub playback_leads : (playing : Playing) (entries : List EntryParts) → Each IsMessage entries
      → Leads (read_view v cs facts) (playback_by playing v caps entries) (read_view v cs facts)
  playback_leads playing entries messages =
      let w = read_view v cs facts in
      by_unread (λ lines. Leads w lines w) (quiet_lines w) (λ a b. and_then a b) playing v caps
      entries (λ e is lines each. visit_leads v src.nick can_visit.0 caps cs facts can_visit.1
      e.target (off e is) is.1 lines (λ x. quiet_lines x lines each)) messages

-- The second law, of each profile: a playback leaves what the state part says about the network.
pub burst_by_gives_the_view : (playing : Playing) (items : List Arrival) (caps : Caps)
    (entries : List EntryParts) → (view_of items).ready ≡ true → Each IsMessage entries →
    kept_by (held caps) (view_of (as_received (burst_by playing (view_of items) caps entries)))
    ≡ seen_since items (length items) (held caps)
burst_by_gives_the_view playing items caps entries ready messages =
    let v = view_of items in
    let src = source_of items ready in
    let told = (and_then (state_part_of v caps) _ (state_leads v src caps)
    (playback_leads v src caps playing entries messages)).on [] refl in
    rw told (persons_kept v src.sound caps (told_more caps) (λ p q. grind arith)
    (first v src caps) (λ n p is. grind (arith, is)) ∙ at_boundary items (held caps))
