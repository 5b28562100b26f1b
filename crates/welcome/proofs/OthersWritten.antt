-- What is played back by a profile can be written, of entries that can.
use Rattle.std.specs.FinMap as fin
unfoldable use Rattle.welcome.proofs.Words.{view_of}
use Rattle.std.proofs.Common.{take, zero}
use Rattle.std.specs.Prelude.{◌^◌}
use Rattle.history.specs.Entry.{IsWrittenEntry}
use Rattle.irc_line.proofs.Logic.{and_second}
use Rattle.irc_line.specs.Line.{nick_of}
use Rattle.irc_line.specs.Writing.{is_clean, is_writable}
use Rattle.net_view.specs.Written.{AreWritten}
use Rattle.welcome.proofs.EachOf.{all_now, backlog_each, joined, mapped}
use Rattle.welcome.proofs.{OthersSaid.by_each, Stamps.written_keeps}
use Rattle.welcome.proofs.WrittenLaw.{IsFit, IsFromLines, IsMiddle, batch_word, decimal_good, entry_fit}
use Rattle.welcome.proofs.WrittenLaw.{account_word, clean, known_written, nick_written, sound}
use Rattle.welcome.proofs.WrittenLaw.{middle, name_middle, numbered, state_written}
use Rattle.welcome.proofs.Words
use Words.{◌+◌, ◌<◌, ◌∷◌, ◌≡◌, ◌≤◌, AllByRecursion, AreLines, Arrival, Bool, Bor, Caps, Channel, Each, EntryParts}
use Words.{ForSome, List, None, Option, Parts, Person, Some, key_by, known_at, option_map, unwrap_or, Text, View, [], arith, batch_tag, cond, entries_got, entry_line, false, length, nat_tests}
use Words.{refl, state_part_of, suc, true, ℕ}
use Rattle.welcome.specs.declared.others.Sort.{Sort}
use Rattle.welcome.specs.declared.others.Sort.TheVariants.{Channels, Persons, Visits}
use Rattle.welcome.specs.declared.playing.Playing.{Playing}
use Rattle.net_view.specs.Readers.{account_shown}
use Rattle.std.specs.Option.{option_and_then}
use Rattle.irc_names.specs.Nick.{is_nameable}
use Rattle.std.proofs.lemmas.Option.{option_and_then_some}
use Rattle.irc_line.specs.Writing.{is_part}
use Rattle.welcome.specs.Playing.{around, own_spelled, visit_join, visit_part}
use Rattle.welcome.specs.Playing.{burst_by, is_for_us, name_by, places_of, playback_by}

-- ---- visits

module _ (v : View) (from : IsFromLines v) (caps : Caps) (name : Text) (is : IsMiddle name) where
  nick_part : (nick : Text) → is_nameable nick ≡ true → is_part (Some nick) ≡ true
  nick_part nick h = grind (arith, nick_written nick h)

  known_part : (own : Text) → is_nameable own ≡ true → (n : Text) (o : Option Text)
      → known_at (λ p. p.spelled) v n ≡ o → is_part (Some (unwrap_or o own)) ≡ true
  known_part own h n None e = nick_part own h
  known_part own h n (Some nick) e =
      nick_part nick (option_and_then_some (λ (p : Person). p.spelled) (fin.get v.people n) nick e
      (λ p is at. (rw at at ((sound v from caps).people n p is).spelled).nameable))

  spelled_part : is_part (own_spelled v) ≡ true
  spelled_part = by v.own (sound v from caps).own where
    by : (o : Option Text) → ForSome o (λ nick. is_nameable nick ≡ true) → is_part (option_map
        (λ own. unwrap_or (known_at (λ p. p.spelled) v (key_by v.settings own)) own) o) ≡ true
    by None h = refl
    by (Some own) h = known_part own (h own refl) (key_by v.settings own) _ refl

  join_fit : IsFit (visit_join v caps name)
  join_fit =
      let own = option_and_then (account_shown v) v.own in
      let word = account_word None own tt
      (known_written v (sound v from caps) (clean v from caps) v.own) in
      rw spelled_part (grind (arith, is, word))

  part_fit : IsFit (visit_part v name)
  part_fit = rw spelled_part (grind (arith, is))

  visit_fit : (lines : List Parts) → Each IsFit lines → Each IsFit (around Visits v caps name lines)
  visit_fit lines each =
      (join_fit, joined IsFit lines (visit_part v name ∷ []) each (part_fit, tt))

-- ---- the playback

module _ (caps : Caps) where
  -- the batch of a name
  named_fit : (place : ℕ) (name : Text) → place < 2 ^ 64 → IsMiddle name → (es : List EntryParts)
      → Each IsWrittenEntry es → Each IsFit (Words.backlog_of caps place name es)
  named_fit place name small is =
      backlog_each IsFit IsWrittenEntry caps place name (rw (batch_word 43 place refl refl small)
      (and_second _ _ is)) (and_second _ _ (batch_word 45 place refl refl small)) (entry_fit caps
      (batch_tag place ∷ []) ((grind (arith, nat_tests), decimal_good place small), tt))
      (entry_fit caps [] tt)

  by_fit : (playing : Playing) (v : View) (entries : List EntryParts) → IsFromLines v
      → Each IsWrittenEntry entries → places_of playing v caps entries < 2 ^ 64
      → Each IsFit (playback_by playing v caps entries)
  by_fit playing v entries from each small =
      let names = entries_got (λ (e : Text × Channel). IsMiddle e.1.name) v.channels
      (λ e at. name_middle v from caps e.0 e.1 at) in
      by_each IsFit IsWrittenEntry (Each IsFit) (λ lines each. each) (joined IsFit) v caps
      (places_of playing v caps entries) (entry_fit caps [] tt)
      (λ sort place e w less word. named_fit place (name_by sort v e) (omega (less, small, arith)) word)
      (λ e w is word. visit_fit v from caps e.target word)
      written_keeps playing entries (omega arith) each _
      (numbered (fin.entries v.channels) 0 (omega (small, arith)) names)
      (λ at is. named_fit at.0 at.1.1.name is.0 is.1)

-- ---- of entries that are lent

module _ (playing : Playing) (v : View) (caps : Caps) (es : List (Bor EntryParts))
    (from : IsFromLines v) (w : AllByRecursion (λ (e : Bor EntryParts). IsWrittenEntry e.now) es)
    (few : places_of playing v caps (all_now es) < 2 ^ 64) where
  pub playback_by_written : AreLines (playback_by playing v caps (all_now es))
  playback_by_written =
      by_fit caps playing v _ from (mapped (λ (e : Bor EntryParts). IsWrittenEntry e.now)
      IsWrittenEntry (λ e. e.now) (λ e h. h) es w) few

  pub burst_by_written : v.ready ≡ true → AreLines (burst_by playing v caps (all_now es))
  burst_by_written ready =
      joined IsFit (state_part_of v caps) _ (state_written v from caps ready) playback_by_written

pub burst_by_can_be_written : (playing : Playing) (items : List Arrival) (caps : Caps)
    (entries : List EntryParts) → AreWritten items → (view_of items).ready ≡ true
    → Each IsWrittenEntry entries → places_of playing (view_of items) caps entries < 2 ^ 64 →
    Each (λ (line : Parts). is_writable line ≡ true) (burst_by playing (view_of items) caps entries)
burst_by_can_be_written playing items caps entries written ready each small =
    let from : IsFromLines (view_of items) = (items, written, refl) in
    joined IsFit (state_part_of (view_of items) caps) _ (state_written
    (view_of items) from caps ready) (by_fit caps playing (view_of items) entries from each small)
