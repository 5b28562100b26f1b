-- What a view shows at a place, by the key that is there on the tape.
use Rattle.std.specs.FinMap as fin
use Rattle.net_view.proofs.{Channels.{channels_get, members_get, modes_get}, Holds.mapped}
use Rattle.net_view.proofs.{KeyPlaces.entry_at, Keys.bytes_exact, People.account_field}
use Rattle.net_view.proofs.{People.{away_field, people_get, spelling_field}, SoundStep.sound_back}
use Rattle.net_view.specs.{Facts.{account_of, away_of, spelling_of}, Readers.channel_shown}
use Rattle.{net_view.specs.Readers.{member_shown, mode_shown}, tape_view.proofs.Words.Arrival}
use Rattle.tape_view.proofs.Words.{Heard, IsTotalOrder, List, None, Option, Ordering, Reading, Some}
use Rattle.tape_view.proofs.Words.{Text, [], arith, channel_named, channels_of, is_on, key_at}
use Rattle.tape_view.proofs.Words.{letter_shown, members_of, mode_of, modes_of, name_on}
use Rattle.tape_view.proofs.Words.{nat_cmp_total, nat_list_cmp_total, option_map, rank_decided}
use Rattle.tape_view.proofs.Words.{ranks_that, slice_get, sym, true, unwrap_or, view_back, ℕ, ◌≡◌}
use Rattle.tape_view.specs.{Tape.heard, declared.places.Table.TheVariants.Channels}

-- the key at a place of a channel's members
abbrev pub member_key : List Reading → Text → ℕ → Option Text
member_key rs k j =
    option_map (λ (x : Text × List ℕ). x.0) (slice_get (fin.entries (members_of rs k)) j)

-- what is at the place of a key
found : {K X : Type 0} {R : K → K → Ordering} (o : IsTotalOrder R) (exact : fin.IsAntisymmetric R)
    (m : fin.FinMap R X) (j : ℕ) (k : K)
    → Some k ≡ option_map (λ (e : K × X). e.0) (slice_get (fin.entries m) j)
    → (x : X) × (slice_get (fin.entries m) j ≡ Some (k, x)) × (fin.get m k ≡ Some x)
found o exact m j k at =
    let e = mapped _ (slice_get (fin.entries m) j) k (sym at) in
    let got = entry_at o exact m j e.0 e.1 in
    (e.0.1, grind (arith, e.1, e.2), grind (arith, got, e.2))

pub shown_on : (tape : Heard) (i : ℕ) (k : Text) → Some k ≡ key_at tape Channels i
    → is_on tape.readings k ≡ true
shown_on tape i k here =
    let at = found nat_list_cmp_total bytes_exact (channels_of tape.readings) i k here in
    grind (arith, at.2, channels_get)

-- the channel whose key is at a place
module _ (items : List Arrival) {tape : Heard} (i : ℕ) {k : Text} (is : tape ≡ heard items)
    (here : Some k ≡ key_at tape Channels i) where
  pub shown : (name : Text) × (name_on tape.readings k ≡ Some name)
      × (channel_shown (view_back items) i ≡ Some (channel_named tape.readings k name))
  shown =
      let at = found nat_list_cmp_total bytes_exact (channels_of tape.readings) i k here in
      let name = unwrap_or (name_on tape.readings k) [] in
      (name, grind (arith, at, channels_get), grind (arith, at, channels_get))

  pub is_spelled : (j : ℕ) (n : Text) → Some n ≡ member_key tape.readings k j
      → None ≡ spelling_of tape.readings n → ⊥
  is_spelled j n e none =
      let sound = (sound_back items).channels k (channel_named tape.readings k shown.0)
      (grind (arith, shown.1, is, channels_get)) in
      let at = found nat_list_cmp_total bytes_exact (members_of tape.readings k) j n e in
      grind (arith, at.2, sound.spelled n, people_get, spelling_field)

  pub member_there : (j : ℕ) (n nick : Text) → Some n ≡ member_key tape.readings k j
      → Some nick ≡ spelling_of tape.readings n
      → member_shown (view_back items) i j ≡ Some (record {
        nick = nick;
        ranks = ranks_that (rank_decided tape.readings k n);
        account = account_of tape.readings n;
        away = away_of tape.readings n;
      })
  member_there j n nick e spelled =
      let at = found nat_list_cmp_total bytes_exact (members_of tape.readings k) j n e in
      grind (arith, shown, at, members_get, people_get, spelling_field, account_field, away_field)

  pub mode_there : (j letter : ℕ) → Some letter ≡ letter_shown tape.readings k j
      → mode_shown (view_back items) i j
      ≡ option_map (λ param. (letter, param)) (mode_of tape.readings k letter)
  mode_there j letter e =
      let modes = modes_of tape.readings k in
      let at = found nat_cmp_total fin.nat_cmp-IsAntisymmetric modes j letter e in
      grind (arith, shown, modes_get, at.1, at.2)
