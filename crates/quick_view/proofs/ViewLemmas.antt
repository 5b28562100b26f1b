-- Views, by what a line changes of their maps.
use Rattle.net_view.proofs.Words
use Rattle.std.specs.FinMap as fin
use Words.{◌≡◌, Bool, Channel, List, Listed, Listing, ModeChange, None, Option, Person, Some, Text}
use Words.{View, after_told, arith, bytes_cmp, false, is_seen, is_some, last_in, nat_cmp}
use Words.{old_member, same, setting_of, true, unwrap_or, without_member, ℕ}
use Rattle.net_view.proofs.{AfterAlike.{look_ups, put_again, removed_none}, AfterModes.after_modes}
use Rattle.net_view.proofs.{AfterMaps.{seen_in, seen_somewhere}, AfterModes.after_modes_elsewhere}
use Rattle.{net_view.proofs.Keys.{is_same, same_by_keys}, network_tables.specs.People.changed_at}
use Rattle.net_view.specs.{Changes.{fresh_channel, parted_view}, MemberSets.{HasSets, IsKnowing}}
use Rattle.network_tables.{proofs.ShownLemmas.{contains-shown, empty-shown}, specs.Rooms.with_modes}
use Rattle.network_tables.{proofs.SwapLemmas.{get_shown, out_shown, put_shown}}
use Rattle.quick_view.specs.Listing.{listed_view, members_listed, people_listed}

-- what is shown of a table, for an attribute `using`
pub ruleset tables = (get_shown, put_shown, out_shown, contains-shown, empty-shown)

-- ---- another's PART

-- nobody was there who could leave
pub parted_nobody : (v : View) (c n : Text) (cs : fin.FinMap bytes_cmp Channel)
    → cs ≡ changed_at v.channels c (without_member n)
    → is_some (old_member (fin.get v.channels c) n) ≡ false
    → record v { channels = cs } ≡ parted_view v c n
parted_nobody v c n cs cs_is was =
    let gone = λ (ch : Channel). removed_none ch.members n in
    grind (arith, gone, put_again v.channels c)

-- ---- who is still seen once we left a channel that we were not on, or joined one anew

all_seen : (ps : fin.FinMap bytes_cmp Person) (seen : Text → Bool)
    → ((q : Text) → fin.contains_key ps q ≡ true → seen q ≡ true) → fin.retain_keys ps seen ≡ ps
all_seen ps seen all = same_by_keys (λ q. grind (look_ups, all q))

pub left_stays : (cs : fin.FinMap bytes_cmp Channel) (ps : fin.FinMap bytes_cmp Person) (c : Text)
    → ((q : Text) → fin.contains_key ps q ≡ is_seen cs q) → fin.get cs c ≡ None
    → fin.retain_keys ps (is_seen (fin.remove cs c)) ≡ ps
left_stays cs ps c known none =
    rw (removed_none cs c none) (all_seen ps _ (λ q h. grind (arith, known q)))

module _ (cs : fin.FinMap bytes_cmp Channel) (ps : fin.FinMap bytes_cmp Person) (c name n : Text)
    (joiner : Person) (known : (q : Text) → fin.contains_key ps q ≡ is_seen cs q)
    (none : fin.get cs c ≡ None) where
  abbrev new : fin.FinMap bytes_cmp Channel
  new = fin.insert cs c (fresh_channel name n)

  joiner_seen : (q : Text) → same q n ≡ true → is_seen new q ≡ true
  joiner_seen q e = seen_in new c q (grind look_ups)

  other_seen : (q : Text) → fin.contains_key ps q ≡ true → is_seen new q ≡ true
  other_seen q h =
      let at = seen_somewhere cs q (grind (arith, known q)) in
      seen_in new (at.0) q (grind (look_ups, is_same (at.0) c, at.1))

  pub entered_stays : fin.retain_keys (fin.insert ps n joiner) (is_seen new)
      ≡ fin.insert ps n joiner
  entered_stays = all_seen _ _ (λ q h. grind (look_ups, joiner_seen q, other_seen q))

-- ---- 324

pub modes_are : (v : View) → HasSets v → IsKnowing v → (c : Text) (modes : List ModeChange)
    (ms : fin.FinMap nat_cmp (Option Text)) (cs : fin.FinMap bytes_cmp Channel)
    → cs ≡ changed_at v.channels c (with_modes ms)
    → ((letter : ℕ) → fin.get ms letter ≡ unwrap_or (last_in (setting_of letter) modes) None)
    → record v { channels = cs } ≡ after_told v (Listed c modes)
modes_are v sets known c modes ms cs cs_is ms_are =
    let on = after_modes v sets known c modes in
    let off = after_modes_elsewhere v sets known c modes in
    grind (arith, λ (ch : Channel) (e : fin.get v.channels c ≡ Some ch). on ch e ms ms_are, off)

-- ---- 353

module _ (v : View) (c : Text) (ls : List Listing) where
  pub listed_is : (ch : Channel) (cs : fin.FinMap bytes_cmp Channel)
      (ps : fin.FinMap bytes_cmp Person) → Some ch ≡ fin.get v.channels c
      → cs ≡ fin.insert v.channels c (record ch { members = members_listed ch.members ls })
      → ps ≡ people_listed v.people ls
      → record v { channels = cs; people = ps } ≡ listed_view v c ls
  listed_is ch cs ps there cs_is ps_is = grind arith
