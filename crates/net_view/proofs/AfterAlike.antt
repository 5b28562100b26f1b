-- The view after an item, by maps that answer alike; what its laws ask each transcript's view has.
use Rattle.std.specs.FinMap as fin
use Rattle.net_view.proofs.Words
use Words.{◌||◌, ◌≡◌, Arrival, Bool, Channel, ForSome, List, None, Option, Person, Some, Text, Told}
use Words.{View, [], after_told, ap, arith, bytes_cmp, channel_after, channels_after, cond, false}
use Words.{had_rank, has_rank, is_seen, is_some, is_us, name_before, nat_list_cmp_total, old_member}
use Words.{people_after, person_after, person_from, rank_count, ranks_that, refl, same, says_member}
use Words.{says_mode, says_on, says_rank, says_topic, standing_of, told_person, true, view_of, ℕ}
use Rattle.net_view.proofs.{AfterMaps.{channels_are, people_are, seen_somewhere}, Keys.bytes_exact}
use Rattle.net_view.proofs.{FormSound.view_ranked, Keys.same_by_keys, SoundStep.view_sound}
pub use Rattle.net_view.proofs.{AfterMaps.{channel_is, seen_in}, Keys.{is_same, same_refl}}
pub use Rattle.net_view.specs.MemberSets.{AreSets, HasSets, IsKnowing}

-- nobody holds no rank
pub no_ranks : ranks_that (λ rank. false) ≡ []
unfolding ranks_that rank_count
no_ranks = refl

-- a member about whom nothing is said
pub member_stays : (ch : Channel) → AreSets ch → (n : Text) → cond (is_some (fin.get ch.members n))
    (Some (ranks_that (λ rank. had_rank rank (fin.get ch.members n)))) None ≡ fin.get ch.members n
member_stays ch sets n =
    elim (fin.get ch.members n) as (λ o. ForSome o (λ ranks. ranks_that (has_rank ranks) ≡ ranks)
    → cond (is_some o) (Some (ranks_that (λ rank. had_rank rank o))) None ≡ o)
    [ None ↦ λ s. refl | Some ranks ↦ λ s. ap Some (s ranks refl) ] (sets n)

-- ---- what the laws of the step ask of a view

-- which keys are ours
abbrev pub us_of : View → Text → Bool
us_of v = is_us (standing_of v)

pub view_sets : (items : List Arrival) → HasSets (view_of items)
view_sets items c ch at n ranks is = grind (arith, view_ranked)

pub view_knowing : (items : List Arrival) → IsKnowing (view_of items)
view_knowing items = (view_sound items).known

-- the view after an item, from its channels and persons
pub view_after : (v : View) (t : Told) (cs : fin.FinMap bytes_cmp Channel)
    (ps : fin.FinMap bytes_cmp Person)
    → ((c : Text) → channel_after (us_of v) t c (fin.get v.channels c) ≡ fin.get cs c)
    → ((n : Text) → person_after (us_of v) t cs v.people n ≡ fin.get ps n)
    → after_told v t ≡ record (after_told v t) { channels = cs; people = ps }
view_after v t cs ps are is =
    simp (channels_are (us_of v) t v.channels cs are, people_are (us_of v) t cs v.people ps is)

-- ---- what is asked of a map in which something was put, or of which something was taken out

pub get_put : {X : Type 0} (m : fin.FinMap bytes_cmp X) (k : Text) (x : X) (q : Text)
    → fin.get (fin.insert m k x) q ≡ cond (same q k) (Some x) (fin.get m q)
get_put = fin.get-insert nat_list_cmp_total

pub get_out : {X : Type 0} (m : fin.FinMap bytes_cmp X) (k q : Text)
    → fin.get (fin.remove m k) q ≡ cond (same q k) None (fin.get m q)
get_out = fin.get-remove nat_list_cmp_total

pub get_kept : {X : Type 0} (m : fin.FinMap bytes_cmp X) (keeps : Text → Bool) (q : Text)
    → fin.get (fin.retain_keys m keeps) q ≡ cond (keeps q) (fin.get m q) None
get_kept m keeps q = fin.get-retain_keys m keeps q (λ x e. cc (bytes_exact q x e))

-- look-ups in maps
pub ruleset look_ups =
    (arith, is_same, same_refl, get_put, get_out, get_kept, seen_in, seen_somewhere)

-- ---- to take out what is not there, and to put in what is, changes nothing

pub removed_none : {X : Type 0} (m : fin.FinMap bytes_cmp X) (n : Text) → fin.get m n ≡ None
    → fin.remove m n ≡ m
removed_none m n e = same_by_keys (λ q. grind look_ups)

pub put_again : {X : Type 0} (m : fin.FinMap bytes_cmp X) (n : Text) (x : X) → fin.get m n ≡ Some x
    → fin.insert m n x ≡ m
put_again m n x e = same_by_keys (λ q. grind look_ups)

-- ---- channels that an item does not speak of

-- the item says nothing of the channel, and calls nobody by another name
pub record IsQuiet (us : Text → Bool) (t : Told) (c : Text) : Type 0 where
  pub on : says_on c us t ≡ None
  pub topic : says_topic c us t ≡ None
  pub mode : (letter : ℕ) → says_mode c letter us t ≡ None
  pub member : (n : Text) → says_member c us t n ≡ None
  pub rank : (n : Text) (rank : ℕ) → says_rank c rank us t n ≡ None
  pub name : (n : Text) → name_before us t n ≡ Some n

pub quiet_channel : (us : Text → Bool) (t : Told) (c : Text) (old : Option Channel)
    → ForSome old AreSets → IsQuiet us t c → channel_after us t c old ≡ old
quiet_channel us t c None sets q = cc
quiet_channel us t c (Some ch) sets q =
    simp q.on (ap Some (channel_is us t c (Some ch) ch (simp q.topic) (λ letter. simp q.mode)
    (λ n. simp (q.name n, q.member n, q.rank n, member_stays ch (sets ch refl) n))))

-- all stay, if the item is quiet on all
pub all_channels_stay : (us : Text → Bool) (t : Told) (cs : fin.FinMap bytes_cmp Channel)
    → ((c : Text) → ForSome (fin.get cs c) AreSets) → ((c : Text) → IsQuiet us t c)
    → channels_after us t cs ≡ cs
all_channels_stay us t cs sets quiet = grind (arith, channels_are, quiet_channel)

-- who is seen, if a member of the same channels as another was
pub seen_alike : (cs ds : fin.FinMap bytes_cmp Channel) (n m : Text)
    → ((c : Text) → is_some (old_member (fin.get ds c) n) ≡ is_some (old_member (fin.get cs c) m))
    → is_seen ds n ≡ is_seen cs m
seen_alike cs ds n m alike = grind look_ups

-- and if a channel is put that has the members of before, and this one too, if there is one more
pub seen_put : (cs : fin.FinMap bytes_cmp Channel) (c : Text) (is : Channel) (n : Text) (new : Bool)
    → is_some (fin.get is.members n) ≡ (new || is_some (old_member (fin.get cs c) n))
    → is_seen (fin.insert cs c is) n ≡ (new || is_seen cs n)
seen_put cs c is n true here = seen_in _ c n (grind look_ups)
seen_put cs c is n false here = seen_alike cs _ n n (λ d. grind look_ups)

-- the view after an item that speaks of one channel: with what the item makes of that channel
module _ (v : View) (sets : HasSets v) (t : Told) (c : Text)
    (quiet : (d : Text) → same d c ≡ false → IsQuiet (us_of v) t d) where
  pub view_put : (is : Channel) (ps : fin.FinMap bytes_cmp Person)
      → channel_after (us_of v) t c (fin.get v.channels c) ≡ Some is → ((n : Text)
      → person_after (us_of v) t (fin.insert v.channels c is) v.people n ≡ fin.get ps n)
      → after_told v t
      ≡ record (after_told v t) { channels = fin.insert v.channels c is; people = ps }
  view_put is ps made =
      view_after v t _ ps (λ d.
      grind (arith, quiet_channel (us_of v) t d, sets d, quiet d, is_same d c, made, get_put))

  -- or if it stays as it was, and all persons do
  pub view_stays : IsKnowing v → channel_after (us_of v) t c (fin.get v.channels c)
      ≡ fin.get v.channels c → ((n : Text) → person_from (us_of v) t v.channels v.people n
      ≡ told_person None None None (fin.get v.people n)) → after_told v t
      ≡ record (after_told v t) { channels = v.channels; people = v.people }
  view_stays known stays tells =
      view_after v t _ _
      (λ d. grind (arith, quiet_channel (us_of v) t d, sets d, quiet d, is_same d c, stays))
      (λ n. grind (arith, known n, tells n))

-- all stay, if the item says nothing about them
pub all_persons_stay : (us : Text → Bool) (t : Told) (cs : fin.FinMap bytes_cmp Channel)
    (ps : fin.FinMap bytes_cmp Person) → ((n : Text) → fin.contains_key ps n ≡ is_seen cs n)
    → ((n : Text) → person_from us t cs ps n ≡ told_person None None None (fin.get ps n))
    → people_after us t cs ps ≡ ps
all_persons_stay us t cs ps known tells = grind (arith, people_are)
