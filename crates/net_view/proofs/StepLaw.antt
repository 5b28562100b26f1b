-- The view of a transcript with one more item is the step of its view.
use Rattle.net_view.proofs.{AfterMaps.{channel_is, channels_are, people_are}, Channels.channels_get}
use Rattle.net_view.proofs.{Channels.{members_get, modes_get}, Commands.told-unread}
use Rattle.net_view.proofs.People.{account_field, away_field, on_channels, people_get, sight_seen}
use Rattle.net_view.proofs.{People.spelling_field, RankSets.{has-ranks, is_rank, ranks_alike}}
use Rattle.net_view.proofs.Words.{◌++◌, ◌∷◌, ◌≡◌, Arrival, Bool, List, Listing, None, Reading}
use Rattle.net_view.proofs.Words.{Silent, Some, Standing, Text, Told, [], after, append_assoc}
use Rattle.net_view.proofs.Words.{arith, channel_from, channel_named, channel_of, channels_after}
use Rattle.net_view.proofs.Words.{channels_of, cond, empty_view, false, is_some, last_in, lists}
use Rattle.net_view.proofs.Words.{name_on, ours, people_after, people_of, ranks_that, refl}
use Rattle.net_view.proofs.Words.{reverse-append, says_member, says_rank, sym, table, true}
use Rattle.net_view.{proofs.Words.{unwrap_or, view_back, view_of, ℕ}, specs.Members.rank_in_listing}
use Rattle.{net_view.specs.StateLines.is_state_item, std.proofs.Common.append-nil}

-- who becomes a member by an item other than our own JOIN has each rank decided by it
pub last_listed : (n : Text) (rank : ℕ) (ls : List Listing)
    → is_some (last_in (rank_in_listing n rank) ls) ≡ lists n ls
last_listed n rank [] = refl
last_listed n rank (l ∷ ls) = grind (arith, last_listed n rank ls)

said_rank_some : (c : Text) (rank : ℕ) (us : Text → Bool) (t : Told) (n : Text)
    → unwrap_or (says_member c us t n) false ≡ true → is_some (says_rank c rank us t n) ≡ true
said_rank_some c rank us t n h = grind (arith, last_listed)

-- two sets of ranks that are there at once, by tests that agree on the ranks
pub alike_when : (b d : Bool) (f g : ℕ → Bool) → b ≡ d
    → (d ≡ true → (rank : ℕ) → is_rank rank ≡ true → f rank ≡ g rank)
    → cond b (Some (ranks_that f)) None ≡ cond d (Some (ranks_that g)) None
alike_when b d f g e alike = grind (arith, ranks_alike f g)

named_step : (x : Reading) (older : List Reading) (c name : Text)
    → name_on (x ∷ older) c ≡ Some name → channel_named (x ∷ older) c name
    ≡ channel_from (ours x) x.told c (channel_of older c) name
named_step x older c name here =
    sym (channel_is (ours x) x.told c (channel_of older c) (channel_named (x ∷ older) c name)
    (grind arith) (λ letter. grind (arith, modes_get older c letter, modes_get (x ∷ older) c letter))
    (λ n. simp (members_get, here) (alike_when _ _ _ _ (grind (arith, members_get older c))
    (λ h rank is. grind (arith, h, said_rank_some c rank, members_get older c, is, has-ranks)))))

pub channels_step : (x : Reading) (older : List Reading)
    → channels_of (x ∷ older) ≡ channels_after (ours x) x.told (channels_of older)
channels_step x older =
    sym (channels_are (ours x) x.told _ _ (λ c.
    grind (arith, channels_get older c, channels_get (x ∷ older) c, named_step x older c)))

pub people_step : (x : Reading) (older : List Reading) → people_of (x ∷ older)
    ≡ people_after (ours x) x.told (channels_of (x ∷ older)) (people_of older)
people_step x older =
    sym (people_are (ours x) x.told _ _ _ (λ n.
    simp (on_channels, people_get, ← spelling_field, ← account_field, ← away_field, ← sight_seen)
    (grind arith)))

pub view_back_step : (x : Arrival) (older : List Arrival)
    → view_back (x ∷ older) ≡ after (view_back older) x
unfolding after
view_back_step x older = simp (channels_step, people_step)

pub view_step : (items : List Arrival) (x : Arrival)
    → view_of (items ++ x ∷ []) ≡ after (view_of items) x
unfolding view_of
view_step items x = simp (reverse-append, view_back_step)

-- two transcripts that had one view have one after the same items
pub same_more : (items others more : List Arrival) → view_of items ≡ view_of others
    → view_of (items ++ more) ≡ view_of (others ++ more)
same_more items others [] e = simp append-nil e
same_more items others (x ∷ more) e = simp append_assoc at
    (same_more (items ++ x ∷ []) (others ++ x ∷ []) more (grind (arith, view_step)))

-- what a silent item leaves
quiet : (s : Standing) (older : List Reading)
    → let now = record { before = s; told = Silent } ∷ older in
    (channels_of now ≡ channels_of older) × (people_of now ≡ people_of older)
quiet s older = (refl, grind arith)

pub view_unchanged : (items : List Arrival) (x : Arrival) → is_state_item x ≡ false
    → view_of (items ++ x ∷ []) ≡ view_of items
unfolding view_of
view_unchanged items x e = grind (arith, reverse-append, quiet, told-unread)

pub view_start : view_of [] ≡ empty_view
unfolding view_of table
view_start = refl
