-- A name list says what its parts say one after the other.
use Rattle.std.specs.FinMap as fin
use Rattle.net_view.proofs.Words
use Words.{◌&&◌, ◌++◌, ◌||◌, ◌∷◌, ◌≡◌, Arrival, Bool, Channel, IsSound, List, Listing, None, Option}
use Words.{Present, Some, Text, Token, View, [], after, after_told, ap, arith, bytes_cmp, is_seen}
use Words.{channel_after, channel_from, channels_after, is_some, last_in, lists, member_after, refl}
use Words.{old_member, option_or, same, slice_split, sym, told, true, view_of, words}
use Rattle.net_view.proofs.AfterAlike.{channel_is, is_same, look_ups, us_of, view_after}
use Rattle.net_view.proofs.AfterMaps.{contains-members_after, get-channels_after, get-members_after}
use Rattle.net_view.proofs.AfterMaps.{get-modes_after, get-people_after, seen_somewhere}
use Rattle.net_view.proofs.{PeopleSound.last_spelled, RankSets.has-ranks, SoundStep.view_sound}
use Rattle.net_view.proofs.{StepLaw.{alike_when, last_listed, view_step}, Tests.any_append}
use Rattle.{net_view.specs.StateLines.listings_of, std.proofs.lemmas.List.Splits.length-slice_split}
use Rattle.std.proofs.lemmas.List.{map-append, Elements.{filter-append, filter_map-append}}

-- the last of two lists
last_in-append : {A B : Type 0} (says : B → Option A) (xs ys : List B)
    → last_in says (xs ++ ys) ≡ option_or (last_in says ys) (last_in says xs)
last_in-append says [] ys = grind arith
last_in-append says (x ∷ xs) ys = grind (arith, last_in-append says xs ys)

-- who is seen, if those of this name on one channel are members too
seen_more : (cs ds : fin.FinMap bytes_cmp Channel) (c n : Text) (more : Bool)
    → ((d : Text) → is_some (old_member (fin.get ds d) n) ≡ (fin.contains_key cs d
    && ((same d c && more) || is_some (old_member (fin.get cs d) n))))
    → is_seen ds n ≡ (is_seen cs n || (fin.contains_key cs c && more))
seen_more cs ds c n more are =
    grind (look_ups, seen_somewhere ds n, seen_somewhere cs n, are, λ (d : Text). is_same d c)

module _ (us : Text → Bool) (c : Text) where
  module _ (a b : List Listing) where
    member_in_parts : (d : Text) (ch : Channel) (n : Text)
        → let one = channel_from us (Present c a) d (Some ch) ch.name in
        member_after us (Present c (a ++ b)) d (Some ch) n
        ≡ member_after us (Present c b) d (Some one) n
    member_in_parts d ch n =
        let was = get-members_after us (Present c a) d (Some ch) ch.name n in
        alike_when _ _ _ _ (grind (arith, any_append, was)) (λ h rank is.
        grind (arith, last_in-append, last_listed n rank, was, is, has-ranks))

    channel_in_parts : (d : Text) (old : Option Channel)
        → channel_after us (Present c (a ++ b)) d old
        ≡ channel_after us (Present c b) d (channel_after us (Present c a) d old)
    channel_in_parts d None = refl
    channel_in_parts d (Some ch) =
        let one = channel_from us (Present c a) d (Some ch) ch.name in
        let whole = channel_from us (Present c (a ++ b)) d (Some ch) ch.name in
        sym (ap Some (channel_is us (Present c b) d (Some one) whole refl
        (λ letter. simp get-modes_after) (λ n. simp (get-members_after, member_in_parts d ch n))))

  -- who is a member of a channel after a name list
  member_listed : (l : List Listing) (cs : fin.FinMap bytes_cmp Channel) (n d : Text)
      → is_some (old_member (fin.get (channels_after us (Present c l) cs) d) n)
      ≡ (fin.contains_key cs d
      && ((same d c && lists n l) || is_some (old_member (fin.get cs d) n)))
  member_listed l cs n d =
      let are = λ (ch : Channel). contains-members_after us (Present c l) d (Some ch) ch.name n in
      grind (arith, get-channels_after us (Present c l) cs d, are)

pub view_in_parts : (v : View) (c : Text) (a b : List Listing) → IsSound v
    → after_told v (Present c (a ++ b)) ≡ after_told (after_told v (Present c a)) (Present c b)
view_in_parts v c a b sound =
    let us = us_of v in
    let one = channels_after us (Present c a) v.channels in
    let was = get-channels_after us (Present c a) v.channels in
    let is = get-channels_after us (Present c b) one in
    view_after v (Present c (a ++ b)) (channels_after us (Present c b) one) _
    (λ d. cc (channel_in_parts us c a b d (fin.get v.channels d), was d, is d)) (λ n.
    let seen = seen_more v.channels one c n (lists n a) (member_listed us c a v.channels n) in
    let more = seen_more one _ c n (lists n b) (member_listed us c b one n) in
    grind (arith, get-people_after, seen, more, sound.known n, last_spelled n, was, last_in-append))

pub lists_add_up : (items : List Arrival) (whole first second : Arrival) (c : Text)
    (a b : List Listing) → told (view_of items).settings whole ≡ Present c (a ++ b)
    → told (view_of items).settings first ≡ Present c a → told (view_of items).settings second
    ≡ Present c b → view_of (items ++ whole ∷ []) ≡ view_of ((items ++ first ∷ []) ++ second ∷ [])
unfolding after
lists_add_up items whole first second c a b w f s =
    simp (view_step, w, f, s, view_in_parts (view_of items) c a b (view_sound items))

-- ---- the words of a text that is cut at a space

slice_split-append : {X : Type 0} (p : X → Bool) (a : List X) (x : X) (b : List X) → p x ≡ true
    → slice_split p (a ++ x ∷ b) ≡ slice_split p a ++ slice_split p b
slice_split-append p [] x b e = cc
slice_split-append p (y ∷ a) x b e =
    grind (arith, length-slice_split p a, slice_split-append p a x b e)

pub words_add_up : (settings : List Token) (a b : Text)
    → listings_of settings (a ++ 32 ∷ b) ≡ listings_of settings a ++ listings_of settings b
unfolding words
words_add_up settings a b = simp (slice_split-append, filter-append, map-append, filter_map-append)
