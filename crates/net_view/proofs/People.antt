-- The persons of a view are those in sight, and what is known of each.
use Rattle.std.specs.FinMap as fin
use Rattle.net_view.proofs.Channels.{channels_get, covers_member, covers_on, members_get}
use Rattle.net_view.proofs.{Keys.{met_at, some_key, text_tables}, Tests.{any_append, any_false}}
use Rattle.net_view.proofs.{Tests.is_some_map, Words.{◌∷◌, ◌≡◌, Channel, List, None, Person}}
use Rattle.net_view.proofs.Words.{Reading, Says, Text, [], arith, bytes_cmp, channels_in}
use Rattle.net_view.proofs.Words.{channels_of, false, in_sight, is_member, is_on, is_seen, is_some}
use Rattle.net_view.proofs.Words.{known, list_any, named, old_member, option_and_then, people_of}
use Rattle.net_view.proofs.Words.{refl, same, says_account, says_away, says_spelling, true}
use Rattle.{net_view.specs.{Step.members_at, View.person_of}, std.proofs.Math.Path.fun_ext}

pub unseen_none : (says : Says) (items : List Reading) (n : Text) → in_sight items n ≡ false
    → known says items n ≡ None
unseen_none says [] n h = refl
unseen_none says (x ∷ older) n h = cc

pub seen_none : (cs : fin.FinMap bytes_cmp Channel) (keys : List Text) (n : Text)
    → list_any (same n) (members_at cs keys) ≡ false
    → list_any (λ c. is_some (old_member (fin.get cs c) n)) keys ≡ false
seen_none cs [] n h = refl
seen_none cs (c ∷ keys) n h = grind (arith, any_append, fin.contains_key-keys, seen_none cs keys)

module _ (items : List Reading) where
  -- the channels that we are on are those of the view
  pub on_channels : fin.contains_key (channels_of items) ≡ is_on items
  on_channels = fun_ext (λ c. simp (channels_get, is_some_map))

  -- whether the view has the person as a member of the channel
  pub member_found : (c n : Text)
      → is_some (old_member (fin.get (channels_of items) c) n) ≡ is_member items c n
  member_found c n = grind (arith, channels_get, members_get items c n)

  pub in_named : (c n : Text) → is_member items c n ≡ true
      → list_any (same c) (named channels_in items) ≡ true
  in_named c n m = grind (arith, covers_on)

  in_keys : (c n : Text) → is_member items c n ≡ true
      → list_any (same c) (fin.keys (channels_of items)) ≡ true
  in_keys c n m = grind (arith, fin.contains_key-keys (channels_of items) c, member_found c n)

  pub sight_seen : (n : Text) → in_sight items n ≡ is_seen (channels_of items) n
  sight_seen n = grind (arith, some_key, met_at, in_keys, in_named, member_found)

  pub people_get : (n : Text) → fin.get (people_of items) n ≡ person_of items n
  people_get = search (arith, text_tables, any_false, covers_member)

  pub spelling_field : (n : Text) → known says_spelling items n
      ≡ option_and_then (λ (p : Person). p.spelled) (person_of items n)
  spelling_field n = grind (arith, unseen_none)

  pub account_field : (n : Text) → known says_account items n
      ≡ option_and_then (λ (p : Person). p.account) (person_of items n)
  account_field n = grind (arith, unseen_none)

  pub away_field : (n : Text) → known says_away items n
      ≡ option_and_then (λ (p : Person). p.away) (person_of items n)
  away_field n = grind (arith, unseen_none)
