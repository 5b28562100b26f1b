-- The maps of the view after an item, asked key by key, for any view before it.
use Rattle.std.specs.FinMap as fin
use Rattle.net_view.proofs.Channels.{name_stays, says_member_none, says_mode_none}
use Rattle.net_view.proofs.Keys.{bytes_exact, met_at, not_kept, same_by_keys, some_key, text_tables}
use Rattle.net_view.proofs.{People.seen_none, Tests.absent, Words.{◌∙◌, ◌≡◌, Bool, Channel, Option}}
use Rattle.net_view.proofs.Words.{Person, Text, Told, arith, bytes_cmp, channel_after, channel_from}
use Rattle.net_view.proofs.Words.{channels_after, is_seen, is_some, member_after, mode_after}
use Rattle.net_view.proofs.Words.{name_before, nat_cmp_total, nat_list_cmp_total, old_member}
use Rattle.net_view.proofs.Words.{option_and_then, people_after, person_after, says_member}
use Rattle.net_view.proofs.Words.{says_topic, table_gets, true, unwrap_or, ℕ}

module _ (us : Text → Bool) (t : Told) where
  -- ---- channels

  pub get-channels_after : (cs : fin.FinMap bytes_cmp Channel) (c : Text)
      → fin.get (channels_after us t cs) c ≡ channel_after us t c (fin.get cs c)
  get-channels_after cs =
      table_gets nat_list_cmp_total bytes_exact _ _ (λ c h. grind (arith, absent, not_kept cs c))

  pub channels_are : (cs new : fin.FinMap bytes_cmp Channel) → ((c : Text)
      → channel_after us t c (fin.get cs c) ≡ fin.get new c) → channels_after us t cs ≡ new
  channels_are cs new is = same_by_keys (λ c. get-channels_after cs c ∙ is c)

  -- ---- persons

  module _ (cs : fin.FinMap bytes_cmp Channel) (old : fin.FinMap bytes_cmp Person) where
    pub get-people_after : (n : Text)
        → fin.get (people_after us t cs old) n ≡ person_after us t cs old n
    get-people_after = search (arith, text_tables, seen_none)

    pub people_are : (new : fin.FinMap bytes_cmp Person)
        → ((n : Text) → person_after us t cs old n ≡ fin.get new n) → people_after us t cs old ≡ new
    people_are new is = same_by_keys (λ n. get-people_after n ∙ is n)

  -- ---- a channel

  module _ (c : Text) (old : Option Channel) where
    pub get-modes_after : (name : Text) (letter : ℕ)
        → fin.get (channel_from us t c old name).modes letter ≡ mode_after us t c old letter
    get-modes_after name =
        let exact = fin.nat_cmp-IsAntisymmetric in
        search (arith, table_gets, nat_cmp_total, exact, absent, not_kept, says_mode_none)

    pub get-members_after : (name n : Text)
        → fin.get (channel_from us t c old name).members n ≡ member_after us t c old n
    get-members_after name =
        search (arith, text_tables, absent, not_kept, name_stays, says_member_none)

    -- who is a member after the item
    pub contains-members_after : (name n : Text)
        → fin.contains_key (channel_from us t c old name).members n
        ≡ unwrap_or (says_member c us t n)
        (is_some (option_and_then (old_member old) (name_before us t n)))
    contains-members_after name n = grind (arith, get-members_after)

    pub channel_is : (is : Channel)
        → unwrap_or (says_topic c us t) (option_and_then (λ ch. ch.topic) old) ≡ is.topic
        → ((letter : ℕ) → mode_after us t c old letter ≡ fin.get is.modes letter) → ((n : Text)
        → member_after us t c old n ≡ fin.get is.members n) → channel_from us t c old is.name ≡ is
    channel_is is topic modes members =
        let ms = fin.same_map nat_cmp_total fin.nat_cmp-IsAntisymmetric _ is.modes
        (λ letter. get-modes_after is.name letter ∙ modes letter) in
        simp (topic, ms, same_by_keys (λ n. get-members_after is.name n ∙ members n))

-- a member of a channel is seen
pub seen_in : (cs : fin.FinMap bytes_cmp Channel) (c n : Text)
    → is_some (old_member (fin.get cs c) n) ≡ true → is_seen cs n ≡ true
seen_in cs c n h = met_at _ c (fin.keys cs) h (grind (arith, fin.contains_key-keys cs c))

-- who is seen is a member of some channel
pub seen_somewhere : (cs : fin.FinMap bytes_cmp Channel) (n : Text) → is_seen cs n ≡ true
    → (c : Text) × (is_some (old_member (fin.get cs c) n) ≡ true)
seen_somewhere cs n h = grind (arith, some_key)
