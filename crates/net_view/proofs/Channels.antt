-- What no item names has no answer; so a view's channels are what is found of each by looking back.
use Rattle.std.specs.FinMap as fin
use Rattle.net_view.proofs.{Keys.text_tables, Tests.any_append, Words.{◌∷◌, ◌≡◌, ◌⊎◌, Bool, List}}
use Rattle.net_view.proofs.Words.{Listing, ModeChange, None, Reading, Some, Text, Told, [], arith}
use Rattle.net_view.proofs.Words.{channel_of, channels_in, channels_of, eq_by_cmp, false, is_some}
use Rattle.net_view.proofs.Words.{last_in, last_of, letters_in, list_any, lists, map, member_of}
use Rattle.net_view.proofs.Words.{mode_of, name_before, name_on, named, nat_cmp, nat_cmp_total}
use Rattle.net_view.proofs.Words.{ours, people_in, refl, same, says_member, says_mode, setting_of}
use Rattle.net_view.{proofs.Words.{table_gets, unwrap_or, ℕ}, specs.View.{members_of, modes_of}}

pub covers_on : (items : List Reading) (c : Text)
    → list_any (same c) (named channels_in items) ≡ false → name_on items c ≡ None
covers_on [] c h = refl
covers_on (x ∷ older) c h = grind (arith, covers_on older c)

last_setting : (letter : ℕ) (ms : List ModeChange) → is_some (last_in (setting_of letter) ms)
    ≡ list_any (eq_by_cmp nat_cmp letter) (map (λ m. m.letter) ms)
last_setting letter [] = refl
last_setting letter (m ∷ ms) = grind (arith, last_setting letter ms)

pub says_mode_none : (c : Text) (letter : ℕ) (us : Text → Bool) (t : Told)
    → list_any (eq_by_cmp nat_cmp letter) (letters_in t) ≡ false
    → unwrap_or (says_mode c letter us t) None ≡ None
says_mode_none c letter us t h = grind (arith, last_setting letter)

pub covers_mode : (items : List Reading) (c : Text) (letter : ℕ)
    → list_any (eq_by_cmp nat_cmp letter) (named letters_in items) ≡ false
    → mode_of items c letter ≡ None
covers_mode [] c letter h = refl
covers_mode (x ∷ older) c letter h =
    grind (arith, any_append, says_mode_none, covers_mode older c letter)

lists_key : (n : Text) (ls : List Listing)
    → lists n ls ≡ list_any (same n) (map (λ l. l.person.key) ls)
lists_key n [] = refl
lists_key n (l ∷ ls) = grind (arith, lists_key n ls)

pub says_member_none : (c : Text) (us : Text → Bool) (t : Told) (n : Text)
    → list_any (same n) (people_in t) ≡ false → unwrap_or (says_member c us t n) false ≡ false
says_member_none c us t n h = grind (arith, lists_key)

pub name_stays : (us : Text → Bool) (t : Told) (n : Text) → list_any (same n) (people_in t) ≡ false
    → (name_before us t n ≡ None) ⊎ (name_before us t n ≡ Some n)
name_stays us t n h = grind arith

pub covers_member : (items : List Reading) (c n : Text) → list_any (same n)
    (named people_in items) ≡ false → unwrap_or (last_of (says_member c) items n) false ≡ false
covers_member [] c n h = refl
covers_member (x ∷ older) c n h =
    grind (arith, any_append, says_member_none, name_stays (ours x), covers_member older c n)

-- ---- the channels

module _ (items : List Reading) (c : Text) where
  pub members_get : (n : Text) → fin.get (members_of items c) n ≡ member_of items c n
  members_get = search (arith, text_tables, covers_member)

  pub modes_get : (letter : ℕ) → fin.get (modes_of items c) letter ≡ mode_of items c letter
  modes_get = search (table_gets, nat_cmp_total, fin.nat_cmp-IsAntisymmetric, covers_mode)

  pub channels_get : fin.get (channels_of items) c ≡ channel_of items c
  channels_get = search (text_tables, covers_on)
