-- Keys of a table and letters of a channel, by place and as the lines of a tape bring them up.
use Rattle.tape_view.proofs.Words
use Words.{◌≡◌, ◌≤◌, ◌∷◌, ℕ, suc, Bool, List, [], length, is_some, nat_cmp, nat_cmp_total}
use Words.{nat_list_cmp_total, Option, arith, Text, Table, bytes_cmp, named, table, modes_of}
use Words.{names_in, is_set, letter_shown, is_there, key, key_at, table_len, Heard, true, false}
use Words.{list_any, same, Reading, is_on, is_member, people_in, Said, IsLast, meaning_in, map}
use Words.{filter_map, eq_by_cmp, Token, says_on, key_there, meaning, ChangeParts, mode_change}
use Rattle.std.specs.FinMap as fin
use Rattle.net_view.proofs.Channels.{channels_get, members_get, modes_get, name_stays}
use Rattle.net_view.proofs.{Channels.{says_member_none, says_mode_none}, KeyPlaces.ArePlaces}
use Rattle.net_view.{proofs.{KeyPlaces.places, Keys.bytes_exact}, specs.Table.put_some}
use Rattle.tape_view.{proofs.{LastLine.IsRead, SightLine.stays_member}, specs.Letters.letters_told}
use Rattle.tape_view.specs.declared.places.Table.TheVariants.{Channels, Members}

pub table_places : (tape : Heard) (table : Table)
    → ArePlaces bytes_cmp (is_there tape table) (key_at tape table) (table_len tape table)
table_places tape Channels =
    places nat_list_cmp_total bytes_exact _ _ (λ c. grind (arith, channels_get))
table_places tape (Members channel) =
    places nat_list_cmp_total bytes_exact _ _ (λ n. grind (arith, members_get))

pub letter_places : (tape : Heard) (channel : Text)
    → ArePlaces nat_cmp (is_set tape.readings (key tape channel))
    (letter_shown tape.readings (key tape channel))
    (length (fin.entries (modes_of tape.readings (key tape channel))))
letter_places tape channel =
    places nat_cmp_total fin.nat_cmp-IsAntisymmetric _ _ (λ letter. simp modes_get)

-- ---- there are no more than the names that are brought up

put_len : {X : Type 0} (m : fin.FinMap bytes_cmp X) (k : Text) (o : Option X) (n : ℕ)
    → fin.len m ≤ n → fin.len (put_some m k o) ≤ suc n
put_len {X} m k o n h = grind (arith, fin.len-insert {X = X} nat_list_cmp_total)

len_of_table : {X : Type 0} (ks : List Text) (f : Text → Option X)
    → fin.len (table bytes_cmp ks f) ≤ length ks
unfolding table
len_of_table {X} [] f = grind (arith, fin.len-empty bytes_cmp X)
len_of_table (k ∷ ks) f = grind (arith, put_len, len_of_table ks f)

pub len_few : (tape : Heard) (table : Table)
    → table_len tape table ≤ length (named (names_in table) tape.readings)
len_few tape Channels = rw (← fin.len-entries) (len_of_table _ _)
len_few tape (Members channel) = rw (← fin.len-entries) (len_of_table _ _)

-- ---- what a line brings up

made_member : (x : Reading) (older : List Reading) (c n : Text) → is_member (x ∷ older) c n ≡ true
    → is_member older c n ≡ false → list_any (same n) (people_in x.told) ≡ true
made_member x older c n here gone = grind (arith, stays_member, says_member_none, name_stays)

-- if we are on no channel, no table has anything
pub gone : (tape : Heard) (table : Table) → ((c : Text) → is_on tape.readings c ≡ false)
    → (c : Text) → is_there tape table c ≡ false
gone tape table off c = grind arith

-- what is in the table after a line, and was not before it, is named by the line
pub brought_up : {A : Type 0} {tape older : Heard} {said : Said A} (line : IsLast tape said older)
    (table : Table) (c : Text) → is_there tape table c ≡ true → is_there older table c ≡ false
    → list_any (same c) (names_in table (meaning_in tape said)) ≡ true
brought_up line Channels c here away =
    rw (← line.settings, line.told) (grind (arith, line.whole))
brought_up {tape = tape} {older = older} line (Members channel) c here away =
    rw (← line.settings, line.told)
    (made_member line.reading older.readings (key tape channel.now) c (rw line.whole at here)
    (rw line.same_settings at away))

-- the letters of some changes
abbrev pub letters : List ChangeParts → List ℕ
letters changes = map (λ change. change.letter) changes

-- whether a letter is listed
abbrev has : ℕ → List ℕ → Bool
has letter listed = list_any (eq_by_cmp nat_cmp letter) listed

kept_listed : (settings : List Token) (letter : ℕ) (changes : List ChangeParts)
    → has letter (map (λ m. m.letter) (filter_map (mode_change settings) changes)) ≡ true
    → has letter (letters changes) ≡ true
kept_listed settings letter [] h = h
kept_listed settings letter (x ∷ xs) h = grind (arith, kept_listed settings letter xs)

module _ {A : Type 0} {tape older : Heard} {said : Said A} (line : IsLast tape said older)
    (c : Text) (on : is_on tape.readings (key tape c) ≡ true) where
  -- a line that speaks of our being on the channel, on which we are after it, is our own JOIN: all
  -- is off
  pub begun_off : (answer : Option (Option Text))
      → IsRead said (meaning said) answer (says_on (key_there said c)) → is_some answer ≡ true
      → (letter : ℕ) → is_set tape.readings (key tape c) letter ≡ false
  begun_off answer read some letter = grind arith

  -- and if it does not speak of it, we were on it before
  pub unsaid_on : (answer : Option (Option Text))
      → IsRead said (meaning said) answer (says_on (key_there said c))
      → is_some answer ≡ false → is_on older.readings (key older c) ≡ true
  unsaid_on answer read none = grind arith

  -- a letter that is on after the line, and was not before it, is listed by the line
  pub listed_on : (letter : ℕ) → is_set tape.readings (key tape c) letter ≡ true
      → is_set older.readings (key older c) letter ≡ false
      → has letter (letters_told tape.settings said.telling) ≡ true
  listed_on letter here before =
      let gone = rw line.same_settings at before in
      grind (arith, gone, says_mode_none, kept_listed)
