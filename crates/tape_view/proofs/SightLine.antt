-- Who is in sight and what is known of a person, asked of the last line of a tape.
use Rattle.tape_view.proofs.Words.{◌≡◌, ◌∷◌, arith, Bool, true, false, List, option_and_then}
use Rattle.tape_view.proofs.Words.{unwrap_or, Option, Some, None, Text, Told, Reading, ours}
use Rattle.tape_view.proofs.Words.{last_of, name_before, begins, is_on, says_member, is_member}
use Rattle.tape_view.proofs.Words.{named, channels_in, says_spelling, in_sight, Bor, key_by, Says}
use Rattle.tape_view.proofs.Words.{known, Said, Heard, key, key_there, meaning, meaning_in, IsLast}
use Rattle.net_view.proofs.{Keys.is_same, Keys.some_key, Keys.met_at}
use Rattle.net_view.proofs.{People.in_named, Tests.no_true, Tests.any_false}
use Rattle.net_view.proofs.PeopleSound.{new_member_is_spelled, unspelled_keeps_name}
use Rattle.tape_view.specs.FactKinds.{joined_to}
use Rattle.tape_view.proofs.LastLine.{IsRead, IsNamed, said_here, said_in}

traced : (says : Text → Option Bool) (before : Option Text) (n : Text)
    → ((m : Text) → before ≡ Some m → m ≡ n) → unwrap_or (option_and_then says before) false ≡ true
    → (before ≡ Some n) × (unwrap_or (says n) false ≡ true)
traced says None n keeps e = cc
traced says (Some m) n keeps e = grind (arith, keeps m)

pub sees : (items : List Reading) (c n : Text) → is_member items c n ≡ true
    → in_sight items n ≡ true
sees items c n m = grind (arith, met_at, in_named)

module _ (x : Reading) (older : List Reading) where
  -- a member that an item neither makes one nor names anew was one before it
  pub stays_member : (c n : Text) → (unwrap_or (says_member c (ours x) x.told n) false ≡ true → ⊥)
      → ((m : Text) → name_before (ours x) x.told n ≡ Some m → m ≡ n)
      → is_member (x ∷ older) c n ≡ true → is_member older c n ≡ true
  stays_member c n new keeps h =
      let before = traced (last_of (says_member c) older) (name_before (ours x) x.told n) n keeps in
      grind (arith, before)

  -- who is in sight after an item that does not spell the person was in sight before it
  pub was_in_sight : (n : Text) → says_spelling (ours x) (is_on (x ∷ older)) x.told n ≡ None
      → in_sight (x ∷ older) n ≡ true → in_sight older n ≡ true
  was_in_sight n unspelled h =
      let at = some_key (λ c. is_member (x ∷ older) c n) (named channels_in (x ∷ older)) h in
      let here = at.1 in
      sees older at.0 n (stays_member at.0 n
      (λ e. grind (arith, new_member_is_spelled at.0 (ours x) (is_on (x ∷ older))))
      (λ m. unspelled_keeps_name (ours x) (is_on (x ∷ older)) x.told n m unspelled) here)

-- each channel of a tape that has the person is one that we are on after what is left of the tape
pub record AreOn (tape left : Heard) (nick : Text) : Type 0 where
  pub same_settings : left.settings ≡ tape.settings
  pub on : (c : Text) → is_member tape.readings c (key tape nick) ≡ true
      → is_on left.readings c ≡ true

pub all_on : (tape : Heard) (nick : Text) → AreOn tape tape nick
all_on tape nick = grind arith

-- if we are on none of them, nobody is in sight
pub none_seen : (tape left : Heard) (nick : Text) → AreOn tape left nick
    → ((c : Text) → is_on left.readings c ≡ false) → in_sight tape.readings (key tape nick) ≡ false
none_seen tape left nick h off = grind (arith, any_false, no_true)

-- a channel is begun by our own JOIN alone
begins_unless : (us : Text → Bool) (t : Told) (c : Text) → (joined_to us t ≡ Some c → ⊥)
    → begins us t c ≡ None
begins_unless us t c other = grind (arith, is_same c)

module _ {A : Type 0} {tape older : Heard} {said : Said A} (line : IsLast tape said older) where
  -- if the line joins us to no channel that has the person
  pub left_on : (whole : Heard) (nick : Text) (joined : Option Text)
      → IsRead said (meaning said) joined joined_to
      → ((c : Text) → joined ≡ Some c → is_member whole.readings c (key whole nick) ≡ false)
      → AreOn whole tape nick → AreOn whole older nick
  left_on whole nick joined read gone old = grind (arith, begins_unless, no_true, said_here)

  -- if it joins us to a channel that does not have the person
  pub one_joined : (whole : Heard) (nick channel : Text)
      → IsRead said (meaning said) (Some (key_there said channel)) joined_to
      → is_member whole.readings (key whole channel) (key whole nick) ≡ false
      → AreOn whole tape nick → AreOn whole older nick
  one_joined whole nick channel read gone old =
      left_on whole nick _ read (λ c f. grind (arith, line.settings)) old

  module _ (nick : Text) (seen : in_sight tape.readings (key tape nick) ≡ true) where
    -- what is known of a person in sight is what the line says, else what was known under the name
    -- of before
    pub known_line : (says : Says) (answer : Option (Option Text)) (name : Option (Bor Text))
        → IsRead said (meaning_in tape said) answer
        (λ us t. says us (is_on tape.readings) t (key tape nick)) → IsNamed said nick name
        → known says tape.readings (key tape nick) ≡ unwrap_or answer
        (option_and_then (λ n. known says older.readings (key older n.now)) name)
    known_line says answer name read named = grind arith

    -- a person whom the line does not spell was in sight before it
    pub seen_before : (name : Bor Text) → IsRead said (meaning_in tape said) None
        (λ us t. says_spelling us (is_on tape.readings) t (key tape nick))
        → IsNamed said nick (Some name) → in_sight older.readings (key older name.now) ≡ true
    seen_before name unspelled named =
        let x = line.reading in
        let silent = said_in line (λ us t. says_spelling us (is_on tape.readings) t (key tape nick))
        None unspelled in
        let before = said_here line (λ s us t. name_before us t (key_by s nick)) _ named in
        grind (
          arith,
          unspelled_keeps_name (ours x) (is_on tape.readings) x.told (key tape nick),
          was_in_sight x older.readings (key tape nick),
        )
