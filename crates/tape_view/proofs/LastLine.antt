-- The last line of a tape, asked in place of the tape.
use Rattle.tape_view.proofs.Words
use Words.{◌≡◌, arith, Bool, true, false, List, option_and_then, option_map, unwrap_or, Option}
use Words.{Some, None, Bor, Text, Token, Told, Reading, ours, last, last_of, name_before, begins}
use Words.{is_on, says_member, Said, Heard, key, key_there, meaning, meaning_in, IsLast, IsMarked}
use Rattle.net_view.specs.Presence.{anew_or}

-- what was said last of a person's being a member
abbrev pub was_made : List Reading → Text → Text → Bool
was_made rs c n = unwrap_or (last_of (says_member c) rs n) false

-- the answer is what is said of an item, whoever we are by the marks of the line
abbrev pub IsRead : {A X : Type 0} (said : Said A) (t : Told) → X → ((Text → Bool) → Told → X)
    → Type 0
IsRead said t answer says = (us : Text → Bool) → IsMarked us t said.marks → answer ≡ says us t

-- what says nothing of a matter that our own JOIN begins anew is no such JOIN
pub silent_anew : {A : Type 0} (c : Text) (us : Text → Bool) (t : Told) (fresh : A)
    (said : Option A) → anew_or c us t fresh said ≡ None → begins us t c ≡ None
silent_anew c us t fresh said e = grind arith

-- this is the name that a person had before the line
abbrev pub IsNamed : {A : Type 0} → Said A → Text → Option (Bor Text) → Type 0
IsNamed said nick name =
    IsRead said (meaning said) (option_map (λ n. key_there said n.now) name)
    (λ us t. name_before us t (key_there said nick))

-- we are on the channel after what is left of a tape, which answers as the whole does
pub record IsLeft {X : Type 0} (left : Heard) (channel : Text) (whole rest : X) : Type 0 where
  pub on : is_on left.readings (key left channel) ≡ true
  pub same : whole ≡ rest

module _ {A : Type 0} {tape older : Heard} {said : Said A} (line : IsLast tape said older) where
  -- what is read off the line is what its reading says
  pub said_here : {X : Type 0} (says : List Token → (Text → Bool) → Told → X) (answer : X)
      → IsRead said (meaning said) answer (says said.support.now)
      → answer ≡ says tape.settings (ours line.reading) line.reading.told
  said_here says answer read = grind arith

  -- what is read off the line by the settings of the tape is so too
  pub said_in : {X : Type 0} (says : (Text → Bool) → Told → X) (answer : X)
      → IsRead said (meaning_in tape said) answer says
      → answer ≡ says (ours line.reading) line.reading.told
  said_in says answer read = grind arith

  module _ {X : Type 0} (says : List Token → (Text → Bool) → Told → Option X) where
    -- the last word on a matter is that of the line, else that of the older tape
    pub asked : (none : X) (answer : Option X)
        → IsRead said (meaning said) answer (says said.support.now)
        → unwrap_or (last (says tape.settings) tape.readings) none
        ≡ unwrap_or answer (unwrap_or (last (says older.settings) older.readings) none)
    asked none answer read = grind arith

    -- if the line says nothing of a matter that our own JOIN begins anew
    pub unsaid : (none : X) (c : Text) {whole : X}
        → ((us : Text → Bool) (t : Told) → says tape.settings us t ≡ None
        → begins us t (key tape c) ≡ None) → IsRead said (meaning said) None (says said.support.now)
        → IsLeft tape c whole (unwrap_or (last (says tape.settings) tape.readings) none)
        → IsLeft older c whole (unwrap_or (last (says older.settings) older.readings) none)
    unsaid none c begun read left = grind arith

  module _ {X : Type 0} (says : List Token → (Text → Bool) → Told → Text → Option X) (none : X)
      (nick : Text) where
    -- what the line says of the person
    abbrev of_nick : (Text → Bool) → Told → Option X
    of_nick us t = says said.support.now us t (key_there said nick)

    -- the last word on a person is that of the line, else that of the older tape under the name of
    -- before
    pub asked_of : (answer : Option X) (name : Option (Bor Text))
        → IsRead said (meaning said) answer of_nick → IsNamed said nick name
        → unwrap_or (last_of (says tape.settings) tape.readings (key tape nick)) none
        ≡ unwrap_or answer (unwrap_or
        (option_and_then (λ n. last_of (says older.settings) older.readings (key older n.now))
        name) none)
    asked_of answer name read named = grind arith

    -- if the line answers
    pub asked_here : (answer : X) → IsRead said (meaning said) (Some answer) of_nick
        → unwrap_or (last_of (says tape.settings) tape.readings (key tape nick)) none ≡ answer
    asked_here answer read = grind arith

    -- if it says nothing of a matter that our own JOIN begins anew
    pub unsaid_of : (c : Text) {whole : X} (name : Bor Text)
        → ((us : Text → Bool) (t : Told) → says tape.settings us t (key tape nick) ≡ None
        → begins us t (key tape c) ≡ None)
        → IsRead said (meaning said) None of_nick → IsNamed said nick (Some name)
        → IsLeft tape c whole
        (unwrap_or (last_of (says tape.settings) tape.readings (key tape nick)) none)
        → IsLeft older c whole
        (unwrap_or (last_of (says older.settings) older.readings (key older name.now)) none)
    unsaid_of c name begun read named left = grind (arith, asked_of None (Some name) read named)
