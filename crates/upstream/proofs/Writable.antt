-- What the settings hold can be in a line.
use Rattle.bnc_config.specs.Text as text
use Rattle.irc_line.specs.{Line.{Parts, is_command, is_line_byte, is_space}, Writing.is_clean}
use Rattle.irc_line.specs.Writing.{is_part, is_word, is_writable}
use Rattle.irc_names.specs.Nick.{begins_nick, is_nameable, is_outside_nick}
use Rattle.std.proofs.Common.{Bool, List, [], arith, codes, false, get_or, length, not, refl, suc}
use Rattle.std.proofs.Common.{take, true, zero, ℕ, ◌<◌, ◌==◌, ◌∷◌, ◌≡◌}
use Rattle.std.proofs.lemmas.Bool.{Decides.nat_tests, and_parts, not-true, or_parts}
use Rattle.std.proofs.lemmas.List.{Folds.list_all-append, Sums.AllPass-from_list_all}
use Rattle.std.{proofs.lemmas.List.take-replicate, specs.List.{list_all, list_any}}
use Rattle.{std.specs.Prelude.replicate, upstream.specs.Registration.{command, marked, pong_line}}

-- if no byte is barred, each passes what the bars leave
all_pass : (bars test : ℕ → Bool) → ((b : ℕ) → bars b ≡ false → test b ≡ true) → (bytes : List ℕ)
    → list_any bars bytes ≡ false → list_all test bytes ≡ true
all_pass bars test each [] h = refl
all_pass bars test each (b ∷ bs) h = grind (arith, each b, all_pass bars test each bs)

none_barred : (bars fewer : ℕ → Bool) → ((b : ℕ) → bars b ≡ false → fewer b ≡ false)
    → (bytes : List ℕ) → list_any bars bytes ≡ false → list_any fewer bytes ≡ false
none_barred bars fewer each [] h = refl
none_barred bars fewer each (b ∷ bs) h = grind (arith, each b, none_barred bars fewer each bs)

clean_byte : (b : ℕ) → text.is_control b ≡ false → is_line_byte b ≡ true
clean_byte b h = grind (arith, nat_tests)

-- a text on one line is clean
one_line_is_clean : (t : List ℕ) → text.is_one_line t ≡ true → is_clean t ≡ true
one_line_is_clean t h = all_pass text.is_control is_line_byte clean_byte t (not-true _ h)

-- a word of the settings is a word of a line, and clean
word_is_word : (t : List ℕ) → text.is_word t ≡ true → is_word t ≡ true
word_is_word [] h = h
word_is_word (b ∷ bs) h =
    let p = and_parts (not (b == 58)) _ h in
    let free = none_barred text.bars_word is_space (λ c e. (or_parts (text.is_control c) _ e).1)
    (b ∷ bs) (not-true _ p.1) in
    rw (p.0, free)

pub word_is_clean : (t : List ℕ) → text.is_word t ≡ true → is_clean t ≡ true
word_is_clean [] h = refl
word_is_clean (b ∷ bs) h =
    all_pass text.bars_word is_line_byte (λ c e. clean_byte c (or_parts (text.is_control c) _ e).0)
    (b ∷ bs) (not-true _ (and_parts (not (b == 58)) _ h).1)

nick_byte : (b : ℕ) → is_outside_nick b ≡ false → is_line_byte b ≡ true
nick_byte b h = grind (arith, nat_tests)

-- a nick is clean
pub nick_is_clean : (t : List ℕ) → is_nameable t ≡ true → is_clean t ≡ true
nick_is_clean [] h = refl
nick_is_clean (b ∷ bs) h =
    all_pass is_outside_nick is_line_byte nick_byte (b ∷ bs)
    (not-true _ (and_parts (begins_nick b) _ h).1)

marks_are_clean : (n : ℕ) → is_clean (replicate n 95) ≡ true
marks_are_clean zero = refl
marks_are_clean (suc n) = marks_are_clean n

pub marked_is_clean : (nick : List ℕ) (n : ℕ) → is_nameable nick ≡ true
    → is_clean (marked nick n) ≡ true
marked_is_clean nick n h = rw (list_all-append, nick_is_clean nick h, marks_are_clean n)

-- at most three marks are at hand
pub marks_at_hand : (n : ℕ) → n < 4 → take n (codes "___") ≡ replicate n 95
marks_at_hand n few = take-replicate n 3 95 (omega arith)

-- USER can be written
pub user_is_writable : (user realname : List ℕ) → text.is_word user ≡ true
    → text.is_one_line realname ≡ true
    → is_writable (command (codes "USER") (user ∷ codes "0" ∷ codes "*" ∷ realname ∷ [])) ≡ true
user_is_writable user realname word line =
    rw (word_is_word user word, word_is_clean user word, one_line_is_clean realname line)

-- one of the channels is a word
pub channel_is_word : (channels : List (List ℕ)) (i : ℕ) (channel : List ℕ)
    → list_all text.is_word channels ≡ true
    → i < length channels → channel ≡ get_or channels i channel → text.is_word channel ≡ true
channel_is_word channels i channel words within is =
    rw (← is) at (AllPass-from_list_all text.is_word channels words i channel within)

-- JOIN with a key can be written
pub keyed_is_writable : (channel key : List ℕ) → text.is_word channel ≡ true
    → text.is_channel_key key ≡ true
    → is_writable (command (codes "JOIN") (channel ∷ key ∷ [])) ≡ true
keyed_is_writable channel key word clean =
    rw (
      word_is_word channel word,
      word_is_clean channel word,
      word_is_clean key (and_parts (text.is_word key) _ clean).0,
    )

-- PONG can be written if the PING can
pub pong_is_writable : (ping : Parts) → is_writable ping ≡ true
    → is_writable (pong_line ping) ≡ true
pong_is_writable ping h =
    (and_parts (is_command ping.command) _
    (and_parts (is_part ping.source) _ (and_parts (is_part ping.tags) _ h).1).1).1
