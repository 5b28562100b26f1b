-- The last of some kept lines, and those before it.
use Rattle.tape_view.proofs.Words
use Words.{◌≡◌, ◌-◌, ◌<◌, ◌≤◌, ◌∷◌, ◌++◌, ◌⊎◌, Bool, true, false, List, [], take, length, get_or, ℕ}
use Words.{suc, set, Option, Some, Bor, refl, arith, reverse-append, Parts, Text, Token, Kept}
use Words.{Telling, Arrival, Received, state_command, told, standing, standing_after, settings_of}
use Words.{own_nick, readings_of, name_on, is_on, meant, channel_named, option_or, IsMarked}
use Words.{with_lost, tape_of, IsMarkedLine, IsMarkedTape, Heard, IsLast}
use Rattle.net_view.proofs.{Channels.channels_get, SoundStep.sound_back}
use Rattle.{net_view.specs.Transcript.is_ready, std.proofs.Math.ListN.drop_of_length-le}
use Rattle.std.proofs.lemmas.List.{set_split, take_all, take_more}
use Rattle.tape_view.specs.{Kept.IsReadable, Marks.own_said, Tape.read_by}

-- the line says this
abbrev pub IsTold : {A : Type 0} → Telling A → Parts → Type 0
IsTold r l = (s : List Token) → meant s r ≡ told s (Received l)

pub tape_push : {A : Type 0} (front : List (Kept A)) (k : Kept A)
    → tape_of (front ++ k ∷ []) ≡ with_lost k.lost (Received k.line ∷ tape_of front)
unfolding tape_of
tape_push front k = simp reverse-append

pub marked_split : {A : Type 0} (front : List (Kept A)) (k : Kept A)
    → IsMarkedTape (front ++ k ∷ []) → IsMarkedLine (tape_of front) k × IsMarkedTape front
unfolding tape_of IsMarkedTape
marked_split front k m = grind (arith, reverse-append)

pub tape_none : (A : Type 0) → tape_of {A = A} [] ≡ []
unfolding tape_of
tape_none A = refl

-- if we are on a channel the settings are fixed
ready_on : (items : List Arrival) (c name : Text) → name_on (readings_of items) c ≡ Some name
    → is_ready items ≡ true
ready_on items c name on =
    ((sound_back items).channels c (channel_named (readings_of items) c name)
    (grind (arith, channels_get))).ready

-- a line, read by the settings of before it
last_read : {A : Type 0} (items : List Arrival) (k : Kept A) (s : Bor (List Token)) (r : Telling A)
    → settings_of items ≡ s.now → IsTold r k.line → IsMarkedLine items k
    → IsLast (read_by s.now (Received k.line ∷ items))
    (record { support = s; telling = r; marks = k.marks }) (read_by s.now items)
unfolding told
last_read items k s r same tells marked = grind arith

pub ends_with : {A : Type 0} (ks : List A) (i : ℕ) (x : A) → suc i ≡ length ks → x ≡ get_or ks i x
    → ks ≡ take i ks ++ x ∷ []
ends_with ks i x last at = grind (arith, take_all, take_more)

module _ {A : Type 0} (ks : List (Kept A)) (k : Kept A) (some : 1 ≤ length ks) (last : k
    ≡ get_or ks (length ks - 1) k) where
  abbrev older : List (Kept A)
  older = take (length ks - 1) ks

  ends : ks ≡ older ++ k ∷ []
  ends = ends_with ks (length ks - 1) k (omega arith) last

  pushed : tape_of ks ≡ with_lost k.lost (Received k.line ∷ tape_of older)
  pushed = grind (arith, ends, tape_push older k)

  pub marked_last : IsMarkedTape ks → IsMarkedLine (tape_of older) k × IsMarkedTape older
  marked_last m = grind (arith, ends, marked_split older k)

  pub command_last : IsMarkedTape ks → state_command k.line ≡ Some k.command
  command_last m = (marked_last m).0.command

  stands : standing (tape_of ks)
      ≡ standing_after (told (settings_of (tape_of older)) (Received k.line))
      (standing (tape_of older))
  unfolding told
  stands = grind (arith, pushed)

  pub own_last : (r : Telling A) (own : Option Text) → IsTold r k.line → IsMarkedTape ks
      → ((s : List Token) (us : Text → Bool) → IsMarked us (meant s r) k.marks
      → own ≡ own_said us (meant s r))
      → (own_nick (tape_of ks) ≡ option_or own (own_nick (tape_of older))) × IsMarkedTape older
  own_last r own tells m read = grind (arith, stands, marked_last)

  pub ready_last : IsMarkedTape ks → is_ready (tape_of ks) ≡ k.fixed
  ready_last m = grind (arith, stands, marked_last)

  pub off_after : IsMarkedTape ks → (k.lost ≡ true) ⊎ (k.fixed ≡ false) → (c : Text)
      → is_on (readings_of (tape_of ks)) c ≡ false
  unfolding told
  off_after m either c = grind (arith, pushed, ready_last, ready_on)

  pub readable_older : (settings : List Token) → IsReadable settings ks → k.fixed ≡ true
      → IsReadable settings older
  readable_older settings h fixed = grind (arith, marked_last, ready_last, stands)

  pub is_last : (s : Bor (List Token)) (r : Telling A) (t : Heard)
      → read_by s.now (tape_of ks) ≡ t → IsReadable s.now ks → k.lost ≡ false → k.fixed ≡ true
      → IsTold r k.line
      → IsLast t (record { support = s; telling = r; marks = k.marks })
      (read_by s.now (tape_of older))
  is_last s r t is h lost fixed tells =
      grind (arith, last_read (tape_of older) k s r, pushed, marked_last, ready_last, stands)

pub no_lines : {X : Type 0} (ks : List X) → length ks < 1 → ks ≡ []
no_lines [] e = refl
no_lines (k ∷ ks) e = absurd (omega arith)

pub set_last : {A : Type 0} (ks : List A) (i : ℕ) (x : A) → suc i ≡ length ks
    → set ks i x ≡ take i ks ++ x ∷ []
set_last ks i x last = grind (arith, set_split, drop_of_length-le)
