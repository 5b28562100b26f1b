-- The times in the texts of messages.
use Rattle.std.proofs.Common.{subst, zero}
use Rattle.std.proofs.lemmas.Bool.Decides.{Decides-eqb}
pub use Rattle.std.proofs.lemmas.List.{drop_all}
use Rattle.std.proofs.lemmas.List.Folds.{list_all-append}
use Rattle.std.proofs.lemmas.Slice.Eq.{starts_is}
use Rattle.std.specs.List.{starts_with}
use Rattle.history.specs.Entry.{IsWrittenEntry}
use Rattle.history.specs.Keeping.{is_action, is_ctcp}
use Rattle.irc_line.specs.Line.{is_line_byte}
use Rattle.irc_line.specs.Tags.{has_form, time_form}
use Rattle.irc_line.specs.Writing.{is_clean, line_of_parts}
use Rattle.std.specs.Prelude.{◌%◌}
use Rattle.welcome.proofs.EachOf.{all_now}
use Rattle.welcome.proofs.PlaybackTold.{IsMessage}
use Rattle.welcome.proofs.Words
use Words.{◌++◌, ◌+◌, ◌<◌, ◌==◌, ◌∙◌, ◌∷◌, ◌≡◌, Bool, Bor, Caps, Each, EntryParts, List, None, Option, Parts, Some}
use Words.{Text, [], ap, append-nil, append_assoc, arith, backlog_of, codes, cond, drop, entry_line, false}
use Words.{common_steps, flat_map, flat_map-append, inl, inr, length, length-map, map, map-map, nat_eq, nat_tests, next_left, option_to_list, refl, suc}
use Words.{sym, true, written, ℕ}
use Rattle.welcome.specs.Arranged.{batch_of}
use Rattle.welcome.specs.Times.{AreSaidOf, IsSaidOf, IsTextOf, action_word, after_space, day_of, in_zone}
use Rattle.welcome.specs.Times.{is_on, long_stamp, short_stamp, spelled, stamped, stamped_entry, stamped_from}
unfoldable use Rattle.welcome.specs.Times.{is_moment, shown_at, stamp, with_stamp}
use Rattle.welcome.specs.declared.playing.Offset.{Offset}
use Rattle.welcome.specs.declared.times.Day.{Day}
use Rattle.welcome.specs.declared.times.Minute.{Minute}

-- ---- the minute of a text

-- a text of a form is as long as the form
formed_length : (form text : Text) → has_form form text ≡ true → length text ≡ length form
formed_length [] [] h = refl
formed_length [] (b ∷ text) h = cc
formed_length (f ∷ form) [] h = cc
formed_length (f ∷ form) (b ∷ text) h = grind (arith, formed_length form text)

-- a time has 24 bytes
pub time_length : (text : Text) → has_form time_form text ≡ true → length text ≡ 24
time_length text h = formed_length time_form text h

pub shown_true : (offset : Offset) (time : Text) → is_moment time ≡ true
    → shown_at offset time ≡ in_zone offset (spelled time)
unfolding shown_at
shown_true offset time h = rw h refl

pub shown_false : (offset : Offset) (time : Text) → is_moment time ≡ false → shown_at offset time ≡ None
unfolding shown_at
shown_false offset time h = rw h refl

pub ruleset shown_steps = (shown_true, shown_false)

-- ---- the lines of a group

pub stamped_nil : (times : Option Offset) (caps : Caps) → stamped times caps [] ≡ []
stamped_nil None caps = refl
stamped_nil (Some offset) caps = by caps.server_time where
  by : (b : Bool) → cond b [] (stamped_from offset None []) ≡ []
  by true = refl
  by false = refl

-- nothing is added with server-time
pub group_plain : (times : Option Offset) (caps : Caps) → caps.server_time ≡ true
    → (es : List EntryParts) → stamped times caps es ≡ es
group_plain None caps h es = refl
group_plain (Some offset) caps h es = rw h refl

module _ (times : Option Offset) (caps : Caps) (tags : List Text) (es : List (Bor EntryParts)) where
  pub untimed_said : times ≡ None → map (entry_line caps tags) (stamped times caps (all_now es))
      ≡ map (λ (e : Bor EntryParts). entry_line caps tags e.now) es
  untimed_said h = rw (h, map-map (entry_line caps tags) (λ (e : Bor EntryParts). e.now) es)

  -- with server-time
  pub tagged_said : caps.server_time ≡ true → map (entry_line caps tags) (stamped times caps (all_now es))
      ≡ map (λ (e : Bor EntryParts). entry_line caps tags e.now) es
  tagged_said h =
      ap (λ es. map (entry_line caps tags) es) (group_plain times caps h (all_now es))
      ∙ map-map (entry_line caps tags) (λ (e : Bor EntryParts). e.now) es

  pub timed_said : (offset : Offset) → times ≡ Some offset → caps.server_time ≡ false
      → map (entry_line caps tags) (stamped times caps (all_now es))
      ≡ map (entry_line caps tags) (stamped_from offset None (all_now es))
  timed_said offset h s = rw (h, s)

pub ruleset group_steps = (untimed_said, tagged_said, timed_said)

-- the lines of a channel, of a list that is there or not
module _ (caps : Caps) (place : ℕ) (name : Text) where
  plain_lines : (es : List EntryParts) → caps.batch ≡ false
      → map (entry_line caps []) es ≡ backlog_of caps place name es
  plain_lines [] b = refl
  plain_lines (e ∷ es) b = rw b refl

  batch_lines : (es : List EntryParts) → caps.batch ≡ true → (length es == 0) ≡ false
      → batch_of caps place name es ≡ backlog_of caps place name es
  batch_lines [] b some = cc
  batch_lines (e ∷ es) b some = rw b refl

-- one for one
from_length : (offset : Offset) (before : Option Day) (es : List EntryParts)
    → length (stamped_from offset before es) ≡ length es
from_length offset before [] = refl
from_length offset before (e ∷ es) =
    ap suc (from_length offset (day_of (shown_at offset e.time)) es)

stamped_length : (times : Option Offset) (caps : Caps) (es : List EntryParts)
    → length (stamped times caps es) ≡ length es
stamped_length None caps es = refl
stamped_length (Some offset) caps es = by caps.server_time where
  by : (b : Bool) → length (cond b es (stamped_from offset None es)) ≡ length es
  by true = refl
  by false = from_length offset None es

module _ (times : Option Offset) (caps : Caps) (place : ℕ) (name : Text) (es : List (Bor EntryParts)) where
  pub backlog_none : (length es == 0) ≡ true
      → backlog_of caps place name (stamped times caps (all_now es)) ≡ []
  backlog_none h = by es h where
    by : (es : List (Bor EntryParts)) → (length es == 0) ≡ true
        → backlog_of caps place name (stamped times caps (all_now es)) ≡ []
    by [] h = ap (λ es. backlog_of caps place name es) (stamped_nil times caps)
    by (e ∷ es) h = grind (arith, nat_tests, h)

  pub backlog_plain : caps.batch ≡ false
      → backlog_of caps place name (stamped times caps (all_now es))
      ≡ map (entry_line caps []) (stamped times caps (all_now es))
  backlog_plain b = sym (plain_lines caps place name (stamped times caps (all_now es)) b)

  pub backlog_batch : caps.batch ≡ true → (length es == 0) ≡ false
      → backlog_of caps place name (stamped times caps (all_now es))
      ≡ batch_of caps place name (stamped times caps (all_now es))
  backlog_batch b some =
      let long = stamped_length times caps (all_now es) ∙ length-map es (λ (e : Bor EntryParts). e.now) in
      sym (batch_lines caps place name (stamped times caps (all_now es)) b (rw long some))

pub ruleset backlog_cases = (backlog_none, backlog_plain, backlog_batch)

-- without server-time an entry's line has the tags of its batch alone
module _ (caps : Caps) (batch : Option Text) (e : EntryParts) where
  pub untagged_line : caps.server_time ≡ false → entry_line caps (option_to_list batch) e
      ≡ line_of_parts batch (Some e.source) e.command (e.target ∷ e.text ∷ [])
  untagged_line h = by batch where
    by : (b : Option Text) → entry_line caps (option_to_list b) e
        ≡ line_of_parts b (Some e.source) e.command (e.target ∷ e.text ∷ [])
    by None = rw h refl
    by (Some tag) = rw h refl

pub ruleset line_steps = (untagged_line, common_steps)

-- a loop over messages
pub ruleset entry_steps = (next_left, drop_all, append_assoc, append-nil, flat_map-append)

-- ---- what each message keeps

module _ (Q : EntryParts → Type 0) (keeps : (before : Option Day) (at : Option Minute)
    (e : EntryParts) → Q e → Q (stamped_entry before at e)) where
  from_each : (offset : Offset) (before : Option Day) (es : List EntryParts) → Each Q es
      → Each Q (stamped_from offset before es)
  from_each offset before [] each = tt
  from_each offset before (e ∷ es) each = (
    keeps before (shown_at offset e.time) e each.0,
    from_each offset (day_of (shown_at offset e.time)) es each.1,
  )

  pub stamped_each : (times : Option Offset) (caps : Caps) (es : List EntryParts) → Each Q es
      → Each Q (stamped times caps es)
  stamped_each None caps es each = each
  stamped_each (Some offset) caps es each = by caps.server_time where
    by : (b : Bool) → Each Q (cond b es (stamped_from offset None es))
    by true = each
    by false = from_each offset None es each

  pub groups_stamped : (times : Option Offset) (caps : Caps) (groups : List (List EntryParts))
      → Each (λ (group : List EntryParts). Each Q group) groups
      → Each (λ (group : List EntryParts). Each Q group) (map (stamped times caps) groups)
  groups_stamped times caps [] each = tt
  groups_stamped times caps (group ∷ groups) each =
      (stamped_each times caps group each.0, groups_stamped times caps groups each.1)

pub message_keeps : (before : Option Day) (at : Option Minute) (e : EntryParts) → IsMessage e
    → IsMessage (stamped_entry before at e)
message_keeps before None e h = h
message_keeps before (Some at) e h = h

-- all of groups that were changed
pub flat_changed : (f : List EntryParts → List EntryParts) (groups : List (List EntryParts))
    → flat_map (λ group. group) (map f groups) ≡ flat_map f groups
flat_changed f [] = refl
flat_changed f (group ∷ groups) = ap (λ rest. f group ++ rest) (flat_changed f groups)

-- ---- a text with its time can be written

digit_clean : (n : ℕ) → is_line_byte (48 + n % 10) ≡ true
digit_clean n = let low : n % 10 < 10 = omega arith in grind (arith, nat_tests)

stamp_clean : (before : Option Day) (at : Minute) → is_clean (stamp before at) ≡ true
unfolding stamp
stamp_clean before at = by (is_on before at.day) where
  by : (b : Bool) → is_clean (cond b (short_stamp at) (long_stamp at)) ≡ true
  by true = simp digit_clean
  by false = simp digit_clean

clean_drop : (n : ℕ) (text : Text) → is_clean text ≡ true → is_clean (drop n text) ≡ true
clean_drop zero text h = h
clean_drop (suc n) [] h = refl
clean_drop (suc n) (b ∷ text) h = grind (arith, h, clean_drop n text)

clean_space : (text : Text) → is_clean text ≡ true → is_clean (after_space text) ≡ true
clean_space [] h = refl
clean_space (b ∷ text) h = grind (arith, h)

clean_both : (s t : Text) → is_clean s ≡ true → is_clean t ≡ true → is_clean (s ++ t) ≡ true
clean_both s t h k = grind (arith, h, k, list_all-append is_line_byte s t)

with_clean : (s text : Text) → is_clean s ≡ true → is_clean text ≡ true
    → is_clean (with_stamp s text) ≡ true
unfolding with_stamp
with_clean s text h k =
    by (is_action text) (is_ctcp text) (clean_both action_word (32 ∷ (s ++ after_space (drop 7 text)))
    refl (clean_both s _ h (clean_space (drop 7 text) (clean_drop 7 text k)))) (clean_both s text h k) where
      by : (b c : Bool) → is_clean (action_word ++ (32 ∷ (s ++ after_space (drop 7 text)))) ≡ true
          → is_clean (s ++ text) ≡ true
          → is_clean (cond b (action_word ++ (32 ∷ (s ++ after_space (drop 7 text))))
          (cond c text (s ++ text))) ≡ true
      by true c a p = a
      by false true a p = k
      by false false a p = p

pub written_keeps : (before : Option Day) (at : Option Minute) (e : EntryParts) → IsWrittenEntry e
    → IsWrittenEntry (stamped_entry before at e)
written_keeps before None e w = w
written_keeps before (Some at) e w =
    let clean : is_clean e.text ≡ true = grind (arith, w.line) in
    let said = with_clean (stamp before at) e.text (stamp_clean before at) clean in
    record { line = grind (arith, w.line, said); time = w.time }

-- ---- what is said of a message

text_itself : (text : Text) → IsTextOf text text
text_itself text = record {
  front = [];
  added = [];
  rest = text;
  placed = inl refl;
  whole = refl;
  longer = refl;
}

action_said : (s rest : Text)
    → IsTextOf (action_word ++ rest) (action_word ++ (32 ∷ (s ++ after_space rest)))
action_said s [] = record {
  front = action_word;
  added = 32 ∷ s;
  rest = [];
  placed = inr (inl refl);
  whole = refl;
  longer = refl;
}
action_said s (b ∷ rest) = by (b == 32) refl where
  by : (t : Bool) → (b == 32) ≡ t
      → IsTextOf (action_word ++ b ∷ rest) (action_word ++ (32 ∷ (s ++ cond t rest (b ∷ rest))))
  by true h =
      let is : b ≡ 32 = grind (arith, nat_tests, h) in
      record {
        front = action_word ++ 32 ∷ [];
        added = s;
        rest = rest;
        placed = inr (inr refl);
        whole = rw is refl;
        longer = refl;
      }
  by false h = record {
    front = action_word;
    added = 32 ∷ s;
    rest = b ∷ rest;
    placed = inr (inl refl);
    whole = refl;
    longer = refl;
  }

action_whole : (text : Text) → is_action text ≡ true → text ≡ action_word ++ drop 7 text
action_whole text h =
    let begins : starts_with nat_eq text action_word ≡ true = grind (arith, h) in
    (starts_is Decides-eqb text action_word (starts_with nat_eq text action_word) refl).0 begins

text_said : (s text : Text) → IsTextOf text (with_stamp s text)
unfolding with_stamp
text_said s text = by (is_action text) (is_ctcp text) refl where
  by : (b c : Bool) → is_action text ≡ b → IsTextOf text
      (cond b (action_word ++ (32 ∷ (s ++ after_space (drop 7 text)))) (cond c text (s ++ text)))
  by true c h =
      subst (λ (t : Text). IsTextOf t (action_word ++ (32 ∷ (s ++ after_space (drop 7 text)))))
      (sym (action_whole text h)) (action_said s (drop 7 text))
  by false true h = text_itself text
  by false false h = record {
    front = [];
    added = s;
    rest = text;
    placed = inl refl;
    whole = refl;
    longer = refl;
  }

said_itself : (e : EntryParts) → IsSaidOf e e
said_itself e =
    record { source = refl; command = refl; target = refl; time = refl; text = text_itself e.text }

entry_said : (before : Option Day) (at : Option Minute) (e : EntryParts)
    → IsSaidOf e (stamped_entry before at e)
entry_said before None e = said_itself e
entry_said before (Some at) e = record {
  source = refl;
  command = refl;
  target = refl;
  time = refl;
  text = text_said (stamp before at) e.text;
}

all_itself : (es : List EntryParts) → AreSaidOf es es
all_itself [] = tt
all_itself (e ∷ es) = (said_itself e, all_itself es)

from_said : (offset : Offset) (before : Option Day) (es : List EntryParts)
    → AreSaidOf es (stamped_from offset before es)
from_said offset before [] = tt
from_said offset before (e ∷ es) =
    (entry_said before (shown_at offset e.time) e, from_said offset (day_of (shown_at offset e.time)) es)

pub group_said : (times : Option Offset) (caps : Caps) (es : List EntryParts)
    → AreSaidOf es (stamped times caps es)
group_said None caps es = all_itself es
group_said (Some offset) caps es = by caps.server_time where
  by : (b : Bool) → AreSaidOf es (cond b es (stamped_from offset None es))
  by true = all_itself es
  by false = from_said offset None es

pub both_said : (es said fs more : List EntryParts) → AreSaidOf es said → AreSaidOf fs more
    → AreSaidOf (es ++ fs) (said ++ more)
both_said [] [] fs more a b = b
both_said [] (s ∷ said) fs more a b = absurd a
both_said (e ∷ es) [] fs more a b = absurd a
both_said (e ∷ es) (s ∷ said) fs more a b = (a.0, both_said es said fs more a.1 b)

-- of groups, one after the other
pub all_said : {X : Type 0} (times : Option Offset) (caps : Caps) (f : X → List EntryParts)
    (xs : List X) → AreSaidOf (flat_map f xs) (flat_map (λ x. stamped times caps (f x)) xs)
all_said times caps f [] = tt
all_said times caps f (x ∷ xs) =
    both_said (f x) _ (flat_map f xs) _ (group_said times caps (f x)) (all_said times caps f xs)
