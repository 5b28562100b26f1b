-- What is kept are messages, and each message has its number.
use Rattle.hub_core.proofs.Words
use Words.{◌++◌, ◌+◌, ◌<◌, ◌∙◌, ◌∷◌, ◌≡◌, AllByRecursion, Arrival, Bool, Came, EntryParts, IfSome, ap}
use Words.{IsSome, List, Messages, None, Option, OutletState, Parts, Some, Text, [], append-nil}
use Words.{Kept, arith, content_said, entry_for, entry_kept, false, filter_map, is_message, map, map-append}
use Words.{is_message_command, length, length-append, nat_tests, option_map, option_map_or}
use Words.{View, is_spread_by, option_and_then, option_to_list, refl, subst, true, with_entry, ℕ}
use Rattle.history.{proofs.LastMessages.all_kept, specs.Entry.{IsWrittenEntry, entry_parts, in_ring, message_of}}
use Rattle.history.specs.Messages.{AreKeptBefore, is_missed, missed_of, no_messages, with_message}
use Rattle.hub_core.specs.{Pumping.{Puts, pong_for}, Running.{AreMessages, AreNumbered, content}}
use Rattle.hub_core.specs.Running.{IsChosen, IsInRingSaid, chosen_of, heard_among, is_content_kept}
use Rattle.hub_core.specs.Running.{kept_on, said_among}
use Rattle.history.specs.{Entry.target_and_text, Keeping.{if_kept, in_ring_heard, is_kept_heard, is_kept_said}}
use Rattle.history.specs.Keeping.{ring_heard, ring_said, said_ring}
use Rattle.hub_core.specs.Saying.{entry_said, in_ring_said}
use Rattle.irc_names.specs.declared.case_mapping.CaseMapping.{CaseMapping}
unfoldable use Rattle.irc_support.specs.Settings.{mapping_of}
use Rattle.std.proofs.{Common.{if◌then◌else◌, is_some}, SliceLists.all_by_recursion_push}
use Rattle.{irc_line.specs.Writing.untagged_line, std.proofs.Common.{◌^◌, filter}}
use Rattle.std.proofs.lemmas.List.Elements.{filter_map-append}
use Rattle.{std.specs.Prelude.IsTrue, welcome.proofs.EachOf.{each_kept, mapped}}

-- what is kept of an item is a message
pub entry_is_message : (x : Came)
    → IfSome (entry_for x) (λ e. IsTrue (is_message_command e.command))
entry_is_message x = grind arith

pub kept_is_message : (k : Kept) (x : Came)
    → IfSome (entry_kept k x) (λ e. IsTrue (is_message_command e.command))
kept_is_message k x = grind arith

pub said_is_message : (k : Kept) (x : Option Came)
    → IfSome (entry_said k x) (λ e. IsTrue (is_message_command e.command))
said_is_message k x = grind (arith, entry_is_message)

-- what is kept, if it is, is the message in its ring
kept_in : (k : Kept) (m : Option EntryParts) (is_kept : Bool) (ring : Option Text) → is_kept
    ≡ is_some (option_map (in_ring_heard k) (option_and_then (if_kept (is_kept_heard k)) m))
    → ring ≡ option_and_then (ring_heard k) m
    → (if is_kept then option_map (in_ring ring) m else None)
    ≡ option_map (in_ring_heard k) (option_and_then (if_kept (is_kept_heard k)) m)
kept_in k None is_kept ring e r = grind (arith, e)
kept_in k (Some m) is_kept ring e r = rw (e, r) (by (is_kept_heard k m)) where
  by : (b : Bool) → (if is_some (option_map (in_ring_heard k) (if b then Some m else None))
      then Some (in_ring_heard k m) else None)
      ≡ option_map (in_ring_heard k) (if b then Some m else None)
  by true = refl
  by false = refl

pub kept_if : (k : Kept) (x : Came) (is_kept : Bool) (ring : Option Text)
    → is_kept ≡ is_some (entry_kept k x) → ring ≡ option_and_then (ring_heard k) (entry_for x)
    → (if is_kept then option_map (in_ring ring) (entry_for x) else None) ≡ entry_kept k x
kept_if k x = kept_in k (entry_for x)

-- what holds of each message, and of one more if it has a number
pub all_stay : (P : ℕ × EntryParts → Type 0) (h : Messages) (e : EntryParts) (o : Option ℕ)
    → AllByRecursion P h.kept → ((number : ℕ) → P (number, e))
    → AllByRecursion P (option_map_or (λ number. with_message number e h) o h).kept
all_stay P h e None rest here = rest
all_stay P h e (Some number) rest here = all_kept P h number e rest (here number)

pub messages_stay : (h : Messages) (e : Option EntryParts) → AreMessages h.kept
    → IfSome e (λ e. IsTrue (is_message_command e.command)) → AreMessages (with_entry h e).kept
messages_stay h None all is = all
messages_stay h (Some e) all is = all_stay _ h e h.next all (λ _. is)

-- what somebody missed are messages
pub missed_are_messages : (mark : Option ℕ) (kept : List (ℕ × EntryParts)) → AreMessages kept
    → AllByRecursion (λ (e : EntryParts). IsTrue (is_message_command e.command))
    (missed_of mark kept)
missed_are_messages mark kept all =
    mapped _ _ (λ (m : ℕ × EntryParts). m.1) (λ m h. h) (filter (is_missed mark) kept)
    (each_kept _ (is_missed mark) kept all)

-- ---- a message more, if there is one

pub filter_more : {X Y : Type 0} (f : X → Option Y) (xs : List X) (x : X)
    → filter_map f (xs ++ x ∷ []) ≡ filter_map f xs ++ option_to_list (f x)
filter_more f xs x = grind (arith, filter_map-append f xs (x ∷ []))

-- ---- numbers

pub kept_before : (capacity first : ℕ) → AreKeptBefore first (no_messages capacity first)
kept_before capacity first = record { messages = tt; written = tt; below = tt; next = refl }

pub all_map : {X : Type 0} (P Q : X → Type 0) → ((x : X) → P x → Q x) → (xs : List X)
    → AllByRecursion P xs → AllByRecursion Q xs
all_map P Q f [] all = tt
all_map P Q f (x ∷ xs) all = grind (arith, f x, all_map P Q f xs)

pub numbered_start : (k : Kept) (first : ℕ) (h : Messages) → first < 2 ^ 64
    → AreKeptBefore first h → AreNumbered k [] [] first h
numbered_start choices first h small k = record {
  began = h;
  before = k;
  order = [];
  heard_are = refl;
  sayings = [];
  sent_are = refl;
  chosen = tt;
  said_are = refl;
  rings = tt;
  are = refl;
  messages = k.messages;
  written = k.written;
  numbers = grind (arith, k.next);
}

pub kept_more : (h : Messages) (es : List EntryParts) (e : EntryParts)
    → kept_on h (es ++ e ∷ []) ≡ with_entry (kept_on h es) (Some e)
kept_more h [] e = refl
kept_more h (m ∷ ms) e = kept_more (with_entry h (Some m)) ms e

module _ (choices : Kept) (heard : List EntryParts) (said : List (List Text)) (first : ℕ)
    (h : Messages) (k : AreNumbered choices heard said first h) where
  -- a message more, which has its number
  one_more : (side : Bool) (e : EntryParts) (heard' : List EntryParts) (said' : List (List Text))
      (sayings : List (Bool × List Text)) → heard_among (k.order ++ (side, e) ∷ []) ≡ heard'
      → map (λ (s : Bool × List Text). s.1) sayings ≡ said'
      → AllByRecursion (IsChosen choices) sayings
      → map content (said_among (k.order ++ (side, e) ∷ [])) ≡ chosen_of sayings
      → AllByRecursion (IsInRingSaid choices) (said_among (k.order ++ (side, e) ∷ []))
      → IsSome h.next → IsTrue (is_message_command e.command) → IsWrittenEntry e
      → AreNumbered choices heard' said' first (with_entry h (Some e))
  one_more side e heard' said' sayings h_are all_are chosen s_are rings some is written =
      let n : first + length (k.order ++ (side, e) ∷ []) ≡ first + length k.order + 1 =
      omega (arith, length-append k.order ((side, e) ∷ [])) in
      let all = map-append (λ (m : Bool × EntryParts). m.1) k.order ((side, e) ∷ []) in
      let more = kept_more k.began (map (λ (m : Bool × EntryParts). m.1) k.order) e in
      record {
        began = k.began;
        before = k.before;
        order = k.order ++ (side, e) ∷ [];
        heard_are = h_are;
        sayings = sayings;
        sent_are = all_are;
        chosen = chosen;
        said_are = s_are;
        rings = rings;
        are = rw (all, more, ← k.are) refl;
        messages = messages_stay h (Some e) k.messages is;
        written = all_stay (λ (m : ℕ × EntryParts). IsWrittenEntry m.1) h e h.next k.written
            (λ _. written);
        numbers = grind (arith, nat_tests, k.numbers, some, n);
      }

  -- it was heard
  pub numbered_heard : (e : Option EntryParts) → (IsSome e → IsSome h.next)
      → IfSome e (λ e. IsTrue (is_message_command e.command)) → IfSome e IsWrittenEntry
      → AreNumbered choices (heard ++ option_to_list e) said first (with_entry h e)
  numbered_heard None some is written = rw (append-nil heard) k
  numbered_heard (Some e) some is written =
      let same : said_among k.order ≡ said_among (k.order ++ (true, e) ∷ []) =
      grind (arith, filter_more, append-nil) in
      one_more true e _ _ k.sayings (grind (arith, filter_more, k.heard_are)) k.sent_are k.chosen
      (grind (arith, filter_more, append-nil, k.said_are))
      (subst (AllByRecursion (IsInRingSaid choices)) same k.rings) (some refl) is written

  -- one saying more
  all_sent : (s : Bool × List Text)
      → map (λ (s : Bool × List Text). s.1) (k.sayings ++ s ∷ []) ≡ said ++ s.1 ∷ []
  all_sent s = rw (map-append (λ (s : Bool × List Text). s.1) k.sayings (s ∷ []), k.sent_are) refl

  -- it was said
  pub numbered_said : (e : Option EntryParts) → (IsSome e → IsSome h.next)
      → IfSome e (λ e. IsTrue (is_message_command e.command)) → IfSome e IsWrittenEntry
      → IfSome (option_map content e) (λ c. IsChosen choices (true, c))
      → IfSome e (IsInRingSaid choices)
      → AreNumbered choices heard (said ++ option_to_list (option_map content e)) first
      (with_entry h e)
  numbered_said None some is written chosen ring = rw (append-nil said) k
  numbered_said (Some e) some is written chosen ring =
      let more : said_among k.order ++ e ∷ [] ≡ said_among (k.order ++ (false, e) ∷ []) =
      grind (arith, filter_more) in
      one_more false e _ _ (k.sayings ++ (true, content e) ∷ [])
      (grind (arith, filter_more, append-nil, k.heard_are)) (all_sent (true, content e))
      (all_by_recursion_push (IsChosen choices) k.sayings (true, content e) k.chosen chosen)
      (grind (arith, filter_more, map-append, k.said_are))
      (subst (AllByRecursion (IsInRingSaid choices)) more
      (all_by_recursion_push (IsInRingSaid choices) (said_among k.order) e k.rings ring))
      (some refl) is written

  -- it was said, and is not kept
  pub numbered_passed : (c : Option (List Text)) → IfSome c (λ c. IsChosen choices (false, c))
      → AreNumbered choices heard (said ++ option_to_list c) first h
  numbered_passed None chosen = rw (append-nil said) k
  numbered_passed (Some c) chosen = record {
    began = k.began;
    before = k.before;
    order = k.order;
    heard_are = k.heard_are;
    sayings = k.sayings ++ (false, c) ∷ [];
    sent_are = all_sent (false, c);
    chosen = all_by_recursion_push (IsChosen choices) k.sayings (false, c) k.chosen chosen;
    said_are = grind (arith, filter_more, append-nil, k.said_are);
    rings = k.rings;
    are = k.are;
    messages = k.messages;
    written = k.written;
    numbers = k.numbers;
  }

-- ---- packets for the network

-- what is sent of our message says what is kept of it
pub said_content : (time : Text) (source : Option Text) (line : Parts) → is_message line ≡ true
    → IsSome source → content_said (untagged_line None line.command line.params ∷ [])
    ≡ option_map content (message_of time source line)
said_content time source line e some = grind (arith, nat_tests, e)

-- in the ring of the person that it is for
pub said_in : (k : Kept) (time : Text) (source : Option Text) (line : Parts) (ring : Option Text)
    → is_message line ≡ true → ring ≡ said_ring k line
    → option_map (in_ring ring) (message_of time source line)
    ≡ option_map (in_ring_said k) (message_of time source line)
said_in k time source line ring m r =
    let is = ap (λ b. if b then option_and_then (λ (p : Text × Text). ring_said k p.0)
    (target_and_text line.params) else None) m in
    by (is_message_command line.command) source (target_and_text line.params) (r ∙ is) where
      by : (b : Bool) (s : Option Text) (o : Option (Text × Text))
          → ring ≡ option_and_then (λ (p : Text × Text). ring_said k p.0) o
          → option_map (in_ring ring) (if b then option_and_then (λ s. option_map
          (λ p. entry_parts time s line.command p.0 p.1) o) s else None)
          ≡ option_map (in_ring_said k) (if b then option_and_then (λ s. option_map
          (λ p. entry_parts time s line.command p.0 p.1) o) s else None)
      by false s o r = refl
      by true None o r = refl
      by true (Some s) None r = refl
      by true (Some s) (Some p) r = rw r refl

pub content_in : (k : Kept) (m : Option EntryParts)
    → option_map content (option_map (in_ring_said k) m) ≡ option_map content m
content_in k None = refl
content_in k (Some e) = refl

pub ring_is_said : (k : Kept) (m : Option EntryParts)
    → IfSome (option_map (in_ring_said k) m) (IsInRingSaid k)
ring_is_said k None = tt
ring_is_said k (Some e) = refl

-- a message that is kept is one
pub spread_is_message : (k : Kept) (v : View) (line : Parts) → is_spread_by k v line ≡ true
    → is_message line ≡ true
spread_is_message k v line e = grind (arith, e)

-- what is said is kept by its target and text
content_kept : (k : Kept) (own : Option Text) (m : CaseMapping) (command : Text) (params : List Text)
    → is_content_kept k own m (command ∷ params)
    ≡ option_map_or (λ p. is_kept_said k own m p.0 p.1) (target_and_text params) false
content_kept k own m command [] = refl
content_kept k own m command (x ∷ []) = refl
content_kept k own m command (x ∷ y ∷ []) = refl
content_kept k own m command (x ∷ y ∷ z ∷ zs) = refl

chosen_by : (k : Kept) (own : Option Text) (m : CaseMapping) (b : Bool) (c : Option (List Text))
    → IfSome c (λ c. is_content_kept k own m c ≡ b) → IfSome c (λ c. IsChosen k (b, c))
chosen_by k own m b None e = tt
chosen_by k own m b (Some c) e = (own, m, e)

-- what a message says that is kept
pub spread_chosen : (k : Kept) (v : View) (time : Text) (source : Option Text) (line : Parts)
    → is_spread_by k v line ≡ true → IfSome (option_map content (message_of time source line))
    (λ c. IsChosen k (true, c))
spread_chosen k v time source line e =
    let is = content_kept k v.own (mapping_of v.settings) line.command line.params in
    chosen_by k v.own (mapping_of v.settings) true _ (grind (arith, is, e))

-- what a message says that is not kept; what is none says nothing
pub unspread_chosen : (k : Kept) (v : View) (line : Parts) → is_spread_by k v line ≡ false
    → IfSome (content_said (untagged_line None line.command line.params ∷ []))
    (λ c. IsChosen k (false, c))
unspread_chosen k v line e =
    let is = content_kept k v.own (mapping_of v.settings) line.command line.params in
    chosen_by k v.own (mapping_of v.settings) false _ (grind (arith, is, e))

-- what is no message says nothing
pub unsaid : (line : Parts) → is_message line ≡ false
    → content_said (untagged_line None line.command line.params ∷ []) ≡ None
unsaid line e = grind arith

pub sent_more : (sent : List (List Parts)) (p : List Parts) → content_said p ≡ None
    → filter_map content_said (sent ++ p ∷ []) ≡ filter_map content_said sent
sent_more sent p e = rw (filter_more content_said, e) (append-nil (filter_map content_said sent))

-- a PONG is no message
pub pong_unsaid : (x : Arrival) → IfSome (pong_for x) (λ p. content_said p ≡ None)
pong_unsaid x = grind arith

pub puts_unsaid : (alone : Bool) (o : OutletState) (p : Option (List Parts)) (o' : OutletState)
    → IfSome p (λ p. content_said p ≡ None) → Puts alone o p o'
    → filter_map content_said o'.sent ≡ filter_map content_said o.sent
puts_unsaid alone o p o' quiet puts = grind (arith, sent_more)
