-- Which messages are kept, and in whose rings: the five choices of a network's settings.
use Rattle.std.specs.Prelude.{ℕ, Bool, true, false, ◌||◌, ◌&&◌, not, ◌==◌, if◌then◌else◌, List, [], ◌∷◌}
use Rattle.std.specs.Prelude.{Vec, codes, drop, length, map, nat_eq, position, slice_get, take}
use Rattle.std.specs.List.{list_any, slice_split, starts_with}
use Rattle.std.specs.Option.{is_some, option_and_then, option_map, option_map_or, unwrap_or}
use Rattle.std.specs.Str.{bytes_eq, str_eq_ignore_ascii_case}
use Rattle.std.proofs.Common.{Option, Some, None}
use Rattle.std.specs.declared.alloc.Global.{Global}
use Rattle.irc_line.specs.Line.{Parts, nick_of}
use Rattle.irc_names.specs.CaseMapping.{key_of}
use Rattle.irc_names.specs.declared.case_mapping.CaseMapping.{CaseMapping}
use Rattle.irc_names.specs.declared.case_mapping.CaseMapping.TheVariants.{Ascii}
use Rattle.history.specs.Entry.{EntryParts, in_ring, is_message, message_of, target_and_text}
use Rattle.history.specs.declared.keeping.Keeping.{Keeping}

-- Whether CTCP is kept, notices of servers, and what we say to ourselves; whether each person has a
-- ring; and the names to and from which nothing is kept. All five are our own choice.
pub record Kept : Type 0 where
  pub ctcp : Bool
  pub server_notices : Bool
  pub to_self : Bool
  pub by_person : Bool
  pub never : List (List ℕ)

-- each message is kept
abbrev pub whole : Kept
whole = record {
  ctcp = true;
  server_notices = true;
  to_self = true;
  by_person = false;
  never = [];
}

abbrev pub kept_by : Keeping → Kept
kept_by k = record {
  ctcp = k.ctcp;
  server_notices = k.server_notices;
  to_self = k.to_self;
  by_person = k.by_person;
  never = map (λ (word : Vec ℕ Global). word.items) k.never.items;
}

-- ---- CTCP: a text that begins with byte 1

-- what may come after a word of it: a space, byte 1, the end
abbrev pub ends_word : List ℕ → Bool
ends_word [] = true
ends_word (b ∷ bs) = b == 32 || b == 1

abbrev pub is_action : List ℕ → Bool
is_action text = starts_with nat_eq text (1 ∷ codes "ACTION") && ends_word (drop 7 text)

abbrev pub is_ctcp : List ℕ → Bool
is_ctcp text = starts_with nat_eq text (1 ∷ []) && not (is_action text)

-- ---- names

abbrev pub is_one_name : CaseMapping → List ℕ → List ℕ → Bool
is_one_name mapping a b = bytes_eq (key_of mapping a) (key_of mapping b)

-- an item of a list of targets up to its `@` (RFC 2812, section 3.3.1: user@server)
abbrev pub before_at : List ℕ → List ℕ
before_at item = take (unwrap_or (position (λ b. b == 64) item) (length item)) item

-- whether a name is among those of a list of targets (RFC 2812, section 3.3.1: msgtarget)
abbrev pub is_among : List ℕ → List ℕ → Bool
is_among target name =
    list_any (λ item. is_one_name Ascii name (before_at item)) (slice_split (λ b. b == 44) target)

abbrev pub is_to_one_of : List (List ℕ) → List ℕ → Bool
is_to_one_of names target = list_any (is_among target) names

abbrev pub is_one_of : List (List ℕ) → List ℕ → Bool
is_one_of names name = list_any (λ own. is_one_name Ascii own name) names

-- ---- messages

-- to this target, with this text, from whomever
abbrev pub is_left_out : Kept → List ℕ → List ℕ → Bool
is_left_out k target text = (not k.ctcp && is_ctcp text) || is_to_one_of k.never target

-- a NOTICE whose source has no `!`, as that of a server (RFC 2812, section 2.3.1: prefix)
abbrev pub is_server_notice : List ℕ → List ℕ → Bool
is_server_notice source command =
    str_eq_ignore_ascii_case command (codes "NOTICE")
    && not (is_some (position (λ b. b == 33) source))

-- that came from the network
abbrev pub is_kept_heard : Kept → EntryParts → Bool
is_kept_heard k e =
    not (is_left_out k e.target e.text || is_one_of k.never (nick_of e.source)
    || (not k.server_notices && is_server_notice e.source e.command))

-- that a client said, with our nick and the network's mapping of names
abbrev pub is_kept_said : Kept → Option (List ℕ) → CaseMapping → List ℕ → List ℕ → Bool
is_kept_said k own mapping target text =
    not (is_left_out k target text
    || (not k.to_self && option_map_or (λ nick. is_one_name mapping nick target) own false))

abbrev pub if_kept : (EntryParts → Bool) → EntryParts → Option EntryParts
if_kept test e = if test e then Some e else None

-- ---- rings

-- Whether a target of messages is a person, by its first byte and since it is no list: channels
-- begin with one of `#&+!` (RFC 2812, section 1.3), masks with `$` (section 3.3.1), members of a
-- channel with a status with one of `@%~` (isupport, STATUSMSG), and `*` stands for a nick before
-- there is one.
abbrev pub is_person : List ℕ → Bool
is_person target =
    option_map_or (λ b. not (list_any (nat_eq b) (codes "#&+!$@%~*"))) (slice_get target 0) false
    && not (is_some (position (λ b. b == 44) target))

-- In whose ring a message to a person is kept: in the sender's, and if we say it, in the target's.
-- A network sends us no messages to other persons.
abbrev pub ring_heard : Kept → EntryParts → Option (List ℕ)
ring_heard k e = if k.by_person && is_person e.target then Some (nick_of e.source) else None

abbrev pub ring_said : Kept → List ℕ → Option (List ℕ)
ring_said k target = if k.by_person && is_person target then Some target else None

-- in whose ring a line is kept that a client says
abbrev pub said_ring : Kept → Parts → Option (List ℕ)
said_ring k line =
    if is_message line
    then option_and_then (λ p. ring_said k p.0) (target_and_text line.params) else None

abbrev pub in_ring_heard : Kept → EntryParts → EntryParts
in_ring_heard k e = in_ring (ring_heard k e) e

-- what is kept of a line of the network that came at this time
abbrev pub heard_message : Kept → List ℕ → Parts → Option EntryParts
heard_message k time line =
    option_map (in_ring_heard k)
    (option_and_then (if_kept (is_kept_heard k)) (message_of time line.source line))

-- whether a line is a message that is kept, if a client says it
abbrev pub is_kept_line : Kept → Option (List ℕ) → CaseMapping → Parts → Bool
is_kept_line k own mapping line =
    is_message line
    && option_map_or (λ p. is_kept_said k own mapping p.0 p.1) (target_and_text line.params) false
