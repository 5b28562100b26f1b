-- The members of a channel and the ranks that they hold (RFC 2812, sections 3.2.1 and 3.2.5; PREFIX
-- of the isupport draft, section 3.14).
use Rattle.std.specs.Prelude.{ℕ, Bool, true, false, not, ◌&&◌, nat_eq, List, if◌then◌else◌}
use Rattle.std.specs.List.{list_any}
use Rattle.std.specs.Option.{unwrap_or}
use Rattle.std.proofs.Common.{Option, Some, None}
use Rattle.irc_support.specs.Text.{Text}
use Rattle.irc_support.specs.Ranks.{has_rank}
use Rattle.net_view.specs.Names.{same}
use Rattle.net_view.specs.Told.{Told, LetterChange, Listing, Joined, Parted, Kicked, Changed}
use Rattle.net_view.specs.Told.{Present}
use Rattle.net_view.specs.Transcript.{Reading}
use Rattle.net_view.specs.LookBack.{last_of, last_in}
use Rattle.net_view.specs.Presence.{anew_or, is_on}

-- ---- who is a member

-- whether a name list names the person
abbrev pub lists : Text → List Listing → Bool
lists n listings = list_any (λ l. same n l.person.key) listings

-- whether the item is this person's JOIN
abbrev pub joins_as : Told → Text → Bool
joins_as (Joined channel valid who account) n = same n who.key
joins_as _ n = false

-- A JOIN and a 353 make members, a PART and a KICK end it. Another's JOIN counts by the channel's
-- key alone (our own choice).
abbrev pub said_of_member : Text → (Text → Bool) → Told → Text → Option Bool
said_of_member c us (Joined channel valid who account) n =
    if not (us who.key) && same c channel.key && same n who.key then Some true else None
said_of_member c us (Present channel listings) n =
    if same c channel && lists n listings then Some true else None
said_of_member c us (Parted channel who) n =
    if same c channel && same n who then Some false else None
said_of_member c us (Kicked channel who) n =
    if same c channel && same n who then Some false else None
said_of_member c us _ n = None

-- at our own JOIN we are the one member
abbrev pub says_member : Text → (Text → Bool) → Told → Text → Option Bool
says_member c us t n = anew_or c us t (joins_as t n) (said_of_member c us t n)

-- whether the person is a member of a channel that we are on
abbrev pub is_member : List Reading → Text → Text → Bool
is_member items c n = is_on items c && unwrap_or (last_of (says_member c) items n) false

-- ---- which ranks a member holds

-- what a word of a name list decides about a rank, if it is this person
abbrev pub rank_in_listing : Text → ℕ → Listing → Option Bool
rank_in_listing n rank l = if same n l.person.key then Some (has_rank l.ranks rank) else None

-- what a change decides about a rank, if it is this rank of this person
abbrev pub rank_in_change : Text → ℕ → LetterChange → Option Bool
rank_in_change n rank l = if nat_eq rank l.rank && same n l.person then Some l.plus else None

-- a MODE decides the ranks that it changes, by its sign; a word of 353 decides each rank by its
-- symbols; a JOIN by the channel's key decides each as no, ours too, which need not be of a
-- channel's name (our own choice)
abbrev pub said_of_rank : Text → ℕ → (Text → Bool) → Told → Text → Option Bool
said_of_rank c rank us (Joined channel valid who account) n =
    if same c channel.key && same n who.key then Some false else None
said_of_rank c rank us (Present channel listings) n =
    if same c channel then last_in (rank_in_listing n rank) listings else None
said_of_rank c rank us (Changed channel letters modes) n =
    if same c channel then last_in (rank_in_change n rank) letters else None
said_of_rank c rank us _ n = None

-- at our own JOIN nobody holds a rank
abbrev pub says_rank : Text → ℕ → (Text → Bool) → Told → Text → Option Bool
says_rank c rank us t n = anew_or c us t false (said_of_rank c rank us t n)

-- what was decided last of a rank since our own JOIN
abbrev pub rank_decided : List Reading → Text → Text → ℕ → Bool
rank_decided items c n rank = unwrap_or (last_of (says_rank c rank) items n) false

-- whether the person is a member of the channel and holds the rank there
abbrev pub holds_rank : List Reading → Text → Text → ℕ → Bool
holds_rank items c n rank = is_member items c n && rank_decided items c n rank
