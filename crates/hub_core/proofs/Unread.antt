-- What sessions are sent of what others say, and of answers, says nothing about the network.
use Rattle.hub_core.proofs.Words
use Words.{◌≡◌, AllByRecursion, Arrival, Bool, Came, Caps, Delivered, EachFits, EntryParts, Fits, IfSome}
use Words.{List, Messages, None, Option, OutletState, Parts, Received, Sends, SessionState, Text}
use Words.{Kept, View, arith, entry_for, entry_kept, false, given_but, is_message, option_map, option_to_list}
use Words.{packet_for, packet_of, true, with_entry, with_outlet, ℕ}
use Rattle.client_caps.{proofs.ImageWritten.nick_written, specs.Images.image_of}
use Rattle.{hub_core.proofs.{Each.each_sent, Running.fits_sent}, irc_line.specs.Writing.is_part}
use Rattle.{irc_names.specs.Nick.is_nameable, net_view.proofs.Commands.no_state_line}
use Rattle.{net_view.specs.StateLines.{is_state_line, may_need_memory}, std.proofs.Common.Bor}
use Rattle.welcome.proofs.PlaybackTold.{IsUnread, unread_lines}
pub use Rattle.hub_core.proofs.Running.{lines_in}

-- our own nick can be a source
pub own_part : (own : Option (Bor Text)) → IfSome own (λ n. is_nameable n.now ≡ true)
    → is_part (option_map (λ s. s.now) own) ≡ true
own_part own h = grind (arith, nick_written)

-- a packet of lines that no view reads
pub fits_unread : (alone : Bool) (items : List Arrival) (s : SessionState) (o : OutletState)
    (p : Option (List Parts)) → AllByRecursion IsUnread (lines_in p) → Fits items s
    → Sends alone s.outlet p o → Fits items (with_outlet s o)
fits_unread alone items s o p quiet fit sends =
    fits_sent alone items fit.since s s.caps o p sends fit.opened fit.within
    (grind (arith, unread_lines, fit.knows))

pub each_fits_unread : (alone : Bool) (items : List Arrival)
    (give : SessionState → Option (List Parts)) (ss ts : List SessionState)
    → ((s : SessionState) → AllByRecursion IsUnread (lines_in (give s)))
    → EachFits items ss → Delivered alone give ss ts → EachFits items ts
each_fits_unread alone items give ss ts quiet fit d =
    grind (arith, each_sent (Fits items) (Fits items) alone give, fits_unread, quiet)

-- ---- messages

image_unread : (v : View) (caps : Caps) (moment : Text) (line : Parts) → is_state_line line ≡ false
    → AllByRecursion IsUnread (lines_in (packet_of (option_to_list (image_of v caps moment line))))
unfolding image_of
image_unread v caps moment line quiet = grind (arith, quiet)

-- what the others are sent of a message of ours
pub said_unread : (v : View) (line : Parts) (moment : ℕ) (caps : Caps) → is_message line ≡ true
    → AllByRecursion IsUnread (lines_in (packet_for v (Received line, moment) caps))
said_unread v line moment caps e = grind (arith, image_unread, no_state_line)

-- and so of all but one that is left out
pub given_unread : (except : Option ℕ) (f : Caps → Option (List Parts))
    → ((caps : Caps) → AllByRecursion IsUnread (lines_in (f caps))) → (s : SessionState)
    → AllByRecursion IsUnread (lines_in (given_but except f s))
given_unread except f quiet s = grind (arith, quiet s.caps)

-- ---- items that a view may need memory for

-- a state line is no message
pub no_entry : (x : Came) → may_need_memory x.0 ≡ true → entry_for x ≡ None
no_entry x need = grind (arith, no_state_line)

pub none_kept : (c : Kept) (x : Came) → may_need_memory x.0 ≡ true → entry_kept c x ≡ None
none_kept c x need = grind (arith, no_entry x need)

-- so if a view may have refused an item, nothing was kept of it
pub nothing_kept : (c : Kept) (x : Came) (h k : Messages) (e : Option EntryParts)
    → may_need_memory x.0 ≡ true → k ≡ with_entry h e → e ≡ entry_kept c x → k ≡ h
nothing_kept c x h k e need is made = grind (arith, none_kept c x need)
