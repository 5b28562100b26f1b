-- The running fact goes on; and a network that is online has taken us in, so we have a nick there.
use Rattle.hub_core.proofs.Words
use Words.{◌++◌, ◌<◌, ◌∙◌, ◌∷◌, ◌≡◌, Arrival, Bool, Came, Caps, Delivered, EachFits, EntryParts}
use Words.{Fits, HubState, IfSome, IsSome, List, Lost, Messages, None, Option, OutletState, Parts}
use Words.{Received, Sends, SessionState, Some, Text, Took, View, [], append-nil, arith, length, ◌≤◌}
use Words.{as_received, content_said, entry_kept, false, filter_map, heard, if◌then◌else◌}
use Words.{is_message_command, is_online, length-append, lines_sent, lost_channels, map-append}
use Words.{option_and_then, option_map, option_map_or, option_to_list, packet_for, packet_of, refl}
use Words.{reverse, time_text_of, true, view_now, view_of, with_entry, with_outlet, ℕ}
use Rattle.client_caps.{proofs.ImageLaw.{images_keep_the_view, seen_agrees}, specs.Caps.held}
use Rattle.history.specs.{Entry.IsWrittenEntry, Marks.NameMarks, Messages.{AreKeptBefore, missed_by}}
use Rattle.hub_core.proofs.{Each.{each_append, each_sent}, Kept.{numbered_heard, numbered_said}}
use Rattle.hub_core.proofs.Kept.{filter_more, kept_is_message, missed_are_messages, numbered_passed}
use Rattle.hub_core.proofs.Kept.{numbered_start}
use Rattle.hub_core.proofs.{Kept.{pong_unsaid, puts_unsaid}, LostChannels.no_loss}
use Rattle.hub_core.{proofs.Seats.{remain_sent, seated}, specs.Bounds.AreSeated}
use Rattle.hub_core.specs.{Attaching.refusal_of, Given.with_caps, Online.{is_welcome, says_online}}
use Rattle.hub_core.specs.{LostChannels.{Joining, Joinings}, Pumping.{Next, Takes}}
use Rattle.hub_core.specs.Running.{EachAgrees, IsChosen, IsInRingSaid, IsRunning}
use Rattle.hub_core.specs.{Running.{content, contents_said, entries_heard}, States.{ProfileParts, less, started_by}}
use Rattle.hub_core.specs.Wishes.{WishesState}
use Rattle.{hub_ends.specs.Came.arrivals, irc_line.specs.Line.has_command}
use Rattle.{irc_names.specs.Nick.is_nameable, net_view.proofs.Commands.told_of_welcome}
use Rattle.{irc_support.specs.Tokens.Token, std.specs.{Option.option_or, Prelude.{IsTrue, codes}}}
use Rattle.net_view.{proofs.{StepLaw.{view_start, view_step}, Tests.and_parts}, specs.Seen.{kept_by, seen_since}}
use Rattle.net_view.specs.{LookBack.last_in, StateLines.{or_silent, told}, Step.after, Told.Renamed}
use Rattle.net_view.specs.{Told.{Told, Welcomed}, Transcript.{Standing, own_after}, View.empty_view}
use Rattle.std.proofs.{Common.◌^◌, lemmas.{Grind.flat_map-append, List.reverse-append}}
use Rattle.std.{proofs.lemmas.List.{reverse-reverse, take_all, take_at}, specs.FinMap.empty}
use Rattle.welcome.{proofs.PlayingLaw.burst_by_gives_the_view, specs.Playing.burst_by}

-- ---- what was heard

pub less_none : (xs : List Came) → less xs None ≡ xs
less_none xs = grind (arith, take_all)

pub less_some : (xs : List Came) (x y : Came) → less (xs ++ x ∷ []) (Some y) ≡ xs
less_some xs x y = grind (arith, length-append xs (x ∷ []), take_at)

pub heard_more : (done : List Came) (x : Came) (now : List Came) → now ≡ done ++ x ∷ []
    → arrivals (less now None) ≡ arrivals done ++ x.0 ∷ []
heard_more done x now e = grind (arith, less_none, map-append)

pub heard_still : (done : List Came) (x : Came) (now : List Came) → now ≡ done ++ x ∷ []
    → arrivals (less now (Some x)) ≡ arrivals done
heard_still done x now e = grind (arith, less_some done x x)

-- ---- a new hub

pub started_runs : (profile : ProfileParts) (ahead : List Came) (o : OutletState) (history : Messages) (first : ℕ)
    (marks : NameMarks) (channels : List Joining) (session : ℕ) → o.sent ≡ [] → first < 2 ^ 64
    → AreKeptBefore first history → IsRunning
    (started_by profile ahead o history first marks channels session) empty_view false empty
started_runs profile ahead o history first marks channels session none small k =
    grind (arith, view_start, no_loss, numbered_start profile.keeping first history small k)

-- ---- what sessions were sent

pub sent_is : (alone : Bool) (o : OutletState) (p : Option (List Parts)) (o' : OutletState)
    → Sends alone o p o' → (o'.sent ≡ o.sent ++ option_to_list p) × (o'.closed ≡ o.closed)
sent_is alone o p o' e = grind (arith, append-nil)

-- the lines of a packet, if there is one
abbrev pub lines_in : Option (List Parts) → List Parts
lines_in None = []
lines_in (Some lines) = lines

pub in_packet : (lines : List Parts) → lines_in (packet_of lines) ≡ lines
in_packet lines = grind arith

lines_more : (packets : List (List Parts)) (p : Option (List Parts))
    → lines_sent (packets ++ option_to_list p) ≡ lines_sent packets ++ lines_in p
lines_more packets p = grind (arith, append-nil, flat_map-append)

-- a session was sent a packet, and its client reads it so
pub fits_sent : (alone : Bool) (items : List Arrival) (a : ℕ) (s : SessionState) (caps : Caps)
    (o : OutletState) (p : Option (List Parts)) → Sends alone s.outlet p o
    → s.outlet.closed ≡ None → a ≤ length items → kept_by (held caps)
    (view_of (as_received (lines_sent s.outlet.sent) ++ as_received (lines_in p)))
    ≡ seen_since items a (held caps) → Fits items (with_caps s caps o)
fits_sent alone items a s caps o p sends opened within knows =
    let sent = sent_is alone s.outlet p o sends in
    record {
      since = a;
      within = within;
      knows = grind (arith, sent, lines_more, map-append, knows);
      opened = sent.1 ∙ opened;
    }

-- its outlet is another, which was sent the same
pub fits_same : (items : List Arrival) (s : SessionState) (o : OutletState)
    → o.sent ≡ s.outlet.sent → o.closed ≡ s.outlet.closed → Fits items s
    → Fits items (with_outlet s o)
fits_same items s o sent closed fit = record {
  since = fit.since;
  within = fit.within;
  knows = rw sent fit.knows;
  opened = closed ∙ fit.opened;
}

pub each_fits_after : (alone : Bool) (items : List Arrival) (x : Came) (ss ts : List SessionState)
    → EachFits items ss → Delivered alone (λ s. packet_for (view_of items) x s.caps) ss ts
    → EachFits (items ++ x.0 ∷ []) ts
each_fits_after alone items x ss ts fit d =
    each_sent (Fits items) (Fits (items ++ x.0 ∷ [])) alone _ ss ts
    (λ s o here sends. let sent = as_received (lines_sent s.outlet.sent) in
    let kept = images_keep_the_view sent items here.since s.caps (time_text_of x.1) x.0 here.within
    here.knows in
    fits_sent alone _ here.since s s.caps o _ sends here.opened
    (omega (arith, here.within, length-append items (x.0 ∷ []))) (grind (arith, in_packet, kept)))
    fit d

-- who knows what can be seen agrees with the network
pub each_agrees : (items : List Arrival) (ss : List SessionState) → EachFits items ss
    → EachAgrees (view_of items) ss
each_agrees items [] fit = tt
each_agrees items (s ∷ ss) fit =
    (seen_agrees _ items fit.0.since (held s.caps) fit.0.knows, each_agrees items ss fit.1)

-- ---- online

last_more : {A B : Type 0} (says : B → Option A) (bs : List B) (b : B)
    → last_in says (bs ++ b ∷ []) ≡ option_or (says b) (last_in says bs)
last_more says [] b = grind arith
last_more says (c ∷ bs) b = grind (arith, last_more says bs b)

pub online_more : (items : List Arrival) (x : Arrival)
    → option_map_or (λ said. said) (says_online x) (is_online items) ≡ is_online (items ++ x ∷ [])
online_more items x = grind (arith, last_more says_online)

-- ---- an item more

module _ {alone : Bool} {h h' : HubState} {v : View} {online : Bool} {lost : Joinings} (x : Came)
    (next : Next alone h x h') (run : IsRunning h v online lost) where
  now : h'.taken ≡ less h.taken h.held ++ x ∷ []
  now = grind (arith, append-nil, run.held_last, next.taken, next.ahead)

  -- it is held
  pub holds_on : (w : View) (lost' : Joinings) → w ≡ v → lost' ≡ lost → h'.held ≡ Some x
      → h'.sessions ≡ h.sessions → h'.next ≡ h.next → h'.history ≡ h.history → h'.first ≡ h.first
      → h'.upstream.sent ≡ h.upstream.sent → h'.profile ≡ h.profile → IsRunning h' w online lost'
  holds_on w lost' same still e s n k f u p = grind (arith, now, less_some)

module _ {alone outlet : Bool} {h h' : HubState} {v : View} {online : Bool} {lost : Joinings}
    {cut : ℕ} (t : Takes alone outlet h cut h') (run : IsRunning h v online lost) where
  taken : h'.taken ≡ less h.taken h.held ++ t.item ∷ []
  taken = now t.item t.comes run

  -- it was dealt with
  pub goes_on : (w : View) (online' : Bool) (lost' : Joinings)
      → w ≡ view_of (heard h ++ t.item.0 ∷ []) → online' ≡ option_map_or (λ said. said)
      (says_online t.item.0) online → lost' ≡ lost_channels (heard h ++ t.item.0 ∷ [])
      → IfSome (entry_kept h.profile.keeping t.item) IsWrittenEntry → IsRunning h' w online' lost'
  goes_on w online' lost' view on left written =
      let all : heard h' ≡ heard h ++ t.item.0 ∷ [] = grind (arith, taken, heard_more, t.held) in
      let quiet = puts_unsaid outlet _ _ _ (pong_unsaid t.item.0) t.upstream in
      let fits = each_fits_after outlet (heard h) t.item h.sessions h'.sessions in
      let k = h.profile.keeping in
      let step = numbered_heard k (entries_heard h) (contents_said h) h.first h.history run.numbered
      (entry_kept k t.item) t.number (kept_is_message k t.item) written in
      record {
        held_last = grind (arith, t.held, append-nil, less_none);
        view_is = rw all view;
        online_is = grind (arith, all, on, run.online_is, online_more (heard h) t.item.0);
        lost_is = rw all left;
        fit = rw all (fits run.fit t.sessions);
        seated = let left = remain_sent outlet _ _ _ t.sessions in
            rw t.others (seated left run.seated);
        numbered = let more = filter_more (entry_kept k) in
            grind (arith, t.held, less_none, taken, quiet, t.others, t.history, more, step);
      }

-- ---- a session more, a session less

-- the same hub with other sessions and marks, and nothing of it went to the network
pub runs_with : {h : HubState} {v : View} {online : Bool} {lost : Joinings}
    (ss : List SessionState) (next : Option ℕ) (upstream : OutletState) (marks : NameMarks)
    → IsRunning h v online lost
    → filter_map content_said upstream.sent ≡ filter_map content_said h.upstream.sent
    → EachFits (heard h) ss → AreSeated next ss
    → IsRunning record h { sessions = ss; next = next; upstream = upstream; marks = marks } v online
    lost
runs_with ss next upstream marks run u fit seated = grind arith

-- the same hub, of which clients asked for something else
pub runs_wishing : {h : HubState} {v : View} {online : Bool} {lost : Joinings} (w : WishesState)
    → IsRunning h v online lost → IsRunning record h { wishes = w } v online lost
runs_wishing w run = grind arith

-- the burst is read as the view
pub attached_fits : (alone : Bool) (h : HubState) (v : View) (online : Bool) {lost : Joinings}
    (caps : Caps) (name : Option (List ℕ)) (mark : Option ℕ) (id : ℕ) (o o' : OutletState)
    → IsRunning h v online lost → v.ready ≡ true → o.sent ≡ [] → o.closed ≡ None
    → Took alone o (burst_by h.profile.playing v caps (missed_by mark h.history)) o'
    → EachFits (heard h)
    (h.sessions ++ record { id = id; name = name; caps = caps; outlet = o' } ∷ [])
attached_fits alone h v online caps name mark id o o' run ready fresh unclosed took =
    let gives = burst_by_gives_the_view h.profile.playing (heard h) caps (missed_by mark h.history)
    (rw run.view_is at ready)
    (missed_are_messages mark h.history.kept run.numbered.messages) in
    each_append (Fits (heard h)) h.sessions _ run.fit (
      record {
        since = length (heard h);
        within = omega arith;
        knows = grind (arith, gives, append-nil, run.view_is, took.sent, fresh);
        opened = took.closed ∙ unclosed;
      },
      tt,
    )

-- who is attached comes to a network that is ready
pub is_ready : (h : HubState) (name : Option (List ℕ)) → refusal_of h name ≡ None
    → (view_now h).ready ≡ true
is_ready h name e = grind (arith, e)

-- a line was sent to the network, and a message to the sessions
pub said_on : (h : HubState) (v : View) (online : Bool) {lost : Joinings}
    (ss : List SessionState) (upstream : OutletState) (history : Messages) (images : ℕ)
    (e : Option EntryParts) (p : List Parts) → IsRunning h v online lost
    → history ≡ with_entry h.history e → upstream.sent ≡ h.upstream.sent ++ p ∷ []
    → content_said p ≡ option_map content e → (IsSome e → IsSome h.history.next)
    → IfSome e (λ e. IsTrue (is_message_command e.command)) → IfSome e IsWrittenEntry
    → IfSome (option_map content e) (λ c. IsChosen h.profile.keeping (true, c))
    → IfSome e (IsInRingSaid h.profile.keeping)
    → EachFits (heard h) ss → AreSeated h.next ss
    → IsRunning record h { sessions = ss; upstream = upstream; history = history; images = images }
    v online lost
said_on h v online ss upstream history images e p run k u c some is written chosen ring fit seated =
    let step = numbered_said h.profile.keeping (entries_heard h) (contents_said h) h.first h.history
    run.numbered e some is written chosen ring in
    grind (arith, filter_more content_said, step)

-- a line was sent to the network that is not kept
pub passed_on : (h : HubState) (v : View) (online : Bool) {lost : Joinings} (upstream : OutletState)
    (p : List Parts) → IsRunning h v online lost → upstream.sent ≡ h.upstream.sent ++ p ∷ []
    → IfSome (content_said p) (λ c. IsChosen h.profile.keeping (false, c))
    → IsRunning record h { upstream = upstream } v online lost
passed_on h v online upstream p run u chosen =
    let step = numbered_passed h.profile.keeping (entries_heard h) (contents_said h) h.first h.history
    run.numbered (content_said p) chosen in
    grind (arith, filter_more content_said, step)

-- ---- our nick

-- a line that takes us in gives our nick
named : (o : Option Text) (s : Standing) → option_map_or is_nameable o false ≡ true
    → IsSome (own_after (or_silent
    (option_and_then (λ n. if is_nameable n then Some (Welcomed n) else None) o)) s)
named o s e = grind arith

-- who has a nick keeps one
stays_named : (t : Told) (s : Standing) → IsSome s.own → IsSome (own_after t s)
stays_named (Welcomed nick) s some = refl
stays_named (Renamed old new) s some = grind (arith, some)
stays_named _ s some = some

owned_line : (settings : List Token) (s : Standing) (line : Parts) (old welcome : Bool)
    → is_welcome line ≡ welcome → (old ≡ true → IsSome s.own)
    → option_map_or (λ said. said) (if welcome then Some true else None) old ≡ true
    → IsSome (own_after (told settings (Received line)) s)
owned_line settings s line old true e before now =
    let parts = and_parts (has_command line (codes "001")) in
    grind (arith, parts, e, told_of_welcome settings line, named)
owned_line settings s line old false e before now =
    stays_named (told settings (Received line)) s (before now)

owned_step : (v : View) (x : Arrival) (old : Bool) → (old ≡ true → IsSome v.own)
    → option_map_or (λ said. said) (says_online x) old ≡ true → IsSome (after v x).own
unfolding after
owned_step v (Received line) old before now =
    owned_line v.settings _ line old (is_welcome line) refl before now
owned_step v Lost old before now = cc

owned_back : (older : List Arrival) → is_online (reverse older) ≡ true
    → IsSome (view_of (reverse older)).own
owned_back [] e = cc
owned_back (x ∷ older) e =
    let turned : reverse (x ∷ older) ≡ reverse older ++ x ∷ [] = reverse-append (x ∷ []) older in
    let step = owned_step (view_of (reverse older)) x (is_online (reverse older)) in
    let online = online_more (reverse older) x in
    grind (arith, turned, view_step (reverse older) x, step, owned_back older, online)

-- we have a nick if we are online
pub online_owned : (items : List Arrival) → is_online items ≡ true → IsSome (view_of items).own
online_owned items e = rw reverse-reverse at (owned_back (reverse items) (rw reverse-reverse e))
