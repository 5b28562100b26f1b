-- How the states of hubs are stored, as the tuples of their fields. A reader need not believe
-- anything here.
use Rattle.std.specs.Prelude.{ℕ, Bool, List, refl, ◌≡◌}
use Rattle.std.specs.Coded.{Coded, code_by, coded×, coded_ℕ, coded_bool, coded_list, coded_option}
use Rattle.std.specs.FinMap as map
use Rattle.std.proofs.Common.{Option, Some, None}
use Rattle.irc_line.specs.Line.{Parts}
use Rattle.irc_support.specs.Text.{Text}
use Rattle.net_view.specs.Arrival.{Arrival, Received, Lost}
use Rattle.client_caps.specs.declared.caps.Caps.{Caps}
use Rattle.history.specs.Entry.{EntryParts}
use Rattle.history.specs.Messages.{Messages}
use Rattle.history.specs.Keeping.{Kept}
use Rattle.history.specs.Marks.{NameMarks}
use Rattle.welcome.specs.declared.playing.Offset.{Offset}
use Rattle.welcome.specs.declared.playing.Playing.{Playing}
use Rattle.hub_ends.specs.Came.{Came}
use Rattle.hub_ends.specs.Outlets.{OutletState}
use Rattle.hub_core.specs.Away.{AwayState}
use Rattle.hub_core.specs.JoinKeys.{JoinKeyParts}
use Rattle.hub_core.specs.States.{SessionState, HubState, ProfileParts}
use Rattle.hub_core.specs.Wishes.{WishesState}

abbrev text_code : Coded Text
text_code = coded_list coded_ℕ

abbrev parts_code : Coded Parts
parts_code =
    code_by (Option Text × (Option Text × (Text × (List Text))))
    (coded× (coded_option text_code)
    (coded× (coded_option text_code) (coded× text_code (coded_list text_code))))
    (λ l. (l.tags, (l.source, (l.command, l.params))))
    (λ p. record {
      tags = p.0;
      source = p.1.0;
      command = p.1.1.0;
      params = p.1.1.1;
    }) (λ _. refl)

abbrev line_of_arrival : Arrival → Option Parts
line_of_arrival (Received line) = Some line
line_of_arrival Lost = None

abbrev arrival_of_line : Option Parts → Arrival
arrival_of_line (Some line) = Received line
arrival_of_line None = Lost

abbrev arrival_back : (x : Arrival) → arrival_of_line (line_of_arrival x) ≡ x
arrival_back (Received line) = refl
arrival_back Lost = refl

abbrev came_code : Coded Came
came_code =
    coded×
    (code_by (Option Parts) (coded_option parts_code) line_of_arrival arrival_of_line arrival_back)
    coded_ℕ

abbrev caps_code : Coded Caps
caps_code =
    code_by (Bool × (Bool × (Bool × (Bool × (Bool × (Bool))))))
    (coded× coded_bool (coded× coded_bool (coded× coded_bool
    (coded× coded_bool (coded× coded_bool (coded_bool))))))
    (λ c. let rest : Bool × (Bool × (Bool)) = (c.away_notify, (c.server_time, c.batch)) in
    (c.multi_prefix, (c.extended_join, (c.account_notify, rest))))
    (λ p. record {
      multi_prefix = p.0;
      extended_join = p.1.0;
      account_notify = p.1.1.0;
      away_notify = p.1.1.1.0;
      server_time = p.1.1.1.1.0;
      batch = p.1.1.1.1.1;
    }) (λ _. refl)

abbrev outlet_code : Coded OutletState
outlet_code =
    code_by (List (List Parts) × (Option ℕ × (ℕ × (ℕ))))
    (coded× (coded_list (coded_list parts_code))
    (coded× (coded_option coded_ℕ) (coded× coded_ℕ (coded_ℕ))))
    (λ o. (o.sent, (o.closed, (o.capacity, o.free))))
    (λ p. record {
      sent = p.0;
      closed = p.1.0;
      capacity = p.1.1.0;
      free = p.1.1.1;
    }) (λ _. refl)

abbrev session_code : Coded SessionState
session_code =
    code_by (ℕ × (Option Text × (Caps × (OutletState))))
    (coded× coded_ℕ (coded× (coded_option text_code) (coded× caps_code (outlet_code))))
    (λ s. (s.id, (s.name, (s.caps, s.outlet))))
    (λ p. record {
      id = p.0;
      name = p.1.0;
      caps = p.1.1.0;
      outlet = p.1.1.1;
    }) (λ _. refl)

abbrev entry_code : Coded EntryParts
entry_code =
    code_by (Text × (Text × (Text × (Text × (Text × (Option Text))))))
    (coded× text_code (coded× text_code (coded× text_code
    (coded× text_code (coded× text_code (coded_option text_code))))))
    (λ e. let rest : Text × (Text × (Option Text)) = (e.text, (e.time, e.ring)) in
    (e.source, (e.command, (e.target, rest))))
    (λ p. record {
      source = p.0;
      command = p.1.0;
      target = p.1.1.0;
      text = p.1.1.1.0;
      time = p.1.1.1.1.0;
      ring = p.1.1.1.1.1;
    }) (λ _. refl)

abbrev messages_code : Coded Messages
messages_code =
    code_by (ℕ × (List (ℕ × EntryParts) × (Option ℕ)))
    (coded× coded_ℕ (coded× (coded_list (coded× coded_ℕ entry_code)) (coded_option coded_ℕ)))
    (λ h. (h.capacity, (h.kept, h.next)))
    (λ p. record {
      capacity = p.0;
      kept = p.1.0;
      next = p.1.1;
    }) (λ _. refl)

abbrev marks_code : Coded NameMarks
marks_code = map.code text_code (coded_option coded_ℕ)

abbrev kept_code : Coded Kept
kept_code =
    code_by (Bool × (Bool × (Bool × (Bool × (List Text)))))
    (coded× coded_bool (coded× coded_bool (coded× coded_bool
    (coded× coded_bool (coded_list text_code)))))
    (λ k. (k.ctcp, (k.server_notices, (k.to_self, (k.by_person, k.never)))))
    (λ p. record {
      ctcp = p.0;
      server_notices = p.1.0;
      to_self = p.1.1.0;
      by_person = p.1.1.1.0;
      never = p.1.1.1.1;
    }) (λ _. refl)

abbrev offset_code : Coded Offset
offset_code =
    code_by (Bool × ℕ) (coded× coded_bool coded_ℕ) (λ o. (o.is_before, o.minutes))
    (λ p. record { is_before = p.0; minutes = p.1 }) (λ _. refl)

abbrev playing_code : Coded Playing
playing_code =
    code_by (Bool × (Option Offset × Bool))
    (coded× coded_bool (coded× (coded_option offset_code) coded_bool))
    (λ p. (p.private_batches, (p.times, p.visits)))
    (λ p. record { private_batches = p.0; times = p.1.0; visits = p.1.1 }) (λ _. refl)

abbrev profile_code : Coded ProfileParts
profile_code =
    code_by (Kept × Playing) (coded× kept_code playing_code) (λ p. (p.keeping, p.playing))
    (λ p. record { keeping = p.0; playing = p.1 }) (λ _. refl)

abbrev away_code : Coded AwayState
away_code =
    code_by (Option Text × Option Text) (coded× (coded_option text_code) (coded_option text_code))
    (λ a. (a.asked, a.text)) (λ p. record { asked = p.0; text = p.1 }) (λ _. refl)

abbrev join_key_code : Coded JoinKeyParts
join_key_code =
    code_by (Text × (Text × Bool)) (coded× text_code (coded× text_code coded_bool))
    (λ k. (k.name, (k.key, k.known))) (λ p. record { name = p.0; key = p.1.0; known = p.1.1 })
    (λ _. refl)

abbrev wishes_code : Coded WishesState
wishes_code =
    code_by (AwayState × (Bool × List JoinKeyParts))
    (coded× away_code (coded× coded_bool (coded_list join_key_code)))
    (λ w. (w.away, (w.nick, w.keys)))
    (λ p. record { away = p.0; nick = p.1.0; keys = p.1.1 }) (λ _. refl)

abbrev pub hub_code : Coded HubState
hub_code =
    code_by (ProfileParts × (List Came × (List Came × (Option Came × (List SessionState × (Option ℕ ×
    (OutletState × (Messages × (ℕ × (NameMarks × (ℕ × (List (Text × Option Text) ×
    (WishesState)))))))))))))
    (coded× profile_code (coded× (coded_list came_code) (coded× (coded_list came_code)
    (coded× (coded_option came_code)
    (coded× (coded_list session_code) (coded× (coded_option coded_ℕ) (coded× outlet_code
    (coded× messages_code (coded× coded_ℕ (coded× marks_code (coded× coded_ℕ
    (coded× (coded_list (coded× text_code (coded_option text_code))) (wishes_code)))))))))))))
    (λ h. let rest : OutletState × (Messages × (ℕ × (NameMarks × (ℕ × (List (Text × Option Text) ×
    (WishesState)))))) =
    (h.upstream, (h.history, (h.first, (h.marks, (h.images, (h.recalled, h.wishes)))))) in
    (h.profile, (h.taken, (h.ahead, (h.held, (h.sessions, (h.next, rest)))))))
    (λ p. record {
      profile = p.0;
      taken = p.1.0;
      ahead = p.1.1.0;
      held = p.1.1.1.0;
      sessions = p.1.1.1.1.0;
      next = p.1.1.1.1.1.0;
      upstream = p.1.1.1.1.1.1.0;
      history = p.1.1.1.1.1.1.1.0;
      first = p.1.1.1.1.1.1.1.1.0;
      marks = p.1.1.1.1.1.1.1.1.1.0;
      images = p.1.1.1.1.1.1.1.1.1.1.0;
      recalled = p.1.1.1.1.1.1.1.1.1.1.1.0;
      wishes = p.1.1.1.1.1.1.1.1.1.1.1.1;
    }) (λ _. refl)
