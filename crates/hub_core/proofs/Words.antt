-- The words that most proofs speak with, passed on.
pub use Rattle.client_caps.specs.{LateAttach.as_received, declared.caps.Caps.Caps}
pub use Rattle.history.specs.{Entry.{EntryParts, is_message, is_message_command}, Messages.Messages}
pub use Rattle.hub_core.specs.Given.{Delivered, Sends, given_but, packet_for, packet_of}
pub use Rattle.hub_core.specs.{Given.with_outlet, Insides.{hub_of, state_of}, LostChannels.joining}
pub use Rattle.hub_core.specs.{LostChannels.keyed, Running.{EachFits, Fits, content_said}}
pub use Rattle.hub_core.specs.{Online.is_online, States.{HubState, SessionState, heard, view_now}}
pub use Rattle.{hub_core.specs.Pumping.{entry_for, entry_kept, with_entry}, net_view.specs.View.View}
pub use Rattle.{history.specs.Keeping.Kept, hub_core.specs.Saying.{is_spread, is_spread_by}}
pub use Rattle.hub_core.specs.{Running.lines_sent, Saying.{Around, Forwards, with_sessions}}
pub use Rattle.hub_core.specs.declared.{hub.Hub.TheInside.Inside, session.Session.Session}
pub use Rattle.{hub_ends.specs.Came.Came, irc_line.specs.Line.Parts, irc_support.specs.Text.Text}
pub use Rattle.{hub_ends.specs.Outlets.{OutletState, Took}, net_view.proofs.Keys.bytes_exact}
pub use Rattle.net_view.specs.{Arrival.{Arrival, Lost, Received, arrival_of}, Names.bytes_cmp}
pub use Rattle.{network_tables.proofs.ShownLemmas.empty-shown, std.proofs.Common.{◌++◌, ◌+◌, ◌-◌}}
pub use Rattle.std.proofs.Common.{◌<◌, ◌==◌, ◌∙◌, ◌∷◌, ◌≡◌, ◌≤◌, Bool, List, None, Option, Some, []}
pub use Rattle.std.proofs.Common.{ap, append-nil, append_assoc, arith, drop, false, get_or, inl}
pub use Rattle.std.proofs.Common.{inr, is_some, length, length-append, length-set, map}
pub use Rattle.std.proofs.Common.{option_to_list, refl, reverse, rules, set, subst, sym, take, true}
pub use Rattle.std.proofs.{Common.ℕ, lemmas.{Bool.Decides.nat_tests, List.{length-map, map-append}}}
pub use Rattle.std.specs.{Cmp.Lexicographic.nat_list_cmp_total, List.{AllByRecursion, filter_map}}
pub use Rattle.std.specs.{List.{list_any, position}, Option.{option_and_then, option_map}}
pub use Rattle.std.specs.{Option.option_map_or, Prelude.{IfSome, IsSome, if◌then◌else◌}}
unfoldable pub use Rattle.{client_caps.specs.Moment.time_text_of, network_tables.specs.Shown.shown}
unfoldable pub use Rattle.{hub_core.specs.LostChannels.lost_channels, net_view.specs.View.view_of}
