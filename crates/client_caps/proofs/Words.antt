-- The words that most proofs speak with, passed on.
pub use Rattle.client_caps.specs.{Caps.{Caps, held}, Images.{account_joined, as_sent, image_params}}
pub use Rattle.client_caps.specs.Images.{is_passed_on, join_params, time_tags, with_param}
pub use Rattle.{client_caps.specs.{LateAttach.as_received, Moment.Date}, irc_line.specs.Line.Parts}
pub use Rattle.irc_line.specs.{Line.{has_command, is_space}, Tags.{has_form, time_form, time_of}}
pub use Rattle.irc_line.specs.Writing.{are_params, is_clean, is_part, is_writable, line_of_parts}
pub use Rattle.irc_names.specs.Nick.{is_nameable, is_outside_nick}
pub use Rattle.irc_support.proofs.{HighestWords.highest_plain, SpelledWords.IsPlain}
pub use Rattle.irc_support.specs.NamesReply.{symbols_before, word_of, words_between}
pub use Rattle.irc_support.specs.{Ranks.has_rank, Settings.key_by, Text.Text, Tokens.Token}
pub use Rattle.irc_support.specs.Written.{names_with_highest, with_highest}
pub use Rattle.net_view.proofs.{AfterAlike.us_of, AfterMaps.get-channels_after}
pub use Rattle.net_view.proofs.{Commands.told-unread, Keys.is_same, PartsSound.Each}
pub use Rattle.net_view.proofs.{RankSets.{has-ranks, is_rank}, SeenStep.shown_now}
pub use Rattle.net_view.proofs.{SoundStep.view_sound, StepLaw.view_step, Tests.is_some_map}
pub use Rattle.net_view.proofs.Thinned.{IsKeptAlike, contains-thinned, get-thinned_channels}
pub use Rattle.net_view.{proofs.Thinned.{kept_alike, old-thinned}, specs.Agrees.Agrees}
pub use Rattle.net_view.specs.{Arrival.{Arrival, Received}, Members.says_rank, Names.Name}
pub use Rattle.net_view.specs.{Names.{bytes_cmp, same}, Readers.known_at, Seen.{HeldCaps, Shown}}
pub use Rattle.net_view.specs.{Seen.{highest, thinned, thinned_ranks}, Sound.{IsAccount, IsSound}}
pub use Rattle.net_view.specs.{StateLines.{actor_nick, listings_of}, Step.after_told}
pub use Rattle.net_view.specs.{Step.{channel_after, had_rank, old_member}, Told.{Joined, Listing}}
pub use Rattle.net_view.specs.{Told.{Present, Silent, Told}, View.{Channel, Person, View}}
pub use Rattle.{net_view.specs.Written.IsCleanView, std.proofs.Common.{◌&&◌, ◌++◌, ◌+◌, ◌<◌, ◌==◌}}
pub use Rattle.std.proofs.Common.{◌||◌, ◌∙◌, ◌∷◌, ◌≡◌, ◌≤◌, Bool, IfSome, List, None, Option, Some}
pub use Rattle.std.proofs.Common.{[], ap, append-nil, append_assoc, arith, codes, cond, drop}
pub use Rattle.std.proofs.Common.{eq-eqb, false, filter, inl, inr, is_some, length, map, not}
pub use Rattle.std.proofs.Common.{option_map, refl, slice_get, suc, sym, take, true, zero, ℕ}
pub use Rattle.std.proofs.lemmas.{Bool.Decides.nat_tests, List.take_all}
pub use Rattle.std.specs.{List.{join_with_byte, list_all, list_any}, Option.option_and_then}
pub use Rattle.std.specs.Option.{option_or, option_to_list, unwrap_or}
