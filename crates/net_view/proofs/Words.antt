-- The words that most proofs speak with, passed on.
use Rattle.net_view.specs
pub use specs.{Arrival.{Arrival, Lost, Received}, Changes.{readied, told_person, without_member}}
pub use specs.{Facts.{Says, in_sight, known}, Presence.{begins, ends, is_on, name_on, says_on}}
pub use specs.{Facts.{says_account, says_away, says_spelling, spelled_in}, Found.IsSaidLast}
pub use specs.LookBack.{counts, last, last_in, last_of, name_before, name_traced}
pub use specs.Members.{is_member, lists, rank_decided, rank_in_change, says_member, says_rank}
pub use specs.{Modes.{mode_of, says_mode, setting_of}, Named.{channels_in, letters_in, named}}
pub use specs.{Named.people_in, Names.{Name, bytes_cmp, same}, Readers.known_at, Seen.HeldCaps}
pub use specs.Seen.{Shown, all_caps, kept_person, thinned_channel, thinned_channels, thinned_ranks}
pub use specs.{Seen.was_shown, Sound.{IsAccount, IsFilled, IsKept, IsSound, IsSoundChannel}}
pub use specs.{Sound.{IsSpelling, rank_limit}, StateCommands.{command_text, state_command}}
pub use specs.{StateLines.{StateLine, listing, mode_change}, Step.{after_told, channel_after}}
pub use specs.Step.{channel_from, channels_after, had_rank, is_seen, member_after, mode_after}
pub use specs.Step.{old_member, old_mode, people_after, person_after, person_from, standing_of}
pub use specs.{Table.table_gets, Told.{Changed, HasAccount}, View.{member_of, people_of, view_back}}
pub use specs.Told.{IsAway, Joined, Kicked, LetterChange, Listed, Listing, ModeChange, Parted}
pub use specs.Told.{Present, Quits, Renamed, Settles, Silent, Supports, Titled, Told, Welcomed}
pub use specs.{Topic.says_topic, Transcript.{Reading, Standing, is_us, ours, own_after}}
pub use specs.Transcript.{readings_of, ready_after, settings_after, settings_of, standing_after}
pub use specs.View.{Channel, Person, View, channel_named, channel_of, channels_of, empty_view}
pub use specs.{Written.IsWrittenItem, declared.state_command.StateCommand.StateCommand}
pub use Rattle.irc_line.specs.{Line.{Parts, has_command}, Reading.parts_of, Writing.are_params}
pub use Rattle.{irc_line.specs.Writing.is_clean, irc_names.specs.Nick.is_nameable}
pub use Rattle.irc_support.specs.{ModeChanges.ChangeParts, NamesReply.word_of, Ranks.has_rank}
pub use Rattle.irc_support.specs.{Settings.key_by, Text.Text, Tokens.Token}
pub use Rattle.std.proofs.Common.{◌&&◌, ◌++◌, ◌+◌, ◌-◌, ◌<◌, ◌==◌, ◌||◌, ◌∙◌, ◌∷◌, ◌≡◌, ◌⊎◌, Bool}
pub use Rattle.std.proofs.Common.{IfSome, IsSomeAnd, List, None, Option, Some, [], ap, append_assoc}
pub use Rattle.std.proofs.Common.{arith, codes, cond, eq-eqb, false, filter, is_some, length, map}
pub use Rattle.std.proofs.Common.{refl, reverse, slice_get, suc, sym, take, true, ℕ}
pub use Rattle.std.proofs.lemmas.List.{reverse-append, Quantifiers.position-Some}
pub use Rattle.std.proofs.lemmas.{Option.same_Some, Slice.Eq.bytes_eq-Decides}
pub use Rattle.std.specs.{Cmp.{nat_cmp_total, Lexicographic.nat_list_cmp_total}, List.filter_map}
pub use Rattle.std.specs.{List.{list_any, slice_split}, Option.{ForSome, option_and_then}}
pub use Rattle.std.specs.{Option.{option_map, option_or, unwrap_or}, Ordering.{eq_by_cmp, nat_cmp}}
pub use Rattle.std.specs.{Prelude.⊤, Str.str_eq_ignore_ascii_case, declared.cmp.Ordering.Ordering}
unfoldable pub use specs.{Seen.{kept_by, seen_since}, StateCommands.state_commands}
unfoldable pub use specs.{StateLines.{state_lines, told}, Step.after, Table.table, View.view_of}
unfoldable pub use Rattle.irc_support.specs.{ChanModes.kind_of, NamesReply.words, Tokens.set_tokens}
unfoldable pub use Rattle.irc_support.specs.{ModeChanges.changes, Ranks.{rank_count, ranks_that}}
unfoldable pub use Rattle.irc_support.specs.{Ranking.ranking_of, Settings.is_channel, Text.is_word}
