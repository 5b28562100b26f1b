-- The words that most proofs speak with, passed on.
pub use Rattle.client_caps.proofs.{Entries.{entries_got, letters_got}, JoinedTexts.next_left}
pub use Rattle.client_caps.specs.{Answers.from_bouncer, Images.ranks_shown, LateAttach.as_received}
pub use Rattle.{client_caps.specs.declared.caps.Caps.Caps, history.specs.Entry.EntryParts}
pub use Rattle.{history.specs.Entry.is_message_command, irc_line.specs.Line.Parts}
pub use Rattle.{irc_line.specs.Writing.{text_of, written}, irc_names.specs.CaseMapping.key_of}
pub use Rattle.irc_names.specs.declared.case_mapping.CaseMapping.{CaseMapping}
pub use Rattle.irc_support.specs.{ChanModes.kind_of, Settings.key_by, Text.Text, Tokens.Token}
pub use Rattle.irc_support.specs.Written.{mode_params, symbols_of, token_text}
pub use Rattle.{irc_support.specs.declared.kind.Kind.Kind, net_view.proofs.Keys.bytes_exact}
pub use Rattle.net_view.proofs.{Keys.{is_same, same_by_keys, same_refl}, PartsSound.Each}
pub use Rattle.net_view.proofs.{SoundStep.view_sound, StepLaw.view_unchanged}
pub use Rattle.net_view.specs.{Arrival.{Arrival, Received}, LookBack.last_in, Names.bytes_cmp}
pub use Rattle.net_view.specs.{Names.same, Readers.{channel_shown, channels_shown, known_at}}
pub use Rattle.net_view.specs.{Readers.member_parts, Sound.{IsKept, IsSound, IsSpelling}}
pub use Rattle.net_view.specs.{StateLines.is_state_line, Step.old_member, Table.is_equal}
pub use Rattle.net_view.specs.{View.{Channel, Person, View}, Walks.member_parts_at}
pub use Rattle.std.proofs.Common.{◌++◌, ◌+◌, ◌-◌, ◌<◌, ◌∙◌, ◌∷◌, ◌≡◌, ◌≤◌, None, Option, Some, []}
pub use Rattle.std.proofs.Common.{ap, append-nil, append_assoc, arith, codes, drop, false, filter}
pub use Rattle.std.proofs.Common.{get_or, inl, inr, length, length-append, map, refl, replicate}
pub use Rattle.std.proofs.Common.{rules, slice_index_or, suc, sym, take}
pub use Rattle.std.proofs.lemmas.{Bool.Decides.nat_tests, Fn.always_returns_same}
pub use Rattle.std.proofs.lemmas.{Grind.{common_steps, flat_map-append}, List.length-map}
pub use Rattle.std.proofs.lemmas.List.{map-append, nil_from_length, take_all, take_at, take_more}
pub use Rattle.std.proofs.lemmas.List.Elements.{All-from_recursion, filter-append}
pub use Rattle.std.proofs.lemmas.{List.Elements.recursion_from_All, Option.slice_get-get_or}
pub use Rattle.std.proofs.lemmas.{Option.slice_get-map, Result.on_ok_weaker, Simd.map-map}
pub use Rattle.std.specs.{Borrow.Bor, Cmp.Lexicographic.nat_list_cmp_total, FinMap.entries}
pub use Rattle.std.specs.{FinMap.Entries.below_all, List.{AllByRecursion, enumerate_from}}
pub use Rattle.std.specs.List.{filter_map, flat_map, fold, join_with_byte, list_any}
pub use Rattle.std.specs.{List.{position_or_len, slice_get, Sorted.IsPermutation}, Option.ForSome}
pub use Rattle.std.specs.{Option.{option_and_then, option_map, unwrap_or}, Ordering.nat_cmp}
pub use Rattle.std.specs.Prelude.{◌&&◌, ◌==◌, ◌||◌, Bool, IfSome, IsSomeAnd, IsTrue, List, cond}
pub use Rattle.std.specs.Prelude.{is_some, nat_eq, nat_lt, not, option_to_list, reverse, true, ℕ}
pub use Rattle.std.specs.{Vec.{vec_capacity, vec_len}, declared.cmp.Ordering.Ordering}
pub use Rattle.std.specs.declared.cmp.Ordering.TheVariants.{Equal, Less}
pub use Rattle.welcome.specs.Arranged.{backlogs_of, batch_tag, channel_names_of, grouped_by}
pub use Rattle.welcome.specs.Burst.{channel_lines, greeting_of, join_line, listing_lines}
pub use Rattle.welcome.specs.Burst.{member_word, mode_lines, names_end, names_lines, no_motd}
pub use Rattle.welcome.specs.Burst.{person_lines, reply, settings_lines, topic_lines}
pub use Rattle.welcome.specs.{Catchup.fact_lines, Filling.name_row, Lent.{HasHead, by_head, lent}}
pub use Rattle.welcome.specs.Lent.{members_at, modes_at, person_lent, person_shown}
pub use Rattle.{hub_ends.specs.Packets.AreLines, welcome.specs.Playback.{backlog_of, batch_name}}
pub use Rattle.welcome.specs.Playback.{burst_of}
pub use Rattle.welcome.specs.{Playback.{entry_line, is_for, is_for_a_channel}, Rows.is_short}
pub use Rattle.welcome.specs.Rows.{is_token_row, rows_from, rows_of}
unfoldable pub use Rattle.irc_support.specs.{Ranking.ranking_of, Settings.mapping_of}
unfoldable pub use Rattle.net_view.specs.{StateLines.state_lines, View.view_of}
unfoldable pub use Rattle.welcome.specs.{Burst.state_part_of, Catchup.catchup_of}
unfoldable pub use Rattle.welcome.specs.Playback.{playback_of}
