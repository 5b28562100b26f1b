-- The words that the proofs of what is written speak with, passed on.
pub use Rattle.std.specs.FinMap as fin
unfoldable pub use Words.{catchup_of, state_part_of, view_of}
use Rattle.welcome.proofs.Words
pub use Words.{◌&&◌, ◌++◌, ◌+◌, ◌<◌, ◌==◌, ◌∙◌, ◌∷◌, ◌≡◌, ◌≤◌, AllByRecursion, AreLines, Arrival}
pub use Words.{Bool, Bor, Caps, Channel, Each, EntryParts, ForSome, IfSome, IsSound, IsTrue, List}
pub use Words.{None, Option, Parts, Person, Some, Text, Token, View, [], ap, append-nil}
pub use Words.{append_assoc, arith, batch_name, batch_tag, burst_of, channel_lines, codes}
pub use Words.{common_steps, cond, drop, entries_got, entry_line, enumerate_from, fact_lines, false}
pub use Words.{filter, filter-append, filter_map, flat_map, flat_map-append, get_or, greeting_of}
pub use Words.{is_short, is_token_row, join_line, join_with_byte, known_at, length, length-append}
pub use Words.{letters_got, listing_lines, map, member_word, mode_lines, mode_params, name_row}
pub use Words.{names_end, names_lines, nat_tests, no_motd, option_and_then, option_to_list}
pub use Words.{person_lent, person_lines, playback_of, ranks_shown, refl, reply, reverse, rows_of}
pub use Words.{settings_lines, slice_get, suc, sym, symbols_of, take, take_all, take_more, text_of}
pub use Words.{token_text, true, unwrap_or, view_sound, written, ℕ}
pub use Rattle.client_caps.proofs.ImageWritten.{clean_joined, joined_clean, nick_written, own_part}
pub use Rattle.client_caps.proofs.{ImageWritten.symbols_clean, PartsWritten.account_word}
pub use Rattle.client_caps.proofs.PartsWritten.{channel_word, known_written, same_words, text_clean}
pub use Rattle.{history.specs.Entry.IsWrittenEntry, irc_line.proofs.Logic.and_second}
pub use Rattle.irc_line.proofs.Making.{writable-again, writable-spells}
pub use Rattle.irc_line.{proofs.WrittenStream.written-lines, specs.Line.is_line_byte}
pub use Rattle.irc_line.specs.{Lines.lines_of, Reading.line_of, Tags.is_tag_byte}
pub use Rattle.irc_line.specs.Writing.{are_params, is_clean, is_part, is_word, is_writable}
pub use Rattle.irc_support.{proofs.SpelledWords.symbols_all, specs.Text.cut_at}
pub use Rattle.net_view.proofs.TokensWritten.{AreGoodTokens, IsGoodToken, IsGoodWord, good}
pub use Rattle.net_view.proofs.TokensWritten.{good_joined, good_word, is_good, letter_good}
pub use Rattle.net_view.proofs.{TokensWritten.tokens_good, WrittenViews.{turned, views_are_clean}}
pub use Rattle.net_view.specs.{Readers.account_shown, Written.{AreWritten, IsClean, IsCleanView}}
pub use Rattle.std.proofs.{Common.zero, SliceLists.all_by_recursion_push}
pub use Rattle.std.proofs.lemmas.{Fmt.decimal_by_steps, List.Folds.{flat_map-map, list_all-append}}
pub use Rattle.std.specs.{Fmt.decimal, List.{before_first, list_all}, Prelude.◌^◌}
pub use Rattle.welcome.proofs.BurstLaw.NetworkRead.{IsSource, IsWrittenMember, each_entry}
pub use Rattle.welcome.proofs.BurstLaw.NetworkRead.{members_written, rows_all, source_of}
pub use Rattle.welcome.proofs.EachOf.{all_now, backlog_each, each_row, joined, mapped}
pub use Rattle.welcome.{proofs.EachOf.playback_each, specs.Filling.network_lines}
pub use Rattle.{hub_ends.specs.Packets.IsPacket, welcome.specs.Playback.tags_text}
pub use Rattle.hub_ends.proofs.PacketBytes.{is_packet, lines_back}
