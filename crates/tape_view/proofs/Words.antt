-- The words that most proofs speak with, passed on.
pub use Rattle.irc_support.specs.{Line.{changes_in, words_in}, MemberShown.shown_member}
pub use Rattle.net_view.proofs.Words.{Arrival, Bool, ChangeParts, List, Listing, Lost, None, Option}
pub use Rattle.net_view.proofs.Words.{Ordering, Parts, Reading, Received, Says, Some, Standing}
pub use Rattle.net_view.proofs.Words.{Text, Token, Told, [], arith, begins, bytes_cmp}
pub use Rattle.net_view.proofs.Words.{channel_named, channels_in, channels_of, cond, eq_by_cmp}
pub use Rattle.net_view.proofs.Words.{false, filter_map, has_rank, in_sight, is_member, is_nameable}
pub use Rattle.net_view.proofs.Words.{is_on, is_some, key_by, kind_of, known, last, last_in}
pub use Rattle.net_view.proofs.Words.{last_of, length, list_any, listing, lists, map, mode_change}
pub use Rattle.net_view.proofs.Words.{mode_of, name_before, name_on, named, nat_cmp, nat_cmp_total}
pub use Rattle.net_view.proofs.Words.{nat_list_cmp_total, option_and_then, option_map, option_or}
pub use Rattle.net_view.proofs.Words.{ours, people_in, rank_decided, rank_in_change, readings_of}
pub use Rattle.net_view.proofs.Words.{refl, reverse, reverse-append, same, says_member, says_mode}
pub use Rattle.net_view.proofs.Words.{says_on, says_rank, says_spelling, says_topic, setting_of}
pub use Rattle.net_view.proofs.Words.{settings_after, settings_of, slice_get, spelled_in}
pub use Rattle.net_view.proofs.Words.{standing_after, state_command, suc, sym, take, true}
pub use Rattle.net_view.proofs.Words.{unwrap_or, view_back, ℕ, ◌&&◌, ◌++◌, ◌+◌, ◌-◌, ◌<◌, ◌==◌}
pub use Rattle.net_view.{proofs.Words.{◌||◌, ◌∙◌, ◌∷◌, ◌≡◌, ◌⊎◌}, specs.Least.IsNextBy}
pub use Rattle.net_view.specs.{Least.{considered, considered_by, key_in}, Tells.meant}
pub use Rattle.net_view.specs.{Transcript.{own_nick, standing}, View.{members_of, modes_of}}
pub use Rattle.{net_view.specs.declared.state_line.Telling.Telling, std.proofs.Common.{Bor, get_or}}
pub use Rattle.std.proofs.{Common.{not, set, ◌^◌, ◌≤◌}, lemmas.Bool.Decides.nat_tests}
pub use Rattle.{std.specs.Cmp.IsTotalOrder, tape_view.specs.{FactKinds.says_of, Kept.IsMarkedLine}}
pub use Rattle.tape_view.specs.{Kept.with_lost, Letters.{is_set, letter_shown}, Marks.IsMarked}
pub use Rattle.tape_view.specs.{NameCount.{IsCounted, name_count}, Places.{is_there, key_at}}
pub use Rattle.tape_view.specs.{Places.{names_in, table_len}, Tape.{Heard, IsLast, key, key_there}}
pub use Rattle.tape_view.specs.{Tape.{meaning, meaning_in}, declared.kept.Kept.Kept}
pub use Rattle.tape_view.specs.declared.{places.Table.Table, tape.Said.Said}
unfoldable pub use Rattle.net_view.proofs.Words.{after, rank_count, ranks_that, table, told}
unfoldable pub use Rattle.{net_view.proofs.Words.view_of, tape_view.specs.Kept.IsMarkedTape}
unfoldable pub use Rattle.tape_view.specs.Kept.{tape_of}
