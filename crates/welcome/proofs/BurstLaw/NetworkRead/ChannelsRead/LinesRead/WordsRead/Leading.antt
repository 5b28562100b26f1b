-- The view of a client, and where lines lead it.
pub use Rattle.std.specs.FinMap as fin
unfoldable pub use Words.{catchup_of, state_lines, state_part_of, view_of}
unfoldable pub use Rattle.irc_support.specs.{Text.is_word, Tokens.set_tokens}
unfoldable pub use Rattle.net_view.specs.Step.{after}
use Rattle.welcome.proofs.Words
pub use Words.{◌&&◌, ◌++◌, ◌-◌, ◌<◌, ◌||◌, ◌∙◌, ◌∷◌, ◌≡◌, ◌≤◌, Arrival, Bool, Caps, Channel, Each}
pub use Words.{EntryParts, ForSome, IfSome, IsKept, IsSomeAnd, IsSound, IsSpelling, List, None}
pub use Words.{Option, Parts, Person, Received, Some, Text, Token, View, [], ap, append-nil}
pub use Words.{append_assoc, arith, as_received, burst_of, bytes_cmp, bytes_exact, channel_lines}
pub use Words.{codes, cond, entries_got, fact_lines, false, filter_map, flat_map, fold, get_or}
pub use Words.{greeting_of, is_same, is_short, is_some, is_state_line, is_token_row, join_line}
pub use Words.{key_by, kind_of, known_at, last_in, length, length-append, length-map, letters_got}
pub use Words.{list_any, listing_lines, map, map-append, member_word, mode_lines, mode_params}
pub use Words.{name_row, names_end, names_lines, nat_cmp, nat_list_cmp_total, nil_from_length}
pub use Words.{no_motd, old_member, option_and_then, option_map, option_to_list, person_lines}
pub use Words.{playback_of, ranking_of, ranks_shown, refl, reply, reverse, rows_from, rows_of, same}
pub use Words.{same_by_keys, same_refl, settings_lines, slice_get, slice_get-get_or, sym, take_at}
pub use Words.{token_text, topic_lines, true, unwrap_or, view_sound, view_unchanged, ℕ}
pub use Rattle.client_caps.proofs.{Highest.has-first, ImageLaw.{images_keep_the_view, seen_agrees}}
pub use Rattle.client_caps.proofs.{Listings.{listed, listings_joined}, LossLaw.actor_of_nick}
pub use Rattle.client_caps.specs.{Caps.{held, no_caps}, LateAttach.sent_for}
pub use Rattle.irc_support.proofs.{RankPlaces.ranking_of-is, SpelledWords.IsPlain, Spelling.paired}
pub use Rattle.irc_support.{proofs.TokensRead.tokens_read, specs.{Edits.kept, ModeChanges.changes}}
pub use Rattle.irc_support.specs.{NamesReply.word_of, Ranks.{has_rank, ranks_that}}
pub use Rattle.irc_support.specs.{Tokens.after_param, Written.{HasSymbol, IsWrittenMode, is_sign}}
pub use Rattle.{irc_support.specs.Written.set_change, net_view.proofs.Accounts.account_named}
pub use Rattle.net_view.proofs.AfterAlike.{HasSets, channel_is, get_put, look_ups, seen_alike}
pub use Rattle.net_view.proofs.{AfterAlike.{us_of, view_put, view_sets}, AfterFacts.after_account}
pub use Rattle.net_view.proofs.AfterFacts.{after_away, after_settled, after_supports}
pub use Rattle.net_view.proofs.{AfterMaps.{seen_in, seen_somewhere}, AfterModes.after_modes}
pub use Rattle.net_view.proofs.{AfterModes.after_topic, AfterJoin.after_own_join}
pub use Rattle.net_view.proofs.{Channels.channels_get, Commands.{told_of_account, told_of_away}}
pub use Rattle.net_view.proofs.Commands.{told_of_join, told_of_mode_reply, told_of_names}
pub use Rattle.net_view.proofs.{Commands.told_of_topic_reply, Emptied.{alone, emptied, no_keys}}
pub use Rattle.net_view.proofs.FormSound.{letters_unsigned, tokens_formed, view_ranked}
pub use Rattle.net_view.proofs.{Holds.if_some, NameLists.view_in_parts, People.member_found}
pub use Rattle.net_view.proofs.{People.seen_none, RankSets.{has-ranks, is_rank, ranks_alike}}
pub use Rattle.net_view.proofs.SeenStep.{highest_alike, old_of_member, seen_is_thinned}
pub use Rattle.net_view.proofs.{SeenStep.thinned_alike, StepLaw.view_step, Tests.is_some_map}
pub use Rattle.net_view.proofs.{Tests.no_true, Thinned.{IsKeptAlike, alike_kept}}
pub use Rattle.net_view.proofs.Thinned.{get-thinned_channels, get-thinned_members, kept_alike}
pub use Rattle.net_view.{proofs.Thinned.seen-thinned, specs.{Agrees.Agrees, Changes.fresh_channel}}
pub use Rattle.net_view.specs.Changes.{on_channel, on_person, told_person, with_account, with_away}
pub use Rattle.net_view.specs.{Changes.with_topic, Facts.spelled_in, Members.holds_rank}
pub use Rattle.net_view.specs.Members.{is_member, lists, rank_decided, rank_in_listing}
pub use Rattle.net_view.specs.{Modes.setting_of, Names.name_of, Seen.{HeldCaps, Shown, highest}}
pub use Rattle.net_view.specs.Seen.{kept_by, kept_person, seen_since, thinned, thinned_channel}
pub use Rattle.net_view.specs.{Seen.{thinned_channels, thinned_ranks, was_shown}, Sound.IsAccount}
pub use Rattle.net_view.specs.Sound.{IsFilled, IsSoundChannel, IsWellFormed, rank_limit}
pub use Rattle.net_view.specs.StateLines.{account_said, actor_nick, listing, mode_change, told}
pub use Rattle.net_view.specs.{StateLines.unless_empty, Step.{after_told, everyone, had_rank}}
pub use Rattle.net_view.specs.{Step.is_seen, Table.{table, table_gets}, Told.{HasAccount, IsAway}}
pub use Rattle.net_view.specs.Told.{Joined, Listed, Listing, ModeChange, Present, Settles, Supports}
pub use Rattle.net_view.specs.{Told.{Titled, Told, Welcomed}, Transcript.{Reading, readings_of}}
pub use Rattle.{net_view.specs.View.{channels_of, view_back}, std.proofs.Common.{eq-eqb, subst}}
pub use Rattle.std.proofs.lemmas.{Grind.fold-append, List.Elements.filter_map-append}
pub use Rattle.std.{proofs.lemmas.Option.option_and_then_some, specs.Option.option_or}
pub use Rattle.welcome.proofs.{EachOf.{each_back, each_front, flat, mapped}, EntriesRead.told_at}
pub use Rattle.welcome.proofs.PlaybackTold.{IsMessage, playback_unread, unread_lines}
pub use Rattle.welcome.specs.{Burst.line_of_person, Catchup.{account_line, away_line}}
pub use Rattle.welcome.specs.LateAttach.{Dated, sent_after, sent_since, undated}

-- ---- the view of a client that is on these channels, with these facts of each person on them

unfoldable pub people_read : fin.FinMap bytes_cmp Channel → (Text → Person)
    → fin.FinMap bytes_cmp Person
people_read cs facts =
    table bytes_cmp (everyone cs) (λ n. cond (is_seen cs n) (Some (facts n)) None)

abbrev pub read_view : View → fin.FinMap bytes_cmp Channel → (Text → Person) → View
read_view v cs facts = record v { channels = cs; people = people_read cs facts }

pub get_read : (cs : fin.FinMap bytes_cmp Channel) (facts : Text → Person) (n : Text)
    → fin.get (people_read cs facts) n ≡ cond (is_seen cs n) (Some (facts n)) None
unfolding people_read
get_read cs facts = search (arith, table_gets, nat_list_cmp_total, bytes_exact, seen_none)

-- on channels where the same persons are seen, with the same facts of these
pub people_alike : (cs ds : fin.FinMap bytes_cmp Channel) (f g : Text → Person)
    → ((n : Text) → is_seen cs n ≡ is_seen ds n)
    → ((n : Text) → is_seen ds n ≡ true → f n ≡ g n) → people_read cs f ≡ people_read ds g
people_alike cs ds f g seen alike = same_by_keys (λ n. grind (arith, get_read, seen n, alike n))

-- a person changed, if seen
abbrev pub changed_at : Text → (Person → Person) → (Text → Person) → Text → Person
changed_at m change facts n = cond (same n m) (change (facts n)) (facts n)

pub person_changed : (v : View) (cs : fin.FinMap bytes_cmp Channel) (facts : Text → Person)
    (m : Text) (change : Person → Person)
    → on_person (read_view v cs facts) m change ≡ read_view v cs (changed_at m change facts)
person_changed v cs facts m change =
    let people : (on_person (read_view v cs facts) m change).people
    ≡ people_read cs (changed_at m change facts) =
    same_by_keys (λ n. grind (arith, is_same n m, get_read, λ (p : Person). get_put (people_read cs facts) m p n)) in
    λ i. record v { channels = cs; people = people i }

-- with other facts of nobody who is seen
pub facts_alike : (v : View) (cs : fin.FinMap bytes_cmp Channel) (f g : Text → Person)
    → ((n : Text) → is_seen cs n ≡ true → f n ≡ g n) → read_view v cs f ≡ read_view v cs g
facts_alike v cs f g alike =
    let people = people_alike cs cs f g (λ n. refl) alike in
    λ i. record v { channels = cs; people = people i }

pub put_twice : {X : Type 0} (m : fin.FinMap bytes_cmp X) (k : Text) (x y : X)
    → fin.insert (fin.insert m k x) k y ≡ fin.insert m k y
put_twice m k x y = same_by_keys (λ c. grind look_ups)

-- a channel changed that has the members of before
module _ (v : View) (cs : fin.FinMap bytes_cmp Channel) (k : Text) (a b : Channel)
    (members : (n : Text) → is_some (fin.get a.members n) ≡ is_some (fin.get b.members n)) where
  pub channel_changed : (facts : Text → Person)
      → record (read_view v (fin.insert cs k a) facts) {
        channels = fin.insert (fin.insert cs k a) k b;
      } ≡ read_view v (fin.insert cs k b) facts
  channel_changed facts =
      let put = put_twice cs k a b in
      let seen : (n : Text) → is_seen (fin.insert cs k a) n ≡ is_seen (fin.insert cs k b) n =
      λ n. seen_alike _ _ n n (λ c. grind (look_ups, members n)) in
      let people = people_alike (fin.insert cs k a) (fin.insert cs k b) facts facts seen
      (λ n h. refl) in
      λ i. record v { channels = put i; people = people i }

-- what a law of the step says of the channel, once it is found
pub on_this_channel : (v : View) (cs : fin.FinMap bytes_cmp Channel) (k : Text)
    (a : Channel) (facts : Text → Person) (change : Channel → Channel) → ((n : Text) → is_some
    (fin.get a.members n) ≡ is_some (fin.get (change a).members n)) → on_channel (read_view v
    (fin.insert cs k a) facts) k change ≡ read_view v (fin.insert cs k (change a)) facts
on_this_channel v cs k a facts change members =
    let there : fin.get (fin.insert cs k a) k ≡ Some a = grind look_ups in
    rw there (channel_changed v cs k a (change a) members facts)

-- ---- where lines lead

pub with_more : (items : List Arrival) (a b : List Parts)
    → (items ++ as_received a) ++ as_received b ≡ items ++ as_received (a ++ b)
with_more items a b = simp (append_assoc, map-append)

-- what the laws of the step ask of a view
pub record IsView (w : View) : Type 0 where
  pub sets : HasSets w
  pub sound : IsSound w

-- whoever has this view has that one after these lines
pub record Leads (w : View) (lines : List Parts) (u : View) : Type 0 where
  pub on : (items : List Arrival) → view_of items ≡ w → view_of (items ++ as_received lines) ≡ u

pub no_lines : (w : View) → Leads w [] w
no_lines w = record { on = λ items is. ap view_of (append-nil items) ∙ is }

-- where they lead, as it is known of such views
pub leading_to : {w u x : View} {lines : List Parts} → Leads w lines u → (IsView w → u ≡ x)
    → Leads w lines x
leading_to one is_next = record {
  on = λ items is.
      one.on items is
      ∙ is_next (subst IsView is (record { sets = view_sets items; sound = view_sound items }));
}

-- a line with what it says known
pub one_line : (w : View) (line : Parts) (t : Told) (u : View)
    → told w.settings (Received line) ≡ t → (IsView w → after_told w t ≡ u) → Leads w (line ∷ []) u
unfolding after
one_line w line t u tells step =
    leading_to {u = after_told w (told w.settings (Received line))}
    (record { on = λ items is. rw (← is) (view_step items (Received line)) })
    (λ v. ap (after_told w) tells ∙ step v)

-- some lines, and then others
pub and_then : {w u x : View} (a b : List Parts) → Leads w a u → Leads u b x → Leads w (a ++ b) x
and_then a b one two = record {
  on = λ items is.
      ap view_of (sym (with_more items a b)) ∙ two.on (items ++ as_received a) (one.on items is);
}

-- a line that no view reads
pub unread_line : (w : View) (line : Parts) → is_state_line line ≡ false → Leads w (line ∷ []) w
unread_line w line off = record { on = λ items is. view_unchanged items (Received line) off ∙ is }
