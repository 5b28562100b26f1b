-- Worked transcripts as text, and the words for them.
pub use Prim.Native.String.{String}
pub use Rattle.irc_support.specs.{Ranking.spelled_by, Settings.mapping_of}
pub use Rattle.net_view.{proofs.Words.{◌++◌, ◌∷◌, ◌≡◌, Arrival, Bool}, specs.Transcript.standing}
pub use Rattle.net_view.proofs.Words.{Changed, HasAccount, HeldCaps, IsAway, Joined, Kicked, List}
pub use Rattle.net_view.proofs.Words.{Listed, Lost, Name, None, Option, Parted, Present, Quits}
pub use Rattle.net_view.proofs.Words.{Reading, Received, Renamed, Settles, Silent, Some, Supports}
pub use Rattle.net_view.proofs.Words.{Text, Titled, Told, Welcomed, [], all_caps, changes, codes}
pub use Rattle.net_view.proofs.Words.{false, filter, is_channel, is_member, is_word, kept_person}
pub use Rattle.net_view.proofs.Words.{kind_of, map, mode_of, name_on, name_traced, parts_of}
pub use Rattle.net_view.proofs.Words.{rank_count, rank_decided, ranking_of, ranks_that, readings_of}
pub use Rattle.net_view.proofs.Words.{reverse, set_tokens, state_lines, take, thinned_ranks, told}
pub use Rattle.{net_view.proofs.Words.{true, was_shown, words, ℕ}, std.proofs.Common.if◌then◌else◌}
pub use Rattle.net_view.specs.{Facts.{account_of, away_of, spelling_of}, Topic.topic_of}

-- what it takes to compute what transcripts mean
unfoldable pub reading : Unit {0}
unfolding told state_lines ranks_that rank_count words ranking_of spelled_by mapping_of is_channel
    is_word set_tokens changes kind_of
reading = tt

-- a transcript, the oldest line first
abbrev pub heard : List String → List Arrival
heard lines = reverse (map (λ line. Received (parts_of (codes line))) lines)

abbrev pub read : List String → List Reading
read lines = readings_of (heard lines)

-- the ranks, spelling, account and away text of a member of a channel
abbrev pub member : String → String → List String
    → Option (List ℕ × Option Text × Option Text × Option Text)
member channel key lines =
    let rs : List Reading = read lines in
    let c : Text = codes channel in let n : Text = codes key in
    if is_member rs c n then Some
    (ranks_that (rank_decided rs c n), spelling_of rs n, account_of rs n, away_of rs n) else None

-- a member with these ranks, spelled so, with no more known
abbrev pub plain : List ℕ → String → Option (List ℕ × Option Text × Option Text × Option Text)
plain ranks nick = Some (ranks, Some (codes nick), None, None)

-- which of these people #c has
abbrev pub members : List String → List String → List String
members people lines = filter (λ key. is_member (read lines) (codes "#c") (codes key)) people

-- how transcripts begin: the network takes us in, names its settings and ends its greeting
abbrev pub welcome : List String
welcome =
    ":s 001 Me :hi" ∷ ":s 005 Me PREFIX=(ov)@+ CHANTYPES=# :are supported" ∷ ":s 376 Me :end" ∷ []

-- then we join a channel, and bob joins it
abbrev pub joined : List String
joined = welcome ++ ":Me!m@h JOIN #c" ∷ []

abbrev pub with_bob : List String
with_bob = joined ++ ":bob!b@h JOIN #c" ∷ []
