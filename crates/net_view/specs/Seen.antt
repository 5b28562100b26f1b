-- What a client knows of a network that holds some of the capabilities, and came at some boundary.
use Rattle.std.specs.Prelude.{ℕ, ◌-◌, Bool, true, false, not, ◌&&◌, ◌||◌, nat_lt, ◌==◌, List, []}
use Rattle.std.specs.Prelude.{◌∷◌, length, reverse, if◌then◌else◌}
use Rattle.std.specs.List.{list_any, range_with_len}
use Rattle.std.specs.Option.{option_map, unwrap_or}
use Rattle.std.specs.FinMap as map
use Rattle.std.proofs.Common.{Option, Some, None}
use Rattle.irc_support.specs.Text.{Text}
use Rattle.irc_support.specs.Ranks.{rank_count, ranks_that, has_rank}
use Rattle.net_view.specs.Names.{same, bytes_cmp}
use Rattle.net_view.specs.Told.{Told, Changed, Present}
use Rattle.net_view.specs.Arrival.{Arrival}
use Rattle.net_view.specs.Transcript.{Reading, ours, readings_of}
use Rattle.net_view.specs.LookBack.{last_in, name_before}
use Rattle.net_view.specs.Members.{lists, rank_in_change, holds_rank}
use Rattle.net_view.specs.Table.{table}
use Rattle.net_view.specs.View.{Channel, Person, View, view_of}

-- which capabilities a client holds, of those that bear on what it knows (IRCv3 multi-prefix,
-- extended-join, account-notify, away-notify)
pub record HeldCaps : Type 0 where
  pub multi_prefix : Bool
  pub extended_join : Bool
  pub account_notify : Bool
  pub away_notify : Bool

-- all of them
abbrev pub all_caps : HeldCaps
all_caps =
    record { multi_prefix = true; extended_join = true; account_notify = true; away_notify = true }

-- Accounts are kept with both capabilities that report them, since one alone misses some; away
-- texts with theirs (our own choice).
abbrev pub kept_person : HeldCaps → Person → Person
kept_person caps p = record {
  spelled = p.spelled;
  account = if caps.extended_join && caps.account_notify then p.account else None;
  away = if caps.away_notify then p.away else None;
}

-- what the capabilities keep of a view
unfoldable pub kept_by : HeldCaps → View → View
kept_by caps v = record {
  own = v.own;
  ready = v.ready;
  settings = v.settings;
  channels = v.channels;
  people = table bytes_cmp (map.keys v.people)
      (λ n. option_map (kept_person caps) (map.get v.people n));
}

-- whether this is the highest of the ranks that are held
abbrev pub highest : (ℕ → Bool) → ℕ → Bool
highest held rank =
    held rank && not (list_any (λ r. nat_lt r rank && held r) (range_with_len 0 rank_count))

-- whether this is the highest rank that the person holds on the channel
abbrev pub is_highest : List Reading → Text → Text → ℕ → Bool
is_highest items c n rank = highest (holds_rank items c n) rank

-- what an item shows of a rank without multi-prefix: a name list the highest, a MODE the one that
-- it gives
abbrev pub shows_rank : Reading → List Reading → Text → Text → ℕ → Told → Option Bool
shows_rank x older c n rank (Present channel listings) =
    if same c channel && lists n listings then Some (is_highest (x ∷ older) c n rank) else None
shows_rank x older c n rank (Changed channel letters modes) =
    if same c channel then last_in (rank_in_change n rank) letters else None
shows_rank x older c n rank _ = None

-- Whether the rank was shown to a client without multi-prefix that came when all but the newest k
-- items had been taken: at that boundary it was shown the highest, later what name lists and MODEs
-- show.
abbrev pub was_shown : List Reading → ℕ → Text → Text → ℕ → Bool
was_shown [] k c n rank = false
was_shown (x ∷ older) k c n rank =
    if k == 0 then is_highest (x ∷ older) c n rank
    else unwrap_or (shows_rank x older c n rank x.told)
    (unwrap_or (option_map (λ m. was_shown older (k - 1) c m rank) (name_before (ours x) x.told n))
    false)

-- ---- a view with fewer ranks

-- which ranks of the members of the channels pass: channel, person and rank
abbrev pub Shown : Type 0
Shown = Text → Text → ℕ → Bool

-- of ranks those that are shown; with multi-prefix all are
abbrev pub thinned_ranks : HeldCaps → (ℕ → Bool) → List ℕ → List ℕ
thinned_ranks caps shown ranks =
    ranks_that (λ rank. has_rank ranks rank && (caps.multi_prefix || shown rank))

-- a channel whose members are left these ranks
abbrev pub thinned_channel : HeldCaps → Shown → Text → Channel → Channel
thinned_channel caps shown c ch = record {
  name = ch.name;
  topic = ch.topic;
  modes = ch.modes;
  members =
      table bytes_cmp (map.keys ch.members)
      (λ n. option_map (thinned_ranks caps (shown c n)) (map.get ch.members n));
}

abbrev pub thinned_channels : HeldCaps → Shown → map.FinMap bytes_cmp Channel
    → map.FinMap bytes_cmp Channel
thinned_channels caps shown cs =
    table bytes_cmp (map.keys cs) (λ c. option_map (thinned_channel caps shown c) (map.get cs c))

-- a view whose members are left these ranks
abbrev pub thinned : HeldCaps → Shown → View → View
thinned caps shown v =
    record {
      own = v.own;
      ready = v.ready;
      settings = v.settings;
      channels = thinned_channels caps shown v.channels;
      people = v.people;
    }

-- The view of a transcript as a client sees it that came after its first a items: its capabilities
-- keep what they keep, and of each member's ranks it sees those that it was shown.
unfoldable pub seen_since : List Arrival → ℕ → HeldCaps → View
seen_since items a caps =
    kept_by caps
    (thinned caps (was_shown (readings_of (reverse items)) (length items - a)) (view_of items))
