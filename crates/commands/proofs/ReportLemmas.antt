-- The lines of a report, member by member and place by place.
use Rattle.commands.specs.Report.{channel_lines, member_line, member_lines, text_of}
use Rattle.{irc_line.specs.Lines.with_lf, net_view.specs.Readers.{MemberParts, channel_shown}}
use Rattle.net_view.specs.{Readers.member_parts, Text.Text, View.{Channel, View}}
use Rattle.{net_view.specs.Walks.member_parts_at, std.proofs.Common.{◌++◌, ◌+◌, ◌≡◌, List, []}}
use Rattle.std.proofs.Common.{append-nil, append_assoc, arith, map, take, ℕ}
use Rattle.std.{proofs.lemmas.{Grind.flat_map-append, Simd.map-map}, specs.FinMap.entries}
use Rattle.std.specs.{List.flat_map, Option.{option_map_or}}
use Rattle.welcome.proofs.Places.{flat_next}

-- the lines of members
abbrev pub members_text : View → List MemberParts → List ℕ
members_text v members = text_of (map (member_line v.settings) members)

pub members_are : (v : View) (i : ℕ) → members_text v (member_parts_at v i)
    ≡ option_map_or (λ (ch : Channel). text_of (member_lines v ch)) (channel_shown v i) []
members_are v i = grind (arith, map-map (member_line v.settings) (member_parts v))

-- the channels that come before a place
abbrev pub channels_before : View → ℕ → List ℕ
channels_before v i =
    text_of (flat_map (λ (e : Text × Channel). channel_lines v e.1) (take i (entries v.channels)))

-- the next channel
channels_more : (v : View) (i : ℕ) → channels_before v (i + 1)
    ≡ channels_before v i
    ++ option_map_or (λ (ch : Channel). text_of (channel_lines v ch)) (channel_shown v i) []
channels_more v i =
    let lines = λ (e : Text × Channel). channel_lines v e.1 in
    let es = entries v.channels in
    rw (flat_next lines es i, flat_map-append with_lf (flat_map lines (take i es)))
    (grind (arith, append-nil))

pub channel_pushed : (v : View) (i : ℕ) (before now : List ℕ) → now ≡ before ++ channels_before v i
    → now ++ option_map_or (λ (ch : Channel). text_of (channel_lines v ch)) (channel_shown v i) []
    ≡ before ++ channels_before v (i + 1)
channel_pushed v i before now is = rw (is, channels_more v i, append_assoc)
