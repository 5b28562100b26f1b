-- What the events of a run bring from the network: the transcript of a list of events.
use Rattle.std.specs.Prelude.{ℕ, ◌==◌, List, [], ◌∷◌, ◌++◌, Option, count_by, replicate}
use Rattle.std.specs.List.{filter_map, flat_map, zip}
use Rattle.std.specs.Option.{option_map}
use Rattle.irc_line.specs.Lines.{ended_of, without_cr}
use Rattle.irc_line.specs.Reading.{line_of}
use Rattle.net_view.specs.Arrival.{Received, Lost}
use Rattle.hub_ends.specs.Came.{Came}
use Rattle.hub_runs.specs.declared.event.Event.{Event}
use Rattle.hub_runs.specs.declared.event.Event.TheVariants as on

-- bytes that came together, and the moment at which they came
abbrev pub Piece : Type 0
Piece = List ℕ × ℕ

-- the bytes of some pieces, joined
abbrev pub joined : List Piece → List ℕ
joined pieces = flat_map (λ (p : Piece). p.0) pieces

-- when the LFs in them came, in order
abbrev pub lf_moments : List Piece → List ℕ
lf_moments pieces =
    flat_map (λ (p : Piece). replicate (count_by (λ b. b == 10) p.0) p.1) pieces

-- the line that a segment means, if any; it came when its LF did
abbrev pub line_came : List ℕ × ℕ → Option Came
line_came s = option_map (λ line. (Received line, s.1)) (line_of (without_cr s.0))

-- The lines of the joined bytes, in order, however they were cut; each with the moment at which the
-- LF came that ends it (RFC 2812, section 2.3).
abbrev pub lines_came : List Piece → List Came
lines_came pieces = filter_map line_came (zip (ended_of (joined pieces)) (lf_moments pieces))

-- the transcript of events that come after these pieces
abbrev pub transcript_after : List Piece → List Event → List Came
transcript_after pieces [] = lines_came pieces
transcript_after pieces (on.Up bytes moment ∷ events) =
    transcript_after (pieces ++ (bytes.items, moment.0) ∷ []) events
transcript_after pieces (on.Lost moment ∷ events) =
    lines_came pieces ++ (Lost, moment.0) ∷ transcript_after [] events
transcript_after pieces (_ ∷ events) = transcript_after pieces events

-- For each stretch of pieces up to a loss the lines of their bytes, then the loss; last the lines
-- of the stretch that is open. What is no line yet when the connection is lost is dropped.
abbrev pub transcript_of : List Event → List Came
transcript_of events = transcript_after [] events
