-- What came of a connection to a network.
use Rattle.std.specs.Prelude.{◌≡◌, ◌∷◌, ◌++◌, [], ℕ, Bool, List, Option}
use Rattle.std.specs.Io.KnownBytes.{Appends, Consumes}
use Rattle.irc_line.specs.Line.{Parts}
use Rattle.irc_line.specs.Lines.{Pending, fed, lines_of, start}
use Rattle.irc_line.specs.Writing.{bytes_of}
use Rattle.bnc_config.specs.Settings.{NetworkSettings}
use Rattle.hub_ends.specs.Came.{Came}
use Rattle.hub_threads.specs.Reads.{IsReadIn, received_at}
use Rattle.hub_threads.specs.Rings.{items_of, put_of}
use Rattle.hub_threads.specs.Writes.{IsWritten}
use Rattle.hub_threads.specs.declared.reading.ReadEnd.{ReadEnd}
use Rattle.upstream.specs.Handshake.{IsCauseOf, IsWelcomed, all_sent}
use Rattle.upstream.specs.declared.dialled.Duplex.{Duplex}
use Rattle.upstream.specs.declared.link.Link.{Link}
use Rattle.upstream.specs.declared.serving.NetworkEnd.{NetworkEnd}
use Rattle.upstream.specs.declared.serving.NetworkEnd.TheVariants as end
use Rattle.upstream.specs.declared.serving.Served.{Served}

-- A network took us in: of what it sent, the lines up to the welcome were answered, and nothing else
-- was sent; these are the lines from the welcome on, and what the splitter holds.
pub record IsRegistered (network : NetworkSettings) (began left was now : Option (List ℕ))
    (lines : List Parts) (splitter : Pending) : Type 0 where
  pub bytes : List ℕ
  pub before : List Parts
  pub welcome : Parts
  pub after : List Parts
  pub read : Consumes began left bytes
  pub welcomed : IsWelcomed network (lines_of bytes) before welcome after
  pub lines_are : lines ≡ welcome ∷ after
  pub splitter_is : splitter ≡ fed start bytes
  pub sent : Appends was now (bytes_of (all_sent network (before ++ welcome ∷ [])))

-- A connection was read to its end: these lines were put first, at one moment, and then what was
-- read after them, and one loss.
pub record IsRead (was now : List Came) (lines : List Parts) (splitter : Pending)
    (began left : Option (List ℕ)) (ended : ReadEnd) : Type 0 where
  pub moment : ℕ
  pub read : IsReadIn splitter (was ++ received_at moment lines) now began left ended

module _ {I W : Type 0} (remaining : I → Option (List ℕ)) (contents : W → Option (List ℕ))
    (network : NetworkSettings) (stream : Duplex I W) (link : Link) where
  -- A connection was served to its end: its network took us in, its lines were put, and after what
  -- the keeper sent, the packets of the hub's outlet were written.
  pub record WasReadAndWritten (s : Served I W) (ended : ReadEnd) : Type 0 where
    pub left : Option (List ℕ)
    pub sent : Option (List ℕ)
    pub begun : Option (List ℕ)
    pub lines : List Parts
    pub splitter : Pending
    pub registered : IsRegistered network (remaining stream.reader) left (contents stream.writer)
        sent lines splitter
    pub of_the_keeper : (bytes : List ℕ) × Appends sent begun bytes
    pub read : IsRead (put_of link.inlet) (put_of s.link.inlet) lines splitter left
        (remaining s.stream.reader) ended
    pub written : (fresh : Bool) × IsWritten (items_of link.outlet) (items_of s.link.outlet) begun
        (contents s.stream.writer) fresh s.written

  -- by how it ended: if it was not read to its end, its hub got nothing
  abbrev pub IsEndedBy : NetworkEnd → Served I W → Type 0
  IsEndedBy (end.NotRegistered fault) s = (put_of s.link.inlet ≡ put_of link.inlet)
      × (bytes : List ℕ) × Consumes (remaining stream.reader) (remaining s.stream.reader) bytes
      × IsCauseOf network bytes fault
  IsEndedBy end.GivenUp s = put_of s.link.inlet ≡ put_of link.inlet
  IsEndedBy (end.Lost ended) s = WasReadAndWritten s ended

  -- how a connection was served
  abbrev pub WasServed : Served I W → Type 0
  WasServed s = IsEndedBy s.end s
