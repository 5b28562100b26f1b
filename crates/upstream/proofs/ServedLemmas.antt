-- A registration over a stream, from what `begin` and `finish` say of it.
use Rattle.{bnc_config.specs.Settings.NetworkSettings, std.proofs.Common.{◌≡◌, List, sym, ℕ}}
use Rattle.{std.specs.Prelude.Option, upstream.proofs.Registered.WasWelcomed}
use Rattle.upstream.specs.{Handshake.all_sent, Served.IsRegistered, declared.dialled.Duplex.Duplex}
use Rattle.upstream.specs.declared.handshake.Welcomed.{Welcomed}

pub registered_by : {R W : Type 0} (rem : R → Option (List ℕ)) (con : W → Option (List ℕ))
    (network : NetworkSettings) (first dialled begun last live : Duplex R W) (got was : Welcomed)
    → dialled ≡ first → begun.reader ≡ dialled.reader → last ≡ live → got ≡ was
    → WasWelcomed (all_sent network) network (rem begun.reader) (rem live.reader)
    (con dialled.writer) (con live.writer) was.lines.items was.splitter
    → IsRegistered network (rem first.reader) (rem last.reader) (con first.writer)
    (con last.writer) got.lines.items got.splitter
registered_by rem con network first dialled begun last live got was d u l w known = record {
  bytes = known.0;
  before = known.1;
  welcome = known.2;
  after = known.3;
  read = rw (u, d, sym l) at known.4;
  welcomed = known.5;
  lines_are = rw (sym w) at known.6;
  splitter_is = rw (sym w) at known.7;
  sent = rw (d, sym l) at known.8;
}
