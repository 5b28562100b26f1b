use Rattle.upstream.proofs.serving.serve_network_as.Goals as goal

pub returns-in-Ok-spawn_stoppable : goal.returns-in-Ok-spawn_stoppable
returns-in-Ok-spawn_stoppable g c =
    let back = c.handed_back.ensures in
    let spawned = c.in-Ok-spawn_stoppable.ensures in
    rw back.end (record {
      left = _;
      sent = _;
      begun = _;
      lines = _;
      splitter = _;
      registered = c.in-Ok.ensures.ok;
      of_the_keeper = c.registered.ensures.sent;
      read = rw (back.inlet, back.stream.0)
          (rw c.registered.ensures.read at c.read_to_end-inlet.ensures);
      written = (
        c.join-written.result.fresh,
        rw (back.outlet, back.written, back.stream.1)
            (rw (spawned.0, spawned.1) at c.join-written.ensures.0),
      );
    })
