use Rattle.commands.proofs.input.read_all.Goals as goal
use Rattle.{commands.proofs.StreamLemmas.{reading_refusal, skipped_in}, std.proofs.Common.{[], sym}}
use Rattle.std.specs.IoError.{error_kind}

pub returns-in-EndOfInput-clause-read : goal.returns-in-EndOfInput-clause-read
returns-in-EndOfInput-clause-read g c =
    let r = c.read_from_start-end.ensures in
    let why = rw c.in-EndOfInput.is at r.why in
    let now = c.taker-1.given.1 (sym why.2.0) in (
      r.bytes,
      why.0,
      why.1,
      r.short,
      rw now (why.2.2 [] c.requires.new),
      rw now why.2.1,
      skipped_in c.read_from_start-end.result.1 r.bytes c.skipped.result c.skipped.ensures r.held,
    )

pub returns-in-ReadFault-clause-refused : goal.returns-in-ReadFault-clause-refused
returns-in-ReadFault-clause-refused g c =
    let r = c.read_from_start-end.ensures in (
      r.bytes,
      (rw c.in-ReadFault.is at r.why).0,
      reading_refusal r.bytes (error_kind c.in-ReadFault.error) c.of_reading.result
          c.of_reading.ensures r.short,
    )
