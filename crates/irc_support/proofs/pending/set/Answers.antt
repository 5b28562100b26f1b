use Rattle.irc_support.proofs.pending.set.Goals as goal
use Rattle.irc_support.proofs.TokenBytes.{bytes_set}
use Rattle.irc_support.specs.{Edits.token_in, Weights.token_bytes}
use Rattle.std.proofs.{Common.refl, Math.Nat.{add-zero}}

pub returns-in-Ok-Some-clause-bytes : goal.returns-in-Ok-Some-clause-bytes
returns-in-Ok-Some-clause-bytes g c =
    let came =
    c.more-with_it.ensures _ (token_bytes (token_in (c.args.name, c.args.value))) c.requires.bytes
    (rw (c.len-named.ensures, c.args.name.ok.0) at c.token_bytes.ensures) in
    let went = rw (c.len-named.ensures, c.args.name.ok.0) at c.token_bytes-in-Ok-Some.ensures in
    let sum =
    bytes_set _ (λ a b. refl) c.args.tokens.now.entries c.args.name c.args.value in
    let sums = rw (← c.in-Ok-Some.ensures.old, c.in-Ok-Some.field-0-is) at sum in
    rw c.in-Ok-Some.ensures.entries
    (c.less.ensures _ (token_bytes (token_in (c.args.name, c.in-Ok-Some.before)))
    (rw sums came) went)

pub returns-in-Ok-None-clause-bytes : goal.returns-in-Ok-None-clause-bytes
returns-in-Ok-None-clause-bytes g c =
    let came =
    c.more-with_it.ensures _ (token_bytes (token_in (c.args.name, c.args.value))) c.requires.bytes
    (rw (c.len-named.ensures, c.args.name.ok.0) at c.token_bytes.ensures) in
    let sum =
    bytes_set _ (λ a b. refl) c.args.tokens.now.entries c.args.name c.args.value in
    let sums = rw (← c.in-Ok-None.ensures.old, c.in-Ok-None.field-0-is, add-zero) at sum in
    rw c.in-Ok-None.ensures.entries (rw (← sums) at came)
