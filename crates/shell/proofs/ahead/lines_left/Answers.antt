use Rattle.std.proofs.Common.{◌≡◌, ◌==◌, ◌+◌, ◌++◌, ℕ, List, take, arith, length-append}
use Rattle.std.proofs.KnownBytes.{Consumes-trans}
use Rattle.std.proofs.lemmas.List.{length-take-le}
use Rattle.std.proofs.lemmas.List.Sums.{count_by-le-length, sum_by-append}
use Rattle.std.specs.List.{count_by}
use Rattle.shell.proofs.ahead.lines_left.Goals as goal

count-append : (xs ys : List ℕ) → count_by (λ b. b == 10) (xs ++ ys)
    ≡ count_by (λ b. b == 10) xs + count_by (λ b. b == 10) ys
count-append xs ys = sum_by-append _ xs ys

pub loop-preserved : goal.loop-preserved
loop-preserved g c =
    let before = c.loop.invariant in
    let more = c.in-Ok.length in
    let piece = take more c.read.new.buf in (
      before.0 ++ piece,
      Consumes-trans _ _ _ before.0 piece before.1 c.in-Ok.ensures.bytes.0,
      omega (arith, before.2, c.ends_in-count.ensures, count-append before.0 piece),
      omega (
        arith,
        before.3,
        length-append before.0 piece,
        length-take-le more c.read.new.buf c.in-Ok.ensures.bound.0,
        c.in-Ok.ensures.bound.0,
        c.read.auto.buf,
      ),
    )
