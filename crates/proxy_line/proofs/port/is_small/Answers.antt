use Rattle.std.proofs.Common.{arith, ◌+◌, ◌<◌}
use Rattle.std.proofs.lemmas.{Bool.Decides.nat_tests, Str.Parse.digits_value-take-le}
use Rattle.std.specs.Str.Parse.{digits_value}
use Rattle.proxy_line.proofs.Digits.{next_digit}
use Rattle.proxy_line.proofs.port.is_small.Goals as goal

pub returns-then-number-gt65535 : goal.returns-then-number-gt65535
returns-then-number-gt65535 c =
    let next = next_digit c.args.digits.now c.loop-digit.digit-index c.requires c.loop-digit-test.true in
    let large : 65535 < digits_value 10 c.args.digits.now =
    omega (
      arith,
      next.value,
      c.loop-digit.invariant.value,
      c.from.ensures,
      digits_value-take-le 10 c.args.digits.now (c.loop-digit.digit-index + 1) (omega arith),
    ) in
    grind (arith, nat_tests)

pub loop-digit-preserved : goal.loop-digit-preserved
loop-digit-preserved c =
    let next = next_digit c.args.digits.now c.loop-digit.digit-index c.requires c.loop-digit-test.true in
    record {
      small = omega arith;
      value = omega (arith, next.value, c.loop-digit.invariant.value, c.from.ensures);
    }
