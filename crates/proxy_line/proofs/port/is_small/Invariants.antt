use Rattle.std.proofs.Common.{take, ◌≡◌, ◌≤◌}
use Rattle.std.specs.Str.Parse.{digits_value}
use Rattle.proxy_line.proofs.port.is_small.Given as goal

abbrev pub invariant-loop-digit : goal.invariant-loop-digit
invariant-loop-digit l = record {
  small : l.number ≤ 65535;
  value : l.number ≡ digits_value 10 (take l.digit-index l.digits);
}
