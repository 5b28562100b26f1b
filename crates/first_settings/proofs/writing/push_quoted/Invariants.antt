use Rattle.first_settings.proofs.writing.push_quoted.Given as goal
use Rattle.{first_settings.specs.Written.{escaped, quoted}, std.specs.List.flat_map}
use Rattle.std.proofs.Common.{codes, drop, ◌++◌, ◌≡◌}

abbrev pub invariant-loop-byte : goal.invariant-loop-byte
invariant-loop-byte l =
    l.fn.out.items ++ quoted l.text
    ≡ l.out.items ++ (flat_map escaped (drop l.byte-index l.text) ++ codes "\"")
