use Rattle.irc_support.proofs.support.Support.split_symbols.Given as goal
use Rattle.{irc_support.proofs.SymbolRun.ReadsSome, std.proofs.Common.length}

abbrev pub invariant-loop-rest : goal.invariant-loop-rest
invariant-loop-rest g l = ReadsSome l.self l.word l.ranks l.rest

abbrev pub decreases-loop-rest : goal.decreases-loop-rest
decreases-loop-rest g l = length l.rest
