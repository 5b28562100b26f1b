use Rattle.commands.proofs.report.push_symbols.Given as goal
use Rattle.{commands.proofs.MemberLemmas.ranks_before, irc_support.specs.Written.symbols_of}
use Rattle.{net_view.specs.Ranks.{has_rank, ranks_that}, std.proofs.Common.{◌++◌, ◌<◌, ◌≡◌}}

abbrev pub invariant-loop-rank : goal.invariant-loop-rank
invariant-loop-rank g l = record {
  so_far : l.report.items ≡ l.fn.report.items
      ++ symbols_of (g.V.NetworkView.view l.view).settings (ranks_before l.member.ranks l.rank);
  set : 0 < l.rank → l.member.ranks ≡ ranks_that (has_rank l.member.ranks);
}
