use Rattle.figures.proofs.text.push_family.Given as goal
use Rattle.figures.specs.Text.{head_of, help_of, name_of, sample_at}
use Rattle.{std.specs.List.flat_map, std.proofs.Common.{codes, take, ◌++◌, ◌≡◌}}

abbrev pub invariant-loop-network : goal.invariant-loop-network
invariant-loop-network l =
    l.out.items ≡ (l.fn.out.items ++ head_of (name_of l.measure) (help_of l.measure) (codes "gauge"))
    ++ flat_map (sample_at l.measure) (take l.network-index l.networks)
