use Rattle.tape_view.proofs.name_count.with_listed.Given as goal
use Rattle.tape_view.proofs.{LineParts.listed_count, Words.{words_in, ◌+◌, ◌<◌, ◌^◌, ◌≡◌}}

abbrev pub invariant-loop-ranks : goal.invariant-loop-ranks
invariant-loop-ranks g l = record {
  fits : l.sum < 2 ^ 64;
  whole : l.count + listed_count l.support (words_in l.support l.line)
      ≡ l.sum + listed_count l.support l._ranks-iterator;
}
