use Rattle.irc_support.proofs.chan_modes.set_kind.Goals as goal
use Rattle.{irc_support.specs.declared.kind.Kind.TheVariants.Prefix, std.proofs.Common.arith}
use Rattle.std.proofs.{Common.{get_or, length, ◌<◌, ◌∙◌}, lemmas.Bool.Decides.nat_tests}
use Rattle.std.proofs.lemmas.List.{drop_more, get_or-set_other, get_or-set_same, length-set}

pub loop-letter-preserved : goal.loop-letter-preserved
loop-letter-preserved c = (
  length-set c.loop-letter.kinds _ c.args.kind ∙ c.loop-letter.invariant.0,
  λ b fits.
      let letters = c.args.letters.now in
      let kinds = c.loop-letter.kinds in
      let i = c.loop-letter.letter-index in
      let in_table : b < length kinds = rw c.loop-letter.invariant.0 fits in
      let before =
      rw (drop_more letters i 0 c.loop-letter-test.true) at (c.loop-letter.invariant.1 b fits) in
      let same = get_or-set_same kinds b c.args.kind Prefix in
      let other = get_or-set_other kinds (get_or letters i 0) b c.args.kind Prefix in
      grind (arith, nat_tests, same, other),
)
