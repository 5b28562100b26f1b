use Rattle.irc_line.proofs.scan.split_byte.Goals as goal
use Rattle.irc_line.proofs.Segments.{split-at, split-none}
use Rattle.std.proofs.{Common.{sym, ◌+◌, ◌∙◌}, lemmas.List.take_rest}

pub returns-in_err-end-clause-none : goal.returns-in_err-end-clause-none
returns-in_err-end-clause-none c =
    rw c.from_residual.ensures
    (split-none c.args.byte c.args.text.now (sym c.place_of.ensures.place ∙ c.in_err-end.was))

pub returns-clause-some : goal.returns-clause-some
returns-clause-some c =
    rw (take_rest c.args.text.now (c.in_ok-end.end + 1))
    (split-at c.args.byte c.args.text.now c.in_ok-end.end
    (sym c.place_of.ensures.place ∙ c.in_ok-end.was))
