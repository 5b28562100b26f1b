use Rattle.std.proofs.Common.{sym, ◌+◌}
use Rattle.std.proofs.lemmas.List.{take_rest}
use Rattle.proxy_line.proofs.Words.{cut_behind, cut_word, none_behind, whole_word}
use Rattle.proxy_line.proofs.line.split_word.Goals as goal

pub returns-in-Some-clause-word : goal.returns-in-Some-clause-word
returns-in-Some-clause-word c =
    cut_word c.args.text.now c.in-Some.place (sym c.in-Some.ensures.place)

pub returns-in-Some-clause-behind : goal.returns-in-Some-clause-behind
returns-in-Some-clause-behind c =
    rw (take_rest c.args.text.now (c.in-Some.place + 1))
    (cut_behind c.args.text.now c.in-Some.place (sym c.in-Some.ensures.place))

pub returns-in-None-clause-word : goal.returns-in-None-clause-word
returns-in-None-clause-word c = whole_word c.args.text.now (sym c.in-None.ensures.place)

pub returns-in-None-clause-behind : goal.returns-in-None-clause-behind
returns-in-None-clause-behind c = none_behind c.args.text.now (sym c.in-None.ensures.place)
