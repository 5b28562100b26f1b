use Rattle.commands.proofs.words.read_attach.Goals as goal
use Rattle.clap.specs.Words.{found_of, rows_of}
use Rattle.commands.{proofs.WordsLemmas.options_cause, specs.Command.IsCommandCause}
use Rattle.{irc_line.proofs.Outcomes.refused_by, std.proofs.Common.codes}

pub returns-in_err-caps-clause-refused : goal.returns-in_err-caps-clause-refused
returns-in_err-caps-clause-refused c =
    let rows = rows_of (found_of c.args.matches.now) in
    let fault = c.in_err-caps.field-0.0 in
    refused_by c.from_residual.result (IsCommandCause (codes "attach") rows) fault
    c.from_residual.ensures.1 (options_cause rows fault c.in_err-caps.ensures.refused)
