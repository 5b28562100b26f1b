use Rattle.upstream.proofs.sending.first_lines.Goals as goal
use Rattle.{std.proofs.Common.rules, upstream.proofs.Writable.{nick_is_clean, word_is_clean}}

pub push_command-requires-in-Some : goal.push_command-requires-in-Some
push_command-requires-in-Some c = word_is_clean c.in-Some.password.now c.in-Some.ensures.clean

pub push_command-requires-2 : goal.push_command-requires-2
push_command-requires-2 c = nick_is_clean c.args.nick.now c.requires

pub returns : goal.returns
returns = search rules
