use Rattle.irc_line.proofs.line.Line.from_parts.Goals as goal
use Rattle.irc_line.{proofs.Making.made-is, specs.Writing.line_of_parts}
use Rattle.std.{proofs.Common.{append_assoc, rules}, specs.Prelude.{map, option_map}}

pub invariant_of-result : goal.invariant_of-result
invariant_of-result g c =
    let line =
    line_of_parts (option_map (λ t. t.now) c.args.tags) (option_map (λ s. s.now) c.args.source)
    c.args.command.now (map (λ p. p.now) c.args.params.now) in
    let made = made-is c.push_all.new.out.items line c.requires (search (rules, append_assoc)) in
    (made.is, search rules, search rules)

pub returns : goal.returns
returns g c = (made-is c.push_all.new.out.items _ c.requires (search (rules, append_assoc))).parts
