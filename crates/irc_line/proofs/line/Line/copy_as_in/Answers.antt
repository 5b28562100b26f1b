use Rattle.irc_line.proofs.line.Line.copy_as_in.Goals as goal
use Rattle.irc_line.proofs.Making.{renamed-is}
use Rattle.std.{proofs.Common.{append_assoc, rules}, specs.Prelude.option_map}

pub invariant_of-result : goal.invariant_of-result
invariant_of-result g c =
    let made = renamed-is c.self.inside.text.items c.args.self.now (option_map (λ s. s.now) c.args.source)
    c.args.command.now c.write_params.new.out.items c.self.invariant.0 c.self.view_is
    c.requires.source c.requires.command (search (rules, append_assoc)) in
    (made.is, search rules, search rules)

pub returns : goal.returns
returns g c =
    (renamed-is c.self.inside.text.items c.args.self.now (option_map (λ s. s.now) c.args.source)
    c.args.command.now c.write_params.new.out.items c.self.invariant.0 c.self.view_is
    c.requires.source c.requires.command (search (rules, append_assoc))).parts
