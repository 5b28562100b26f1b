use Rattle.irc_line.proofs.line.Line.copy_tagged_in.Goals as goal
use Rattle.irc_line.proofs.Making.{retagged-is}
use Rattle.std.{proofs.Common.{append_assoc, rules}, specs.Prelude.option_map}

pub invariant_of-result : goal.invariant_of-result
invariant_of-result g c =
    let made = retagged-is c.self.inside.text.items c.args.self.now (option_map (λ t. t.now) c.args.tags)
    c.write_body.new.out.items c.self.invariant.0 c.self.view_is c.requires (search (rules, append_assoc)) in
    (made.is, search rules, search rules)

pub returns : goal.returns
returns g c =
    (retagged-is c.self.inside.text.items c.args.self.now (option_map (λ t. t.now) c.args.tags)
    c.write_body.new.out.items c.self.invariant.0 c.self.view_is c.requires (search (rules, append_assoc))).parts
