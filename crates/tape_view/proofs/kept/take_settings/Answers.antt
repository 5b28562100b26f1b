use Rattle.tape_view.proofs.kept.take_settings.Goals as goal
use Rattle.tape_view.proofs.{TapeTake.supports_settings, Words.{arith, standing, sym, tape_of}}

pub returns-in_ok-take-in-Supports-clause-taken : goal.returns-in_ok-take-in-Supports-clause-taken
returns-in_ok-take-in-Supports-clause-taken g c =
    sym (supports_settings _ _ _ _ c.in-Supports.line (standing (tape_of c.args.kept.now))
    c.requires.told c.in-Supports.is c.requires.in_force (grind (arith, c.is_some.ensures))
    (cc c.ready_in.ensures) c.in_ok-take-in-Supports.ensures.taken)
