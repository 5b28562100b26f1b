use Rattle.steward.proofs.Numbered.{apart}
use Rattle.steward.proofs.names.Names.numbers_are_apart.Goals as goal

pub returns : goal.returns
returns c = apart c.args.self.now.texts.keys
