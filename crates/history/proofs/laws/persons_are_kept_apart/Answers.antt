use Rattle.history.proofs.laws.persons_are_kept_apart.Goals as goal
use Rattle.history.proofs.Apart.{kinds_apart}

pub returns : goal.returns
returns c is_person capacity messages = kinds_apart is_person capacity messages
