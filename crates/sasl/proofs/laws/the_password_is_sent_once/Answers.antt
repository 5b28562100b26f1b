use Rattle.sasl.proofs.Asked.{after_the_acknowledgement, nowhere_else, once}
use Rattle.sasl.proofs.laws.the_password_is_sent_once.Goals as goal

pub returns-clause-after_the_acknowledgement : goal.returns-clause-after_the_acknowledgement
returns-clause-after_the_acknowledgement c = after_the_acknowledgement

pub returns-clause-once : goal.returns-clause-once
returns-clause-once c = once

pub returns-clause-nowhere_else : goal.returns-clause-nowhere_else
returns-clause-nowhere_else c = nowhere_else
