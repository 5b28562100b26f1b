use Rattle.bnc_config.proofs.AddressLemmas.{is_ip-other, is_ip-text}
use Rattle.bnc_config.proofs.allowed.is_ip.Goals as goal

pub returns-in-Ok : goal.returns-in-Ok
returns-in-Ok c = is_ip-text c.args.text.now c.in-Ok.field-0 c.in-Ok.ensures

pub returns-in-Err : goal.returns-in-Err
returns-in-Err c = is_ip-other c.args.text.now c.in-Err.ensures
