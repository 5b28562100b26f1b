use Rattle.bnc_config.proofs.PortLemmas.{is_port-err}
use Rattle.bnc_config.proofs.allowed.is_port.Goals as goal

pub returns-in-Err : goal.returns-in-Err
returns-in-Err c =
    is_port-err _ c.args.text.now c.in-Err.field-0 c.in-Err.ensures.value.0
    (rw c.as_bytes.ensures.value at c.if-not-has_digits_only.ensures)
