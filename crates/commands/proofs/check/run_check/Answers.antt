use Rattle.std.proofs.Common.{Err, Ok, Result}
use Rattle.std.proofs.lemmas.Result.{IfErr-weaker}
use Rattle.std.specs.Prelude.{OnOk}
use Rattle.commands.proofs.check.run_check.Goals as goal

-- what follows from what holds of a value
on_ok : {T E : Type 0} (r : Result T E) (P Q : Type 0) → (P → Q) → OnOk r P → OnOk r Q
on_ok (Ok x) P Q f p = f p
on_ok (Err e) P Q f p = tt

pub returns-in-Ok-clause-written : goal.returns-in-Ok-clause-written
returns-in-Ok-clause-written g c =
    on_ok c.write_report.result _ _ (λ appends. (_, c.in-Ok.ensures, appends))
    c.write_report.ensures.written

pub returns-in-Ok-clause-refused : goal.returns-in-Ok-clause-refused
returns-in-Ok-clause-refused g c =
    IfErr-weaker c.write_report.result _ _ (λ y e. rw e (_, c.in-Ok.ensures))
    c.write_report.ensures.refused
