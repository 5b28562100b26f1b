use Rattle.std.proofs.Common.{refl}
use Rattle.journal.proofs.Before.{begins}
use Rattle.journal.proofs.Beginnings.{if_ok}
use Rattle.journal.proofs.Files.{cut_file, damaged_file, whole_file}
use Rattle.journal.specs.Kept.{kept_parts, nothing}
use Rattle.journal.proofs.recalling.recall.Goals as goal

pub returns-clause-cut : goal.returns-clause-cut
returns-clause-cut c = λ rings batches n all are.
    if_ok c.recall_file.result _ _ (λ r k.
    cut_file (nothing c.args.capacity c.args.first) (kept_parts r.kept) r.rings rings
    c.args.bytes.now r.batches r.used r.damage batches n all are k)
    c.recall_file.ensures.recalls

pub returns-clause-whole : goal.returns-clause-whole
returns-clause-whole c = λ rings batches torn kept all none are done.
    if_ok c.recall_file.result _ _ (λ r k.
    whole_file (nothing c.args.capacity c.args.first) (kept_parts r.kept) kept r.rings rings
    c.args.bytes.now torn r.batches r.used r.damage batches all none are done k)
    c.recall_file.ensures.recalls

pub returns-clause-damaged : goal.returns-clause-damaged
returns-clause-damaged c = λ rings batches bad more kept why all fits are done fails.
    if_ok c.recall_file.result _ _ (λ r k.
    damaged_file (nothing c.args.capacity c.args.first) (kept_parts r.kept) kept r.rings rings
    c.args.bytes.now bad more r.batches r.used r.damage batches why all fits are done fails k)
    c.recall_file.ensures.recalls

pub returns-clause-begins : goal.returns-clause-begins
returns-clause-begins c =
    if_ok c.recall_file.result _ _ (λ r k.
    begins c.args.capacity c.args.first c.args.bytes.now r.rings r.batches r.used r.damage
    (nothing c.args.capacity c.args.first) (kept_parts r.kept) refl k)
    c.recall_file.ensures.recalls
