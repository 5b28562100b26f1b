use Rattle.tape_view.proofs.tape.Tape.next.Goals as goal
use Rattle.{net_view.proofs.Keys.bytes_exact, tape_view.proofs.NextKey.{next_all, next_line}}
use Rattle.tape_view.proofs.{PlacedKeys.{brought_up, gone}, Words.{is_there, meant, names_in}}
use Rattle.tape_view.proofs.Words.{nat_list_cmp_total}

pub loop-said-preserved : goal.loop-said-preserved
loop-said-preserved g c =
    next_line nat_list_cmp_total bytes_exact c.in-Some.ensures.last _
    (λ s. names_in c.args.table (meant s c.in-Some.said.telling)) _ _ _
    (brought_up c.in-Some.ensures.last c.args.table) c.best_told-best.ensures c.loop-said.invariant

pub returns : goal.returns
returns g c =
    next_all (λ tape. is_there tape c.args.table) _ _ _ _
    (gone c.loop-said.tape c.args.table c.in_default.ensures.none) c.loop-said.invariant
