use Rattle.quick_view.proofs.table_view.TableViewNetworkView.take.Goals as goal
use Rattle.net_view.{proofs.{Commands.is_read, StepLaw.view_unchanged}, specs.Arrival.Lost}
use Rattle.{net_view.specs.Arrival.Received, quick_view.proofs.TakeLemmas.{after_line, line_taken}}
use Rattle.quick_view.proofs.TakeLemmas.{loss_taken, on_ok, still_from_lines}
use Rattle.std.proofs.Common.{◌∙◌, ap, is_some, sym}

pub invariant_of-self : goal.invariant_of-self
invariant_of-self g c =
    after_line _ _ c.in-Line.line c.take_line.result c.take_line.ensures.taken
    c.take_line.ensures.kept c.self.invariant c.in-Some.ensures.writable

pub invariant_of-self-in-Lost : goal.invariant_of-self-in-Lost
invariant_of-self-in-Lost g c =
    let from = c.self.invariant in
    still_from_lines _ (from.0) Lost (from.1) tt (loss_taken _ _ (from.0) (from.2) c.lose.ensures)

pub returns-in-Some-clause-taken : goal.returns-in-Some-clause-taken
returns-in-Some-clause-taken g c items e =
    on_ok c.take_line.result c.take_line.ensures.taken (λ taken.
    rw c.in-Line.is (line_taken _ _ items c.in-Line.line (c.self.view_is ∙ e) taken))

pub returns-in-Some-clause-free : goal.returns-in-Some-clause-free
returns-in-Some-clause-free g c e =
    let read = rw (is_read c.in-Line.line) at (ap is_some c.in-Some.ensures.value) in
    let free = rw c.in-Line.is at e in
    absurd (cc (read, free))

pub returns-in-None-clause-taken : goal.returns-in-None-clause-taken
returns-in-None-clause-taken g c items e =
    let line = c.in-Line.line in
    rw c.in-Line.is (e ∙ sym (view_unchanged items (Received line) (sym (is_read line)
    ∙ ap is_some (sym c.in-None.ensures.value))))

pub returns-in-Lost-clause-taken : goal.returns-in-Lost-clause-taken
returns-in-Lost-clause-taken g c items e =
    rw c.in-Lost.is (loss_taken _ _ items (c.self.view_is ∙ e) c.lose.ensures)
