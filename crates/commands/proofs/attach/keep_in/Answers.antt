use Rattle.commands.proofs.attach.keep_in.Goals as goal
use Rattle.commands.{proofs.AttachLemmas.{message_more, no_message}, specs.Attach.{history_by, message_by}}
use Rattle.{history.specs.Messages.Messages, std.proofs.Common.{[], ap, subst, sym, ◌++◌, ◌∙◌, ◌∷◌}}
use Rattle.std.proofs.Common.{◌≡◌}

pub returns-in_default-entry-clause-kept : goal.returns-in_default-entry-clause-kept
returns-in_default-entry-clause-kept c k items x is kept =
    let was = rw c.in-Some.is at kept in
    let none = is ∙ c.in_default-entry.is in (
      no_message (message_by k) c.in-Some.recent.capacity items x c.in-Some.recent was.0 none,
      was.1,
    )

pub returns-in-Ok-clause-kept : goal.returns-in-Ok-clause-kept
returns-in-Ok-clause-kept c k items x is kept =
    let was = rw c.in-Some.is at kept in
    let more =
    c.in-Ok.ensures.ok.1
    ∙ message_more (message_by k) c.in-Some.recent.capacity items x c.in-Some-entry.entry
    c.in-Ok.field-0 c.in-Some.recent was.0 c.in-Ok.ensures.ok.0 (is ∙ c.in-Some-entry.is) in (
      subst (λ n. c.add.new.self ≡ history_by k n (items ++ x ∷ []))
          (sym (ap (λ (h : Messages). h.capacity) c.in-Ok.ensures.ok.1)) more,
      c.add.ensures.written (rw c.in-Some-entry.is at c.requires) was.1,
    )
