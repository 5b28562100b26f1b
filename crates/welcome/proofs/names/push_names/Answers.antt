use Rattle.welcome.proofs.names.push_names.Goals as goal
use Rattle.welcome.proofs.{TokenRows.{names_by_texts, row_ends, word_begins, word_goes}, Words.◌∙◌}
use Rattle.welcome.proofs.Words.{ap, on_ok_weaker, sym}

pub loop-member-init : goal.loop-member-init
loop-member-init g c =
    let v = g.V.NetworkView.view c.args.view.now in
    let all = names_by_texts v c.args.caps.multi_prefix c.args.i c.args.name.now in
    record { is = rw (c.own_nick-nick.ensures, c.new-row.ensures.items, c.of-members.ensures, all) }

pub loop-member-preserved : goal.loop-member-preserved
loop-member-preserved g c =
    let is = rw c.in-Some.ensures at c.loop-member.invariant in
    let bytes = rw c.clear.ensures.items at c.in_ok-push_member.ensures in
    let has = rw (c.len.ensures, c.loop-member.row.ok.0, c.deref.ensures.value, bytes) at c.has_room.ensures in
    let after = rw (c.deref-in-Some.ensures.value, bytes) at c.in_ok-push_word.ensures in
    elim c.if-not-has_room.branch [
      | goal.then-not-has_room+in_ok-push_row u ↦
          word_begins is after (sym has ∙ u.if-not-has_room.true)
          (rw (u.text-is, u.in_ok-push_row.ensures, u.deref-then-not-has_room.ensures.value))
          (rw (u.row-is, u.clear-then-not-has_room.ensures.items)) u.is_begun-is
      | goal.else-not-has_room u ↦
          word_goes is after (sym has ∙ u.if-not-has_room.false)
          (ap (λ t. t.items) u.text-is) (ap (λ t. t.items) u.row-is) u.is_begun-is
    ]

pub returns : goal.returns
returns g c =
    on_ok_weaker c.push_row-2.result (λ pushed. rw c.deref-2.ensures.value at pushed
    ∙ row_ends (rw c.in_default.ensures.0 at c.loop-member.invariant)) c.push_row-2.ensures
