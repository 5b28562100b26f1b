use Rattle.irc_support.proofs.name_list.next_word.Goals as goal
use Rattle.irc_support.proofs.{WordCuts.cut_word, name_list.next_word.Goals.{in-None, in-Some}}
use Rattle.{irc_support.specs.Text.cut_at, std.proofs.Common.{[], sym, unwrap_or, ◌≡◌}}

pub returns-then-not-is_empty : goal.returns-then-not-is_empty
returns-then-not-is_empty c =
    let behind = c.cut.ensures.behind in
    let rest : c.match-rest.left.now ≡ unwrap_or (cut_at 32 c.loop-left.left.now).1 [] =
    elim c.match-rest.branch [
      | in-Some w ↦ rw (w.left-is, ← behind, w.in-Some.is)
      | in-None w ↦ rw (w.left-is, ← behind, w.in-None.is)
    ] in
    rw (← c.loop-left.invariant)
    (cut_word c.loop-left.left.now _ _ c.cut.ensures.before rest (sym c.if-not-is_empty.ensures))
