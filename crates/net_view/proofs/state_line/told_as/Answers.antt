use Rattle.net_view.proofs.state_line.told_as.Goals as goal
use Rattle.net_view.proofs.{Commands.{has_found, told_read}, Words.{arith, state_lines}}

pub returns-in-Join : goal.returns-in-Join
unfolding state_lines
returns-in-Join g c s = search (arith, told_read s c.args.line.now c.args.command c.requires)

pub told_by_mode-telling-requires : goal.told_by_mode-telling-requires
told_by_mode-telling-requires g c = grind (arith, has_found c.args.line.now)

pub told_by_mode_reply-telling-requires : goal.told_by_mode_reply-telling-requires
told_by_mode_reply-telling-requires g c = grind (arith, has_found c.args.line.now)

pub told_by_names-telling-requires : goal.told_by_names-telling-requires
told_by_names-telling-requires g c = grind (arith, has_found c.args.line.now)

pub returns : goal.returns
unfolding state_lines
returns g c s =
    let read = told_read s c.args.line.now c.args.command c.requires in
    elim c.match-command.branch [
      | goal.in-Welcome w ↦ grind (arith, read, w.told_by_welcome-telling.ensures s)
      | goal.in-Isupport w ↦ grind (arith, read)
      | goal.in-EndOfMotd w ↦ search (arith, read)
      | goal.in-Part w ↦ grind (arith, read, w.told_by_part-telling.ensures s)
      | goal.in-Kick w ↦ grind (arith, read, w.told_by_kick-telling.ensures s)
      | goal.in-Quit w ↦ grind (arith, read, w.told_by_quit-telling.ensures s)
      | goal.in-Nick w ↦ grind (arith, read, w.told_by_nick-telling.ensures s)
      | goal.in-Mode w ↦ grind (arith, read, w.told_by_mode-telling.ensures s)
      | goal.in-ModeReply w ↦ grind (arith, read, w.told_by_mode_reply-telling.ensures s)
      | goal.in-Topic w ↦ grind (arith, read, w.told_by_topic_at-telling.ensures s)
      | goal.in-TopicReply w ↦
          grind (arith, read, w.told_by_topic_at-telling-in-TopicReply.ensures s)
      | goal.in-NoTopic w ↦ grind (arith, read, w.told_by_no_topic-telling.ensures s)
      | goal.in-Names w ↦ grind (arith, read, w.told_by_names-telling.ensures s)
      | goal.in-Account w ↦ grind (arith, read, w.told_by_account-telling.ensures s)
      | goal.in-Away w ↦ grind (arith, read, w.told_by_away-telling.ensures s)
    ]
