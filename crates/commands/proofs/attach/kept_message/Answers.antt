use Rattle.commands.proofs.attach.kept_message.Goals as goal
use Rattle.commands.{proofs.AttachLemmas.kept_in, specs.Attach.message_in}
use Rattle.history.specs.Keeping.{kept_by}
use Rattle.{irc_line.specs.Tags.time_of, net_view.specs.Arrival.Received}
use Rattle.client_caps.specs.Moment.{time_text_of}
use Rattle.std.proofs.Common.{arith, true, ◌∙◌, ◌≡◌}
use Rattle.std.{proofs.lemmas.Result.IfOk-weaker, specs.Option.{option_map, unwrap_or}}

pub returns-clause-made : goal.returns-clause-made
returns-clause-made c =
    let line = c.args.line.now in
    let time = unwrap_or (time_of line) (time_text_of 0) in
    let kept : true ≡ c.is_kept_heard.result = grind (arith, c.if-not-is_kept_heard.false) in
    IfOk-weaker c.message_of.result _ _ (λ entry made. made
    ∙ kept_in (kept_by c.args.keeping.now) (message_in (Received line))
    (option_map (λ name. name.now) c.ring_heard.result)
    (kept ∙ c.is_kept_heard.ensures time) (c.ring_heard.ensures time)) c.message_of.ensures.made
