use Rattle.std.proofs.Common.{[], ◌++◌, ◌∷◌}
use Rattle.upstream.proofs.{Ends.{login_is_wanted, none_wanted}, OfferLemmas.names_are_offered}
use Rattle.upstream.proofs.registration.Register.reply_to.Goals.{in-LastList+in_ok-names-in-LastList+in_ok-reply-in-LastList, in-CapAnswered+in_ok-reply-in-CapAnswered, in-NickInUse+in_ok-reply-in-NickInUse, in-Ping+in_ok-reply-in-Ping}
use Rattle.upstream.proofs.registration.Register.reply_to.Goals as goal

-- one line is sent
pub returns : goal.returns
returns c = λ network before so_far with_line.
    rw (c.in_ok-push.ensures.items, c.in_ok-lines.ensures.items) (elim c.match-says.branch [
      | in-LastList+in_ok-names-in-LastList+in_ok-reply-in-LastList w ↦
          let offered = rw with_line at w.in_ok-names-in-LastList.ensures in
          let names = names_are_offered (before ++ c.args.line.now ∷ []) in
          let wanted = login_is_wanted network.sasl before c.args.self.now.login so_far.login in
          rw (w.in-LastList.is, w.reply-is, w.in_ok-reply-in-LastList.ensures)
          (rw (
            w.as_slice.ensures.value,
            offered,
            names,
            ← wanted,
            ← c.self.view_is,
            w.is_some.ensures,
          ))
      | in-CapAnswered+in_ok-reply-in-CapAnswered w ↦
          let wanted = login_is_wanted network.sasl before c.args.self.now.login so_far.login in
          let without = none_wanted c.self.inside.login _ w.is_none.ensures w.if-is_none.true in
          rw (w.in-CapAnswered.is, w.reply-is, w.in_ok-reply-in-CapAnswered.ensures)
          (rw (← wanted, ← c.self.view_is, without))
      | in-NickInUse+in_ok-reply-in-NickInUse w ↦
          rw (w.in-NickInUse.is, w.reply-is, w.in_ok-reply-in-NickInUse.ensures)
          (rw (w.as_slice-in-NickInUse.ensures.value, ← so_far.nick, ← so_far.tries, ← c.self.view_is))
      | in-Ping+in_ok-reply-in-Ping w ↦
          rw (w.in-Ping.is, w.reply-is, w.in_ok-reply-in-Ping.ensures)
    ])
