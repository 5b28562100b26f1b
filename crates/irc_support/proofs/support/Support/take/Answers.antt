use Rattle.irc_support.proofs.support.Support.take.Goals as goal
use Rattle.{irc_line.specs.Line.has_command, irc_support.specs.{Edits.tokens_in, Tokens.set_tokens}}
use Rattle.{irc_support.proofs.PendingTokens.AreApart-fold, std.proofs.Common.{◌≡◌, codes, true}}

pub invariant_of-self-2 : goal.invariant_of-self-2
invariant_of-self-2 g c =
    let before = tokens_in c.self.inside.tokens.entries in
    let done = c.in_ok-pending.ensures before c.self.invariant.2 in (
      c.prefix_in-self-inside.ensures,
      c.mapping_in-self-inside.ensures,
      rw (c.make-self-inside.ensures.after, c.in_ok-reserve.ensures.entries, ← done)
          (AreApart-fold c.in_ok-edits.field-0.items before c.self.invariant.2),
      c.make-self-inside.ensures.bytes,
      c.kinds_in-self-inside.ensures,
    )

pub returns-clause-taken : goal.returns-clause-taken
unfolding set_tokens
returns-clause-taken g c =
    let yes : has_command c.args.line.now (codes "005") ≡ true = cc in
    let before = tokens_in c.self.inside.tokens.entries in
    let done = c.in_ok-pending.ensures before c.self.invariant.2 in
    rw (yes, c.make-self-inside.ensures.after, c.in_ok-reserve.ensures.entries, ← done, c.self.view_is)
    (c.in_ok-edits.ensures c.args.self.now)
