use Rattle.sessions.proofs.login.Login.line.Goals as goal
use Rattle.sessions.proofs.Ends.{ended_stays, ends_at_200, ends_complete, goes_on}
use Rattle.sessions.{proofs.LookedBack.last_more, specs.Given.given}
use Rattle.std.proofs.Common.{ap, codes, length-append, sym, ◌+◌, ◌∙◌}
use Rattle.std.{proofs.lemmas.Bool.both_ways, specs.Prelude.is_some}

pub returns-then-self-clause-taken : goal.returns-then-self-clause-taken
returns-then-self-clause-taken c = λ before taken.
    let so_far = rw (← c.self.view_is) at taken in
    let ended = ended_stays before c.args.line.now (sym so_far.over ∙ c.if-self.true) in
    rw (← c.self.view_is) (record {
      over = c.if-self.true ∙ sym ended;
      going = λ going. absurd (both_ways _ going ended);
    })

pub returns-in-Some-clause-taken : goal.returns-in-Some-clause-taken
returns-in-Some-clause-taken c = λ before taken.
    let so_far = rw (← c.self.view_is) at taken in
    let going = sym so_far.over ∙ c.if-self.false in
    let at = taken.going going in
    let now = c.after-negotiation.ensures before (so_far.going going).negotiation in
    let ready = c.is_ready_after-is_ready.ensures before at now in
    let complete = sym (c.in_ok-step.ensures.complete before at ready) ∙ ap is_some c.in-Some.is in
    let ended = ends_complete before c.args.line.now complete in
    record { over = sym ended; going = λ still. absurd (both_ways _ still ended) }

pub returns-then-self-eq199-clause-taken : goal.returns-then-self-eq199-clause-taken
returns-then-self-eq199-clause-taken c = λ before taken.
    let so_far = rw (← c.self.view_is) at taken in
    let count = (so_far.going (sym so_far.over ∙ c.if-self.false)).count in
    let ended = ends_at_200 before c.args.line.now (sym count ∙ c.if-self-eq199.true) in
    record { over = sym ended; going = λ still. absurd (both_ways _ still ended) }

pub returns-clause-taken : goal.returns-clause-taken
returns-clause-taken c = λ before taken.
    let so_far = rw (← c.self.view_is) at taken in
    let going = sym so_far.over ∙ c.if-self.false in
    let at = taken.going going in
    let was = so_far.going going in
    let line = c.args.line.now in
    let now = c.after-negotiation.ensures before was.negotiation in
    let ready = c.is_ready_after-is_ready.ensures before at now in
    let complete =
    sym (c.in_ok-step.ensures.complete before at ready) ∙ ap is_some c.in_default.is in
    let on = goes_on before line going (sym c.is.ensures ∙ c.if-is.false) complete
    (λ last. c.if-self-eq199.false (was.count ∙ last)) in
    record {
      over = c.if-self.false ∙ sym on;
      going = λ _. record {
        nick = c.has_nick_after-self-inside.ensures before at;
        user = rw (c.replace.ensures, c.in_ok-user.ensures, c.given.ensures, was.user)
            (sym (last_more (given (codes "USER")) before line));
        pass = rw (c.replace-2.ensures, c.in_ok-pass.ensures, c.given-2.ensures, was.pass)
            (sym (last_more (given (codes "PASS")) before line));
        negotiation = now;
        count = rw length-append (ap (λ n. n + 1) was.count);
      };
    }
