use Rattle.upstream.proofs.registration.Register.line.Goals as goal
use Rattle.std.proofs.Common.{false, refl, sym, true, ◌∙◌, ◌≡◌}
use Rattle.upstream.proofs.Ends.{answer_by_fault, answer_is, ended_stays, ends_by_fault}
use Rattle.upstream.proofs.Ends.{ends_by_login, ends_by_welcome, goes_on, not_in_use}
use Rattle.upstream.proofs.Ends.{still_taken, taken_over}
use Rattle.upstream.proofs.registration.Register.line.Goals.{in-NickInUse, in_default-heard}
use Rattle.upstream.specs.Registration.{has_ended}

pub returns-then-self-clause-taken : goal.returns-then-self-clause-taken
returns-then-self-clause-taken c = λ network before taken.
    let ended : has_ended network before ≡ true = rw (← taken.over, ← c.self.view_is) c.if-self.true in
    taken_over network _ c.args.self.now (rw (← c.self.view_is) c.if-self.true)
    (ended_stays network before c.args.line.now ended)

pub returns-in-Welcome-clause-taken : goal.returns-in-Welcome-clause-taken
returns-in-Welcome-clause-taken c = λ network before taken.
    let going : has_ended network before ≡ false = rw (← taken.over, ← c.self.view_is) c.if-self.false in
    let so_far = taken.going going in
    taken_over network _ _ c.welcomed.ensures.over
    (ends_by_welcome network before c.args.line.now c.heard-heard.result going
    (c.heard-heard.ensures network before so_far)
    c.in-Welcome.is)

pub returns-in-Some-clause-answer : goal.returns-in-Some-clause-answer
returns-in-Some-clause-answer c = λ network before taken.
    let going : has_ended network before ≡ false = rw (← taken.over, ← c.self.view_is) c.if-self.false in
    let so_far = taken.going going in
    sym (answer_by_fault network before c.args.line.now c.heard-heard.result going
    (c.heard-heard.ensures network before so_far)
    c.in_default.not-Welcome c.in-Some.fault
    (c.in-Some.ensures.fault network before so_far))

pub returns-in-Some-clause-taken : goal.returns-in-Some-clause-taken
returns-in-Some-clause-taken c = λ network before taken.
    let going : has_ended network before ≡ false = rw (← taken.over, ← c.self.view_is) c.if-self.false in
    let so_far = taken.going going in
    taken_over network _ _ refl
    (ends_by_fault network before c.args.line.now c.heard-heard.result going
    (c.heard-heard.ensures network before so_far)
    c.in_default.not-Welcome c.in-Some.fault
    (c.in-Some.ensures.fault network before so_far))

pub returns-in_default-lines_of-clause-answer : goal.returns-in_default-lines_of-clause-answer
returns-in_default-lines_of-clause-answer c = λ network before taken.
    let going : has_ended network before ≡ false = rw (← taken.over, ← c.self.view_is) c.if-self.false in
    let so_far = taken.going going in
    let offered = c.with-offered.ensures before (rw (← c.self.view_is) at so_far.offered) in
    sym (answer_is network before c.args.line.now c.heard-heard.result going
    (c.heard-heard.ensures network before so_far)
    c.in_default.not-Welcome (c.in_default-fault_of.ensures.fault network before so_far) _
    (c.in_ok-reply.ensures network before so_far offered) _
    (c.in_ok-login_step.ensures.answer network before so_far)
    ∙ c.in_default-lines_of.ensures.none)

pub returns-in_default-lines_of-clause-taken : goal.returns-in_default-lines_of-clause-taken
returns-in_default-lines_of-clause-taken c = λ network before taken.
    let going : has_ended network before ≡ false = rw (← taken.over, ← c.self.view_is) c.if-self.false in
    let so_far = taken.going going in
    let offered = c.with-offered.ensures before (rw (← c.self.view_is) at so_far.offered) in
    taken_over network _ _ refl
    (ends_by_login network before c.args.line.now c.heard-heard.result going
    (c.heard-heard.ensures network before so_far)
    c.in_default.not-Welcome (c.in_default-fault_of.ensures.fault network before so_far) _
    (c.in_ok-reply.ensures network before so_far offered) _
    (c.in_ok-login_step.ensures.answer network before so_far)
    c.in_default-lines_of.ensures.none)

pub returns-clause-answer : goal.returns-clause-answer
returns-clause-answer c = λ network before taken.
    let going : has_ended network before ≡ false = rw (← taken.over, ← c.self.view_is) c.if-self.false in
    let so_far = taken.going going in
    let offered = c.with-offered.ensures before (rw (← c.self.view_is) at so_far.offered) in
    sym (answer_is network before c.args.line.now c.heard-heard.result going
    (c.heard-heard.ensures network before so_far)
    c.in_default.not-Welcome (c.in_default-fault_of.ensures.fault network before so_far) _
    (c.in_ok-reply.ensures network before so_far offered) _
    (c.in_ok-login_step.ensures.answer network before so_far)
    ∙ c.in-Some-lines_of.ensures.some)

pub returns-clause-taken : goal.returns-clause-taken
returns-clause-taken c = λ network before taken.
    let going : has_ended network before ≡ false = rw (← taken.over, ← c.self.view_is) c.if-self.false in
    let so_far = taken.going going in
    let offered = c.with-offered.ensures before (rw (← c.self.view_is) at so_far.offered) in
    let on =
    goes_on network before c.args.line.now c.heard-heard.result going
    (c.heard-heard.ensures network before so_far)
    c.in_default.not-Welcome (c.in_default-fault_of.ensures.fault network before so_far) _
    (c.in_ok-reply.ensures network before so_far offered) _
    (c.in_ok-login_step.ensures.answer network before so_far) _
    c.in-Some-lines_of.ensures.some in
    let over : c.args.self.now.is_over ≡ false = rw (← c.self.view_is) c.if-self.false in
    let known = c.in_ok-login_step.ensures.taken network before so_far in
    elim c.match-heard-2.branch [
      | in-NickInUse w ↦
          rw w.self-is
          (still_taken network before c.args.line.now c.heard-heard.result c.args.self.now
          c.login_step.new.self _ so_far
          (c.heard-heard.ensures network before so_far) on over
          c.in_ok-login_step.ensures.rest known offered
          (rw (← c.self-2.view_is, w.in-NickInUse.is) refl))
      | in_default-heard w ↦
          rw w.self-is
          (still_taken network before c.args.line.now c.heard-heard.result c.args.self.now
          c.login_step.new.self _ so_far
          (c.heard-heard.ensures network before so_far) on over
          c.in_ok-login_step.ensures.rest known offered
          (rw (← c.self-2.view_is, not_in_use _ _ w.in_default-heard.not-NickInUse) refl))
    ]
