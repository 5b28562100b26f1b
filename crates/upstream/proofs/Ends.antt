-- How a registration ends.
use Rattle.upstream.specs.declared.said.Said.TheVariants as says
use Rattle.upstream.specs.declared.registration.RegisterFault.TheVariants as fault
use Rattle.sasl.specs.Login as login
use Rattle.{bnc_config.specs.Settings.{NetworkSettings, SaslSettings}, irc_line.specs.Line.Parts}
use Rattle.std.proofs.Common.{Bool, List, None, Option, Some, [], ap, not, append-nil, append_assoc, arith, cond}
use Rattle.std.proofs.Common.{false, length, refl, sym, true, ℕ, ◌++◌, ◌+◌, ◌||◌, ◌∙◌, ◌∷◌, ◌≡◌}
use Rattle.std.proofs.Math.Bool.{or-false, or_assoc}
use Rattle.std.proofs.lemmas.Bool.{Decides.nat_tests, both_ways, or_right}
use Rattle.std.proofs.lemmas.List.{Folds.list_any-append, Sums.sum_by_push, length_push}
use Rattle.upstream.specs.declared.account.AccountLogin.{AccountLogin}
use Rattle.std.specs.{List.list_any, Prelude.{if◌then◌else◌, is_some, nat_le}}
use Rattle.upstream.specs.{Progress.Progress, Registration.{answer_to, fails, fails_or}}
use Rattle.upstream.specs.Registration.{Answer, answer_of_login, answer_to_welcome, fails_behind}
use Rattle.sasl.specs.Login.{is_failed}
use Rattle.upstream.specs.Registration.{has_login_failed, login_or, needs_no_login}
use Rattle.upstream.specs.Registration.{fault_of, has_ended, heard, is_end, is_final, is_in_use}
use Rattle.upstream.specs.Registration.{is_welcome, join_lines, offered_by, reply_to, sends}
use Rattle.upstream.specs.{Registration.{tries_in, welcomes}, Taken.{HasTaken, IsAt, IsLoginAt}}
use Rattle.upstream.specs.declared.{registration.RegisterFault.RegisterFault, said.Said.Said}

abbrev any_final : NetworkSettings → List Parts → Bool
any_final network lines = list_any (λ line. is_final (heard network line)) lines

tries_more : (network : NetworkSettings) (before : List Parts) (line : Parts)
    → tries_in network (before ++ line ∷ []) ≡ tries_in network before + cond (is_in_use (heard network line)) 1 0
tries_more network before line = sum_by_push (λ x. cond (is_in_use (heard network x)) 1 0) before line

-- one line more, of a login
failed_append : (account : Option SaslSettings) (done a b : List Parts)
    → fails_behind account done (a ++ b)
    ≡ (fails_behind account done a || fails_behind account (done ++ a) b)
failed_append account done [] b = rw append-nil refl
failed_append account done (x ∷ xs) b =
    rw (failed_append account (done ++ x ∷ []) xs b, append_assoc done (x ∷ []) xs)
    (sym (or_assoc (is_failed (answer_of_login account done x))
    (fails_behind account (done ++ x ∷ []) xs) (fails_behind account (done ++ x ∷ xs) b)))

failed_more : (network : NetworkSettings) (before : List Parts) (line : Parts)
    → has_login_failed network (before ++ line ∷ [])
    ≡ (has_login_failed network before || is_failed (answer_of_login network.sasl before line))
failed_more network before line = failed_append network.sasl [] before (line ∷ []) ∙ rw or-false

ended_more : (network : NetworkSettings) (before : List Parts) (line : Parts)
    → has_ended network (before ++ line ∷ [])
    ≡ ((any_final network before || (is_final (heard network line) || false))
    || ((has_login_failed network before || is_failed (answer_of_login network.sasl before line))
    || (nat_le 4 (tries_in network before + cond (is_in_use (heard network line)) 1 0)
    || nat_le 10000 (length before + 1))))
ended_more network before line =
    rw (list_any-append (λ x. is_final (heard network x)) before (line ∷ []))
    (rw (failed_more network before line, tries_more network before line, length_push before line))

-- what a line says, after this many lines and tries
step_at : (network : NetworkSettings) (final lost : Bool) (before reply : List Parts) (w : Answer) (a : login.Answer) (s : Said)
    → is_end w ≡ true
    → ((final || (is_final s || false)) || ((lost || is_failed a)
    || (nat_le 4 (tries_in network before + cond (is_in_use s) 1 0) || nat_le 10000 (length before + 1))))
    ≡ ((final || (lost || (nat_le 4 (tries_in network before) || nat_le 10000 (length before))))
    || is_end (if final || (lost || (nat_le 4 (tries_in network before) || nat_le 10000 (length before)))
    then sends [] else if is_welcome s then w
    else fails_or (fault_of network before s) (login_or a reply)))
step_at network final lost before reply w a s ends = grind (arith, nat_tests)

end_of_choice : (b : Bool) (f : RegisterFault) (lines : List Parts)
    → is_end (if b then welcomes lines else fails f) ≡ true
end_of_choice b f lines = grind arith

welcome_ends : (network : NetworkSettings) (before : List Parts)
    → is_end (answer_to_welcome network before) ≡ true
welcome_ends network before =
    end_of_choice (needs_no_login network.sasl before) fault.SaslFailed (join_lines network)

-- it has ended after one more line if it had ended, or this line's answer is its end
pub ended_step : (network : NetworkSettings) (before : List Parts) (line : Parts)
    → has_ended network (before ++ line ∷ [])
    ≡ (has_ended network before || is_end (answer_to network before line))
ended_step network before line =
    ended_more network before line
    ∙ step_at network (any_final network before) (has_login_failed network before) before
    (reply_to network before line (heard network line)) (answer_to_welcome network before)
    (answer_of_login network.sasl before line) (heard network line) (welcome_ends network before)

-- what has ended stays so
pub ended_stays : (network : NetworkSettings) (before : List Parts) (line : Parts)
    → has_ended network before ≡ true → has_ended network (before ++ line ∷ []) ≡ true
ended_stays network before line ended = ended_step network before line ∙ rw ended

ended_for_good : (network : NetworkSettings) (before after : List Parts) → has_ended network before ≡ true
    → has_ended network (before ++ after) ≡ true
ended_for_good network before [] ended = rw append-nil ended
ended_for_good network before (x ∷ xs) ended =
    rw (← append_assoc before (x ∷ []) xs)
    (ended_for_good network (before ++ x ∷ []) xs (ended_stays network before x ended))

-- what follows the end is answered by nothing
pub nothing_more : (network : NetworkSettings) (before : List Parts) (line : Parts)
    → is_end (answer_to network before line) ≡ true → (after : List Parts) (next : Parts)
    → answer_to network (before ++ line ∷ after) next ≡ sends []
nothing_more network before line ends after next =
    let ended : has_ended network (before ++ line ∷ []) ≡ true =
    ended_step network before line ∙ or_right (has_ended network before) _ ends in
    let all = ended_for_good network (before ++ line ∷ []) after ended in
    rw (rw (append_assoc before (line ∷ []) after) at all)

-- ---- one more line if it has not ended, by what it says

no_welcome : (s : Said) → (s ≡ says.Welcome → ⊥) → is_welcome s ≡ false
no_welcome s h = grind arith

module _ (network : NetworkSettings) (before : List Parts) (line : Parts) (s : Said)
    (going : has_ended network before ≡ false) (is : s ≡ heard network line) where
  pub ends_by_welcome : s ≡ says.Welcome → has_ended network (before ++ line ∷ []) ≡ true
  ends_by_welcome welcome =
      ended_step network before line
      ∙ rw (going, ← is, welcome) (welcome_ends network before)

  pub answer_by_welcome : s ≡ says.Welcome
      → answer_to network before line ≡ answer_to_welcome network before
  answer_by_welcome welcome = rw (going, ← is, welcome)

  module _ (other : s ≡ says.Welcome → ⊥) where
    pub answer_by_fault : (f : RegisterFault) → Some f ≡ fault_of network before s
        → answer_to network before line ≡ fails f
    answer_by_fault f found = rw (going, ← is, no_welcome s other, ← found)

    pub ends_by_fault : (f : RegisterFault) → Some f ≡ fault_of network before s
        → has_ended network (before ++ line ∷ []) ≡ true
    ends_by_fault f found =
        ended_step network before line ∙ rw (answer_by_fault f found, going)

    module _ (none : None ≡ fault_of network before s) (reply : List Parts)
        (is_reply : reply ≡ reply_to network before line s) (a : login.Answer)
        (is_login : a ≡ answer_of_login network.sasl before line) where
      pub answer_is : answer_to network before line ≡ login_or a reply
      answer_is = rw (going, ← is, no_welcome s other, ← none, is_login, is_reply)

      pub ends_by_login : login_or a reply ≡ fails fault.SaslFailed
          → has_ended network (before ++ line ∷ []) ≡ true
      ends_by_login failed = ended_step network before line ∙ rw (answer_is, going, failed)

      pub goes_on : (lines : List Parts) → login_or a reply ≡ sends lines
          → has_ended network (before ++ line ∷ []) ≡ false
      goes_on lines sent = ended_step network before line ∙ rw (answer_is, going, sent)

-- there is a login if one is wanted
pub login_is_wanted : (account : Option SaslSettings) (lines : List Parts)
    (known : Option AccountLogin) → IsLoginAt account lines known → is_some known ≡ is_some account
login_is_wanted None lines None h = refl
login_is_wanted None lines (Some known) h = absurd h
login_is_wanted (Some account) lines None h = absurd h
login_is_wanted (Some account) lines (Some known) h = refl

pub none_wanted : (known : Option AccountLogin) (b : Bool) → is_some known ≡ not b → b ≡ true
    → is_some known ≡ false
none_wanted known b none is = none ∙ rw is

-- if it has ended, it knows so
pub taken_over : (network : NetworkSettings) (lines : List Parts) (register : Progress)
    → register.is_over ≡ true → has_ended network lines ≡ true → HasTaken network lines register
taken_over network lines register over ended =
    record { over = over ∙ sym ended; going = λ still. absurd (both_ways _ still ended) }

-- what it knows after one more line, which the login has taken first
pub still_taken : (network : NetworkSettings) (before : List Parts) (line : Parts) (s : Said)
    (old mid new : Progress)
    → IsAt network before old → s ≡ heard network line → has_ended network (before ++ line ∷ []) ≡ false
    → old.is_over ≡ false → mid ≡ record old { login = mid.login }
    → IsLoginAt network.sasl (before ++ line ∷ []) mid.login
    → new.offered ≡ offered_by (before ++ line ∷ [])
    → new ≡ record mid {
      offered = new.offered;
      tries = mid.tries + cond (is_in_use s) 1 0;
      count = mid.count + 1;
    } → HasTaken network (before ++ line ∷ []) new
still_taken network before line s old mid new so_far is going on by_login known offered same =
    record {
      over = ap (λ (p : Progress). p.is_over) same ∙ ap (λ (p : Progress). p.is_over) by_login ∙ on ∙ sym going;
      going = λ _. record {
        nick = ap (λ (p : Progress). p.nick) same ∙ ap (λ (p : Progress). p.nick) by_login ∙ so_far.nick;
        joins = ap (λ (p : Progress). p.joins) same ∙ ap (λ (p : Progress). p.joins) by_login ∙ so_far.joins;
        offered = offered;
        tries = ap (λ (p : Progress). p.tries) same
            ∙ ap (λ t. t + cond (is_in_use s) 1 0) (ap (λ (p : Progress). p.tries) by_login ∙ so_far.tries)
            ∙ rw (is, tries_more network before line);
        count = ap (λ (p : Progress). p.count) same
            ∙ ap (λ n. n + 1) (ap (λ (p : Progress). p.count) by_login ∙ so_far.count)
            ∙ rw (length_push before line);
        login = rw (ap (λ (p : Progress). p.login) same) known;
        nicks = ap (λ (p : Progress). p.has_nicks) same
            ∙ ap (λ (p : Progress). p.has_nicks) by_login ∙ so_far.nicks;
      };
    }

pub not_in_use : (t : ℕ) (s : Said) → (s ≡ says.NickInUse → ⊥) → t + cond (is_in_use s) 1 0 ≡ t
not_in_use t s h = grind arith
