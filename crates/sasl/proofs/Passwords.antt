-- Two passwords of one account.
use Rattle.sasl.specs.declared.said.Said.TheVariants as says
use Rattle.irc_line.specs.Line.{Parts}
use Rattle.sasl.specs.Login.{answer_by, answer_to, is_answered, is_failed, nothing, sends}
use Rattle.sasl.specs.{Response.{response_lines, response_of}, Said.said}
use Rattle.sasl.specs.declared.said.Said.{Said}
use Rattle.std.proofs.Common.{Bool, List, Some, false, refl, sym, true, ℕ, ◌∙◌, ◌≡◌}
use Rattle.std.specs.Prelude.{if◌then◌else◌}

sent_is_no_failure : (b : Bool) (lines : List Parts)
    → is_failed (if b then sends lines else nothing) ≡ false
sent_is_no_failure true lines = refl
sent_is_no_failure false lines = refl

module _ (user one other : List ℕ) (before : List Parts) (line : Parts) where
  failed_by : (s : Said) → is_failed (answer_by (Some (user, one)) before line s)
      ≡ is_failed (answer_by (Some (user, other)) before line s)
  failed_by says.Acknowledged = refl
  failed_by says.Go =
      sent_is_no_failure (is_answered before line) (response_lines (response_of (Some (user, one))))
      ∙ sym (sent_is_no_failure (is_answered before line)
      (response_lines (response_of (Some (user, other)))))
  failed_by says.LoggedIn = refl
  failed_by says.Failed = refl
  failed_by says.Other = refl

  -- whether a line is the failure is not up to the password
  pub failed_alike : is_failed (answer_to (Some (user, one)) before line)
      ≡ is_failed (answer_to (Some (user, other)) before line)
  failed_alike = failed_by (said line)

  answered_by : (s : Said) → is_answered before line ≡ false
      → answer_by (Some (user, one)) before line s ≡ answer_by (Some (user, other)) before line s
  answered_by says.Acknowledged h = refl
  answered_by says.Go h = rw h
  answered_by says.LoggedIn h = refl
  answered_by says.Failed h = refl
  answered_by says.Other h = refl

  -- nor is the answer to a line for which the response is not sent
  pub answered_alike : is_answered before line ≡ false
      → answer_to (Some (user, one)) before line ≡ answer_to (Some (user, other)) before line
  answered_alike h = answered_by (said line) h
