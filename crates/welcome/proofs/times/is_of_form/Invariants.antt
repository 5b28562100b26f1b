use Rattle.welcome.proofs.times.is_of_form.Given as goal
use Rattle.{irc_line.specs.Tags.has_form, std.proofs.Common.{length, ◌≡◌}}

-- what is left decides
abbrev pub invariant-loop-form : goal.invariant-loop-form
invariant-loop-form l = has_form l.form l.text ≡ has_form l.fn.form l.fn.text

abbrev pub decreases-loop-form : goal.decreases-loop-form
decreases-loop-form l = length l.form
