use Rattle.irc_line.proofs.splitter.read_segment.Goals as goal
use Rattle.irc_line.specs.{Line.Parts, Lines.{is_blank, is_skipped}, Reading.{is_line, line_of}}
use Rattle.{irc_line.specs.Reading.parts_of, std.proofs.Common.{Bool, List, None, Some, arith, cond}}
use Rattle.std.proofs.Common.{false, not, sym, ℕ, ◌&&◌, ◌∙◌, ◌≡◌}

kept : (is blank : Bool) (p line : Parts) → cond is (Some p) None ≡ Some line
    → false ≡ (not is && not blank)
kept is blank p line e = grind arith

-- a line is not skipped
line_kept : (text : List ℕ) (line : Parts) → line_of text ≡ Some line → false ≡ is_skipped text
line_kept text line e = kept (is_line text) (is_blank text) (parts_of text) line e

pub returns-in_ok-push-in-Some-clause-skips : goal.returns-in_ok-push-in-Some-clause-skips
returns-in_ok-push-in-Some-clause-skips g c =
    rw c.strip_cr-text.ensures at
    (line_kept c.strip_cr-text.result.now c.in-Some.line
    (sym c.in_ok-line.ensures.value ∙ c.in-Some.is))
