-- How a login ends.
use Rattle.{irc_line.{proofs.Logic.or_true, specs.Line.Parts}, sessions.proofs.LookedBack.any_more}
use Rattle.sessions.{proofs.LookedBack.any_stage_more, specs.Answers.{answer_to, claim_in, closes}}
use Rattle.sessions.specs.Answers.{ends_by, has_ended, is_end, is_quit, replies, sends}
use Rattle.{sessions.specs.{Claims.ClaimParts, Given.{is_complete, stages}}, std.proofs.Common.◌∙◌}
use Rattle.std.proofs.Common.{None, Option, Some, append-nil, append_assoc, arith, length-append}
use Rattle.std.{proofs.{Common.refl, lemmas.Bool.Decides.nat_tests}, specs.List.list_any}
use Rattle.std.specs.Prelude.{◌++◌, ◌+◌, ◌==◌, ◌||◌, ◌∷◌, ◌≡◌, Bool, List, [], false, if◌then◌else◌}
use Rattle.std.specs.Prelude.{length, nat_le, true, ℕ}

ended_more : (before : List Parts) (line : Parts) → has_ended (before ++ line ∷ [])
    ≡ ((list_any is_quit before || is_quit line)
    || ((list_any is_complete (stages before) || is_complete (before ++ line ∷ []))
    || nat_le 200 (length before + 1)))
ended_more before line =
    rw (any_more is_quit before line, any_stage_more is_complete before line)
    (rw (length-append before (line ∷ [])))

ends : (claim : Option ClaimParts) → is_end (ends_by claim) ≡ true
ends (Some claim) = refl
ends None = refl

-- one more line, by what had come of each kind
step_at : (q quit c complete : Bool) (n : ℕ) (claim : Option ClaimParts) (lines : List Parts)
    → ((q || quit) || ((c || complete) || nat_le 200 (n + 1)))
    ≡ ((q || (c || nat_le 200 n)) || is_end (if q || (c || nat_le 200 n) then sends [] else
    if quit then closes [] else if complete then ends_by claim else
    if n == 199 then closes [] else sends lines))
step_at q quit c complete n claim lines = grind (arith, nat_tests, ends claim)

-- it has ended after one more line if it had ended, or this line's answer is its end
pub ended_step : (before : List Parts) (line : Parts)
    → has_ended (before ++ line ∷ []) ≡ (has_ended before || is_end (answer_to before line))
ended_step before line =
    ended_more before line
    ∙ step_at (list_any is_quit before) (is_quit line) (list_any is_complete (stages before))
    (is_complete (before ++ line ∷ [])) (length before) (claim_in (before ++ line ∷ []))
    (replies before line)

-- what has ended stays so
pub ended_stays : (before : List Parts) (line : Parts) → has_ended before ≡ true
    → has_ended (before ++ line ∷ []) ≡ true
ended_stays before line ended = rw (ended_step before line, ended)

ended_for_good : (before after : List Parts) → has_ended before ≡ true
    → has_ended (before ++ after) ≡ true
ended_for_good before [] ended = rw append-nil ended
ended_for_good before (x ∷ xs) ended =
    rw (← append_assoc before (x ∷ []) xs)
    (ended_for_good (before ++ x ∷ []) xs (ended_stays before x ended))

-- what follows the end is answered by nothing
pub nothing_more : (before : List Parts) (line : Parts) → is_end (answer_to before line) ≡ true
    → (after : List Parts) (next : Parts) → answer_to (before ++ line ∷ after) next ≡ sends []
nothing_more before line ends after next =
    let ended : has_ended (before ++ line ∷ []) ≡ true = rw (ended_step before line, ends, or_true)
    in
    let all : has_ended (before ++ line ∷ after) ≡ true =
    rw (← append_assoc before (line ∷ []) after) (ended_for_good (before ++ line ∷ []) after ended)
    in
    rw all

-- ---- one more line if it has not ended

pub ends_complete : (before : List Parts) (line : Parts)
    → is_complete (before ++ line ∷ []) ≡ true → has_ended (before ++ line ∷ []) ≡ true
ends_complete before line complete = grind (arith, ended_more before line)

pub ends_at_200 : (before : List Parts) (line : Parts) → length before ≡ 199
    → has_ended (before ++ line ∷ []) ≡ true
ends_at_200 before line last = grind (arith, nat_tests, ended_more before line)

pub goes_on : (before : List Parts) (line : Parts) → has_ended before ≡ false
    → is_quit line ≡ false → is_complete (before ++ line ∷ []) ≡ false
    → (length before ≡ 199 → ⊥) → has_ended (before ++ line ∷ []) ≡ false
goes_on before line going quit complete last = grind (arith, nat_tests, ended_more before line)
