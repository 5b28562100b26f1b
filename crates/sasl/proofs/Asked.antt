-- Whether the response was asked for.
use Rattle.sasl.specs.declared.said.Said.TheVariants as says
use Rattle.irc_line.specs.Line.{Parts}
use Rattle.sasl.specs.Login.{Answer, HasTaken, Progress, answer_by, answer_to, asked_behind, asks_behind}
use Rattle.sasl.specs.Login.{is_acknowledged, is_acknowledgement, is_answered, is_logged_in}
use Rattle.sasl.specs.Login.{is_request, is_success, nothing, sends, was_asked}
use Rattle.sasl.specs.Response.{Account, authenticate, cap_end, mechanism_of, response_lines}
use Rattle.sasl.specs.{Response.response_of, Said.said}
use Rattle.sasl.specs.declared.said.Said.{Said}
use Rattle.std.proofs.Common.{Bool, List, [], ap, append-nil, append_assoc, false, inl, inr, not, refl}
use Rattle.std.proofs.Common.{sym, true}
use Rattle.std.specs.Prelude.{if◌then◌else◌}
use Rattle.std.proofs.Common.{◌&&◌, ◌++◌, ◌||◌, ◌∙◌, ◌∷◌, ◌≡◌, ◌⊎◌}
use Rattle.std.proofs.{Math.Bool.or-false, lemmas.Bool.{and_parts, false≢true}}
use Rattle.std.proofs.lemmas.List.Folds.{list_any-append}

-- ---- Booleans

or_or : (p q r : Bool) → (p || (q || r)) ≡ ((p || q) || r)
or_or true q r = refl
or_or false q r = refl

or_true : (p : Bool) → (p || true) ≡ true
or_true true = refl
or_true false = refl

and_not_true : (p : Bool) → (p && not true) ≡ false
and_not_true true = refl
and_not_true false = refl

and_true : (p : Bool) → (p && true) ≡ p
and_true true = refl
and_true false = refl

and_false : (p : Bool) → (p && false) ≡ false
and_false true = refl
and_false false = refl

-- ---- lines more

-- some lines and then others
asked_append : (done a b : List Parts)
    → asked_behind done (a ++ b) ≡ (asked_behind done a || asked_behind (done ++ a) b)
asked_append done [] b = rw append-nil refl
asked_append done (x ∷ xs) b =
    rw (asked_append (done ++ x ∷ []) xs b, append_assoc done (x ∷ []) xs)
    (or_or (asks_behind done x) (asked_behind (done ++ x ∷ []) xs) (asked_behind (done ++ x ∷ xs) b))

-- one line more
asked_more : (before : List Parts) (line : Parts)
    → was_asked (before ++ line ∷ []) ≡ (was_asked before || asks_behind before line)
asked_more before line = asked_append [] before (line ∷ []) ∙ rw or-false

acknowledged_more : (before : List Parts) (line : Parts) → is_acknowledged (before ++ line ∷ [])
    ≡ (is_acknowledged before || is_acknowledgement (said line))
acknowledged_more before line =
    rw (list_any-append (λ x. is_acknowledgement (said x)) before (line ∷ []), or-false)

logged_in_more : (before : List Parts) (line : Parts) → is_logged_in (before ++ line ∷ [])
    ≡ (is_logged_in before || is_success (said line))
logged_in_more before line =
    rw (list_any-append (λ x. is_success (said x)) before (line ∷ []), or-false)

-- what a login knows after a line that says this
abbrev pub after : Said → Progress → Progress
after s login = record login {
  is_acknowledged = login.is_acknowledged || is_acknowledgement s;
  was_asked = login.was_asked || (login.is_acknowledged && is_request s);
  is_logged_in = login.is_logged_in || is_success s;
}

pub taken_more : (account : Account) (before : List Parts) (line : Parts) (s : Said)
    (old new : Progress) → HasTaken account before old → s ≡ said line → new ≡ after s old
    → HasTaken account (before ++ line ∷ []) new
taken_more account before line s old new so_far is same = rw same (record {
  mechanism = so_far.mechanism;
  response = so_far.response;
  is_acknowledged = rw (so_far.is_acknowledged, is, acknowledged_more before line);
  was_asked = rw (so_far.was_asked, so_far.is_acknowledged, is, asked_more before line);
  is_logged_in = rw (so_far.is_logged_in, is, logged_in_more before line);
})

-- the same, as a login changes
pub after_acknowledged : (p : Progress)
    → ◌≡◌ {A = Progress} (record p { is_acknowledged = true }) (after says.Acknowledged p)
after_acknowledged p =
    rw (or_true p.is_acknowledged, and_false p.is_acknowledged, or-false, or-false)

pub after_go : (p : Progress)
    → ◌≡◌ {A = Progress} (record p { was_asked = p.was_asked || p.is_acknowledged })
    (after says.Go p)
after_go p = rw (and_true p.is_acknowledged, or-false, or-false)

pub after_logged_in : (p : Progress)
    → ◌≡◌ {A = Progress} (record p { is_logged_in = true }) (after says.LoggedIn p)
after_logged_in p = rw (or_true p.is_logged_in, and_false p.is_acknowledged, or-false, or-false)

pub after_failed : (p : Progress) → p ≡ after says.Failed p
after_failed p = rw (and_false p.is_acknowledged, or-false, or-false, or-false)

pub after_other : (p : Progress) → p ≡ after says.Other p
after_other p = rw (and_false p.is_acknowledged, or-false, or-false, or-false)

-- ---- laws

answered_asks : (before : List Parts) (line : Parts) → is_answered before line ≡ true
    → asks_behind before line ≡ true
answered_asks before line h = (and_parts (asks_behind before line) _ h).0

pub after_the_acknowledgement : (before : List Parts) (line : Parts)
    → is_answered before line ≡ true → is_acknowledged before ≡ true
after_the_acknowledgement before line h =
    (and_parts (is_acknowledged before) _ (answered_asks before line h)).0

-- once asked, it stays so
asked_stays : (before after : List Parts) (line : Parts) → asks_behind before line ≡ true
    → was_asked (before ++ line ∷ after) ≡ true
asked_stays before after line h =
    asked_append [] before (line ∷ after) ∙ rw h (or_true (was_asked before))

pub once : (before : List Parts) (line : Parts) → is_answered before line ≡ true
    → (after : List Parts) (next : Parts) → is_answered (before ++ line ∷ after) next ≡ false
once before line h after next =
    rw (asked_stays before after line (answered_asks before line h)) (and_not_true _)

abbrev lines_in : Answer → List Parts
lines_in (sends lines) = lines
lines_in _ = []

abbrev is_sent : Answer → Bool
is_sent (sends lines) = true
is_sent _ = false

if_sent : (b : Bool) (some lines : List Parts)
    → (if b then sends some else nothing) ≡ sends lines → b ≡ true
if_sent true some lines h = refl
if_sent false some lines h = absurd (false≢true (ap is_sent h))

sent_by : (account : Account) (before : List Parts) (line : Parts) (lines : List Parts) (s : Said)
    → answer_by account before line s ≡ sends lines
    → (lines ≡ authenticate (mechanism_of account) ∷ []) ⊎ ((lines ≡ cap_end ∷ [])
    ⊎ (is_answered before line ≡ true))
sent_by account before line lines says.Acknowledged h = inl (sym (ap lines_in h))
sent_by account before line lines says.Go h =
    inr (inr (if_sent (is_answered before line) (response_lines (response_of account)) lines h))
sent_by account before line lines says.LoggedIn h = inr (inl (sym (ap lines_in h)))
sent_by account before line lines says.Failed h = absurd (false≢true (ap is_sent h))
sent_by account before line lines says.Other h = absurd (false≢true (ap is_sent h))

pub nowhere_else : (account : Account) (before : List Parts) (line : Parts) (lines : List Parts)
    → answer_to account before line ≡ sends lines
    → (lines ≡ authenticate (mechanism_of account) ∷ []) ⊎ ((lines ≡ cap_end ∷ [])
    ⊎ (is_answered before line ≡ true))
nowhere_else account before line lines h = sent_by account before line lines (said line) h
