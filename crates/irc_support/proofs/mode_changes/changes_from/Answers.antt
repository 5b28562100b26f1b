use Rattle.irc_support.proofs.mode_changes.changes_from.Goals as goal
use Rattle.irc_support.specs.{ModeChanges.{changes, signed, with_params}, Text.Text, Tokens.Token}
use Rattle.std.proofs.Common.{◌≡◌, ◌≤◌, List, None, Option, Some, [], append-nil, drop, length, map}
use Rattle.std.proofs.{Common.{refl, true, unwrap_or, ℕ}, Math.ListN.drop_of_length-le}
use Rattle.std.proofs.{Math.Seq.drop-append_seam, lemmas.{List.length-map, Map.Iter.rest_so_far}}
use Rattle.std.specs.{Borrow.Bor, Iterator.{SkipsThenYields, YieldsFirstRef}}

-- `nth` gives the first of what comes from the place on, and leaves the rest
changes-nth : (settings : List Token) (params : List Text) (place : ℕ) (found : Option (Bor Text))
    (left : List Text) (empty : Bor Text) → empty.now ≡ [] →
    SkipsThenYields (YieldsFirstRef (λ rest. rest)) params place found left →
    with_params settings (signed true (unwrap_or found empty).now) left
    ≡ changes settings (drop place params)
unfolding changes
changes-nth settings params place None left empty is ran =
    let all = rest_so_far (λ p. p.now) ran.0 params ran.1.0 ran.1.1 in
    let passed : length params ≤ place =
    rw (all, ran.1.2.0, append-nil (map (λ p. p.now) ran.0), length-map ran.0 (λ p. p.now))
    ran.2 in
    rw (drop_of_length-le params passed, ran.1.2.1, is) refl
changes-nth settings params place (Some text) left empty is ran =
    let all = rest_so_far (λ p. p.now) ran.0 params ran.1.0 ran.1.1 in
    rw (← ran.2, ← length-map ran.0 (λ p. p.now), all)
    (rw (drop-append_seam (map (λ p. p.now) ran.0) ran.1.0, ran.1.2) refl)

pub returns : goal.returns
returns g c =
    rw (c.changes_of.ensures, c.unwrap_or-letters.ensures, ← c.params-params.ensures)
    (changes-nth c.args.support.now c.params-params.result c.args.place c.nth.result
    c.nth.new.self _ refl c.nth.ensures.ran)
