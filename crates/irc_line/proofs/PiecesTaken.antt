-- Bytes that a splitter was fed, and one piece more.
use Rattle.irc_line.{proofs.Segments.segments-append, specs.Lines.{Pending, all_but_last, ended_of}}
use Rattle.irc_line.specs.Lines.{fed, is_too_long, line_limit, segments_of, start}
use Rattle.std.proofs.Common.{Bool, List, [], arith, false, length, refl, ℕ, ◌++◌, ◌∷◌, ◌≡◌}
use Rattle.std.{proofs.lemmas.List.Folds.list_any-append, specs.{List.list_any, Prelude.nat_lt}}

abbrev is_long : List ℕ → Bool
is_long segment = nat_lt line_limit (length segment)

any_but_last : (segments : List (List ℕ)) → list_any is_long segments ≡ false
    → list_any is_long (all_but_last segments) ≡ false
any_but_last [] h = refl
any_but_last (x ∷ []) h = refl
any_but_last (x ∷ y ∷ others) h = grind (arith, any_but_last (y ∷ others))

-- if no line was too long, it is the rest with what comes that can be
pub long_more : (s : Pending) (a b : List ℕ) → s ≡ fed start a → is_too_long a ≡ false
    → is_too_long (a ++ b) ≡ is_too_long (s.rest ++ b)
long_more s a b at h =
    rw (at, segments-append a b, list_any-append is_long (ended_of a))
    (rw (any_but_last (segments_of a) h))
