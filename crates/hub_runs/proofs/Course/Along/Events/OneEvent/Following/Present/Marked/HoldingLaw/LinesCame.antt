-- Items: the lines of a stretch, the transcript of events, and what was taken of a list.
pub use Rattle.hub_runs.specs.declared.event.Event.TheVariants as on
pub use Rattle.hub_core.specs.declared.hub.HubError.TheVariants as fault
use Rattle.hub_runs.specs.Transcripts.{joined}
pub use Rattle.hub_core.specs.{States.HubState, declared.hub.{HubError.HubError, Pumped.Pumped}}
pub use Rattle.{hub_ends.specs.Came.Came, hub_runs.specs.Transcripts.{Piece, lf_moments, line_came}}
pub use Rattle.hub_runs.specs.{Transcripts.{lines_came, transcript_after}, Worlds.RefusesAmong}
pub use Rattle.hub_runs.specs.Worlds.{RefusesItem, Stops, TakesAll, TakesIn, WorldState, is_over}
pub use Rattle.hub_runs.specs.Worlds.{items_of, lines_at, rest_after, rest_behind, stop_of}
pub use Rattle.{hub_runs.specs.declared.event.Event.Event, irc_line.proofs.Pieces.parts-append}
pub use Rattle.irc_line.{proofs.Pieces.rest-append, specs.Lines.{all_but_last, ended_of, rest_of}}
pub use Rattle.irc_line.specs.{Lines.{segments_of, without_cr}, Reading.line_of}
pub use Rattle.{net_view.specs.Arrival.Received, std.proofs.Common.{◌++◌, ◌+◌, ◌-◌, ◌==◌, ◌∙◌, ◌∷◌}}
pub use Rattle.std.proofs.Common.{◌≡◌, List, [], ap, append-nil, append_assoc, arith, cond}
pub use Rattle.std.proofs.Common.{count_by, false, filter_map, inr, length, length-append, map}
pub use Rattle.std.proofs.{Common.{refl, replicate, sym, zip, ℕ}, lemmas.Grind.flat_map-append}
pub use Rattle.std.proofs.lemmas.List.{length-replicate, Elements.filter_map-append}
pub use Rattle.std.proofs.lemmas.List.{Splits.length-slice_split, Sums.sum_by-append}

zip-append : {K X : Type 0} (ks ls : List K) (xs ys : List X) → length ks ≡ length xs
    → zip (ks ++ ls) (xs ++ ys) ≡ zip ks xs ++ zip ls ys
zip-append [] ls [] ys e = refl
zip-append (k ∷ ks) ls (x ∷ xs) ys e = grind (arith, zip-append ks ls xs ys)
zip-append _ ls _ ys e = absurd (omega arith)

but_last-length : (xs : List (List ℕ)) → length (all_but_last xs) ≡ length xs - 1
but_last-length [] = refl
but_last-length (x ∷ []) = refl
but_last-length (x ∷ y ∷ xs) = omega (but_last-length (y ∷ xs), arith)

abbrev lfs : List ℕ → ℕ
lfs bytes = count_by (λ b. b == 10) bytes

ended_lfs : (bytes : List ℕ) → length (ended_of bytes) ≡ lfs bytes
ended_lfs bytes =
    omega (but_last-length (segments_of bytes), length-slice_split (λ b. b == 10) bytes, arith)

lfs-append : (a b : List ℕ) → lfs (a ++ b) ≡ lfs a + lfs b
lfs-append a b = sum_by-append (λ x. cond (x == 10) 1 0) a b

moments-length : (ps : List Piece) → length (lf_moments ps) ≡ lfs (joined ps)
moments-length [] = refl
moments-length (p ∷ ps) =
    grind (arith, length-append, length-replicate, moments-length ps, lfs-append)

at_once : (moment : ℕ) (segments : List (List ℕ))
    → filter_map line_came (zip segments (replicate (length segments) moment))
    ≡ map (λ line. (Received line, moment))
    (filter_map (λ segment. line_of (without_cr segment)) segments)
at_once moment [] = refl
at_once moment (s ∷ ss) = grind (arith, at_once moment ss)

joined_more : (ps : List Piece) (p : Piece) → joined (ps ++ p ∷ []) ≡ joined ps ++ p.0
joined_more ps p = simp (flat_map-append (λ (q : Piece). q.0) ps (p ∷ []), append-nil)

-- after the rest of the pieces come as many segments that an LF ends as the new one has LFs
new_segments : (a b : List ℕ) → lfs b ≡ length (ended_of (rest_of a ++ b))
new_segments a b =
    omega (arith, ap length (parts-append a b), length-append {A = List ℕ}, ended_lfs, lfs-append)

lines_more : (ps : List Piece) (p : Piece)
    → lines_came (ps ++ p ∷ []) ≡ lines_came ps ++ lines_at (rest_of (joined ps) ++ p.0) p.1
lines_more ps p =
    let a = joined ps in
    let came = flat_map-append (λ (q : Piece). replicate (lfs q.0) q.1) ps (p ∷ []) in
    let zipped = zip-append (ended_of a) (ended_of (rest_of a ++ p.0)) (lf_moments ps)
    (replicate (lfs p.0) p.1) (ended_lfs a ∙ sym (moments-length ps)) in
    let more = filter_map-append line_came (zip (ended_of a) (lf_moments ps)) in
    let new = new_segments a p.0 in
    grind (arith, joined_more, came, append-nil, parts-append a p.0, zipped, more, new, at_once p.1)

-- an event more
pub transcript_on : (ps : List Piece) (es : List Event) (e : Event)
    → transcript_after ps (es ++ e ∷ [])
    ≡ transcript_after ps es ++ items_of e (rest_after (rest_of (joined ps)) es)
transcript_on ps [] (on.Up bytes moment) = lines_more ps (bytes.items, moment.0)
transcript_on ps [] (on.Lost moment) = refl
transcript_on ps [] e = sym (append-nil (lines_came ps))
transcript_on ps (on.Up bytes moment ∷ es) e =
    let p : Piece = (bytes.items, moment.0) in
    rw (← rest-append (joined ps) p.0, ← joined_more ps p) (transcript_on (ps ++ p ∷ []) es e)
transcript_on ps (on.Lost moment ∷ es) e = grind (arith, append_assoc, transcript_on [] es e)
transcript_on ps (d ∷ es) e = transcript_on ps es e

pub rest_more : (rest : List ℕ) (es : List Event) (e : Event)
    → rest_after rest (es ++ e ∷ []) ≡ rest_behind (rest_after rest es) e
rest_more rest [] e = refl
rest_more rest (d ∷ es) e = rest_more (rest_behind rest d) es e

pub takes_more : (xs : List Came) (ps : List Pumped) (x : Came) (p : Pumped) (a b c : HubState)
    → TakesAll a xs ps b → TakesIn b x p c → TakesAll a (xs ++ x ∷ []) (ps ++ p ∷ []) c
takes_more [] [] x p a b c all one = (c, rw all at one, refl)
takes_more (y ∷ xs) (q ∷ ps) x p a b c all one =
    (all.0, all.1, takes_more xs ps x p all.0 b c all.2 one)
takes_more _ _ x p a b c all one = absurd all

pub refuses_one : (x : Came) (e : HubError) (old new : HubState) → RefusesItem old x e new
    → RefusesAmong (x ∷ []) e old [] new
refuses_one x e old new r =
    record { pumped = []; next = x; later = []; are = refl; hub = old; took = refl; refuses = r }

pub stops_among : (event : Event) (e : HubError) (w : WorldState) (taken : List Came)
    (new : HubState) → is_over event w.rest ≡ false
    → RefusesAmong (items_of event w.rest) e w.hub taken new → Stops event (stop_of e) w taken new
stops_among event fault.Spent w taken new short r = (short, r)
stops_among event fault.OutOfMemory w taken new short r = (short, inr r)
