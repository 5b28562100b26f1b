-- What the image of a line is made of, and the part lines one by one.
use Rattle.client_caps.proofs.{ImageWritten.{params_written, parts_written}, LossLaw.part_line}
use Rattle.client_caps.proofs.{PartsWritten.{IsTagText, split_written, tags_written}, Words.◌++◌}
use Rattle.client_caps.proofs.Words.{◌+◌, ◌∷◌, ◌≡◌, ◌≤◌, Arrival, Caps, Channel, Each, List, Option}
use Rattle.client_caps.proofs.Words.{Parts, Some, Text, View, [], append-nil, arith, image_params}
use Rattle.client_caps.proofs.Words.{is_part, is_writable, length, line_of_parts, map, option_map}
use Rattle.client_caps.proofs.Words.{option_to_list, refl, slice_get, sym, take, take_all}
use Rattle.client_caps.proofs.Words.{time_tags, true, view_sound, with_param, ℕ}
use Rattle.{client_caps.specs.Images.part_lines_of, net_view.proofs.WrittenViews.views_are_clean}
use Rattle.net_view.specs.{Readers.{channel_shown, channels_shown}, View.view_of}
use Rattle.{net_view.specs.Written.AreWritten, std.specs.{Borrow.Bor, Prelude.slice_set}}
use Rattle.std.proofs.lemmas.{List.{length-map, take_more}, Option.{slice_get-map, slice_get_cases}}

-- a view that comes from lines that can be written
abbrev pub IsFromLines : View → Type 0
IsFromLines v = (items : List Arrival) × AreWritten items × (v ≡ view_of items)

-- the image of a line can be written, and its tags too
pub image_can : (v : View) (caps : Caps) (tags : Option Text) (time : Text) (line : Parts)
    → IsFromLines v → is_writable line ≡ true → IsTagText time → tags ≡ time_tags caps time line
    → (is_part tags ≡ true)
    × (is_writable (line_of_parts tags line.source line.command (image_params v caps line)) ≡ true)
image_can v caps tags time line from w ok e =
    let params = params_written v caps line (rw from.2 (view_sound from.0))
    (rw from.2 (views_are_clean from.0 from.1)) in
    grind (arith, e, tags_written caps time line ok, split_written line w, params)

-- a name list with other words
pub put_fourth : (ps : List (Bor Text)) (x : Bor Text) → 4 ≤ length ps
    → map (λ p. p.now) (slice_set ps 3 x) ≡ with_param 3 (λ _. x.now) (map (λ p. p.now) ps)
put_fourth (a ∷ b ∷ c ∷ d ∷ ps) x h = refl
put_fourth _ x h = absurd (omega arith)

-- ---- the part lines

take_next : {X : Type 0} (xs : List X) (i : ℕ)
    → take (i + 1) xs ≡ take i xs ++ option_to_list (slice_get xs i)
take_next xs i = grind (arith, slice_get_cases xs i, take_more xs i, take_all, append-nil)

-- the part line at a place, by the channel there
pub part_at : (v : View) (i : ℕ) (name : Option Text)
    → name ≡ option_map (λ (ch : Channel). ch.name) (channel_shown v i)
    → slice_get (part_lines_of v) i ≡ option_map (part_line v.own) name
unfolding part_lines_of
part_at v i name e = grind (arith, slice_get-map)

-- one place further
pub parts_more : (v : View) (i : ℕ) (lines : List Parts) → lines ≡ take i (part_lines_of v)
    → lines ++ option_to_list (slice_get (part_lines_of v) i) ≡ take (i + 1) (part_lines_of v)
parts_more v i lines is = rw is (sym (take_next (part_lines_of v) i))

pub parts_all : (v : View) (i : ℕ) → channels_shown v ≤ i
    → take i (part_lines_of v) ≡ part_lines_of v
unfolding part_lines_of
parts_all v i h = take_all i (part_lines_of v) (grind (arith, length-map))

each_at : {X : Type 0} (P : X → Type 0) (xs : List X) (i : ℕ) (x : X) → Each P xs
    → slice_get xs i ≡ Some x → P x
each_at P [] i x each e = cc
each_at P (y ∷ ys) i x each e = grind (arith, each_at P ys)

-- each of them can be written
pub part_can : (v : View) (i : ℕ) (name : Text) → IsFromLines v
    → Some name ≡ option_map (λ (ch : Channel). ch.name) (channel_shown v i)
    → is_writable (part_line v.own name) ≡ true
part_can v i name from e =
    each_at (λ (line : Parts). is_writable line ≡ true) (part_lines_of v) i (part_line v.own name)
    (rw from.2 (parts_written (view_of from.0) (view_sound from.0)
    (views_are_clean from.0 from.1))) (part_at v i (Some name) e)

-- a loop over part lines
pub ruleset part_steps = (parts_more, parts_all)

-- the part line of a channel
pub ruleset one_part = (part_at, part_can, append-nil)
