-- The rows of a name list and of tokens, word by word.
use Rattle.welcome.proofs.Words
pub use Words.{◌&&◌, ◌++◌, ◌+◌, ◌-◌, ◌<◌, ◌∙◌, ◌∷◌, ◌≡◌, ◌≤◌, Bool, List, Parts, Text, View, []}
pub use Words.{append-nil, append_assoc, arith, codes, cond, drop, false, flat_map, from_bouncer}
pub use Words.{get_or, is_short, is_token_row, join_with_byte, length, length-append, length-map}
pub use Words.{map, map-append, map-map, member_parts, member_parts_at, member_word, members_at}
pub use Words.{name_row, nat_eq, nat_lt, nat_tests, next_left, ranks_shown, refl, rows_from}
pub use Words.{rows_of, slice_get-map, symbols_of, take, take_more, true, unwrap_or, written, ℕ}
pub use Rattle.{net_view.specs.Readers.MemberParts, std.proofs.lemmas.List.{drop_all, get_or-drop}}
pub use Rattle.std.{proofs.lemmas.List.{length-drop, length-take-le}, specs.Prelude.nat_le}
pub use Rattle.{std.specs.Prelude.slice_range, welcome.proofs.Places.take_next}

-- ---- the rows of a name list by their bytes, word by word

pub join_on : (row : List Text) (r w : Text)
    → join_with_byte 32 ((r ∷ row) ++ w ∷ []) ≡ join_with_byte 32 (r ∷ row) ++ 32 ∷ w
join_on [] r w = refl
join_on (s ∷ row) r w = rw (join_on row s w, append_assoc)

-- there is room if the bytes are few
pub short_on : (row : List Text) (r w : Text) → is_short
    ((r ∷ row) ++ w ∷ []) ≡ nat_le (length (join_with_byte 32 (r ∷ row)) + 1 + length w) 400
short_on row r w =
    grind (arith, join_on row r w, length-append (join_with_byte 32 (r ∷ row)) (32 ∷ w))

-- whether a word goes onto a row of these bytes
abbrev pub goes_on : Bool → Text → Text → Bool
goes_on begun row w = cond begun (nat_le (length row + 1 + length w) 400) true

-- the bytes of the rows: of one that may be begun, and of further words
abbrev pub texts_from : Bool → Text → List Text → List Text
texts_from begun row [] = cond begun (row ∷ []) []
texts_from begun row (w ∷ words) =
    cond (goes_on begun row w) (texts_from true (row ++ cond begun (32 ∷ w) w) words)
    (row ∷ texts_from true w words)

begun_texts : (words row : List Text) (r : Text) → map (join_with_byte 32)
    (rows_from is_short (r ∷ row) words) ≡ texts_from true (join_with_byte 32 (r ∷ row)) words
begun_texts [] row r = refl
begun_texts (w ∷ words) row r = grind (arith, short_on row r w, join_on row r w, begun_texts words)

row_texts : (words : List Text)
    → map (join_with_byte 32) (rows_of is_short words) ≡ texts_from false [] words
row_texts words = grind (arith, begun_texts)

-- the line of a row's bytes
abbrev pub name_line : Text → Text → Text → Parts
name_line nick name row = from_bouncer (codes "353") (nick ∷ codes "=" ∷ name ∷ row ∷ [])

-- the word of a member, as it is shown
abbrev pub shown_word : View → Bool → MemberParts → Text
shown_word v mp m = symbols_of v.settings (ranks_shown mp m.ranks) ++ m.nick

pub names_by_texts : (v : View) (mp : Bool) (i : ℕ) (name : Text) → map
    (name_row v name) (rows_of is_short (map (member_word v mp) (members_at v i))) ≡ map (name_line
    (unwrap_or v.own []) name) (texts_from false [] (map (shown_word v mp) (member_parts_at v i)))
names_by_texts v mp i name =
    let words = map (member_word v mp) (members_at v i) in
    let line = name_line (unwrap_or v.own []) name in
    let shown = map-map (shown_word v mp) (member_parts v) (members_at v i) in
    rw (shown, ← row_texts words, map-map line (join_with_byte 32) (rows_of is_short words))

-- ---- what is said of the rows, and what is left to say

pub record IsSaid (line : Text → Parts) (all now : Text) (begun : Bool) (row : Text)
    (words : List Text) : Type 0 where
  pub is : now ++ flat_map written (map line (texts_from begun row words)) ≡ all

module _ {line : Text → Parts} {all now then row row_then after w : Text} {begun then_begun : Bool}
    {words : List Text} (said : IsSaid line all now begun row (w ∷ words))
    (put : after ≡ row_then ++ cond then_begun (32 ∷ w) w) where
  -- the word goes onto the row
  pub word_goes : goes_on begun row w ≡ true → then ≡ now → row_then ≡ row
      → then_begun ≡ begun → IsSaid line all then true after words
  word_goes goes e r b = record { is = rw (e, put, r, b) (rw goes at said.is) }

  -- the row is said, and the word begins the next
  pub word_begins : goes_on begun row w ≡ false → then ≡ now ++ cond begun (written (line row)) []
      → row_then ≡ [] → then_begun ≡ false → IsSaid line all then true after words
  word_begins full e r b =
      record { is = rw (e, put, r, b) (grind (arith, full, said.is, append_assoc)) }

-- the last row is said
pub row_ends : {line : Text → Parts} {all now : Text} {begun : Bool} {row : Text}
    → IsSaid line all now begun row [] → now ++ cond begun (written (line row)) [] ≡ all
row_ends said = grind (arith, append-nil, said.is)

-- a 005 with a row of tokens
abbrev pub settings_row : Text → List Text → Parts
settings_row nick row =
    from_bouncer (codes "005") (nick ∷ (row ++ codes "are supported by this server" ∷ []))

-- the rows of a row that may be empty, and of further words
abbrev pub rows_on : List Text → List Text → List (List Text)
rows_on [] words = rows_of is_token_row words
rows_on (r ∷ row) words = rows_from is_token_row (r ∷ row) words

-- whether a word goes onto a row of this many tokens that take this many bytes
abbrev pub has_room : ℕ → ℕ → Text → Bool
has_room count len w =
    cond (nat_eq count 0) true (nat_le (len + 1 + length w) 400 && nat_lt count 12)

word_put : (row words : List Text) (w : Text)
    → rows_on row (w ∷ words) ≡ cond (has_room (length row) (length (join_with_byte 32 row)) w)
    (rows_on (row ++ w ∷ []) words) (row ∷ rows_on (w ∷ []) words)
word_put row words w = grind (arith, nat_tests, short_on, length-append row (w ∷ []))

bytes_put : (row : List Text) (w : Text) → length (join_with_byte 32 (row ++ w ∷ []))
    ≡ cond (nat_eq (length row) 0) (length w) (length (join_with_byte 32 row) + 1 + length w)
bytes_put [] w = refl
bytes_put (r ∷ row) w =
    grind (arith, nat_tests, join_on row r w, length-append (join_with_byte 32 (r ∷ row)) (32 ∷ w))

rows_end : (line : List Text → Parts) (row : List Text) → flat_map written
    (map line (rows_on row [])) ≡ cond (nat_eq (length row) 0) [] (written (line row))
rows_end line row = grind (arith, nat_tests, append-nil (written (line row)))

range_more : {X : Type 0} (xs : List X) (start place : ℕ) (x : X) → start ≤ place
    → place < length xs → x ≡ get_or xs place x
    → slice_range xs start (place + 1) ≡ slice_range xs start place ++ x ∷ []
range_more xs start place x order within at =
    let more = take_more (drop start xs) (place - start) x in
    grind (arith, more, get_or-drop start xs (place - start) x, length-drop start xs, at)

-- the row that begins at a place
abbrev pub row_at : {X : Type 0} → (X → Text) → List X → ℕ → ℕ → List Text
row_at f xs start place = map f (slice_range xs start place)

-- what is said, and the rows that are left to say
pub record IsTaking {X : Type 0} (f : X → Text) (xs : List X) (line : List Text → Parts)
    (all now : Text) (start place len : ℕ) : Type 0 where
  pub said : now ++ flat_map written
      (map line (rows_on (row_at f xs start place) (map f (drop place xs)))) ≡ all
  pub in_order : start ≤ place
  pub len_is : len ≡ length (join_with_byte 32 (row_at f xs start place))

module _ {X : Type 0} {f : X → Text} {xs : List X} {line : List Text → Parts} {all now : Text}
    {start place len : ℕ} {x : X} (within : place < length xs) (at : x ≡ get_or xs place x)
    (is : IsTaking f xs line all now start place len) where
  row_more : (s : ℕ) → s ≤ place → row_at f xs s (place + 1) ≡ row_at f xs s place ++ f x ∷ []
  row_more s order = rw (range_more xs s place x order within at, map-append)

  count_is : length (row_at f xs start place) ≡ place - start
  count_is =
      let order = is.in_order in
      let few = length-take-le (place - start) (drop start xs)
      (omega (arith, length-drop start xs)) in length-map (slice_range xs start place) f ∙ few

  put : (rows_on (row_at f xs start place) (map f (drop place xs))) ≡ cond (has_room (place - start)
      len (f x)) (rows_on (row_at f xs start place ++ f x ∷ []) (map f (drop (place + 1) xs)))
      (row_at f xs start place ∷ rows_on (f x ∷ []) (map f (drop (place + 1) xs)))
  put =
      let words = word_put (row_at f xs start place) (map f (drop (place + 1) xs)) (f x) in
      rw (rw (← at) at (next_left f xs place x within)) (rw (count_is, ← is.len_is) at words)

  -- the token goes onto the row
  pub token_goes : {len_then : ℕ} → has_room (place - start) len (f x) ≡ true
      → len_then ≡ cond (nat_lt start place) (len + 1 + length (f x)) (length (f x))
      → IsTaking f xs line all now start (place + 1) len_then
  token_goes goes after =
      let order = is.in_order in
      let bytes = bytes_put (row_at f xs start place) (f x) in
      record {
        said = rw (row_more start order) (rw (put, goes) at is.said);
        in_order = omega arith;
        len_is = rw (row_more start order) (grind (arith, nat_tests, is.len_is, after, bytes, count_is));
      }

  -- the row is said, and the token begins the next
  pub token_begins : {then : Text} {len_then : ℕ} → has_room (place - start) len (f x) ≡ false
      → then ≡ now ++ cond (nat_eq (length (slice_range xs start place)) 0) []
      (written (line (row_at f xs start place))) → len_then ≡ cond (nat_lt place place) (len
      + 1 + length (f x)) (length (f x)) → IsTaking f xs line all then place (place + 1) len_then
  token_begins full e after =
      let none : place - place ≡ 0 = omega arith in
      let more = rw none at (row_more place (omega arith)) in
      let len_row = length-map (slice_range xs start place) f in
      let some : nat_eq (length (slice_range xs start place)) 0 ≡ false =
      grind (arith, nat_tests, full, len_row, count_is) in
      record {
        said = rw (more, e, some, append_assoc) (rw (put, full) at is.said);
        in_order = omega arith;
        len_is = rw more (grind (arith, nat_tests, after));
      }

-- the last row is said
pub tokens_end : {X : Type 0} {f : X → Text} {xs : List X} {line : List Text → Parts}
    {all now then : Text} {start place len : ℕ} → IsTaking f xs line all now start place len
    → place ≡ length xs → then ≡ now ++ cond (nat_eq (length (slice_range xs start place)) 0) []
    (written (line (row_at f xs start place))) → then ≡ all
tokens_end {f = f} {xs = xs} {line = line} {start = start} {place = place} is end e =
    let none = drop_all place xs (omega arith) in
    let count = length-map (slice_range xs start place) f in
    grind (arith, is.said, none, rows_end line (row_at f xs start place), count, e)

-- a loop over the tokens
pub ruleset token_steps = (take_next, slice_get-map, map-append, append-nil)
