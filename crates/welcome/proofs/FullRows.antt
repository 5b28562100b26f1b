-- Rows are full.
use Rattle.welcome.proofs.{BurstLaw.NetworkRead.rows_all, Words.{◌++◌, ◌<◌, ◌==◌, ◌||◌, ◌∷◌, ◌≡◌}}
use Rattle.welcome.proofs.Words.{AllByRecursion, Bool, IsTrue, List, Text, [], ap, arith, false}
use Rattle.welcome.proofs.Words.{length, length-append, rows_from, rows_of, true}

-- ---- none is empty, and each is fit, or has one word

-- what holds of a row of one word, and of one that a word makes fit, holds of all
all_rows : (P : List Text → Type 0) (fit : List Text → Bool) → ((x : Text) → P (x ∷ []))
    → ((row : List Text) (x : Text) → fit (row ++ x ∷ []) ≡ true → P (row ++ x ∷ []))
    → (words row : List Text) → P row → AllByRecursion P (rows_from fit row words)
all_rows P fit one more [] row h = (h, tt)
all_rows P fit one more (x ∷ words) row h =
    let on = all_rows P fit one more words (row ++ x ∷ []) in
    grind (arith, h, on, more row x, all_rows P fit one more words (x ∷ []) (one x))

pub rows_begun : (fit : List Text → Bool) (words : List Text)
    → AllByRecursion (λ row. 0 < length row) (rows_of fit words)
rows_begun fit [] = tt
rows_begun fit (w ∷ words) =
    all_rows (λ row. 0 < length row) fit (λ x. omega arith)
    (λ row x h. omega (arith, length-append row (x ∷ []))) words (w ∷ []) (omega arith)

pub rows_fit : (fit : List Text → Bool) (words : List Text)
    → AllByRecursion (λ row. IsTrue (fit row || length row == 1)) (rows_of fit words)
rows_fit fit [] = tt
rows_fit fit (w ∷ words) =
    all_rows (λ row. IsTrue (fit row || length row == 1)) fit (λ x. grind arith)
    (λ row x h. grind (arith, h)) words (w ∷ []) (grind arith)

-- ---- none could take the first word of the next

first_from : (fit : List Text → Bool) (words : List Text) (w : Text) (ws next : List Text)
    (first : Text) (after : List (List Text))
    → rows_from fit (w ∷ ws) words ≡ (first ∷ next) ∷ after → w ≡ first
first_from fit [] w ws next first after e = cc
first_from fit (x ∷ words) w ws next first after e =
    grind (arith, e, first_from fit words w (ws ++ x ∷ []) next first after)

full_from : (fit : List Text → Bool) (words left row next : List Text)
    (first : Text) (before after : List (List Text)) → rows_from fit left words
    ≡ before ++ row ∷ (first ∷ next) ∷ after → fit (row ++ first ∷ []) ≡ false
full_from fit [] left row next first before after e =
    absurd (omega (arith, ap length e, length-append before (row ∷ (first ∷ next) ∷ after)))
full_from fit (x ∷ words) left row next first [] after e =
    let more = full_from fit words (left ++ x ∷ []) row next first [] after in
    grind (arith, e, more, first_from fit words x [] next first after)
full_from fit (x ∷ words) left row next first (b ∷ before) after e =
    let more = full_from fit words (left ++ x ∷ []) row next first (b ∷ before) after in
    grind (arith, e, more, full_from fit words (x ∷ []) row next first before after)

pub rows_full : (fit : List Text → Bool)
    (words row next : List Text) (first : Text) (before after : List (List Text))
    → rows_of fit words ≡ before ++ row ∷ (first ∷ next) ∷ after → fit (row ++ first ∷ []) ≡ false
rows_full fit [] row next first [] after e = cc
rows_full fit [] row next first (b ∷ before) after e = cc
rows_full fit (w ∷ words) row next first before after e =
    full_from fit words (w ∷ []) row next first before after e

-- the laws of rows
pub ruleset row_laws = (rows_all, rows_begun, rows_fit, rows_full)
