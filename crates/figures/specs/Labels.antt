-- Labels of figures, as Prometheus reads them (exposition format 0.0.4: text format details).
use Rattle.std.specs.Prelude.{◌==◌, ◌++◌, ◌∷◌, ℕ, Bool, true, false, List, [], Option, Some, None}
use Rattle.std.specs.Prelude.{codes, if◌then◌else◌, option_map}
use Rattle.std.specs.List.{flat_map}

-- a byte of a value between quotation marks: LF, quotation mark and backslash have a backslash in
-- front, and LF is an `n` there
abbrev pub escaped : ℕ → List ℕ
escaped b =
    if b == 10 then 92 ∷ 110 ∷ []
    else if b == 34 then 92 ∷ 34 ∷ [] else if b == 92 then 92 ∷ 92 ∷ [] else b ∷ []

-- the labels of a network
abbrev pub labels_of : List ℕ → List ℕ → List ℕ
labels_of user network =
    codes "{user=\"" ++ (flat_map escaped user
    ++ (codes "\",network=\"" ++ (flat_map escaped network ++ codes "\"}")))

-- ---- how a value is read

-- the byte that comes after a backslash
abbrev pub unescaped : ℕ → ℕ
unescaped b = if b == 110 then 10 else b

abbrev pub with_byte : ℕ → Option (List ℕ × List ℕ) → Option (List ℕ × List ℕ)
with_byte b found = option_map (λ (r : List ℕ × List ℕ). (b ∷ r.0, r.1)) found

-- the text up to the quotation mark that ends a value, and the text after that; whether a
-- backslash came just before
abbrev pub value_behind : Bool → List ℕ → Option (List ℕ × List ℕ)
value_behind is_behind [] = None
value_behind true (b ∷ bs) = with_byte (unescaped b) (value_behind false bs)
value_behind false (b ∷ bs) =
    if b == 34 then Some ([], bs)
    else if b == 92 then value_behind true bs else with_byte b (value_behind false bs)

abbrev pub value_read : List ℕ → Option (List ℕ × List ℕ)
value_read bytes = value_behind false bytes
