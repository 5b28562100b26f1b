-- What is read is in the grammar: a text that is read as a line spells it.
use Rattle.irc_line.proofs.{Grammar.{HasNoSpace, Stops, gap-spaces, spelled-read}, Logic.cases_Bool}
use Rattle.irc_line.proofs.{ParamScan.params-in_word, Tokens.token-append}
use Rattle.irc_line.specs.Grammar.{AreSpaces, IsGap, Spells, SpellsMarked, SpellsParams}
use Rattle.irc_line.specs.{Line.{Parts, is_command, is_line_byte, is_space}, Reading.after_marked}
use Rattle.irc_line.specs.Reading.{after_token, body, is_line, line_of, marked, params_at, parts_of}
use Rattle.{irc_line.specs.Reading.{token, trimmed, untagged}, std.proofs.Common.{List, None}}
use Rattle.std.proofs.Common.{Option, Some, [], append-nil, append_assoc, arith, false, inl, inr}
use Rattle.std.proofs.{Common.{refl, true, ℕ, ◌++◌, ◌==◌, ◌∷◌, ◌≡◌}, lemmas.Bool.eqb-true}
use Rattle.std.specs.{List.{AllByRecursion, list_all}, Prelude.{IfNone, IfOk, IfSome, IsTrue, Ok}}
use Rattle.std.specs.Prelude.{Result}

pub record IsGapped (text : List ℕ) : Type 0 where
  pub gap : List ℕ
  pub spaces : AreSpaces gap
  pub whole : text ≡ gap ++ trimmed text

trimmed-splits : (text : List ℕ) → IsGapped text
trimmed-splits [] = record { gap = []; spaces = tt; whole = refl }
trimmed-splits (b ∷ bs) =
    let more = trimmed-splits bs in
    elim (cases_Bool (is_space b)) [
      | inl e ↦ record { gap = b ∷ more.gap; spaces = (e, more.spaces); whole = grind arith }
      | inr e ↦ record { gap = []; spaces = tt; whole = rw e refl }
    ]

after_token-stops : (text : List ℕ) → Stops (after_token text)
after_token-stops [] = refl
after_token-stops (b ∷ bs) = grind (arith, after_token-stops bs)

token-no_space : (text : List ℕ) → HasNoSpace (token text)
token-no_space [] = tt
token-no_space (b ∷ bs) = grind (arith, token-no_space bs)

-- a text that begins with a space, and is not all spaces
pub record IsBehindGap (text : List ℕ) : Type 0 where
  pub gap : List ℕ
  pub is : IsGap gap
  pub whole : text ≡ gap ++ trimmed text

gap-of : (text : List ℕ) → Stops text → (trimmed text ≡ [] → ⊥) → IsBehindGap text
gap-of [] stop some = absurd (some refl)
gap-of (b ∷ bs) stop some =
    let more = trimmed-splits bs in
    record { gap = b ∷ more.gap; is = (stop, more.spaces); whole = grind arith }

pub record IsPart (mark : ℕ) (text : List ℕ) : Type 0 where
  pub front : List ℕ
  pub spells : SpellsMarked mark (marked mark text) front
  pub whole : text ≡ front ++ after_marked mark text

part-at : (mark : ℕ) (bs : List ℕ) (p : ℕ) (ps : List ℕ) → token bs ≡ p ∷ ps →
    IsBehindGap (after_token bs) → (mark == mark) ≡ true → IsPart mark (mark ∷ bs)
part-at mark bs p ps tok g same =
    let spaceless = rw tok at (token-no_space bs) in
    let all = token-append bs in
    let more = append_assoc (p ∷ ps) g.gap (trimmed (after_token bs)) in
    record {
      front = mark ∷ ((p ∷ ps) ++ g.gap);
      spells = rw (same, tok) (spaceless, g.gap, g.is, refl);
      whole = rw (same, tok) (cc);
    }

at-mark : (mark : ℕ) (bs part : List ℕ) → token bs ≡ part → (mark == mark) ≡ true →
    (after_marked mark (mark ∷ bs) ≡ [] → ⊥) → IsPart mark (mark ∷ bs)
at-mark mark bs [] tok same some =
    record { front = []; spells = rw (same, tok) refl; whole = rw (same, tok) refl }
at-mark mark bs (p ∷ ps) tok same some =
    part-at mark bs p ps tok (gap-of (after_token bs) (after_token-stops bs) (grind arith)) same

marked-splits : (mark : ℕ) (text : List ℕ) → (after_marked mark text ≡ [] → ⊥) → IsPart mark text
marked-splits mark [] some = absurd (some refl)
marked-splits mark (b ∷ bs) some =
    elim (cases_Bool (b == mark)) [
      | inl e ↦ let same = eqb-true b mark e in
          rw same (at-mark mark bs (token bs) refl (rw same at e) (rw same at some))
      | inr e ↦ record { front = []; spells = rw e refl; whole = rw e refl }
    ]

longer-gap : (gap : List ℕ) (b : ℕ) → IsGap gap → is_space b ≡ true → IsGap (gap ++ (b ∷ []))
longer-gap [] b g e = absurd g
longer-gap (c ∷ []) b g e = (g.0, (e, tt))
longer-gap (c ∷ d ∷ ds) b g e = (g.0, longer-gap (d ∷ ds) b g.1 e)

-- the parameters after a gap, and those after the rest of a word
params-spell : (text : List ℕ) →
    ((gap : List ℕ) → IsGap gap → SpellsParams (params_at false text) (gap ++ text))
    × SpellsParams (params_at false (after_token text)) (after_token text)
params-spell [] = (λ gap g. rw (append-nil gap) (gap-spaces gap g), tt)
params-spell (b ∷ bs) =
    let more = params-spell bs in
    elim (cases_Bool (is_space b)) [
      | inl e ↦ rw e (
        λ gap g. rw (← append_assoc gap (b ∷ []) bs) (more.0 (gap ++ (b ∷ [])) (longer-gap gap b g e)),
        rw e (more.0 (b ∷ []) (e, tt)),
      )
      | inr e ↦ rw e (
        λ gap g. elim (cases_Bool (b == 58)) [
          | inl k ↦ let colon = eqb-true b 58 k in rw (k, colon) (gap, g, inr (refl, refl))
          | inr k ↦ rw (k, params-in_word bs) (
            gap,
            g,
            inl ((k, (e, token-no_space bs)), after_token bs, more.1, grind (arith, token-append)),
          )
        ],
        more.1,
      )
    ]

pub clean-all : (text : List ℕ) → list_all is_line_byte text ≡ true →
    AllByRecursion (λ b. IsTrue (is_line_byte b)) text
clean-all [] e = tt
clean-all (b ∷ bs) e = grind (arith, clean-all bs)

-- what is read is what the grammar says
pub read-spelled : (text : List ℕ) → is_line text ≡ true → Spells (parts_of text) text
read-spelled text e =
    let command : is_command (token (body text)) ≡ true = grind arith in
    let some-body : body text ≡ [] → ⊥ = λ none. let no : false ≡ true = rw none at command in cc in
    let indent = trimmed-splits text in
    let tags = marked-splits 64 (trimmed text) (grind arith) in
    let source = marked-splits 58 (untagged text) some-body in
    record {
      indent = indent.gap;
      tags = tags.front;
      source = source.front;
      params = after_token (body text);
      whole = grind (arith, token-append);
      indented = indent.spaces;
      with_tags = tags.spells;
      with_source = source.spells;
      with_command = command;
      with_params = (params-spell (body text)).1;
      clean = clean-all text (grind arith);
    }

pub line-spelled : (line : Parts) (text : List ℕ) → line_of text ≡ Some line → Spells line text
line-spelled line text e =
    let is : is_line text ≡ true = grind arith in
    let same : parts_of text ≡ line = grind arith in
    rw (← same) (read-spelled text is)

pub one-line : (line other : Parts) (text : List ℕ) → Spells line text → Spells other text →
    line ≡ other
one-line line other text s t = cc (spelled-read line text s, spelled-read other text t)

-- what is said of a read by its value, said by the grammar
pub found-of : {E : Type 0} (read : Result (Option Parts) E) (text : List ℕ) →
    IfOk read (λ line. line ≡ line_of text) → IfOk read (λ line. IfSome line (λ l. Spells l text))
found-of read text is = grind (arith, line-spelled)

pub none-of : {E : Type 0} (read : Result (Option Parts) E) (text : List ℕ) →
    IfOk read (λ line. line ≡ line_of text) →
    IfOk read (λ line. IfNone line ((l : Parts) → Spells l text → ⊥))
none-of (Ok None) text is = λ l s. cc (spelled-read l text s)
none-of read text is = tt
