-- Which parts can be written and read back.
use Rattle.irc_line.proofs.{Again.{token-from, token-test, word-from, word-test}, Grammar.all-clean}
use Rattle.irc_line.proofs.{Grammar.{command-all, spelled-read}, Logic.cases_Bool}
use Rattle.irc_line.{proofs.Spelled.{clean-all, line-spelled, read-spelled}, specs.Grammar.Spells}
use Rattle.irc_line.specs.{Grammar.{SpellsMarked, SpellsParams}, Line.{Parts, is_command}}
use Rattle.irc_line.specs.{Line.is_line_byte, Reading.{is_line, line_of, parts_of}}
use Rattle.irc_line.specs.Writing.{are_params, is_part, is_word, is_writable, marked_text}
use Rattle.irc_line.specs.Writing.{param_text, retagged, text_of, untagged_line}
use Rattle.std.proofs.Common.{◌++◌, ◌↔◌, ◌∷◌, ◌≡◌, List, None, Option, Some, [], append-nil, arith}
use Rattle.std.proofs.{Common.{inl, inr, refl, true, ℕ}, lemmas.List.Folds.list_all-append}
use Rattle.std.specs.List.{flat_map, list_all}

-- FROM THE TEST: a text that spells the parts

part-spells : (mark : ℕ) (part : Option (List ℕ)) → is_part part ≡ true →
    SpellsMarked mark part (marked_text mark part)
part-spells mark None e = refl
part-spells mark (Some part) e = (token-from part (grind arith), 32 ∷ [], (refl, tt), refl)

word-spells : (param text : List ℕ) (params : List (List ℕ)) → is_word param ≡ true →
    SpellsParams params text → SpellsParams (param ∷ params) (param_text param ++ text)
word-spells param text params is s =
    rw is (32 ∷ [], (refl, tt), inl (word-from param is, text, s, refl))

params-spell : (params : List (List ℕ)) → are_params params ≡ true →
    SpellsParams params (flat_map param_text params)
params-spell [] e = tt
params-spell (param ∷ []) e =
    elim (cases_Bool (is_word param)) [
      | inl w ↦ word-spells param [] [] w tt
      | inr w ↦ rw (w, append-nil param) (32 ∷ [], (refl, tt), inr (refl, refl))
    ]
params-spell (param ∷ next ∷ params) e =
    word-spells param _ (next ∷ params) (grind arith) (params-spell (next ∷ params) (grind arith))

params-clean : (params : List (List ℕ)) → are_params params ≡ true →
    list_all is_line_byte (flat_map param_text params) ≡ true
params-clean [] e = refl
params-clean (param ∷ []) e = grind (arith, append-nil)
params-clean (param ∷ next ∷ params) e =
    grind (arith, list_all-append, params-clean (next ∷ params))

-- parts that can be written are spelled by their text
pub writable-spells : (line : Parts) → is_writable line ≡ true → Spells line (text_of line)
writable-spells line e =
    let command : is_command line.command ≡ true = grind arith in
    let all = command-all line.command command in
    record {
      indent = [];
      tags = marked_text 64 line.tags;
      source = marked_text 58 line.source;
      params = flat_map param_text line.params;
      whole = refl;
      indented = tt;
      with_tags = part-spells 64 line.tags (grind arith);
      with_source = part-spells 58 line.source (grind arith);
      with_command = command;
      with_params = params-spell line.params (grind arith);
      clean =
          clean-all (text_of line) (grind (arith, list_all-append, list_all-append, params-clean));
    }

-- TO THE TEST: what some text spells can be written

part-test : (mark : ℕ) (part : Option (List ℕ)) (text : List ℕ) → SpellsMarked mark part text →
    list_all is_line_byte text ≡ true → is_part part ≡ true
part-test mark None text s c = refl
part-test mark (Some part) text s c = grind (arith, list_all-append, token-test)

params-test : (params : List (List ℕ)) (text : List ℕ) → SpellsParams params text →
    list_all is_line_byte text ≡ true → are_params params ≡ true
params-test [] text s c = refl
params-test (param ∷ []) text s c = grind (arith, list_all-append)
params-test (param ∷ next ∷ params) text s c =
    grind (arith, list_all-append, word-test, params-test (next ∷ params))

pub spells-writable : (line : Parts) (text : List ℕ) → Spells line text → is_writable line ≡ true
spells-writable line text s =
    let clean = rw s.whole at (all-clean text s.clean) in
    let tags = part-test 64 line.tags s.tags s.with_tags in
    let source = part-test 58 line.source s.source s.with_source in
    let params = params-test line.params s.params s.with_params in
    grind (arith, list_all-append)

pub writable-again : (line : Parts) →
    (is_writable line ≡ true) ↔ (line_of (text_of line) ≡ Some line)
writable-again line = (
  λ e. spelled-read line (text_of line) (writable-spells line e),
  λ e. spells-writable line (text_of line) (line-spelled line (text_of line) e),
)

pub record IsLineOf (text : List ℕ) (line : Parts) : Type 0 where
  pub is : is_line text ≡ true
  pub parts : parts_of text ≡ line

pub made-is : (text : List ℕ) (line : Parts) → is_writable line ≡ true → text ≡ text_of line →
    IsLineOf text line
made-is text line can same =
    let read : line_of text ≡ Some line = rw same ((writable-again line).0 can) in
    record { is = grind arith; parts = grind arith }

-- the value of a text that is a line can be written
pub value_writable : (text : List ℕ) (line : Parts) → is_line text ≡ true → parts_of text ≡ line →
    is_writable line ≡ true
value_writable text line is same =
    rw (← same) (spells-writable (parts_of text) text (read-spelled text is))

-- and is read again
pub value_again : (text : List ℕ) (line : Parts) → is_line text ≡ true → parts_of text ≡ line →
    line_of (text_of line) ≡ Some line
value_again text line is same = (writable-again line).0 (value_writable text line is same)

-- what is written of a line in hand, with other tags
pub retagged-is : (held : List ℕ) (line : Parts) (tags : Option (List ℕ)) (text : List ℕ) →
    is_line held ≡ true → parts_of held ≡ line → is_part tags ≡ true →
    text ≡ text_of (retagged line tags) → IsLineOf text (retagged line tags)
retagged-is held line tags text is same t written =
    let can = value_writable held line is same in made-is text _ (grind arith) written

-- and with another source and command, without tags
pub renamed-is : (held : List ℕ) (line : Parts) (source : Option (List ℕ)) (command text : List ℕ) →
    is_line held ≡ true → parts_of held ≡ line → is_part source ≡ true →
    is_command command ≡ true → text ≡ text_of (untagged_line source command line.params) →
    IsLineOf text (untagged_line source command line.params)
renamed-is held line source command text is same s c written =
    let can = value_writable held line is same in made-is text _ (grind arith) written
