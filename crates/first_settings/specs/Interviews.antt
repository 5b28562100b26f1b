-- The state of `bnc setup`, and what an answer does. Our own choice.
use Rattle.std.specs.Prelude.{◌≡◌, ◌+◌, ◌≤◌, ◌<◌, ℕ, List, [], Some, None, true, false}
use Rattle.first_settings.specs.Questions.{after, again, is_good}
use Rattle.first_settings.specs.declared.question.Question.{Question}
use Rattle.first_settings.specs.declared.question.Question.TheVariants.{Address, Again, Channels}
use Rattle.first_settings.specs.declared.question.Question.TheVariants.{Nick, Password}
use Rattle.first_settings.specs.declared.interview.Step.{Step}
use Rattle.first_settings.specs.declared.interview.Step.TheVariants.{Ask, AskAgain, Complete}
use Rattle.first_settings.specs.declared.interview.Step.TheVariants.{GiveUp}

-- the answers
pub record Given : Type 0 where
  pub address : List ℕ
  pub nick : List ℕ
  pub channels : List ℕ
  pub password : List ℕ

-- no answer yet
abbrev pub nothing : Given
nothing = record { address = []; nick = []; channels = []; password = [] }

-- the answers with one more
abbrev pub with_answer : Question → List ℕ → Given → Given
with_answer Address line given = record given { address = line }
with_answer Nick line given = record given { nick = line }
with_answer Channels line given = record given { channels = line }
with_answer Password line given = record given { password = line }
with_answer Again line given = given

-- what is asked now, how many answers to it were bad, and the good answers so far
pub record Asked : Type 0 where
  pub question : Question
  pub refused : ℕ
  pub given : Given

abbrev pub at_first : Asked
at_first = record { question = Address; refused = 0; given = nothing }

-- a good answer is kept
abbrev pub IsKept : Asked → List ℕ → Asked → Type 0
IsKept old line new = (is_good old.question old.given.password line ≡ true)
    × (new.given ≡ with_answer old.question line old.given)
    × (new.refused ≡ 0)

-- a bad one is not: the question comes again, three times in succession at most
abbrev pub IsPutAgain : Asked → Asked → Step → Type 0
IsPutAgain old new (AskAgain question) =
    (new.given ≡ old.given)
    × (new.question ≡ again old.question)
    × (new.question ≡ question)
    × (old.refused < 3)
    × (new.refused ≡ old.refused + 1)
IsPutAgain old new GiveUp = (new.given ≡ old.given) × (3 ≤ old.refused)
IsPutAgain old new _ = ⊥

-- what an answer does: a good one leads to the next question or, after the last, ends it
abbrev pub IsAnswered : Asked → List ℕ → Asked → Step → Type 0
IsAnswered old line new (Ask question) =
    IsKept old line new × (after old.question ≡ Some question) × (new.question ≡ question)
IsAnswered old line new Complete = IsKept old line new × (after old.question ≡ None)
IsAnswered old line new step =
    (is_good old.question old.given.password line ≡ false) × IsPutAgain old new step
