-- Facts of what an option or a list has.
use Rattle.net_view.proofs.{PartsSound.Each, Words.{◌∷◌, ◌≡◌, Bool, ForSome, IfSome, List, None}}
use Rattle.net_view.proofs.Words.{Option, Parts, Received, Silent, Some, StateLine, Token, Told, []}
use Rattle.net_view.proofs.Words.{arith, cond, has_command, last_in, option_map, state_lines, told}
use Rattle.net_view.{proofs.Words.true, specs.StateLines.told_by}

pub for_some : {X : Type 0} (P : X → Type 0) (o : Option X) → IfSome o P → ForSome o P
for_some P o h x e = grind arith

pub if_some : {X : Type 0} (P : X → Type 0) (o : Option X) → ForSome o P → IfSome o P
if_some P o h = grind arith

pub of_test : {X : Type 0} (P : X → Type 0) (b : Bool) (o : Option X) → (b ≡ true → IfSome o P)
    → IfSome (cond b o None) P
of_test P b o h = grind arith

-- what an option was that is mapped to something
pub mapped : {X Y : Type 0} (f : X → Y) (o : Option X) (y : Y) → option_map f o ≡ Some y
    → (x : X) × (o ≡ Some x) × (f x ≡ y)
mapped f o y h = grind arith

-- of what the last of a list says
pub of_last : {A B : Type 0} (P : A → Type 0) (Q : B → Type 0) (says : B → Option A)
    → ((b : B) → Q b → IfSome (says b) P) → (bs : List B) → Each Q bs → IfSome (last_in says bs) P
of_last P Q says h [] e = tt
of_last P Q says h (b ∷ bs) e = grind (arith, of_last P Q says h bs (e.1))

-- of what a line says, if it is so of what each state line says whose command it has
module _ (P : Told → Type 0) (settings : List Token) (line : Parts) (silent : P Silent) where
  abbrev AreTold : List StateLine → Type 0
  AreTold lines =
      Each (λ (s : StateLine). has_command line s.command ≡ true → P (s.tells settings line)) lines

  of_rows : (lines : List StateLine) → AreTold lines → P (told_by lines settings line)
  of_rows [] each = silent
  of_rows (s ∷ lines) each = grind (arith, of_rows lines (each.1))

  pub of_told : AreTold state_lines → P (told settings (Received line))
  unfolding told
  of_told = of_rows state_lines
