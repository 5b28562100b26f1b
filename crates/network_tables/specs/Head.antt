-- The head of a key, by which most keys are told apart without a look at them.
use Rattle.std.specs.Prelude.{◌≡◌, ℕ, zero, suc, ◌+◌, ◌*◌, ◌^◌, ◌<◌, ⊤, [], ◌∷◌}
use Rattle.std.proofs.Common.{refl}
use Rattle.std.proofs.Math.Bridge.{le_prop}
use Rattle.irc_support.specs.Text.{Text}

-- the first n bytes as one number, the first of them the highest; as if zeros came after the end
abbrev pub head_at : ℕ → Text → ℕ
head_at zero key = 0
head_at (suc n) [] = 0
head_at (suc n) (b ∷ key) = b * 256 ^ n + head_at n key

-- the first eight
abbrev pub head_of : Text → ℕ
head_of key = head_at 8 key

-- the first n are bytes
abbrev pub AreBytesTo : ℕ → Text → Type 0
AreBytesTo zero key = ⊤
AreBytesTo (suc n) [] = ⊤
AreBytesTo (suc n) (b ∷ key) = (b < 256) × AreBytesTo n key

-- which is a fact alone
pub AreBytesTo-prop : (n : ℕ) (key : Text) (x y : AreBytesTo n key) → x ≡ y
AreBytesTo-prop zero key x y = refl
AreBytesTo-prop (suc n) [] x y = refl
AreBytesTo-prop (suc n) (b ∷ key) x y = λ i. (
  le_prop x.0 y.0 i,
  AreBytesTo-prop n key x.1 y.1 i,
)
