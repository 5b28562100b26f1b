-- Parts that are added one after another.
use Rattle.std.proofs.Common.{◌≡◌, ◌∙◌, ◌++◌, ℕ, List, ap, append_assoc}

pub four_parts : (o p q r s a b c d : List ℕ) → p ≡ o ++ a → q ≡ p ++ b → r ≡ q ++ c → s ≡ r ++ d
    → s ≡ o ++ (a ++ (b ++ (c ++ d)))
four_parts o p q r s a b c d is_p is_q is_r is_s =
    is_s
    ∙ ap (λ (l : List ℕ). l ++ d) (is_r ∙ ap (λ (l : List ℕ). l ++ c) (is_q
    ∙ ap (λ (l : List ℕ). l ++ b) is_p))
    ∙ append_assoc ((o ++ a) ++ b) c d
    ∙ append_assoc (o ++ a) b (c ++ d)
    ∙ append_assoc o a (b ++ (c ++ d))
