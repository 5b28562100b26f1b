-- The first space of a text.
use Rattle.std.proofs.Common.{List, None, Some, [], arith, drop, take, ℕ, ◌+◌, ◌≡◌}
use Rattle.std.proofs.lemmas.{Bool.Decides.nat_tests, Grind.common_steps}
use Rattle.std.specs.List.{position}
use Rattle.proxy_line.specs.ProxyLine.{behind, is_space, word_of}

pub cut_word : (text : List ℕ) (place : ℕ) → position is_space text ≡ Some place
    → take place text ≡ word_of text
cut_word text place e = grind (arith, nat_tests)

pub cut_behind : (text : List ℕ) (place : ℕ) → position is_space text ≡ Some place
    → drop (place + 1) text ≡ behind text
cut_behind text place e = grind (arith, nat_tests)

pub whole_word : (text : List ℕ) → position is_space text ≡ None → text ≡ word_of text
whole_word text e = grind (arith, nat_tests, common_steps)

pub none_behind : (text : List ℕ) → position is_space text ≡ None → [] ≡ behind text
none_behind text e = grind (arith, nat_tests, common_steps)
