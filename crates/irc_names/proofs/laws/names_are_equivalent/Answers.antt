use Rattle.std.proofs.Common.{◌≡◌, ℕ, List, [], ◌∷◌, arith, ap, refl}
use Rattle.std.proofs.lemmas.Bool.Decides.{nat_tests}
use Rattle.irc_names.specs.declared.case_mapping.CaseMapping.{CaseMapping}
use Rattle.irc_names.specs.declared.case_mapping.CaseMapping.TheVariants.{Ascii, Rfc1459, Strict}
use Rattle.irc_names.specs.CaseMapping.{key_byte, key_of}
use Rattle.irc_names.proofs.laws.names_are_equivalent.Goals as goal

-- the byte that represents a byte represents itself
byte-twice : (m : CaseMapping) (b : ℕ) → key_byte m (key_byte m b) ≡ key_byte m b
byte-twice Ascii b = grind (arith, nat_tests)
byte-twice Rfc1459 b = grind (arith, nat_tests)
byte-twice Strict b = grind (arith, nat_tests)

key-twice : (m : CaseMapping) (a : List ℕ) → key_of m (key_of m a) ≡ key_of m a
key-twice m [] = refl
key-twice m (b ∷ bs) = rw (byte-twice m b) (ap (λ r. key_byte m b ∷ r) (key-twice m bs))

pub returns-clause-key : goal.returns-clause-key
returns-clause-key c m a = key-twice m a
