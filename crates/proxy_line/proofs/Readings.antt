-- What was read of an input.
use Rattle.std.proofs.Common.{Err, IfErr, IfOk, List, Ok, Option, Result, false, subst, sym, ℕ, ◌==◌, ◌≡◌}
use Rattle.std.specs.{Io.KnownBytes.Consumes, List.list_any}
use Rattle.proxy_line.specs.ProxyLine.{IsCauseOf, IsProxyLine}
use Rattle.proxy_line.specs.declared.{line.Origin.Origin, reading.ProxyFault.ProxyFault}

pub named-ok : (was now : Option (List ℕ)) (bytes : List ℕ) (r : Result Origin ProxyFault)
    → Consumes was now bytes → IfOk r (IsProxyLine bytes)
    → IfOk r (λ client. (line : List ℕ) × Consumes was now line × IsProxyLine line client)
named-ok was now bytes (Ok client) took names = (bytes, took, names)
named-ok was now bytes (Err fault) took names = tt

pub named-err : (was now : Option (List ℕ)) (bytes : List ℕ) (r : Result Origin ProxyFault)
    → Consumes was now bytes → IfErr r (IsCauseOf bytes)
    → IfErr r (λ fault. (line : List ℕ) × Consumes was now line × IsCauseOf line fault)
named-err was now bytes (Ok client) took cause = tt
named-err was now bytes (Err fault) took cause = (bytes, took, cause)

pub cause-of : (bytes held : List ℕ) (fault : ProxyFault) → held ≡ bytes
    → list_any (λ b. b == 10) bytes ≡ false
    → (list_any (λ b. b == 10) held ≡ false → IsCauseOf held fault) → IsCauseOf bytes fault
cause-of bytes held fault is clean cause =
    subst (λ l. IsCauseOf l fault) is
    (cause (subst (λ l. list_any (λ b. b == 10) l ≡ false) (sym is) clean))
