use Rattle.std.proofs.Common.{IfErr, IfOk, [], append-nil, arith, subst, ◌++◌, ◌∷◌, ◌≡◌}
use Rattle.std.proofs.{KnownBytes.Consumes-trans, lemmas.Grind.common_steps}
use Rattle.std.specs.Io.KnownBytes.{Consumes}
use Rattle.proxy_line.proofs.Readings.{cause-of, named-err, named-ok}
use Rattle.proxy_line.proofs.reading.read_origin.Goals as goal
use Rattle.proxy_line.specs.ProxyLine.{IsCauseOf, IsProxyLine}

pub returns-in-None-clause-err : goal.returns-in-None-clause-err
returns-in-None-clause-err g c = (
  c.loop.line.items,
  subst (Consumes _ _) (append-nil c.loop.line.items)
      (Consumes-trans _ _ _ c.loop.line.items [] c.loop.invariant.0 c.in-None.ensures),
  cause-of c.loop.line.items _ _ c.deref.ensures.value c.loop.invariant.1 c.cause_of_end.ensures,
)

pub returns-then-is_err-clause-err : goal.returns-then-is_err-clause-err
returns-then-is_err-clause-err g c = (
  c.loop.line.items ++ c.in-Some.byte ∷ [],
  Consumes-trans _ _ _ c.loop.line.items (c.in-Some.byte ∷ []) c.loop.invariant.0 c.in-Some.ensures,
  tt,
)

pub returns-then-byte-eq10-clause-ok : goal.returns-then-byte-eq10-clause-ok
returns-then-byte-eq10-clause-ok g c =
    let is : c.deref-then-byte-eq10.result.now ≡ c.loop.line.items ++ c.in-Some.byte ∷ [] =
    grind (arith, common_steps) in
    named-ok _ _ (c.loop.line.items ++ c.in-Some.byte ∷ []) c.named_by.result
    (Consumes-trans _ _ _ c.loop.line.items (c.in-Some.byte ∷ []) c.loop.invariant.0
    c.in-Some.ensures)
    (subst (λ l. IfOk c.named_by.result (IsProxyLine l)) is c.named_by.ensures.ok)

pub returns-then-byte-eq10-clause-err : goal.returns-then-byte-eq10-clause-err
returns-then-byte-eq10-clause-err g c =
    let is : c.deref-then-byte-eq10.result.now ≡ c.loop.line.items ++ c.in-Some.byte ∷ [] =
    grind (arith, common_steps) in
    named-err _ _ (c.loop.line.items ++ c.in-Some.byte ∷ []) c.named_by.result
    (Consumes-trans _ _ _ c.loop.line.items (c.in-Some.byte ∷ []) c.loop.invariant.0
    c.in-Some.ensures)
    (subst (λ l. IfErr c.named_by.result (IsCauseOf l)) is c.named_by.ensures.err)
