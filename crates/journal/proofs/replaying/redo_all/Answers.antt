use Rattle.std.proofs.Common.{◌≡◌, ◌+◌, ◌∷◌, ℕ, List, Bor, rules, arith, map, subst, sym}
use Rattle.journal.proofs.InOrder.{stops_here, stops_later}
use Rattle.journal.specs.Kept.{kept_parts, nothing}
use Rattle.journal.specs.Recalls.{FailsBy, StopsAt, TakesAll}
use Rattle.journal.proofs.replaying.redo_all.Goals as goal

pub loop-payload-init : goal.loop-payload-init
loop-payload-init c =
    let start : kept_parts c.in_ok-kept.kept ≡ nothing c.args.capacity c.args.first =
    c.in_ok-kept.ensures.made in
    let all = map (λ (p : Bor (List ℕ)). p.now) c.args.payloads.items in
    let same : map (λ (p : Bor (List ℕ)). p.now) c.into_iter-payload-iterator.result.rest.items
    ≡ all =
    search rules in
    record {
      count = search rules;
      took = λ final t.
          subst (λ k. TakesAll all k final) start
          (subst (λ qs. TakesAll qs (kept_parts c.in_ok-kept.kept) final) same t);
      stops = λ n d s.
          subst (λ m. StopsAt all (nothing c.args.capacity c.args.first) m d) (omega arith)
          (subst (λ k. StopsAt all k n d) start
          (subst (λ qs. StopsAt qs (kept_parts c.in_ok-kept.kept) n d) same s));
    }

pub loop-payload-preserved : goal.loop-payload-preserved
loop-payload-preserved c =
    let start = nothing c.args.capacity c.args.first in
    let all = map (λ (p : Bor (List ℕ)). p.now) c.args.payloads.items in
    let old = kept_parts c.loop-payload.kept in
    let new = kept_parts c.redo_payload.new.kept in
    let p = c.in-Some.payload.now in
    let ps = map (λ (p : Bor (List ℕ)). p.now) c.next.new.self.rest.items in
    let more : map (λ (p : Bor (List ℕ)). p.now) c.loop-payload.payload-iterator.rest.items ≡ p ∷ ps = search rules in
    record {
      count = search rules;
      took = λ final t.
          c.loop-payload.invariant.took final
          (subst (λ qs. TakesAll qs old final) (sym more) (new, c.in-Ok.ensures.took, t));
      stops = λ n d s.
          subst (λ m. StopsAt all start m d) (omega arith)
          (c.loop-payload.invariant.stops (n + 1) d
          (subst (λ qs. StopsAt qs old (n + 1) d) (sym more)
          (stops_later p ps old new n d c.in-Ok.ensures.took s)));
    }

pub returns-in-Damaged-clause-redone : goal.returns-in-Damaged-clause-redone
returns-in-Damaged-clause-redone c =
    let start = nothing c.args.capacity c.args.first in
    let all = map (λ (p : Bor (List ℕ)). p.now) c.args.payloads.items in
    let old = kept_parts c.loop-payload.kept in
    let p = c.in-Some.payload.now in
    let ps = map (λ (p : Bor (List ℕ)). p.now) c.next.new.self.rest.items in
    let more : map (λ (p : Bor (List ℕ)). p.now) c.loop-payload.payload-iterator.rest.items ≡ p ∷ ps = search rules in
    let fails = subst (FailsBy p old) c.in-Damaged.is c.in-Err.ensures.fails in
    subst (λ m. StopsAt all start m c.in-Damaged.damage) (omega arith)
    (c.loop-payload.invariant.stops 0 c.in-Damaged.damage
    (subst (λ qs. StopsAt qs old 0 c.in-Damaged.damage) (sym more)
    (stops_here p ps old c.in-Damaged.damage fails)))
