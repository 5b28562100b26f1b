use Rattle.tape_view.proofs.tape.Tape.next_letter.Goals as goal
use Rattle.std.specs.FinMap as fin
use Rattle.tape_view.proofs.{NextKey.{next_all, next_line}, PlacedKeys.{begun_off, listed_on}}
use Rattle.tape_view.proofs.{PlacedKeys.unsaid_on, Words.{arith, is_set, key, nat_cmp_total}}
use Rattle.tape_view.specs.Letters.{letters_told}

pub returns-then-is_some : goal.returns-then-is_some
returns-then-is_some g c =
    let i = c.loop-said.invariant in
    next_all (λ tape. is_set tape.readings (key tape c.args.channel.now)) _ _ _ _
    (begun_off c.in-Some.ensures.last c.args.channel.now i.on _ c.says_on.ensures
    (grind (arith, c.is_some.ensures))) i.so_far

pub loop-said-preserved : goal.loop-said-preserved
loop-said-preserved g c =
    let i = c.loop-said.invariant in
    let last = c.in-Some.ensures.last in
    record {
      on = unsaid_on last _ i.on _ c.says_on.ensures (grind (arith, c.is_some.ensures));
      so_far = next_line nat_cmp_total fin.nat_cmp-IsAntisymmetric last _
          (λ s. letters_told s c.in-Some.said.telling) _ _ _ (listed_on last _ i.on)
          c.best_letter-best.ensures i.so_far;
    }
