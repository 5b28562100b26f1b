use Rattle.tape_view.proofs.Words.{◌∙◌, arith, Some, None, says_of}
use Rattle.tape_view.proofs.tape.Tape.fact.Goals as goal
use Rattle.net_view.proofs.People.{unseen_none}
use Rattle.tape_view.proofs.SightLine.{all_on, none_seen, known_line, seen_before}

pub returns-then-not-is_in_sight-2 : goal.returns-then-not-is_in_sight-2
returns-then-not-is_in_sight-2 g c =
    let known = known_line c.in-Some.ensures.last _ c.loop-said.invariant.seen (says_of c.args.fact)
    None (Some c.in_ok-name.name) c.in_default-says_fact.ensures c.in_ok-name.ensures in
    grind (arith, unseen_none)

pub loop-said-preserved : goal.loop-said-preserved
loop-said-preserved g c =
    let last = c.in-Some.ensures.last in
    let i = c.loop-said.invariant in
    let name = c.in_ok-name.name in
    record {
      seen = elim c.else-is_some.branch [
        | goal.else-is_some-via-then-is_some+else-not-is_in_sight-2 w ↦ cc
        | goal.else-is_some-via-else-is_some w ↦ seen_before last _ i.seen name
            (λ us m. grind (arith, c.spelled-spelled.ensures us m)) c.in_ok-name.ensures
      ];
      rest = i.rest
          ∙ known_line last _ i.seen (says_of c.args.fact) None (Some name)
          c.in_default-says_fact.ensures c.in_ok-name.ensures;
    }

pub returns : goal.returns
returns g c =
    let gone = none_seen _ _ _ (all_on c.loop-said.tape c.loop-said.name.now)
    c.in_default.ensures.none in
    grind (arith, gone)
