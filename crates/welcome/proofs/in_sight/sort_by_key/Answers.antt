use Rattle.welcome.proofs.in_sight.sort_by_key.Goals as goal
use Rattle.std.{proofs.lemmas.List.MinMax.ranks_by, specs.Ordering.is_lt}
use Rattle.welcome.proofs.PersonsAt.{◌∷◌, ◌≡◌, by_head, key_of, nat_list_cmp_total, sorted_by_key}
use Rattle.welcome.{proofs.Words.{always_returns_same, rules}, specs.declared.persons.Person.Person}

pub returns-clause-sorted : goal.returns-clause-sorted
returns-clause-sorted g c =
    let mapping = c.args.mapping in sorted_by_key
    mapping c.args.persons.now.items _ c.requires c.sort_unstable_by.ensures.permutation
    (c.sort_unstable_by.ensures.sorted (λ a b. is_lt (by_head mapping a b)) (ranks_by
    nat_list_cmp_total (λ (p : Person). p.head ∷ key_of mapping p.nick.now)) (always_returns_same _
    (λ a r. is_lt r ≡ is_lt (by_head mapping a.0.now a.1.0.now)) _ (λ a r f' k. search rules)))
