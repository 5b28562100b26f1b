-- Persons in sight.
use Rattle.std.specs.Option.{option_map, option_map_or}
use Rattle.std.specs.FinMap as fin
use Rattle.std.proofs.Common.{Some}
use Rattle.irc_support.specs.Text.{Text}
use Rattle.net_view.specs.Names.{bytes_cmp}
use Rattle.net_view.specs.View as view
use Rattle.network_tables.specs.Shown.{shown}
use Rattle.network_tables.specs.declared.person.Person.{Person}

-- what is known of a person
abbrev pub known_of : {A : Type 0} → Person A → view.Person
known_of p = record {
  spelled = Some p.nick.items;
  account = option_map (λ name. name.items) p.account;
  away = option_map (λ text. text.items) p.away;
}

-- what is known of all of them
abbrev pub people_of : {A : Type 0} → fin.FinMap bytes_cmp (Person A) → fin.FinMap bytes_cmp
    view.Person
people_of people = shown known_of people

-- the value of this key changed, if there is one
abbrev pub changed_at : {X : Type 0} → fin.FinMap bytes_cmp X → Text → (X → X) → fin.FinMap
    bytes_cmp X
changed_at m k change = option_map_or (λ x. fin.insert m k (change x)) (fin.get m k) m
