use Rattle.commands.proofs.words.read_options.Goals as goal
use Rattle.clap.{proofs.WalkLemmas.first_value-rows, specs.Words.{first_of, found_of, rows_of}}
use Rattle.{commands.proofs.WordsLemmas.{one_list, one_number}, std.proofs.Common.◌∙◌}
use Rattle.std.proofs.Common.{◌≡◌, None, ap, codes, option_map, sym}

pub returns-in_default-clause-refused : goal.returns-in_default-clause-refused
returns-in_default-clause-refused c caps n asks =
    let found = found_of c.args.matches.now in
    let none : None ≡ first_of (codes "caps") (rows_of found) =
    ap (option_map (λ s. s.now)) (sym c.in_default.is) ∙ c.get_str.ensures
    ∙ first_value-rows found (codes "caps") in
    cc (none, asks.1)

pub returns-in_default-get_str-clause-refused : goal.returns-in_default-get_str-clause-refused
returns-in_default-get_str-clause-refused c caps n asks =
    let found = found_of c.args.matches.now in
    let none : None ≡ first_of (codes "history") (rows_of found) =
    ap (option_map (λ s. s.now)) (sym c.in_default-get_str.is) ∙ c.get_str-2.ensures
    ∙ first_value-rows found (codes "history") in
    cc (none, asks.4)

pub returns-in_default-history_in-clause-refused
    : goal.returns-in_default-history_in-clause-refused
returns-in_default-history_in-clause-refused c caps n asks =
    let found = found_of c.args.matches.now in
    c.in_default-history_in.ensures.none n (one_number (rows_of found) caps n
    c.in-Some-get_str.text.now
    (sym (first_value-rows found (codes "history")) ∙ sym c.in-Some-get_str.ensures) asks)

pub returns-in-Some-2-clause-read : goal.returns-in-Some-2-clause-read
returns-in-Some-2-clause-read c =
    let found = found_of c.args.matches.now in (
      c.in-Some.list.now,
      sym (first_value-rows found (codes "caps")) ∙ sym c.in-Some.ensures,
      sym c.in_ok-caps.ensures ∙ c.in-Some-2.is,
      c.in-Some-get_str.text.now,
      sym (first_value-rows found (codes "history")) ∙ sym c.in-Some-get_str.ensures,
      c.in-Some-history_in.ensures.some,
    )

pub returns-in-None-clause-refused : goal.returns-in-None-clause-refused
returns-in-None-clause-refused c caps n asks =
    let found = found_of c.args.matches.now in
    let none = sym c.in_ok-caps.ensures ∙ c.in-None.is in
    let list = sym (first_value-rows found (codes "caps")) ∙ sym c.in-Some.ensures in
    cc (none, one_list (rows_of found) caps n c.in-Some.list.now list asks)
