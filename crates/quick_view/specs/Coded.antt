-- The codes of network views.
use Rattle.std.specs.Prelude.{ℕ, Bool, List}
use Rattle.std.specs.Coded.{Coded, code_by, coded×, coded_ℕ, coded_bool, coded_list, coded_option}
use Rattle.std.specs.Ordering.{nat_cmp}
use Rattle.std.specs.FinMap as fin
use Rattle.std.proofs.Common.{Option, refl}
use Rattle.irc_support.specs.Text.{Text}
use Rattle.irc_support.specs.Tokens.{Token}
use Rattle.net_view.specs.Names.{bytes_cmp}
use Rattle.net_view.specs.View.{Channel, Person, View}

abbrev pub text_code : Coded Text
text_code = coded_list coded_ℕ

abbrev pub maybe_text_code : Coded (Option Text)
maybe_text_code = coded_option text_code

abbrev pub token_code : Coded Token
token_code = code_by (Text × Option Text) (coded× text_code maybe_text_code) (λ t. (t.0, t.1)) (λ
    p. (p.0, p.1)) (λ _. refl)

abbrev pub channel_code : Coded Channel
channel_code =
    code_by (Text × (Option Text × (fin.FinMap nat_cmp (Option Text) × fin.FinMap bytes_cmp (List
    ℕ))))
    (coded× text_code (coded× maybe_text_code (coded× (fin.code coded_ℕ maybe_text_code) (fin.code
    text_code (coded_list coded_ℕ)))))
    (λ c. (c.name, (c.topic, (c.modes, c.members))))
    (λ p. record { name = p.0; topic = p.1.0; modes = p.1.1.0; members = p.1.1.1 })
    (λ _. refl)

abbrev pub person_code : Coded Person
person_code =
    code_by (Option Text × (Option Text × Option Text))
    (coded× maybe_text_code (coded× maybe_text_code maybe_text_code))
    (λ p. (p.spelled, (p.account, p.away)))
    (λ p. record { spelled = p.0; account = p.1.0; away = p.1.1 })
    (λ _. refl)

abbrev pub view_code : Coded View
view_code =
    code_by (Option Text × (Bool × (List Token × (fin.FinMap bytes_cmp Channel × fin.FinMap
    bytes_cmp Person))))
    (coded× maybe_text_code (coded× coded_bool (coded× (coded_list token_code) (coded× (fin.code
    text_code channel_code) (fin.code text_code person_code)))))
    (λ v. (v.own, (v.ready, (v.settings, (v.channels, v.people)))))
    (λ p. record {
      own = p.0;
      ready = p.1.0;
      settings = p.1.1.0;
      channels = p.1.1.1.0;
      people =
          p.1.1.1.1;
    })
    (λ _. refl)
