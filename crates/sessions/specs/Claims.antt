-- What a client logs in as: `user[@client]/network`, and a password (our own choice, after ZNC).
use Rattle.std.specs.Prelude.{Option, Some, None, ◌∷◌}
use Rattle.std.specs.Option.{option_map}
use Rattle.irc_support.specs.Text.{Text, cut_at}
use Rattle.client_caps.specs.declared.caps.Caps.{Caps}
use Rattle.sessions.specs.declared.claim.Claim.{Claim}

pub record ClaimParts : Type 0 where
  pub user : Text
  pub client : Option Text
  pub network : Text
  pub password : Text
  pub caps : Caps

abbrev pub parts_of : Claim → ClaimParts
parts_of claim = record {
  user = claim.user.items;
  client = option_map (λ c. c.items) claim.client;
  network = claim.network.items;
  password = claim.password.items;
  caps = claim.caps;
}

-- the login and the password: a PASS with a colon has both, cut at its first; else the login is
-- that of USER, and the password the whole of PASS
abbrev pub login_by : Text → Text → Text × Option Text → Text × Text
login_by user pass (login, Some password) = (login, password)
login_by user pass (before, None) = (user, pass)

abbrev pub login_and_password : Text → Text → Text × Text
login_and_password user pass = login_by user pass (cut_at 58 pass)

-- a client's name; an empty one is none
abbrev pub client_of : Option Text → Option Text
client_of (Some (b ∷ name)) = Some (b ∷ name)
client_of _ = None

-- a login is cut at its first `/`, and the text before that at its first `@`; without a `/` it is
-- none
abbrev pub claim_of : Text → Text → Caps → Option ClaimParts
claim_of login password caps =
    option_map (λ network. record {
      user = (cut_at 64 (cut_at 47 login).0).0;
      client = client_of (cut_at 64 (cut_at 47 login).0).1;
      network = network;
      password = password;
      caps = caps;
    }) (cut_at 47 login).1

-- of the login of USER, and PASS
abbrev pub claim_by : Text → Text → Caps → Option ClaimParts
claim_by user pass caps =
    claim_of (login_and_password user pass).0 (login_and_password user pass).1 caps
