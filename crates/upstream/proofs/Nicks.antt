-- A registration that asks for the settings' own nick.
use Rattle.bnc_config.specs.Settings.{NetworkSettings}
use Rattle.std.proofs.Common.{List, refl, ◌≡◌, ℕ}
use Rattle.upstream.specs.Registration.{asked_as}

pub own_nick : (network : NetworkSettings) (nick : List ℕ) → nick ≡ network.nick
    → asked_as network nick ≡ network
own_nick network nick is = rw is refl
