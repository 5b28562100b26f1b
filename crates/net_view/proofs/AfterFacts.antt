-- The view after what is about a person alone, as ACCOUNT and AWAY, or about the settings alone.
use Rattle.net_view.proofs.AfterAlike.{HasSets, IsKnowing, all_channels_stay, all_persons_stay}
use Rattle.net_view.proofs.{AfterAlike.{look_ups, quiet_channel, us_of, view_after}, Words.◌≡◌}
use Rattle.net_view.proofs.Words.{HasAccount, IsAway, List, Option, Settles, Supports, Text, View}
use Rattle.net_view.proofs.Words.{after_told, arith, readied, settings_after, standing_of}
use Rattle.net_view.specs.Changes.{on_person, with_account, with_away}

module _ (v : View) (sets : HasSets v) (known : IsKnowing v) where
  -- an ACCOUNT of who is known (IRCv3 account-notify)
  pub after_account : (who : Text) (account : Option Text)
      → after_told v (HasAccount who account) ≡ on_person v who (with_account account)
  after_account who account =
      let t = HasAccount who account in
      view_after v t v.channels _ (λ c. grind (look_ups, quiet_channel (us_of v) t c, sets c))
      (λ n. grind (look_ups, known n))

  -- an AWAY of who is known (IRCv3 away-notify)
  pub after_away : (who : Text) (text : Option Text)
      → after_told v (IsAway who text) ≡ on_person v who (with_away text)
  after_away who text =
      let t = IsAway who text in
      view_after v t v.channels _ (λ c. grind (look_ups, quiet_channel (us_of v) t c, sets c))
      (λ n. grind (look_ups, known n))

  -- 376 and 422 fix the settings (RFC 2812, sections 5.1 and 5.2)
  pub after_settled : after_told v Settles ≡ readied v
  after_settled = search (arith, all_channels_stay, all_persons_stay)

  -- 005 sets tokens (isupport draft, section 2)
  pub after_supports : (params : List Text) → after_told v (Supports params) ≡ record v
      { settings = settings_after (Supports params) (standing_of v) }
  after_supports params = search (arith, all_channels_stay, all_persons_stay)
