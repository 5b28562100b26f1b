-- What every view is like, so that it is read back as written: tokens, letters of modes, ranks.
use Rattle.std.specs.FinMap as fin
use Rattle.irc_support.proofs.{ModesRead.changes_unsigned, RankSets.ranks_that-has_rank}
use Rattle.irc_support.{proofs.TokensRead.tokens_set, specs.Written.{AreTokens, is_sign}}
use Rattle.net_view.proofs.Channels.{channels_get, covers_mode, members_get, modes_get}
use Rattle.net_view.proofs.{Holds.of_told, PartsSound.Each, Tests.any_append, Words.{◌∷◌, ◌≡◌}}
use Rattle.net_view.proofs.Words.{Arrival, ChangeParts, Channel, List, Lost, ModeChange, Option}
use Rattle.net_view.proofs.Words.{Received, Some, Text, Token, [], arith, eq_by_cmp, false}
use Rattle.net_view.proofs.Words.{filter_map, has_rank, letters_in, list_any, map, mode_change}
use Rattle.net_view.proofs.Words.{named, nat_cmp, rank_decided, ranks_that, readings_of, refl}
use Rattle.net_view.proofs.Words.{reverse, settings_of, state_lines, told, true, view_of, ℕ}

-- ---- letters of modes are no signs

module _ (q : ℕ) (sign : is_sign q ≡ true) where
  abbrev Lacks : List ℕ → Type 0
  Lacks letters = list_any (eq_by_cmp nat_cmp q) letters ≡ false

  kept_unsigned : (settings : List Token) (cs : List ChangeParts)
      → Each (λ (change : ChangeParts). is_sign change.letter ≡ false) cs
      → Lacks (map (λ (m : ModeChange). m.letter) (filter_map (mode_change settings) cs))
  kept_unsigned settings [] each = refl
  kept_unsigned settings (c ∷ cs) each = grind (arith, kept_unsigned settings cs)

  -- no item decides a sign
  named_unsigned : (items : List Arrival) → Lacks (named letters_in (readings_of items))
  unfolding told state_lines
  named_unsigned [] = refl
  named_unsigned (Lost ∷ older) = named_unsigned older
  named_unsigned (Received line ∷ older) =
      let said = of_told (λ t. Lacks (letters_in t)) (settings_of older) line refl
      (search (arith, kept_unsigned, changes_unsigned)) in
      simp (any_append, said, named_unsigned older)

-- the tokens in force are of their form, after any items
pub tokens_formed : (items : List Arrival) → AreTokens (settings_of items)
tokens_formed [] = tt
tokens_formed (x ∷ older) = grind (arith, tokens_set, tokens_formed older)

-- ---- a channel of a view

module _ (items : List Arrival) (c : Text) (ch : Channel)
    (at : fin.get (view_of items).channels c ≡ Some ch) where
  -- the letters of its modes are no signs
  pub letters_unsigned : (letter : ℕ) (param : Option Text)
      → fin.get ch.modes letter ≡ Some param → is_sign letter ≡ false
  unfolding view_of
  letters_unsigned letter param on =
      let rs = readings_of (reverse items) in
      grind (arith, covers_mode, named_unsigned, channels_get rs c, modes_get rs c letter)

  -- the ranks of a member are a set
  pub view_ranked : (n : Text) (ranks : List ℕ) → fin.get ch.members n ≡ Some ranks
      → ranks_that (has_rank ranks) ≡ ranks
  unfolding view_of
  view_ranked n ranks h =
      let rs = readings_of (reverse items) in
      grind (arith, ranks_that-has_rank (rank_decided rs c n), members_get rs c, channels_get rs c)
