-- Our nick as it was spelled last is found on the first of our channels.
use Rattle.std.specs.FinMap as fin
use Rattle.net_view.proofs.AfterMaps.{seen_somewhere}
use Rattle.net_view.proofs.Tests.{no_true}
use Rattle.net_view.specs.Readers.{MemberParts}
use Rattle.net_view.specs.Step.{is_seen}
use Rattle.std.specs.List.{find}
use Rattle.welcome.specs.Playing.{own_spelled}
use Rattle.welcome.proofs.Words
use Words.{◌∙◌, ◌≡◌, ◌∷◌, Arrival, Bool, Bor, Channel, Each, IsSomeAnd, IsSound, IsSpelling, List, None, Option, Some}
use Words.{Text, View, [], ap, arith, entries_got, false, is_same, is_some, key_by, known_at}
use Words.{length, list_any, map, member_parts, member_parts_at, option_map, refl, same, same_refl, sym, true}
use Words.{unwrap_or, view_sound, ℕ}
unfoldable use Words.{view_of}

module _ (v : View) (sound : IsSound v) (own : Text) (is : v.own ≡ Some own) where
  abbrev us : Text
  us = key_by v.settings own

  abbrev is_ours : MemberParts → Bool
  is_ours m = same (key_by v.settings m.nick) us

  abbrev IsKeyed : Text × List ℕ → Type 0
  IsKeyed e = key_by v.settings (member_parts v e).nick ≡ e.0

  found_among : (es : List (Text × List ℕ)) → Each IsKeyed es
      → list_any (same us) (map (λ e. e.0) es) ≡ true
      → option_map (λ (m : MemberParts). m.nick) (find is_ours (map (member_parts v) es))
      ≡ Some (unwrap_or (known_at (λ p. p.spelled) v us) us)
  found_among [] keyed any = absurd (no_true any)
  found_among (e ∷ es) keyed any =
      grind (arith, keyed.0, is_same e.0 us, is_same us e.0, same_refl us, any, found_among es keyed.1)

  keyed_by : (n : Text) (o : Option Text) → known_at (λ p. p.spelled) v n ≡ o
      → IsSomeAnd o (IsSpelling v.settings n)
      → key_by v.settings (unwrap_or (known_at (λ p. p.spelled) v n) n) ≡ n
  keyed_by n None e s = absurd s
  keyed_by n (Some nick) e s = rw e s.keyed

  shown_by : (n : Text) (o : Option Text) → known_at (λ p. p.spelled) v n ≡ o
      → IsSomeAnd o (IsSpelling v.settings n)
      → unwrap_or (known_at (λ p. p.spelled) v n) n
      ≡ unwrap_or (known_at (λ p. p.spelled) v n) own
  shown_by n None e s = absurd s
  shown_by n (Some nick) e s = rw e refl

  -- on a channel that we are on
  found_on : (c : Text) (ch : Channel) → fin.get v.channels c ≡ Some ch
      → unwrap_or (option_map (λ (m : MemberParts). m.nick)
      (find is_ours (map (member_parts v) (fin.entries ch.members)))) own
      ≡ unwrap_or (known_at (λ p. p.spelled) v us) own
  found_on c ch at =
      let ok = sound.channels c ch at in
      let keyed = entries_got IsKeyed ch.members
      (λ e got. keyed_by e.0 _ refl (ok.spelled e.0 (ap is_some got))) in
      let here : is_some (fin.get ch.members us) ≡ true = grind (arith, is, ok.own) in
      let found = found_among (fin.entries ch.members) keyed
      (sym (fin.contains_key-keys ch.members us) ∙ here) in
      rw found (shown_by us _ refl (ok.spelled us here))

  -- nobody sees us if we are on no channel
  unseen : fin.entries v.channels ≡ [] → fin.get v.people us ≡ None
  unseen e =
      let empty = fin.empty_of_len v.channels (fin.len-entries v.channels ∙ ap length e) in
      by (is_seen v.channels us) refl where
        by : (b : Bool) → is_seen v.channels us ≡ b → fin.get v.people us ≡ None
        by true h =
            let at = seen_somewhere v.channels us h in
            absurd (no_true (grind (arith, at.1, fin.get-empty)))
        by false h = grind (arith, sound.known us, h)

  found_first : (es : List (Text × Channel)) → fin.entries v.channels ≡ es
      → unwrap_or (option_map (λ (m : MemberParts). m.nick)
      (find is_ours (member_parts_at v 0))) own
      ≡ unwrap_or (known_at (λ p. p.spelled) v us) own
  found_first [] e = rw e (grind (arith, unseen e))
  found_first (c ∷ es) e =
      let got : fin.get v.channels c.0 ≡ Some c.1 =
      (rw e at (entries_got (λ (c : Text × Channel). fin.get v.channels c.0 ≡ Some c.1) v.channels
      (λ c at. at))).0 in
      rw e (found_on c.0 c.1 got)

pub spelling_found : (v : View) (items : List Arrival) (own : Text) → v ≡ view_of items
    → v.own ≡ Some own → own_spelled v ≡ Some (unwrap_or (option_map (λ (m : MemberParts). m.nick)
    (find (λ (m : MemberParts). same (key_by v.settings m.nick) (key_by v.settings own))
    (member_parts_at v 0))) own)
spelling_found v items own from is =
    let sound : IsSound v = rw from (view_sound items) in
    rw (is, found_first v sound own is (fin.entries v.channels) refl)

-- the same of what is lent
pub spelling_of : (v : View) (items : List Arrival) (own : Text) → v ≡ view_of items
    → v.own ≡ Some own → (there : Option (Bor Text)) (ours result : Bor Text)
    → result ≡ unwrap_or there ours → ours.now ≡ own → option_map (λ (n : Bor Text). n.now) there
    ≡ option_map (λ (m : MemberParts). m.nick) (find (λ (m : MemberParts).
    same (key_by v.settings m.nick) (key_by v.settings own)) (member_parts_at v 0))
    → Some result.now ≡ own_spelled v
spelling_of v items own from is None ours result r o found =
    rw (spelling_found v items own from is, ← found, r, o) refl
spelling_of v items own from is (Some nick) ours result r o found =
    rw (spelling_found v items own from is, ← found, r) refl
