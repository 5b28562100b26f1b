-- The view after a 353, word by word.
use Rattle.net_view.proofs.Words
use Words.{◌≡◌, ◌∷◌, ◌∙◌, ℕ, List, [], Option, Some, None, refl, sym, ap, arith, ForSome, Text}
use Words.{ranks_that, has_rank, bytes_cmp, Listing, Present, IsSound, Channel, View, after_told}
use Rattle.std.specs.FinMap as fin
use Rattle.net_view.proofs.AfterAlike.{all_channels_stay, all_persons_stay, look_ups, put_again}
use Rattle.net_view.proofs.{AfterAlike.us_of, AfterPresent.{after_word, after_word_elsewhere}}
use Rattle.net_view.proofs.{NameLists.view_in_parts, PartsSound.{Each, IsSoundListing}}
use Rattle.net_view.{proofs.SoundStep.sound_step, specs.{Changes.with_ranks, MemberSets.AreSets}}
use Rattle.net_view.specs.MemberSets.{HasSets, IsKnowing}
use Rattle.{network_tables.proofs.SwapLemmas.twice_in, quick_view.proofs.LastLemmas.{IsSet, set_of}}
use Rattle.{quick_view.specs.Listing.listed_view, std.proofs.Common.subst}

no_words : (v : View) (c : Text) → HasSets v → IsKnowing v → after_told v (Present c []) ≡ v
no_words v c sets known =
    let t = Present c [] in
    let cs = all_channels_stay (us_of v) t v.channels sets (λ d. grind look_ups) in
    let ps = all_persons_stay (us_of v) t v.channels v.people known (λ n. grind look_ups) in
    simp (cs, ps)

-- a channel whose members' ranks are sets, with one more such
put_set : (ch : Channel) (n : Text) (ranks : List ℕ) → AreSets ch → IsSet ranks
    → AreSets (with_ranks n ranks ch)
put_set ch n ranks sets s q r is = grind (look_ups, sets q)

put_sets : (cs : fin.FinMap bytes_cmp Channel) (c : Text) (is : Channel)
    → ((d : Text) → ForSome (fin.get cs d) AreSets) → AreSets is → (d : Text)
    → ForSome (fin.get (fin.insert cs c is) d) AreSets
put_sets cs c is sets s d ch h = grind (look_ups, sets d ch)

-- one word, and then the others
module _ (v : View) (c : Text) (l : Listing) (ls : List Listing) (sound : IsSound v)
    (sets : HasSets v) (first : IsSoundListing v.settings l) (set : IsSet l.ranks)
    (others : Each (IsSoundListing v.settings) ls) (rest : (w : View) → IsSound w → HasSets w
    → Each (IsSoundListing w.settings) ls → after_told w (Present c ls) ≡ listed_view w c ls) where
  one_word : (o : Option Channel) → fin.get v.channels c ≡ o
      → after_told (after_told v (Present c (l ∷ []))) (Present c ls) ≡ listed_view v c (l ∷ ls)
  one_word None e =
      ap (λ w. after_told w (Present c ls)) (after_word_elsewhere v sets sound.known c l e)
      ∙ rest v sound sets others ∙ grind arith
  one_word (Some ch) e =
      let is = with_ranks l.person.key (ranks_that (has_rank l.ranks)) ch in
      let step = after_word v sets sound.known c l ch e in
      let there = sound_step v (Present c (l ∷ [])) sound (first, tt) in
      let full = put_sets v.channels c is sets
      (put_set ch l.person.key _ (sets c ch e) (set_of _)) in
      ap (λ w. after_told w (Present c ls)) step ∙ rest _ (subst IsSound step there) full others
      ∙ grind (look_ups, set, twice_in v.channels c is)

pub names_law : (ls : List Listing) (v : View) (c : Text) → IsSound v → HasSets v
    → Each (IsSoundListing v.settings) ls → Each (λ (l : Listing). IsSet l.ranks) ls
    → after_told v (Present c ls) ≡ listed_view v c ls
names_law [] v c sound sets all set =
    no_words v c sets sound.known ∙ sym (grind (arith, put_again v.channels c))
names_law (l ∷ ls) v c sound sets all set =
    view_in_parts v c (l ∷ []) ls sound
    ∙ one_word v c l ls sound sets (all.0) (set.0) (all.1)
    (λ w sound sets others. names_law ls w c sound sets others (set.1)) (fin.get v.channels c) refl
