-- What the last of some changes says, found by making them one after the other.
use Rattle.net_view.proofs.Words
use Rattle.std.specs.FinMap as fin
use Words.{◌&&◌, ◌==◌, ◌||◌, ◌∷◌, ◌≡◌, Bool, ChangeParts, ForSome, LetterChange, List, None, Option}
use Words.{Some, Text, Token, [], ap, arith, bytes_cmp, cond, eq_by_cmp, filter_map, has_rank}
use Words.{is_nameable, last_in, nat_cmp, option_and_then, option_map, rank_in_change, ranks_that}
use Words.{refl, setting_of, true, unwrap_or, ℕ}
use Rattle.irc_names.specs.{CaseMapping.key_of, declared.case_mapping.CaseMapping.CaseMapping}
use Rattle.irc_support.specs.{Ranking.rank_of_letter, Settings.mapping_of}
use Rattle.net_view.proofs.{AfterAlike.{is_same, look_ups}, RankSets.{has-ranks, is_rank}}
use Rattle.net_view.{proofs.RankSets.ranks_alike, specs.MemberSets.ranks_changed}
use Rattle.{net_view.specs.StateLines.letter_change, network_tables.specs.Table.swapped_in}
use Rattle.{quick_view.specs.Moding.rank_after, std.specs.{Cmp.nat_cmp_total, Prelude.not}}

-- one more is made
pub last_more : {X Y A : Type 0} (says : X → Option A) (find : Y → Option X) (x : Y)
    (left : List Y) (old new : A) → new ≡ unwrap_or (option_and_then says (find x)) old
    → unwrap_or (last_in says (filter_map find (x ∷ left))) old
    ≡ unwrap_or (last_in says (filter_map find left)) new
last_more says find x left old new e = grind arith

-- a mode that is set or taken off
pub mode_put : (letter k : ℕ) (setting old : Option (Option Text))
    → cond (eq_by_cmp nat_cmp letter k) setting old
    ≡ unwrap_or (setting_of letter (record { letter = k; setting = setting })) old
mode_put letter k setting old = grind arith

pub letter_put : {X : Type 0} (m : fin.FinMap nat_cmp X) (k : ℕ) (v : X) (q : ℕ)
    → fin.get (fin.insert m k v) q ≡ cond (eq_by_cmp nat_cmp q k) (Some v) (fin.get m q)
letter_put = fin.get-insert nat_cmp_total

pub letter_out : {X : Type 0} (m : fin.FinMap nat_cmp X) (k q : ℕ)
    → fin.get (fin.remove m k) q ≡ cond (eq_by_cmp nat_cmp q k) None (fin.get m q)
letter_out = fin.get-remove nat_cmp_total

-- for an attribute `using`
pub ruleset letter_maps = (letter_put, letter_out, mode_put)

-- ---- ranks

-- what a change says about a rank
pub change_said : (s : List Token) (x : ChangeParts) (rank : ℕ) (nick : Text) (m : CaseMapping)
    → Some rank ≡ rank_of_letter s x.letter → Some nick ≡ x.param → true ≡ is_nameable nick
    → m ≡ mapping_of s
    → Some (record { plus = x.plus; rank = rank; person = key_of m nick }) ≡ letter_change s x
change_said s x rank nick m rank_is param_is ok mapping = grind arith

module _ (l : LetterChange) (m : fin.FinMap bytes_cmp (List ℕ)) where
  -- who changes is no member
  pub rank_none : None ≡ fin.get m l.person → (n : Text)
      → fin.get m n ≡ option_map (rank_after (Some l) n) (fin.get m n)
  rank_none none n = grind (arith, is_same n l.person)

  -- a member's ranks change
  pub rank_some : (m2 : fin.FinMap bytes_cmp (List ℕ)) (ranks new : List ℕ)
      → Some ranks ≡ fin.get m l.person → m2 ≡ swapped_in m l.person new
      → new ≡ cond l.plus (ranks_that (λ r. r == l.rank || has_rank ranks r))
      (ranks_that (λ r. not (r == l.rank) && has_rank ranks r))
      → (n : Text) → fin.get m2 n ≡ option_map (rank_after (Some l) n) (fin.get m n)
  rank_some m2 ranks new there is new_is n = grind (look_ups, is_same n l.person)

module _ {Y : Type 0} (find : Y → Option LetterChange) (n : Text) where
  -- what a change says of a rank, made at once
  said : (o : Option LetterChange) (ranks : List ℕ) (rank : ℕ) → is_rank rank ≡ true
      → has_rank (rank_after o n ranks) rank
      ≡ unwrap_or (option_and_then (rank_in_change n rank) o) (has_rank ranks rank)
  said o ranks rank h = grind (arith, has-ranks)

  -- one more change is made
  pub ranks_more : (x : Y) (left : List Y) (ranks : List ℕ)
      → ranks_changed (filter_map find (x ∷ left)) n ranks
      ≡ ranks_changed (filter_map find left) n (rank_after (find x) n ranks)
  ranks_more x left ranks =
      ranks_alike _ _ (λ rank h. last_more (rank_in_change n rank) find x left _ _
      (said (find x) ranks rank h))

  pub ranks_step : (x : Y) (left : List Y) (old new : Option (List ℕ))
      → new ≡ option_map (rank_after (find x) n) old
      → option_map (ranks_changed (filter_map find (x ∷ left)) n) old
      ≡ option_map (ranks_changed (filter_map find left) n) new
  ranks_step x left old new e = grind (arith, ranks_more x left)

abbrev pub IsSet : List ℕ → Type 0
IsSet ranks = ranks_that (has_rank ranks) ≡ ranks

pub set_of : (f : ℕ → Bool) → IsSet (ranks_that f)
set_of f = ranks_alike _ _ (has-ranks f)

after_set : (o : Option LetterChange) (n : Text) (ranks : List ℕ) → IsSet ranks
    → IsSet (rank_after o n ranks)
after_set o n ranks s = grind (arith, set_of)

-- ranks stay sets
pub still_set : (o : Option LetterChange) (n : Text) (old new : Option (List ℕ))
    → new ≡ option_map (rank_after o n) old → ForSome old IsSet → ForSome new IsSet
still_set o n old new e s ranks is = grind (arith, after_set)

pub none_left : (n : Text) (o : Option (List ℕ)) → ForSome o IsSet
    → option_map (ranks_changed [] n) o ≡ o
none_left n None s = refl
none_left n (Some ranks) s = ap Some (s ranks refl)
