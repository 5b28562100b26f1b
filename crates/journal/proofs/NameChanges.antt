-- After the records of the names that changed, they are as they are now.
use Rattle.std.proofs.Common.{◌≡◌, ◌∙◌, ◌≤◌, ◌&&◌, arith, ℕ, Bool, List}
use Rattle.std.proofs.Common.{Option, Some, None, Ok, true, false, refl, sym, ap}
use Rattle.std.proofs.Common.{inl, inr}
use Rattle.std.specs.Prelude.{nat_eq, not, if◌then◌else◌}
use Rattle.std.specs.List.{flat_map}
use Rattle.std.specs.Option.{option_eq, option_map}
use Rattle.std.specs.FinMap as fin
use Rattle.std.specs.FinMap.{entries_sorted, get-entries}
use Rattle.std.specs.FinMap.{same_map}
use Rattle.std.specs.Cmp.{Lexicographic.nat_list_cmp_total}
use Rattle.std.proofs.lemmas.Bool.Decides.{nat_tests}
use Rattle.irc_line.proofs.Logic.{cases_Bool}
use Rattle.history.specs.Marks.{NameMarks, mark_of}
use Rattle.journal.proofs.Snapshots.{after_two, exact}
use Rattle.journal.specs.Changes.{can_follow, changed_of, gone_of, name_changes}
use Rattle.journal.specs.Kept.{KeptParts, after_each}
use Rattle.journal.specs.Snapshots.{counting}
use Rattle.journal.proofs.NameSteps.{Fits, IsIn, Ready, changed_do, changes, counts, get_counting}
use Rattle.journal.proofs.NameSteps.{get_old, get_put, goes, goes_at, gone_do, holding, kept_a}
use Rattle.journal.proofs.NameSteps.{kept_b, mark_in, put, put_at, true_false, without}

option_same : (a b : Option ℕ) → option_eq nat_eq a b ≡ true → a ≡ b
option_same None None e = refl
option_same None (Some b) e = absurd cc
option_same (Some a) None e = absurd cc
option_same (Some a) (Some b) e =
    let same : a ≡ b = grind (arith, nat_tests, e) in
    ap (λ (n : ℕ). Some n) same

follows_itself : (v g : Option ℕ) → can_follow v g v g ≡ true
follows_itself None None = refl
follows_itself None (Some n) = refl
follows_itself (Some m) g = grind (arith, nat_tests)

two_true : (a b : Bool) → not (true && (a && b)) ≡ false → (a ≡ true) × (b ≡ true)
two_true true true e = (refl, refl)
two_true true false e = absurd cc
two_true false b e = absurd cc

not_not : (b : Bool) → not b ≡ false → b ≡ true
not_not true e = refl
not_not false e = absurd cc

module _ (old old_latest new new_latest : NameMarks) where
  -- what is left of a map with the keys of the old one
  left : (m : NameMarks) (q : List ℕ) (o : Option (Option ℕ)) → fin.get old q ≡ o
      → fin.get (without old_latest new new_latest (fin.entries old) m) q
      ≡ (if goes_at old_latest new new_latest q o then None else fin.get m q)
  left m q o is =
      get_old old old_latest new new_latest m q
      ∙ ap (λ (p : Option (Option ℕ)). if goes_at old_latest new new_latest q p then None
      else fin.get m q) is

  goes_unknown : (q : List ℕ) (w : Option ℕ) → fin.get new q ≡ None
      → goes old_latest new new_latest (q, w) ≡ true
  goes_unknown q w is = rw is refl

  goes_by : (q : List ℕ) (w v : Option ℕ) → fin.get new q ≡ Some v
      → goes old_latest new new_latest (q, w)
      ≡ not (can_follow w (mark_of q old_latest) v (mark_of q new_latest))
  goes_by q w v is = rw is refl

  -- a map with the keys of the old one
  abbrev SameKeys : NameMarks → Type 0
  SameKeys m = (q : List ℕ) → fin.get old q ≡ None → fin.get m q ≡ None

  left_in : (m : NameMarks) → SameKeys m
      → IsIn (without old_latest new new_latest (fin.entries old) m) new
  left_in m keys q here = go (fin.get old q) refl (fin.get new q) refl where
    go : (o : Option (Option ℕ)) → fin.get old q ≡ o → (n : Option (Option ℕ))
        → fin.get new q ≡ n → fin.contains_key new q ≡ true
    go o is_old (Some v) is_new = rw is_new refl
    go None is_old None is_new =
        let gone_now : fin.get (without old_latest new new_latest (fin.entries old) m) q ≡ None =
        left m q None is_old ∙ keys q is_old in
        absurd (true_false (sym here ∙ rw gone_now refl))
    go (Some w) is_old None is_new =
        let gone_now : fin.get (without old_latest new new_latest (fin.entries old) m) q ≡ None =
        left m q (Some w) is_old ∙ rw (goes_unknown q w is_new) refl in
        absurd (true_false (sym here ∙ rw gone_now refl))

  counting_keys : SameKeys (counting old old_latest)
  counting_keys q none = get_counting old old_latest q ∙ rw none refl

  fits_left : (q : List ℕ) (v : Option ℕ) → fin.get new q ≡ Some v
      → Fits old old_latest new new_latest (kept_a old old_latest new new_latest)
      (kept_b old old_latest new new_latest) q v
  fits_left q v is_new = go (fin.get old q) refl where
    go : (o : Option (Option ℕ)) → fin.get old q ≡ o
        → Fits old old_latest new new_latest (kept_a old old_latest new new_latest)
        (kept_b old old_latest new new_latest) q v
    go None is_old =
        inl (
          left (counting old old_latest) q None is_old ∙ counting_keys q is_old,
          left old q None is_old ∙ is_old,
        )
    go (Some w) is_old = elim (cases_Bool (goes old_latest new new_latest (q, w))) [
      | inl out ↦
          inl (
            left (counting old old_latest) q (Some w) is_old ∙ rw out refl,
            left old q (Some w) is_old ∙ rw out refl,
          )
      | inr stays ↦
          let can : can_follow w (mark_of q old_latest) v (mark_of q new_latest) ≡ true =
          not_not (can_follow w (mark_of q old_latest) v (mark_of q new_latest))
          (sym (goes_by q w v is_new) ∙ stays) in
          inr (
            w,
            mark_of q old_latest,
            left (counting old old_latest) q (Some w) is_old
                ∙ rw stays (get_counting old old_latest q ∙ rw is_old refl),
            left old q (Some w) is_old ∙ rw stays is_old,
            can,
          )
    ]

  ready : Ready old old_latest new new_latest (fin.entries new)
      (kept_a old old_latest new new_latest) (kept_b old old_latest new new_latest)
  ready = record {
    a_in = left_in (counting old old_latest) counting_keys;
    b_in = left_in old (λ q none. none);
    are = λ q v there. get-entries new q ∙ there;
    fits = λ q v there. fits_left q v (get-entries new q ∙ there);
  }

  -- a name that has not changed stays as it was
  unchanged_left : (f : List ℕ × Option ℕ → Option ℕ) (m : NameMarks) (q : List ℕ)
      (v : Option ℕ) → fin.get new q ≡ Some v → changes old old_latest new new_latest (q, v) ≡ false
      → ((w : Option ℕ) → fin.get old q ≡ Some w → w ≡ v
      → mark_of q old_latest ≡ mark_of q new_latest → fin.get m q ≡ Some (f (q, v)))
      → fin.get (without old_latest new new_latest (fin.entries old) m) q ≡ Some (f (q, v))
  unchanged_left f m q v is_new same is_m = go (fin.get old q) refl where
    go : (o : Option (Option ℕ)) → fin.get old q ≡ o
        → fin.get (without old_latest new new_latest (fin.entries old) m) q ≡ Some (f (q, v))
    go None is_old =
        let new_one : changes old old_latest new new_latest (q, v) ≡ true = rw is_old refl in
        absurd (true_false (sym new_one ∙ same))
    go (Some w) is_old =
        let flat : not (true && (option_eq nat_eq w v
        && option_eq nat_eq (mark_of q old_latest) (mark_of q new_latest))) ≡ false =
        rw is_old at same in
        let both = two_true (option_eq nat_eq w v)
        (option_eq nat_eq (mark_of q old_latest) (mark_of q new_latest)) flat in
        let mark_same = option_same w v both.0 in
        let given_same = option_same (mark_of q old_latest) (mark_of q new_latest) both.1 in
        let stays : goes old_latest new new_latest (q, w) ≡ false =
        goes_by q w v is_new
        ∙ rw (mark_same, given_same) (ap not (follows_itself v (mark_of q new_latest))) in
        left m q (Some w) is_old ∙ rw stays (is_m w is_old mark_same given_same)

  -- what is put over it
  put_is : (f : List ℕ × Option ℕ → Option ℕ) (m : NameMarks) (q : List ℕ) → SameKeys m
      → ((v w : Option ℕ) → fin.get old q ≡ Some w → w ≡ v
      → mark_of q old_latest ≡ mark_of q new_latest → fin.get m q ≡ Some (f (q, v)))
      → fin.get (put old old_latest new new_latest f (fin.entries new)
      (without old_latest new new_latest (fin.entries old) m)) q
      ≡ option_map (λ v. f (q, v)) (fin.get new q)
  put_is f m q keys is_m =
      let rest = without old_latest new new_latest (fin.entries old) m in
      get_put old old_latest new new_latest f (fin.entries new) rest q (entries_sorted new)
      ∙ ap (λ (n : Option (Option ℕ)). put_at old old_latest new new_latest f q n
      (fin.get rest q)) (sym (get-entries new q))
      ∙ go (fin.get new q) refl
    where
      away : (o : Option (Option ℕ)) → fin.get old q ≡ o → fin.get new q ≡ None
          → fin.get (without old_latest new new_latest (fin.entries old) m) q ≡ None
      away None is_old is_new = left m q None is_old ∙ keys q is_old
      away (Some w) is_old is_new =
          left m q (Some w) is_old ∙ rw (goes_unknown q w is_new) refl

      go : (n : Option (Option ℕ)) → fin.get new q ≡ n
          → put_at old old_latest new new_latest f q n
          (fin.get (without old_latest new new_latest (fin.entries old) m) q)
          ≡ option_map (λ v. f (q, v)) n
      go None is_new = away (fin.get old q) refl is_new
      go (Some v) is_new = elim (cases_Bool (changes old old_latest new new_latest (q, v))) [
        | inl now ↦ rw now refl
        | inr same ↦ rw same (unchanged_left f m q v is_new same (is_m v))
      ]

  counts_put : put old old_latest new new_latest (counts old old_latest new new_latest)
      (fin.entries new) (kept_a old old_latest new new_latest) ≡ counting new new_latest
  counts_put = same_map nat_list_cmp_total exact _ _ (λ q.
      put_is (counts old old_latest new new_latest) (counting old old_latest) q counting_keys
      (λ v w is_old mark_same given_same.
      get_counting old old_latest q
      ∙ rw (is_old, mark_same, given_same) refl)
      ∙ sym (get_counting new new_latest q))

  itself_mapped : (o : Option (Option ℕ)) → option_map (λ (v : Option ℕ). v) o ≡ o
  itself_mapped None = refl
  itself_mapped (Some v) = refl

  marks_put : put old old_latest new new_latest (mark_in old old_latest new new_latest)
      (fin.entries new) (kept_b old old_latest new new_latest) ≡ new
  marks_put = same_map nat_list_cmp_total exact _ _ (λ q.
      put_is (mark_in old old_latest new new_latest) old q (λ x none. none)
      (λ v w is_old mark_same given_same. is_old ∙ ap (λ (u : Option ℕ). Some u) mark_same)
      ∙ itself_mapped (fin.get new q))

  -- after the records of the names that changed they are as they are now
  pub names_change : (k : KeptParts) → k.marks ≡ counting old old_latest → k.marked ≡ old
      → fin.len new ≤ 64
      → after_each (name_changes old old_latest new new_latest) k
      ≡ Ok (holding k (counting new new_latest) new)
  names_change k is_marks is_marked few =
      let a = kept_a old old_latest new new_latest in
      let b = kept_b old old_latest new new_latest in
      let out : after_each (flat_map (gone_of old_latest new new_latest) (fin.entries old)) k
      ≡ Ok (holding k a b) =
      gone_do old_latest new new_latest (fin.entries old) k ∙ rw (is_marks, is_marked) refl in
      after_two (flat_map (gone_of old_latest new new_latest) (fin.entries old))
      (flat_map (changed_of old old_latest new_latest) (fin.entries new)) k (holding k a b) out
      ∙ changed_do old old_latest new new_latest (fin.entries new) k a b (entries_sorted new) few
      ready
      ∙ rw (counts_put, marks_put) refl
