-- Modes, members and name lists that are written out are read back as they are.
pub mod Leading
unfoldable pub use Leading.*
use Rattle.irc_support.proofs.ModesRead as spelled_modes
use Rattle.irc_support.proofs.NamesRead as spelled_names

-- ---- modes that are written out are read back as they are

-- a mode as the change that sets it
abbrev pub shown_mode : ℕ × Option Text → ModeChange
shown_mode m = record { letter = m.0; setting = Some m.1 }

-- a mode that can be written: its letter is no sign, and it has the parameter that its kind takes
abbrev pub IsWritten : List Token → ℕ × Option Text → Type 0
IsWritten settings m = (is_sign m.0 ≡ false) × IsKept (kind_of settings m.0) m.1

modes_set : (settings : List Token) (modes : List (ℕ × Option Text))
    → Each (IsWritten settings) modes → Each (IsWrittenMode settings) modes
    × (filter_map (mode_change settings) (map set_change modes) ≡ map shown_mode modes)
modes_set settings [] each = (tt, refl)
modes_set settings (m ∷ modes) each = grind (arith, each.0, modes_set settings modes each.1)

-- what the letters after a plus and their parameters change
pub changes_read : (settings : List Token) (modes : List (ℕ × Option Text))
    → Each (IsWritten settings) modes → filter_map
    (mode_change settings) (changes settings (mode_params modes)) ≡ map shown_mode modes
changes_read settings modes each =
    let set = modes_set settings modes each in
    rw (spelled_modes.changes_read settings modes set.0) set.1

-- a channel's modes as the list of them gives them
pub modes_listed : (m : fin.FinMap nat_cmp (Option Text)) (letter : ℕ) → unwrap_or
    (last_in (setting_of letter) (map shown_mode (fin.entries m))) None ≡ fin.get m letter
modes_listed m letter =
    let told = told_at nat_cmp fin.nat_cmp-IsAntisymmetric letter
    (setting_of letter) shown_mode Some (λ e. refl) m in grind (arith, told)

-- ---- members that are written out in name lists are read back as they are

-- a member that can be written: the nick, nameable and of this key, and ranks that have symbols
pub record IsWrittenMember (v : View) (member : Text × List ℕ) : Type 0 where
  pub nick : Text
  pub known : known_at (λ p. p.spelled) v member.0 ≡ Some nick
  pub spells : IsSpelling v.settings member.0 nick
  pub ranks : Each (HasSymbol v.settings) member.1

-- the ranks of a member as they are read
abbrev pub ranks_read : Bool → List ℕ → List ℕ
ranks_read multi_prefix ranks = ranks_that (has_rank (ranks_shown multi_prefix ranks))

-- the spelling that the list has
abbrev pub spelled_by : View → Text → Text
spelled_by v n = unwrap_or (known_at (λ p. p.spelled) v n) n

-- a member as it is read: the ranks that are shown
abbrev pub shown_member : View → Bool → Text × List ℕ → Listing
shown_member v mp m =
    record { person = record { key = m.0; spelled = spelled_by v m.0 }; ranks = ranks_read mp m.1 }

some_shown : (settings : List Token) (multi_prefix : Bool) (ranks : List ℕ)
    → Each (HasSymbol settings) ranks → Each (HasSymbol settings) (ranks_shown multi_prefix ranks)
some_shown settings multi_prefix ranks each = grind (arith, each)

module _ (v : View) (multi_prefix : Bool) (member : Text × List ℕ)
    (w : IsWrittenMember v member) where
  pub word_plain : IsPlain (member_word v multi_prefix member)
  word_plain =
      rw w.known (spelled_names.word_plain v.settings
      (ranks_shown multi_prefix member.1) w.nick w.spells.nameable)

  word_read : listing v.settings (word_of v.settings (member_word v multi_prefix member))
      ≡ Some (shown_member v multi_prefix member)
  word_read =
      let read = spelled_names.word_read v.settings (ranks_shown multi_prefix member.1) w.nick
      w.spells.nameable (some_shown v.settings multi_prefix member.1 w.ranks) in
      rw w.known (ap (listing v.settings) read ∙ simp (w.spells.nameable, w.spells.keyed))

pub members_read : (v : View) (multi_prefix : Bool) (es : List (Text × List ℕ))
    → Each (IsWrittenMember v) es
    → listed v.settings (map (member_word v multi_prefix) es) ≡ map (shown_member v multi_prefix) es
members_read v multi_prefix [] each = refl
members_read v multi_prefix (e ∷ es) each =
    simp (word_read v multi_prefix e each.0, members_read v multi_prefix es each.1)

-- ---- a name list that has all members of a channel

-- a person after the list
abbrev pub listed_person : View → View → fin.FinMap bytes_cmp (List ℕ) → Text → Person
listed_person v w members n = record {
  spelled = unwrap_or (option_map (λ _. Some (spelled_by v n)) (fin.get members n))
      (known_at (λ p. p.spelled) w n);
  account = known_at (λ p. p.account) w n;
  away = known_at (λ p. p.away) w n;
}

module _ (v : View) (mp : Bool) (members : fin.FinMap bytes_cmp (List ℕ)) where
  abbrev pub listings : List Listing
  listings = map (shown_member v mp) (fin.entries members)

  module _ (n : Text) where
    in_list : (es : List (Text × List ℕ))
        → lists n (map (shown_member v mp) es) ≡ is_some (fin.find bytes_cmp n es)
    in_list [] = refl
    in_list (e ∷ es) = grind (arith, in_list es)

    listed_found : lists n listings ≡ is_some (fin.get members n)
    listed_found = grind (arith, in_list, fin.get-entries members n)

    rank_found : (rank : ℕ) → last_in (rank_in_listing n rank) listings
        ≡ option_map (λ r. has_rank (ranks_read mp r) rank) (fin.get members n)
    rank_found rank =
        told_at bytes_cmp bytes_exact n (rank_in_listing n rank) (shown_member v mp)
        (λ r. has_rank (ranks_read mp r) rank) (λ e. refl) members

    spelled_found : last_in (spelled_in n) listings
        ≡ option_map (λ _. spelled_by v n) (fin.get members n)
    spelled_found =
        told_at bytes_cmp bytes_exact n (spelled_in n) (shown_member v mp) (λ _. spelled_by v n)
        (λ e. grind (arith, is_same n e.0)) members

    -- a member after the list, which names all who were there
    member_listed : (found before : Option (List ℕ)) → (is_some before ≡ true → is_some found
        ≡ true) → cond (unwrap_or (cond (is_some found) (Some true) None) (is_some before)) (Some
        (ranks_that (λ rank. unwrap_or (option_map (λ r. has_rank (ranks_read mp r) rank) found)
        (had_rank rank before)))) None ≡ option_map (ranks_read mp) found
    member_listed None before h = grind arith
    member_listed (Some r) before h = ap Some (ranks_alike _ _ (has-ranks _))

  -- the view after the list, if the channel was known with some of these members
  module _ (w : View) (sets : HasSets w) (k : Text) (before : Channel) (there : fin.get w.channels k
      ≡ Some before) (within : (n : Text) → is_some (fin.get before.members n) ≡ true
      → is_some (fin.get members n) ≡ true) (read : fin.FinMap bytes_cmp (List ℕ))
      (are : (n : Text) → fin.get read n ≡ option_map (ranks_read mp) (fin.get members n)) where
    abbrev is : Channel
    is = record before { members = read }

    pub list_read : after_told w (Present k listings) ≡ record w {
      channels = fin.insert w.channels k is;
      people = people_read (fin.insert w.channels k is) (listed_person v w members);
    }
    list_read =
        let t = Present k listings in
        let ds = fin.insert w.channels k is in
        let made = channel_is (us_of w) t k (Some before) is refl
        (λ letter. refl) (λ n. simp (same_refl k, listed_found, rank_found) (member_listed n
        (fin.get members n) (fin.get before.members n) (within n) ∙ sym (are n))) in
        view_put w sets t k (λ d h. grind look_ups) is _ (grind (look_ups, there, made))
        (λ n. grind (look_ups, get_read ds (listed_person v w members) n, spelled_found n))

-- ---- views that a burst is made of, and what is written of them is read back

pub record IsSource (v : View) : Type 0 where
  pub sound : IsSound v
  pub formed : IsWellFormed v
  pub nick : Text
  pub own : v.own ≡ Some nick
  pub ready : v.ready ≡ true

pub source_of : (items : List Arrival) → (view_of items).ready ≡ true → IsSource (view_of items)
unfolding view_of
source_of items ready =
    let sound = view_sound items in
    let own : (nick : Text) × ((view_of items).own ≡ Some nick) =
    grind (arith, ready, sound.unwelcomed) in
    let tokens = tokens_formed (reverse items) in
    record {
      sound = sound;
      formed =
          record { tokens = tokens; letters = letters_unsigned items; ranks = view_ranked items };
      nick = own.0;
      own = own.1;
      ready = ready;
    }

each_of : (P : ℕ → Type 0) (ranks : List ℕ) → ((rank : ℕ) → has_rank ranks rank ≡ true → P rank)
    → Each P ranks
each_of P [] h = tt
each_of P (r ∷ ranks) h =
    (h r (grind (arith, eq-eqb)), each_of P ranks (λ rank e. h rank (grind (arith, e))))

rank_symbol : (settings : List Token) (rank : ℕ) → rank < rank_limit settings
    → HasSymbol settings rank
rank_symbol settings rank lt =
    let r = ranking_of settings in
    let within = rw (paired r (ranking_of-is settings)) at lt in
    (get_or r.symbols rank 0, slice_get-get_or r.symbols rank 0 within)

spelled_member : (v : View) (n : Text) (ranks : List ℕ) (o : Option Text)
    → known_at (λ p. p.spelled) v n ≡ o → IsSomeAnd o (IsSpelling v.settings n)
    → Each (HasSymbol v.settings) ranks → IsWrittenMember v (n, ranks)
spelled_member v n ranks None e h each = absurd h
spelled_member v n ranks (Some nick) e h each =
    record { nick = nick; known = e; spells = h; ranks = each }

module _ (v : View) (src : IsSource v) (c : Text) (ch : Channel)
    (at : fin.get v.channels c ≡ Some ch) where
  pub members_written : Each (IsWrittenMember v) (fin.entries ch.members)
  members_written =
      entries_got (IsWrittenMember v) ch.members (λ e is. let ok = src.sound.channels c ch at in let
      ranks = each_of (HasSymbol v.settings) e.1 (λ rank h. rank_symbol v.settings rank (ok.ranks
      e.0 e.1 is rank h)) in spelled_member v e.0 e.1 _ refl (ok.spelled e.0 (ap is_some is)) ranks)

  pub modes_written : Each (IsWritten v.settings) (fin.entries ch.modes)
  modes_written =
      letters_got (IsWritten v.settings) ch.modes (λ e is.
      (src.formed.letters c ch at e.0 e.1 is, (src.sound.channels c ch at).modes e.0 e.1 is))
