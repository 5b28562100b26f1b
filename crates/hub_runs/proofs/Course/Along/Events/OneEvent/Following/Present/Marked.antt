-- What the network was sent, messages and marks, once one thing more has happened.
pub mod HoldingLaw
unfoldable pub use HoldingLaw.*
pub use Rattle.hub_ends.specs.Outlets.{Took as TookPacket}
pub use Rattle.history.{proofs.LastMessages.one_more, specs.Marks.{NameMarks, bytes_cmp, mark_of}}
pub use Rattle.{history.specs.Messages.{Messages, history_of}, hub_core.specs.Attaching.{mark_at, marked, with_name}}
pub use Rattle.{hub_core.specs.Running.kept_on, hub_runs.specs.Ran.KeepsOn}
pub use Rattle.hub_core.specs.{InMemory.Drains, Pumping.{Puts, pong_for, with_entry}}
pub use Rattle.{hub_ends.specs.Outlets.OutletState, hub_runs.specs.Course.{Deed, Drained, Joined}}
pub use Rattle.hub_runs.specs.Course.{Took, mark_left, session_then, taken_out, up_by, upward}
pub use Rattle.hub_runs.specs.{Course.waiting, Presence.{AreKnown, is_among, names_then, with_new}}
pub use Rattle.net_view.proofs.{AfterAlike.get_put, Keys.{is_same, same_refl}}
pub use Rattle.std.proofs.Common.{◌||◌, IfSome, IsSome, None, option_map}
pub use Rattle.std.proofs.lemmas.{Bool.Decides.nat_tests, List.Folds.list_any-append}
pub use Rattle.std.specs.{Cmp.Lexicographic.nat_list_cmp_total, FinMap.{contains_key, len-insert}}
pub use Rattle.std.specs.{Option.option_map_or, Ordering.eq_by_cmp}

-- an outlet to the network after what happened
pub record Ups (up : ℕ) (ds : List Deed) (o : OutletState) : Type 0 where
  pub sent : o.sent ≡ upward up ds
  pub room : o.free + waiting up ds ≡ up
  pub unclosed : o.closed ≡ None
  pub size : o.capacity ≡ up

module _ {up : ℕ} {ds : List Deed} {o : OutletState} (u : Ups up ds o) where
  -- nothing of it was for the network
  pub ups_quiet : (d : Deed) → up_by up (waiting up ds) d ≡ [] → taken_out d ≡ 0 → Ups up (d ∷ ds) o
  ups_quiet d nothing out = grind (arith, append-nil)

  -- one packet was
  pub ups_one : (d : Deed) (o' : OutletState) (p : List Parts) → up_by up (waiting up ds) d ≡ p ∷ []
      → taken_out d ≡ 0 → TookPacket true o p o' → Ups up (d ∷ ds) o'
  ups_one d o' p one out t = grind arith

  -- an item was taken, and answered if there was room
  pub ups_took : (x : Came) (o' : OutletState) (p : Option (List Parts)) → pong_for x.0 ≡ p
      → Puts true o p o' → Ups up (Took x ∷ ds) o'
  ups_took x o' p e puts = grind (arith, nat_tests, append-nil)

  -- packets were taken out
  pub ups_drained : (o' : OutletState) (most taken : ℕ) → Drains o most taken o'
      → Ups up (Drained taken ∷ ds) o'
  ups_drained o' most taken d = grind (arith, append-nil)

-- a message more, if there is one
pub entry_more : (capacity first : ℕ) → KeepsOn (history_of capacity first)
entry_more capacity first ms e number = grind (arith, append-nil, number, one_more capacity first)

-- so it does after others
pub entry_on : (h : Messages) → KeepsOn (kept_on h)
entry_on h [] None number = refl
entry_on h [] (Some e) number = refl
entry_on h (m ∷ ms) e number = entry_on (with_entry h (Some m)) ms e number

-- a session's name was admitted
abbrev pub Known : NameMarks → Option Text → Type 0
Known marks name = IfSome name (λ n. contains_key marks n ≡ true)

-- whether a name is this one, if any
abbrev is_it : Text → Option Text → Bool
is_it q name = option_map_or (λ n. eq_by_cmp bytes_cmp q n) name false

pub named_mark : (marks : NameMarks) (name : Option Text) (q : Text)
    → mark_of q (with_name name marks) ≡ mark_of q marks
named_mark marks name q = grind (arith, get_put, is_same)

pub marked_mark : (marks : NameMarks) (name : Option Text) (number : Option ℕ) (q : Text)
    → Known marks name
    → mark_of q (marked name number marks) ≡ mark_left q name number (mark_of q marks)
marked_mark marks name number q known = grind (arith, get_put, is_same)

-- another name keeps its mark
other_mark : (q name : Text) (number before : Option ℕ) → eq_by_cmp bytes_cmp q name ≡ false
    → mark_left q (Some name) number before ≡ before
other_mark q name None before e = refl
other_mark q name (Some number) before e = simp e

-- the name gets the mark that the one of before gives
pub left_mark : (marks : NameMarks) (name : Option Text) (by : Option ℕ → Option ℕ) (q : Text)
    → Known marks name → mark_of q (marked name (by (mark_at name marks)) marks)
    ≡ mark_left q name (by (mark_of q marks)) (mark_of q marks)
left_mark marks None by q known = refl
left_mark marks (Some name) by q known =
    marked_mark marks (Some name) (by (mark_of name marks)) q known
    ∙ go (eq_by_cmp bytes_cmp q name) refl where
      go : (b : Bool) → eq_by_cmp bytes_cmp q name ≡ b
          → mark_left q (Some name) (by (mark_of name marks)) (mark_of q marks)
          ≡ mark_left q (Some name) (by (mark_of q marks)) (mark_of q marks)
      go true same = rw (is_same q name same) refl
      go false other =
          other_mark q name (by (mark_of name marks)) (mark_of q marks) other
          ∙ sym (other_mark q name (by (mark_of q marks)) (mark_of q marks) other)

named_among : (names : List Text) (name : Option Text) (q : Text)
    → is_among q (with_new name names) ≡ (is_among q names || is_it q name)
named_among names name q =
    grind (arith, list_any-append (eq_by_cmp bytes_cmp q) names, is_same q)

pub known_named : (names : List Text) (marks : NameMarks) (name : Option Text)
    → AreKnown names marks → AreKnown (with_new name names) (with_name name marks)
known_named names marks name k =
    let count = len-insert nat_list_cmp_total marks in
    grind (arith, get_put, is_same, named_among, count, k.each, k.count, length-append {A = Text})

pub known_marked : (names : List Text) (marks : NameMarks) (name : Option Text) (number : Option ℕ)
    → Known marks name → AreKnown names marks → AreKnown names (marked name number marks)
known_marked names marks None number known k = k
known_marked names marks (Some n) None known k = k
known_marked names marks (Some n) (Some number) known k = simp known (record {
  each = λ q. grind (arith, get_put, is_same q n, k.each q);
  count = grind (arith, len-insert nat_list_cmp_total marks);
})

-- whether the session of a number attached by this
abbrev pub starts : ℕ → Deed → Bool
starts id (Joined k name caps size) = k == id
starts id _ = false

-- the name of the client of the session of a number
abbrev pub name_then : ℕ → List Deed → Option (Option Text)
name_then id ds = option_map (λ s. s.0) (session_then id ds)

-- it was there before, with its name
pub name_stays : (id : ℕ) (d : Deed) (ds : List Deed) → starts id d ≡ false
    → name_then id (d ∷ ds) ≡ name_then id ds
name_stays id d ds other = grind arith

named_by : (b : Bool) (names : List Text) (name o : Option Text) → (b ≡ true → o ≡ name)
    → (b ≡ false → IfSome o (λ n. is_among n names ≡ true))
    → IfSome o (λ n. is_among n (with_new name names) ≡ true)
named_by b names name None new old = tt
named_by b names name (Some q) new old = grind (arith, named_among names name q, same_refl q)

pub is_named : (known : List Text) (id : ℕ) (ds : List Deed) (name : Option Text)
    → name_then id ds ≡ Some name → IfSome name (λ n. is_among n (names_then known ds) ≡ true)
is_named known id [] name e = cc
is_named known id (Joined k new caps size ∷ ds) name e =
    grind (arith, named_by (k == id) (names_then known ds) new name, is_named known id ds name)
is_named known id (d ∷ ds) name e =
    is_named known id ds name (rw (← name_stays id d ds refl) e)
