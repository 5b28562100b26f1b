-- A tape after one more item.
use Rattle.tape_view.proofs.Words
use Words.{◌≡◌, ◌+◌, ◌^◌, ◌<◌, ◌≤◌, ◌∷◌, ◌++◌, ℕ, List, [], length, arith, Table, Kept, Told}
use Words.{Received, told, settings_of, tape_of, names_in, name_count, IsCounted, Token, is_some}
use Words.{suc, Bool, true, false, set, get_or, reverse, take, Bor, reverse-append, Parts, Arrival}
use Words.{Lost, view_back, view_of, after, Telling, Standing, standing, settings_after, meant}
use Words.{with_lost, IsMarkedLine, IsMarkedTape, table}
use TapeLast.{IsTold, no_lines, set_last, ends_with, tape_push, marked_split}
use Rattle.net_view.specs.declared.state_line.Telling.TheVariants as telling
use Rattle.irc_support.specs.Line as line
use Rattle.tape_view.proofs.TapeLast
use Rattle.{irc_line.specs.Writing.is_writable, net_view.proofs.Commands.told_of_isupport}
use Rattle.net_view.proofs.{Emptied.{emptied, view_lost}, StepLaw.view_back_step}
use Rattle.net_view.{proofs.ToldSound.supports_said, specs.{View.lost_view, Written.AreWritten}}
use Rattle.std.proofs.{Common.length-append, lemmas.List.{length-map, reverse-reverse}}
use Rattle.tape_view.specs.Whole.{IsWhole}

-- ---- how many names kept lines bring up

names_few : (table : Table) (t : Told) → length (names_in table t) ≤ name_count t
names_few table t = grind (arith, length-map)

-- one more line
pub counted_push : {A : Type 0} (ks ls : List (Kept A)) (k : Kept A) (t : Told) (count sum : ℕ)
    → ls ≡ ks ++ k ∷ [] → t ≡ told (settings_of (tape_of ks)) (Received k.line) → IsCounted ks count
    → (sum ≡ count + name_count t) × (sum < 2 ^ 64) → IsCounted ls sum
unfolding told
counted_push ks ls k t count sum pushed tell counted more =
    record {
      small = more.1;
      enough = λ table.
          grind (arith, names_few table t, counted.enough table, tape_push ks k, length-append);
    }

-- ---- a loss, looking back

back_lost : (older : List Arrival) → view_back (Lost ∷ older) ≡ lost_view (view_back older)
unfolding after told
back_lost older = simp (view_back_step, emptied)

-- a second loss says nothing new
lost_again : (b : Bool) (items : List Arrival)
    → view_back (Lost ∷ items) ≡ lost_view (view_back (with_lost b items))
lost_again b items = grind (arith, back_lost)

pub loss_of_nothing : {A : Type 0} (items : List Arrival) (ks : List (Kept A)) → length ks ≡ 0
    → view_back (tape_of ks) ≡ view_of items → view_back (tape_of ks) ≡ view_of (items ++ Lost ∷ [])
unfolding tape_of table
loss_of_nothing {A} items ks none e = grind (arith, no_lines, view_lost)

-- ---- marks

-- one more line, marked by what was before it
marked_push : {A : Type 0} (front : List (Kept A)) (k : Kept A) → IsMarkedLine (tape_of front) k
    → IsMarkedTape front → IsMarkedTape (front ++ k ∷ [])
unfolding tape_of IsMarkedTape
marked_push front k here marked = grind (arith, reverse-append)

-- more settings, if they count
pub supports_settings : {B : Type 0} (settings new : List Token) (l : Parts) (r : Telling B)
    (x : Bor Parts) (s : Standing) → IsTold r l → r ≡ telling.Supports x → s.settings ≡ settings
    → is_some s.own ≡ true → s.ready ≡ false → new ≡ line.settings_after settings l
    → settings_after (meant settings r) s ≡ new
supports_settings settings new l r x s tells supports in_force welcomed unready is =
    grind (arith, supports_said, told_of_isupport)

-- ---- one more line

-- what holds of the kept lines with one more
pub line_kept : {A B : Type 0} (settings new : List Token) (ks ls : List (Kept A)) (k : Kept A)
    (r : Telling B) (l : Parts) (count sum : ℕ) → ls ≡ ks ++ k ∷ [] → (k.line ≡ l)
    × (k.lost ≡ false) → IsMarkedLine (tape_of ks) k → IsTold r l → settings_of (tape_of ks)
    ≡ settings → settings_after (meant settings r) (standing (tape_of ks)) ≡ new → IsMarkedTape ks
    → IsCounted ks count → (sum ≡ count + name_count (meant settings r)) × (sum < 2 ^ 64)
    → AreWritten (tape_of ks) → is_writable l ≡ true → IsWhole ls new sum
unfolding told
line_kept settings new ks ls k r l count sum pushed line marked tells in_force is before counted
    more written writable =
    grind (arith, marked_push, tape_push, counted_push ks ls k (meant settings r) count sum pushed)

-- ---- lines that can be written

-- in the order in which they came
written_end : (items : List Arrival) (x : Arrival) → AreWritten items → AreWritten (x ∷ [])
    → AreWritten (items ++ x ∷ [])
written_end [] x h k = k
written_end (y ∷ items) x h k = grind (arith, written_end items x)

pub written_reversed : (items : List Arrival) → AreWritten items → AreWritten (reverse items)
written_reversed [] h = tt
written_reversed (x ∷ items) h =
    grind (arith, reverse-append (x ∷ []), written_end (reverse items) x, written_reversed items)

-- a tape's view comes from its items
pub from_lines : (tape : List Arrival) → AreWritten tape
    → (items : List Arrival) × AreWritten items × (view_back tape ≡ view_of items)
unfolding view_of
from_lines tape h = grind (arith, written_reversed, reverse-reverse)

-- ---- a loss after the last line

abbrev lost_one : {A : Type 0} → Kept A → Kept A
lost_one k =
    record { command = k.command; line = k.line; marks = k.marks; fixed = k.fixed; lost = true }

lost_last : {A : Type 0} (front : List (Kept A)) (k : Kept A) (settings : List Token) (names : ℕ)
    → IsWhole (front ++ k ∷ []) settings names → IsWhole (front ++ lost_one k ∷ []) settings names
unfolding told
lost_last front k settings names h = record {
  marked = grind (arith, marked_split front k, marked_push front (lost_one k));
  in_force = grind (arith, tape_push);
  counted = record {
    small = h.counted.small;
    enough = λ table. grind (arith, tape_push, h.counted.enough table);
  };
  written = grind (arith, tape_push);
}

module _ {A : Type 0} (ks : List (Kept A)) (i : ℕ) (k : Kept A) (last : suc i ≡ length ks)
    (at : k ≡ get_or ks i k) where
  pub loss_kept : (settings : List Token) (names : ℕ) → IsWhole ks settings names
      → IsWhole (set ks i (lost_one k)) settings names
  loss_kept settings names h =
      rw (set_last ks i (lost_one k) last)
      (lost_last (take i ks) k settings names (rw (ends_with ks i k last at) at h))

  pub loss_taken : (items : List Arrival) → view_back (tape_of ks) ≡ view_of items
      → view_back (tape_of (set ks i (lost_one k))) ≡ view_of (items ++ Lost ∷ [])
  loss_taken items e = grind (arith, ends_with ks i k, set_last, tape_push, lost_again, view_lost)
