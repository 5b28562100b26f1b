-- Lists of which each element has a property, and the lines of a playback as such.
pub use Rattle.client_caps.proofs.ImageWritten.{mapped_each as mapped}
use Rattle.welcome.proofs.Words.{◌++◌, ◌∷◌, Bool, Bor, Caps, Channel, Each, EntryParts, List, Parts}
use Rattle.welcome.proofs.Words.{Text, View, [], arith, backlog_of, batch_name, batch_tag, codes}
use Rattle.welcome.proofs.Words.{entries, entry_line, enumerate_from, filter, flat_map}
use Rattle.welcome.proofs.Words.{from_bouncer, is_for, is_for_a_channel, map, not, playback_of, ℕ}

-- what is lent
abbrev pub all_now : {X : Type 0} → List (Bor X) → List X
all_now xs = map (λ x. x.now) xs

module _ {X : Type 0} (P : X → Type 0) where
  pub joined : (xs ys : List X) → Each P xs → Each P ys → Each P (xs ++ ys)
  joined [] ys a b = b
  joined (x ∷ xs) ys a b = (a.0, joined xs ys a.1 b)

  pub each_front : (xs ys : List X) → Each P (xs ++ ys) → Each P xs
  each_front [] ys h = tt
  each_front (x ∷ xs) ys h = (h.0, each_front xs ys h.1)

  pub each_back : (xs ys : List X) → Each P (xs ++ ys) → Each P ys
  each_back [] ys h = h
  each_back (x ∷ xs) ys h = each_back xs ys h.1

  -- each row of words of which each has the property
  pub each_row : (rows : List (List X)) → Each P (flat_map (λ row. row) rows)
      → Each (λ (row : List X). Each P row) rows
  each_row [] each = tt
  each_row (row ∷ rows) each =
      (each_front row _ each, each_row rows (each_back row (flat_map (λ row. row) rows) each))

  pub each_kept : (p : X → Bool) (xs : List X) → Each P xs → Each P (filter p xs)
  each_kept p [] each = tt
  each_kept p (x ∷ xs) each = grind (arith, each.0, each_kept p xs each.1)

  pub flat : {Y : Type 0} (Q : Y → Type 0) (f : Y → List X) → ((y : Y) → Q y → Each P (f y))
      → (ys : List Y) → Each Q ys → Each P (flat_map f ys)
  flat Q f h [] each = tt
  flat Q f h (y ∷ ys) each = joined (f y) (flat_map f ys) (h y each.0) (flat Q f h ys each.1)

pub each_mapped : {X Y : Type 0} (P : Y → Type 0) (f : X → Y) (xs : List X) → Each P (map f xs)
    → Each (λ x. P (f x)) xs
each_mapped P f [] h = tt
each_mapped P f (x ∷ xs) h = (h.0, each_mapped P f xs h.1)

-- ---- what holds of each line of a playback

module _ (P : Parts → Type 0) (Q : EntryParts → Type 0) (caps : Caps) where
  -- the lines of a channel: of its entries, and those around them
  pub backlog_each : (place : ℕ) (name : Text) → P (from_bouncer
      (codes "BATCH") ((codes "+" ++ batch_name place) ∷ codes "chathistory" ∷ name ∷ [])) → P
      (from_bouncer (codes "BATCH") ((codes "-" ++ batch_name place) ∷ [])) → ((e : EntryParts) → Q
      e → P (entry_line caps (batch_tag place ∷ []) e)) → ((e : EntryParts) → Q e → P (entry_line
      caps [] e)) → (es : List EntryParts) → Each Q es → Each P (backlog_of caps place name es)
  backlog_each place name first last tagged plain [] each = tt
  backlog_each place name first last tagged plain (e ∷ es) each =
      let those = mapped Q P (entry_line caps (batch_tag place ∷ [])) tagged (e ∷ es) each in
      let end = from_bouncer (codes "BATCH") ((codes "-" ++ batch_name place) ∷ []) in
      let said = joined P (map (entry_line caps (batch_tag place ∷ [])) (e ∷ es)) (end ∷ []) those
      (last, tt) in grind (arith, first, said, mapped Q P (entry_line caps []) plain (e ∷ es) each)

  -- all lines, by those of each channel at its place
  pub playback_each : (v : View) (entries_of : List EntryParts) → Each Q entries_of
      → ((e : EntryParts) → Q e → P (entry_line caps [] e)) → (R : ℕ × (Text × Channel) → Type 0)
      → Each R (enumerate_from 0 (entries v.channels))
      → ((at : ℕ × (Text × Channel)) → R at → (es : List EntryParts) → Each Q es
      → Each P (backlog_of caps at.0 at.1.1.name es)) → Each P (playback_of v caps entries_of)
  unfolding playback_of
  playback_each v es each plain R all one =
      let kept = λ (p : EntryParts → Bool). each_kept Q p es each in
      joined P _ _ (flat P R (λ at. backlog_of caps at.0 at.1.1.name (filter (is_for v at.1.0) es))
      (λ at r. one at r _ (kept (is_for v at.1.0))) _ all)
      (mapped Q P (entry_line caps []) plain _ (kept (λ e. not (is_for_a_channel v e))))
