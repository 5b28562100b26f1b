-- What views of transcripts have, for the lines that are taken.
use Rattle.net_view.proofs.Words
use Rattle.std.specs.FinMap as fin
use Words.{◌++◌, ◌∙◌, ◌∷◌, ◌≡◌, Arrival, Channel, IfSome, IsSound, IsWrittenItem, List, Listing}
use Words.{Lost, Option, Parts, Received, Silent, Some, Text, Token, View, [], after, after_told}
use Words.{ap, arith, empty_view, filter_map, is_some, is_us, listing, map, option_map, standing_of}
use Words.{sym, told, true, view_of, word_of, words, ℕ}
use Rattle.net_view.proofs.AfterAlike.{all_channels_stay, all_persons_stay, is_same, view_sets}
use Rattle.net_view.proofs.{Emptied.view_lost, PartsSound.{Each, IsSoundListing, listing_sound}}
use Rattle.net_view.proofs.{SoundStep.view_sound, StepLaw.{view_start, view_step}}
use Rattle.net_view.specs.{MemberSets.{HasSets, IsKnowing}, View.lost_view, Written.AreWritten}
use Rattle.quick_view.{proofs.LastLemmas.{IsSet, set_of}, specs.FromLines.ComesFromLines}
use Rattle.{quick_view.specs.Listing.listings_in, std.proofs.Common.{Err, Ok, OnErr, OnOk, Result}}
use Rattle.std.proofs.{Common.{Vec, subst}, lemmas.Result.on_ok_weaker}

-- what holds of a result, from what else holds of it
pub on_ok : {A E P Q : Type 0} (r : Result A E) → OnOk r P → (P → Q) → OnOk r Q
on_ok r h f = on_ok_weaker r f h

pub view_none : {A : Type 0} (o : Option (Vec ℕ A))
    → is_some (option_map (λ t. t.items) o) ≡ is_some o
view_none o = grind arith

-- we are a member if we are on a channel
pub own_there : (v : View) → IsSound v → (c n : Text) (ch : Channel)
    → fin.get v.channels c ≡ Some ch → is_us (standing_of v) n ≡ true
    → is_some (fin.get ch.members n) ≡ true
own_there v sound c n ch e ours =
    let own = (sound.channels c ch e).own in
    grind (arith, own, λ (a : Text). is_same a n)

-- what a 353 lists
each_word : (P : Listing → Type 0) (s : List Token)
    → ((text : Text) → IfSome (listing s (word_of s text)) P) → (ts : List Text)
    → Each P (filter_map (listing s) (map (word_of s) ts))
each_word P s h [] = tt
each_word P s h (t ∷ ts) = grind (arith, h t, each_word P s h ts)

each_listed : (P : Listing → Type 0) (s : List Token)
    → ((text : Text) → IfSome (listing s (word_of s text)) P) → (line : Parts)
    → Each P (listings_in s line)
unfolding words
each_listed P s h line = grind (arith, each_word P s h)

pub names_sound : (s : List Token) (line : Parts) → Each (IsSoundListing s) (listings_in s line)
names_sound s line = each_listed (IsSoundListing s) s (listing_sound s) line

pub names_set : (s : List Token) (line : Parts)
    → Each (λ (l : Listing). IsSet l.ranks) (listings_in s line)
names_set s line =
    each_listed (λ (l : Listing). IsSet l.ranks) s (λ text. grind (arith, set_of)) line

-- ---- what says nothing

pub after_silent : (v : View) → HasSets v → IsKnowing v → after_told v Silent ≡ v
after_silent v sets known = search (arith, all_channels_stay, all_persons_stay)

-- ---- a view of lines

one_more : (xs : List Arrival) (x : Arrival) → AreWritten xs → IsWrittenItem x
    → AreWritten (xs ++ x ∷ [])
one_more [] x h o = (o, tt)
one_more (y ∷ ys) x h o = (h.0, one_more ys x (h.1) o)

pub still_from_lines : (w : View) (items : List Arrival) (x : Arrival) → AreWritten items
    → IsWrittenItem x → w ≡ view_of (items ++ x ∷ []) → ComesFromLines w
still_from_lines w items x written one f = (items ++ x ∷ [], one_more items x written one, f)

pub no_lines : (w : View) → w ≡ empty_view → ComesFromLines w
no_lines w e = ([], tt, e ∙ sym view_start)

-- what a line of this telling leaves
pub line_taken : (v w : View) (items : List Arrival) (line : Parts) → v ≡ view_of items
    → (IsSound v → HasSets v → w ≡ after_told v (told v.settings (Received line)))
    → w ≡ view_of (items ++ Received line ∷ [])
unfolding after
line_taken v w items line e taken =
    taken (subst IsSound (sym e) (view_sound items)) (subst HasSets (sym e) (view_sets items))
    ∙ ap (λ u. after u (Received line)) e ∙ sym (view_step items (Received line))

pub loss_taken : (v w : View) (items : List Arrival) → v ≡ view_of items → w ≡ lost_view v
    → w ≡ view_of (items ++ Lost ∷ [])
loss_taken v w items e f = cc (view_lost items)

pub after_line : {A E : Type 0} (v w : View) (line : Parts) (r : Result A E)
    → OnOk r (IsSound v → HasSets v → w ≡ after_told v (told v.settings (Received line)))
    → OnErr r (w ≡ v) → ComesFromLines v → IsWrittenItem (Received line) → ComesFromLines w
after_line v w line (Ok a) taken kept from one =
    still_from_lines w (from.0) (Received line) (from.1) one
    (line_taken v w (from.0) line (from.2) taken)
after_line v w line (Err e) taken kept from one = (from.0, from.1, kept ∙ from.2)
