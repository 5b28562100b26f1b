-- What a writer got.
use Rattle.hub_threads.specs.{Queues.{is_nil, packets_in}, Writes.{IsWritten, all_bytes}}
use Rattle.hub_threads.specs.declared.{queued.Queued.Queued, writing.WriteFault.WriteFault}
use Rattle.{irc_line.specs.{Line.Parts, Lines.counted, Writing.bytes_of}, std.proofs.Common.◌++◌}
use Rattle.std.proofs.Common.{◌+◌, ◌-◌, ◌^◌, ◌∙◌, ◌∷◌, ◌≡◌, Bool, Err, List, Option, [], ap}
use Rattle.std.proofs.Common.{append-nil, append_assoc, arith, drop, length, length-append}
use Rattle.std.proofs.{Common.{length-drop, min, refl, sym, take, ℕ}, KnownBytes.Appends-nil}
use Rattle.std.proofs.{KnownBytes.Appends-trans, Math.Seq.{take-append_seam, take-length}}
use Rattle.std.proofs.lemmas.{Grind.flat_map-append, List.{drop-drop, take-append-drop}}
use Rattle.std.specs.Io.KnownBytes.{Appends}

-- a writer got some of the bytes, and these are left
abbrev pub Wrote : Option (List ℕ) → Option (List ℕ) → List ℕ → List ℕ → Type 0
Wrote was now bytes left = (put : List ℕ) × Appends was now put × (put ++ left ≡ bytes)

pub wrote_part : (was now : Option (List ℕ)) (bytes left : List ℕ) (n : ℕ)
    → Appends was now (take n bytes) → left ≡ drop n bytes → Wrote was now bytes left
wrote_part was now bytes left n w e =
    (take n bytes, w, rw e (take-append-drop n bytes))

-- a slice from a place to the end is all after that place
pub rest_whole : (i : ℕ) (xs : List ℕ) → take (length xs - i) (drop i xs) ≡ drop i xs
rest_whole i xs = rw (← length-drop i xs) (take-length (drop i xs))

-- some of the bytes after a place were written
pub wrote_from : (was now : Option (List ℕ)) (bytes : List ℕ) (i n : ℕ)
    → Appends was now (take n (take (length bytes - i) (drop i bytes)))
    → Wrote was now (drop i bytes) (drop (i + n) bytes)
wrote_from was now bytes i n w = wrote_part was now (drop i bytes) (drop (i + n) bytes) n
    (rw (rest_whole i bytes) at w) (sym (drop-drop n i bytes))

-- what comes after is left too
pub wrote_before : (was now : Option (List ℕ)) (bytes left behind : List ℕ)
    → Wrote was now bytes left → Wrote was now (bytes ++ behind) (left ++ behind)
wrote_before was now bytes left behind w =
    (w.0, w.1, cc (append_assoc w.0 left behind, w.2))

-- A writer on the way: all that was taken so far was written, or is left to write.
pub record IsUnderWay (was all : List Queued) (began out : Option (List ℕ)) (rest : List ℕ)
    (count : ℕ) : Type 0 where
  pub taken : List (List Parts)
  pub all_are : packets_in all ≡ packets_in was ++ taken
  pub put : List ℕ
  pub wrote : Appends began out put
  pub bytes_are : put ++ rest ≡ all_bytes taken
  pub count_is : count ≡ counted (length (all_bytes taken))

pub under_way_first : (was : List Queued) (began : Option (List ℕ)) (rest : List ℕ) → rest ≡ []
    → IsUnderWay was was began began rest 0
under_way_first was began rest e = record {
  taken = [];
  all_are = sym (append-nil _);
  put = [];
  wrote = Appends-nil began;
  bytes_are = e;
  count_is = refl;
}

all_bytes_more : (ps : List (List Parts)) (p : List Parts)
    → all_bytes (ps ++ p ∷ []) ≡ all_bytes ps ++ bytes_of p
all_bytes_more ps p = rw (flat_map-append bytes_of ps (p ∷ []), append-nil (bytes_of p))

module _ {was all : List Queued} {began out : Option (List ℕ)} {rest : List ℕ} {count : ℕ}
    (w : IsUnderWay was all began out rest count) where
  -- a packet was taken: it is left to write, after the rest
  pub under_way_more : {all' : List Queued} {rest' : List ℕ} {count' n : ℕ}
      → (p : List Parts) × (packets_in all' ≡ packets_in all ++ p ∷ [])
      × (rest' ≡ rest ++ bytes_of p) × (n ≡ length (bytes_of p))
      → count' ≡ min (count + n) (2 ^ 64 - 1) → IsUnderWay was all' began out rest' count'
  under_way_more q is =
      let more = all_bytes_more w.taken q.0 in
      let whole : length (all_bytes (w.taken ++ q.0 ∷ []))
      ≡ length (all_bytes w.taken) + length (bytes_of q.0) =
      rw more (length-append (all_bytes w.taken) (bytes_of q.0)) in
      record {
        taken = w.taken ++ q.0 ∷ [];
        all_are = rw (q.1, w.all_are) (append_assoc (packets_in was) w.taken (q.0 ∷ []));
        put = w.put;
        wrote = w.wrote;
        bytes_are = cc (q.2, more, w.bytes_are, append_assoc w.put rest (bytes_of q.0));
        count_is = omega (arith, whole, w.count_is, q.3);
      }

  -- no packet was taken, and then some of what was left was written
  pub under_way_still : {mid all' : List Queued} {out' : Option (List ℕ)} {held rest' : List ℕ}
      → (packets_in mid ≡ packets_in all) × (held ≡ rest) → (put : List ℕ) × Appends out out' put
      × (put ++ rest' ≡ held) → all' ≡ mid → IsUnderWay was all' began out' rest' count
  under_way_still {rest' = rest'} none q end = record {
    taken = w.taken;
    all_are = ap packets_in end ∙ none.0 ∙ w.all_are;
    put = w.put ++ q.0;
    wrote = Appends-trans began _ _ w.put q.0 w.wrote q.1;
    bytes_are = rw (append_assoc w.put q.0 rest', q.2, none.1) w.bytes_are;
    count_is = w.count_is;
  }

  -- after a fault a beginning was written
  pub ends_early : {fresh : Bool} {e : WriteFault} → fresh ≡ is_nil (packets_in was)
      → IsWritten was all began out fresh (Err e)
  ends_early f = record {
    taken = w.taken;
    all_are = w.all_are;
    fresh_is = f;
    wrote = (length w.put, rw (← w.bytes_are, take-append_seam w.put rest) w.wrote);
  }
