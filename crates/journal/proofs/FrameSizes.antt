-- How many bytes frames have.
use Rattle.std.proofs.Common.{◌≡◌, ◌∙◌, ◌+◌, ◌^◌, ◌<◌, ◌++◌, arith, ℕ, List, ◌∷◌, Bor, sym, ap}
use Rattle.std.proofs.Common.{length, map, take, drop}
use Rattle.std.specs.List.{flat_map}
use Rattle.std.proofs.lemmas.List.{length-append, take-append-drop, take-map}
use Rattle.std.proofs.lemmas.List.Concat.{flat_map-append}
use Rattle.frames.specs.Frames.{Splits, frame}
use Rattle.frames.proofs.OneFrame.{frame_long}

abbrev texts : List (Bor (List ℕ)) → List (List ℕ)
texts ps = map (λ p. p.now) ps

abbrev size_of : List (List ℕ) → ℕ
size_of ps = length (flat_map frame ps)

pub frame_more : (p : List ℕ) (ps : List (List ℕ))
    → length (flat_map frame (p ∷ ps)) ≡ 36 + length p + length (flat_map frame ps)
frame_more p ps = omega (arith, frame_long p, length-append (frame p) (flat_map frame ps))

taken_is : (n : ℕ) (ps : List (Bor (List ℕ))) → texts (take n ps) ≡ take n (texts ps)
taken_is n ps = sym (take-map (λ (p : Bor (List ℕ)). p.now) n ps)

pub small_all : (bytes : List ℕ) (ps : List (Bor (List ℕ))) (rest : List ℕ)
    → Splits bytes (texts ps) rest → length bytes < 2 ^ 64
    → length (flat_map frame (texts ps)) < 2 ^ 64
small_all bytes ps rest s small =
    let all : length bytes ≡ length (flat_map frame (texts ps)) + length rest =
    ap length s.parts ∙ length-append (flat_map frame (texts ps)) rest in
    omega (arith, all, small)

pub small_part : (bytes : List ℕ) (ps : List (Bor (List ℕ))) (rest : List ℕ) (n : ℕ)
    → Splits bytes (texts ps) rest → length bytes < 2 ^ 64
    → length (flat_map frame (texts (take n ps))) < 2 ^ 64
small_part bytes ps rest n s small =
    let qs = texts ps in
    let halves : flat_map frame (take n qs) ++ flat_map frame (drop n qs) ≡ flat_map frame qs =
    sym (flat_map-append frame (take n qs) (drop n qs))
    ∙ ap (flat_map frame) (take-append-drop n qs) in
    let both : size_of (take n qs) + size_of (drop n qs) ≡ size_of qs =
    sym (length-append (flat_map frame (take n qs)) (flat_map frame (drop n qs)))
    ∙ ap length halves in
    rw (taken_is n ps) (omega (arith, small_all bytes ps rest s small, both))
