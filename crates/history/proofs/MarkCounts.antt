-- How many client names there are: never more than 64.
use Rattle.std.specs.FinMap as fin
use Rattle.history.specs.Marks.{NameMarks, bytes_cmp, with_mark}
use Rattle.std.proofs.Common.{Bool, Option, arith, cond, false, refl, true, ℕ, ◌-◌, ◌<◌, ◌≡◌, ◌≤◌}
use Rattle.std.{proofs.Common.{None, Some, List}, specs.Cmp.Lexicographic.nat_list_cmp_total}
use Rattle.std.specs.Prelude.{if◌then◌else◌}

pub few_none : fin.len (fin.empty {X = Option ℕ} {R = bytes_cmp}) ≤ 64
few_none = rw (fin.len-empty bytes_cmp (Option ℕ)) (omega arith)

-- one more
pub few_more : (m : NameMarks) (name : List ℕ) → false ≡ fin.contains_key m name
    → fin.len m < 64 → fin.len (fin.insert m name None) ≤ 64
few_more m name new few = rw (fin.len-insert nat_list_cmp_total m name None, ← new) (omega arith)

-- one less
at_most : (b : Bool) (n : ℕ) → n ≤ 64 → cond b (n - 1) n ≤ 64
at_most true n few = omega arith
at_most false n few = few

pub few_left : (m : NameMarks) (name : List ℕ) → fin.len m ≤ 64
    → fin.len (fin.remove m name) ≤ 64
few_left m name few =
    rw (fin.len-remove nat_list_cmp_total m name)
    (at_most (fin.contains_key m name) (fin.len m) few)

-- another mark
pub few_marked : (m : NameMarks) (name : List ℕ) (number : ℕ) → fin.len m ≤ 64
    → fin.len (with_mark name number m) ≤ 64
few_marked m name number few = of (fin.contains_key m name) refl where
  of : (b : Bool) → fin.contains_key m name ≡ b
      → fin.len (if b then fin.insert m name (Some number) else m) ≤ 64
  of true known = rw (fin.len-insert nat_list_cmp_total m name (Some number), known) few
  of false unknown = few
