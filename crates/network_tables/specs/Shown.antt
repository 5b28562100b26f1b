-- What is kept of a table's values that is shown.
use Rattle.std.specs.Prelude.{map}
use Rattle.std.specs.declared.cmp.Ordering.{Ordering}
use Rattle.std.specs.FinMap as fin

-- the map with another value in each value's place
unfoldable pub shown : {K X Y : Type 0} {R : K → K → Ordering} → (X → Y) → fin.FinMap R X →
    fin.FinMap R Y
shown f m = fin.from_sorted (map (λ e. (e.0, f e.1)) (fin.entries m))
