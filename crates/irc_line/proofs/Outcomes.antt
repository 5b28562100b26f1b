-- What is known of a result, from what is known of its value or its error.
use Rattle.std.proofs.Common.{◌≡◌, Result, arith}
use Rattle.std.specs.Prelude.{IfErr, IfOk, IsErr, IsErrAnd, OnErr, OnOk}

module _ {T E : Type 0} where
  -- a result that is this fault
  pub refused_by : (r : Result T E) (P : E → Type 0) (fault : E) → IsErrAnd r (λ f. f ≡ fault)
      → P fault → IfErr r P
  refused_by r P fault same h = grind arith

  pub ok_more : (A B : T → Type 0) (r : Result T E) → ((x : T) → A x → B x) → IfOk r A → IfOk r B
  ok_more A B r f h = grind arith

  pub err_more : (A B : E → Type 0) (r : Result T E) → ((e : E) → A e → B e) → IfErr r A → IfErr r B
  err_more A B r f h = grind arith

  pub on_err : {A : Type 0} (r : Result T E) → A → OnErr r A
  on_err r h = grind arith

  -- what is said of a value says nothing of an error
  pub not_ok : (A : Type 0) (r : Result T E) → IsErr r → OnOk r A
  not_ok A r h = grind arith

  pub no_value : (P : T → Type 0) (r : Result T E) → IsErr r → IfOk r P
  no_value P r h = grind arith

-- for an attribute `using`, or a tactic's list
pub ruleset outcomes = (no_value, not_ok, on_err)
