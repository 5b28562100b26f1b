use Rattle.sessions.proofs.serving.serve_by.Goals as goal
use Rattle.sessions.proofs.CameIn.{came_in_by}
use Rattle.{sessions.specs.declared.arrival.Ending.TheVariants.Claims, std.proofs.Common.inr}

pub returns-in-Ok-serve : goal.returns-in-Ok-serve
returns-in-Ok-serve g c = record {
  came = record {
    claim = c.in-Claims.claim;
    left = _;
    now = _;
    lines = _;
    splitter = _;
    login = rw c.in-Claims.is at c.in-Ok.ensures.ok;
    let_in = c.in-Some.ensures.some;
  };
  why = c.in-Ok-serve.field-0-0;
  heard = rw c.let_in.ensures.unread at c.in-Ok-serve.ensures.heard;
  id = c.in-Ok-serve.field-0-2;
  given = c.in-Ok-serve.ensures.session;
  ended = c.in-Ok-serve.ensures.ended;
}

pub returns-in-Err-let_in : goal.returns-in-Err-let_in
returns-in-Err-let_in g c =
    came_in_by _ _ c.in-Some.ensures.some c.in-Ok.ensures.ok c.in-Claims.is

pub returns-in-Err-Refused : goal.returns-in-Err-Refused
returns-in-Err-Refused g c =
    came_in_by _ _ c.in-Some.ensures.some c.in-Ok.ensures.ok c.in-Claims.is

pub returns-in-Err-Cut : goal.returns-in-Err-Cut
returns-in-Err-Cut g c =
    came_in_by _ _ c.in-Some.ensures.some c.in-Ok.ensures.ok c.in-Claims.is

pub returns-in_default-judged : goal.returns-in_default-judged
returns-in_default-judged g c =
    inr (record {
      ending = Claims c.in-Claims.claim;
      now = _;
      lines = _;
      splitter = _;
      login = rw c.in-Claims.is at c.in-Ok.ensures.ok;
      why = inr c.in_default-judged.ensures.none;
    })
