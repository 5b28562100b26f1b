use Rattle.std.proofs.Common.{refl, sym, ◌∙◌}
use Rattle.proxy_line.proofs.Named.{IsText, line_names, line_names_none}
use Rattle.proxy_line.proofs.line.origin_of.Goals as goal

pub returns-clause-some : goal.returns-clause-some
returns-clause-some c =
    let text : IsText c.args.line.now c.split_at.result.0.now = record {
      short = c.if-line-gt-LIMIT.false;
      is = c.split_at.ensures.front;
      ended = sym c.split_at.ensures.back ∙ c.if-not-is_text.ensures.0 refl;
      one_line = sym c.if-has_lf.ensures;
    } in
    line_names _ _ c.named_in.result text c.named_in.ensures.some

pub returns-clause-none : goal.returns-clause-none
returns-clause-none c =
    let text : IsText c.args.line.now c.split_at.result.0.now = record {
      short = c.if-line-gt-LIMIT.false;
      is = c.split_at.ensures.front;
      ended = sym c.split_at.ensures.back ∙ c.if-not-is_text.ensures.0 refl;
      one_line = sym c.if-has_lf.ensures;
    } in
    line_names_none _ _ c.named_in.result text c.named_in.ensures.none
