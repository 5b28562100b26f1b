use Rattle.tape_view.proofs.tape_view.TapeView.keep.Goals as goal
use Rattle.tape_view.proofs.{TapeTake.line_kept, Words.arith}

pub invariant_of-self-3 : goal.invariant_of-self-3
invariant_of-self-3 g c =
    let kept = line_kept c.self.inside.support c.take_settings.new.support c.self.inside.kept.items
    c.push_reserved.new.self.items c.in_ok-kept.kept c.told_as-telling.result c.args.line.now
    c.self.inside.names c.in_ok-names.names in
    grind (arith, kept)
