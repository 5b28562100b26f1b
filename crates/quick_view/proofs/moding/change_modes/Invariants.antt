use Rattle.std.specs.FinMap as fin
use Rattle.quick_view.proofs.moding.change_modes.Given as goal
use Rattle.{irc_support.specs.Line.changes_in, std.proofs.Common.{◌≡◌, filter_map, unwrap_or, ℕ}}
use Rattle.net_view.specs.{LookBack.last_in, Modes.setting_of, StateLines.mode_change}

abbrev pub invariant-loop-change : goal.invariant-loop-change
invariant-loop-change g l = (letter : ℕ) →
    unwrap_or (last_in (setting_of letter) (filter_map (mode_change l.support) (changes_in
    l.support l.line))) (fin.get l.fn.modes letter)
    ≡ unwrap_or (last_in (setting_of letter) (filter_map (mode_change l.support)
    l.change-iterator)) (fin.get l.modes letter)
