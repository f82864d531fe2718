use Rattle.std.proofs.Common.{◌≡◌, ◌++◌, map, take, drop}
use Rattle.records.specs.Bare.{copied}
use Rattle.records.proofs.record.bare.copy_windows.Given as goal

abbrev pub invariant-loop-window : goal.invariant-loop-window
invariant-loop-window g l =
    let i = l.window-index in
    take i l.windows ++ copied (map g.R.Record.span l.rest.rest.now) (drop i l.windows) ≡ copied (map g.R.Record.span l.records) l.initial.windows
