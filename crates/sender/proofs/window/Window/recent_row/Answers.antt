use Rattle.std.proofs.Common.{◌+◌, ◌-◌, ◌*◌, ◌≤◌, length, arith}
use Rattle.sender.proofs.Places.{in_history}
use Rattle.sender.proofs.window.Window.recent_row.Goals as goal

within : (g : _) (c : goal.After-way_told-2-1 g)
    → ((c.memory.result - c.args.age) * c.sources.result + c.args.sub) * c.args.self.now.symbols + c.args.self.now.symbols
    ≤ length c.args.self.now.history.now
within g c =
    let self = c.args.self.now in
    let x = g.C.Code.shape self.code.now in
    let some = self.some in
    let place = in_history x.memory x.sources self.symbols (x.memory - c.args.age) c.args.sub (self.symbols - 1)
    (omega arith) c.requires.place.1 (omega arith) in
    rw (c.memory.ensures, c.sources.ensures) (omega (arith, self.fits.reaches))

pub slice_bounds-result-end-2 : goal.slice_bounds-result-end-2
slice_bounds-result-end-2 g c = let h = within g c in omega arith

pub offset_bounds-history-start : goal.offset_bounds-history-start
offset_bounds-history-start g c = let h = within g c in omega arith
