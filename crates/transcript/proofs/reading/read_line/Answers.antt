use Rattle.std.proofs.Common.{◌≡◌, vec_items, vec_len, sym, ◌∙◌}
use Rattle.transcript.proofs.LineForm.{line_other, line_whole}
use Rattle.transcript.proofs.reading.read_line.Goals as goal

pub returns-then-len-size : goal.returns-then-len-size
returns-then-len-size g c =
    let xs = c.in-Ok.packet in
    let read = c.in-Ok.ensures in
    rw c.into-then-len-size.ensures
    (line_other g.A.Arithmetic.bytes g.met.A.Arithmetic.strings c.args.size c.args.slot c.args.line.now (vec_items xs)
    c.if-line-gt-LONGEST_LINE.false c.if-slot-gt-LAST_SLOT-2.false read.0 read.1
    (λ e. c.if-len-size.true (c.len.ensures ∙ xs.ok.0 ∙ e)))

pub returns : goal.returns
returns g c =
    let xs = c.in-Ok.packet in
    let read = c.in-Ok.ensures in
    let long : vec_len xs ≡ c.args.size = sym c.len.ensures ∙ c.if-len-size.false in (
      line_whole g.A.Arithmetic.bytes g.met.A.Arithmetic.strings c.args.size c.args.slot c.args.line.now (vec_items xs)
          c.if-line-gt-LONGEST_LINE.false c.if-slot-gt-LAST_SLOT-2.false read.0 read.1 (sym xs.ok.0 ∙ long),
      read.1,
      long,
    )
