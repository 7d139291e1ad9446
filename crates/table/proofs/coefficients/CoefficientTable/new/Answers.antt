use Rattle.std.proofs.Common.{◌≡◌, ℕ, ◌<◌, length, get_or, arith}
use Rattle.table.specs.Table.{table_shape, table_size}
use Rattle.table.proofs.WrittenOut.{written_back}
use Rattle.table.proofs.coefficients.CoefficientTable.new.Goals as goal

pub returns-clause-written : goal.returns-clause-written
returns-clause-written c =
    let items = c.args.bytes.items in
    let shape = table_shape c.in_ok-sources.sources c.in_ok-parities.parities c.in_ok-memory.memory in
    let size = rw (c.value.ensures.value, c.value-2.ensures.value, c.value-3.ensures.value) at c.if-len-rows.false in
    let long : length items ≡ table_size shape = omega (arith, size, c.len.ensures, c.args.bytes.ok.0) in
    let small : (p : ℕ) → p < length items → get_or items p 0 < 256 = λ p h. omega arith in
    written_back shape items long small
