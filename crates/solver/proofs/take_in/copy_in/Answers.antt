use Rattle.std.proofs.Common.{ℕ, ◌+◌, subst}
use Rattle.systems.specs.System.{Size}
use Rattle.systems.specs.Steps.{Copied}
use Rattle.rows.specs.Memory.{memory}
use Rattle.rows.specs.Lent.{system_of}
use Rattle.rows.proofs.Loans.{same_loan_then}
use Rattle.solver.proofs.Copying.{copied_more}
use Rattle.solver.proofs.take_in.copy_in.Goals as goal

pub loop-source-preserved : goal.loop-source-preserved
loop-source-preserved g c =
    let o = g.A.Arithmetic.operations in
    let so_far = c.loop-source.invariant in
    let lent = c.args.equations.now in
    let size = c.loop-source.memory.size in
    let s = system_of o c.loop-source.memory in
    let new = system_of o c.copy_row.new.self in
    let given = λ (z : Size). memory o z lent.coefficients.now lent.symbols.now in
    let at : Copied size (given size) s new (c.args.memory.now.size.unknowns + c.loop-source.source) c.loop-source.source =
    subst (λ (n : ℕ). Copied size (given size) s new (n + c.loop-source.source) c.loop-source.source) c.unknowns-unknowns.ensures.value c.copy_row.ensures.copied in
    record {
      same = same_loan_then so_far.same c.copy_row.ensures.same;
      copied = copied_more so_far.copied
          (subst (λ (z : Size). Copied z (given z) s new (c.args.memory.now.size.unknowns + c.loop-source.source) c.loop-source.source) so_far.same.size at);
    }
