-- A lent memory after two steps. Assumes nothing.
use Rattle.std.proofs.Common.{◌∙◌}
use Rattle.rows.specs.declared.memory.Memory.{Memory}
use Rattle.rows.specs.Lent.{SameLoan}

pub same_loan_then : {F S : Type 0} {a b c : Memory F S} → SameLoan a b → SameLoan b c → SameLoan a c
same_loan_then e f = record {
  size = f.size ∙ e.size;
  coefficients = f.coefficients ∙ e.coefficients;
  symbols = f.symbols ∙ e.symbols;
}
