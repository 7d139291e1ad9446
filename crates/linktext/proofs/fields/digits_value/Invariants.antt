use Rattle.linktext.proofs.Numbers.{ReadTo}
use Rattle.linktext.proofs.fields.digits_value.Given as goal

abbrev pub invariant-loop-c : goal.invariant-loop-c
invariant-loop-c l = ReadTo l.digits l.c-index l.n
