-- How the arithmetics are called where a plan is printed. Lists hold the codes of characters. Assumes nothing.
use Rattle.std.specs.Prelude.{ℕ, List, codes}
use Rattle.plan.specs.declared.card.ArithmeticName.{ArithmeticName}
use Rattle.plan.specs.declared.card.ArithmeticName.TheVariants.{Word, Byte}

abbrev pub text_of_name : ArithmeticName → List ℕ
text_of_name Word = codes "word"
text_of_name Byte = codes "byte"
