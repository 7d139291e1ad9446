-- Coefficients of word arithmetic: the field of two elements.
use Rattle.std.specs.Prelude.{Some, None, Option}
use Rattle.arithmetic.specs.Operations.{Sums, Products}
use Rattle.word.specs.declared.bit.Bit.{Bit}
use Rattle.word.specs.declared.bit.Bit.TheVariants.{Off, On}

-- one where just one of the two is one
abbrev pub bit_plus : Bit → Bit → Bit
bit_plus Off Off = Off
bit_plus Off On = On
bit_plus On Off = On
bit_plus On On = Off

-- one where both are one
abbrev pub bit_times : Bit → Bit → Bit
bit_times Off b = Off
bit_times On b = b

-- zero has no inverse, and one is its own
abbrev pub bit_inverse : Bit → Option Bit
bit_inverse Off = None
bit_inverse On = Some On

abbrev pub bit_sums : Sums Bit
bit_sums = record { zero = Off; plus = bit_plus; negative = λ b. b }

abbrev pub bit_products : Products Bit
bit_products = record { one = On; times = bit_times; inverse = bit_inverse }
