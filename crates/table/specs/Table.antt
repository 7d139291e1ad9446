-- A code from a table of bytes. Assumes nothing.
use Rattle.std.specs.Prelude.{ℕ, ◌+◌, ◌*◌, Bool, cond, not, ◌&&◌, List, Option, ◌==◌, nat_le, nat_lt, slice_index}
use Rattle.refusal.specs.Order.{refused, accepted}
use Rattle.byte.specs.declared.element.Byte.{Byte}
use Rattle.byte.specs.Field.{byte}
use Rattle.codes.specs.Shape.{Shape, out_of}

-- the shape of a table for K sub-symbols, P parities and ages up to M
abbrev pub table_shape : ℕ → ℕ → ℕ → Shape
table_shape k p m = record { sources = k; parities = p; memory = m }

-- a byte for each parity, age from 0 to M and sub-symbol
abbrev pub table_size : Shape → ℕ
table_size x = x.parities * (x.memory + 1) * x.sources

-- where c(j, a, k) stands: parity by parity, in it age by age, in it sub-symbol by sub-symbol
abbrev pub place : Shape → ℕ → ℕ → ℕ → ℕ
place x j a k = (j * (x.memory + 1) + a) * x.sources + k

abbrev pub inside : Shape → ℕ → ℕ → ℕ → Bool
inside x j a k = nat_lt j x.parities && (nat_le a x.memory && nat_lt k x.sources)

-- the byte in the table, and zero outside it
abbrev pub table_coefficients : Shape → List ℕ → ℕ → ℕ → ℕ → Byte
table_coefficients x bytes j a k = cond (inside x j a k) (byte (slice_index bytes (place x j a k))) (byte 0)

-- K 1 to 8, P 1 to 4, M 0 to 63, and the length that these three ask for
abbrev pub table_refusal : Shape → ℕ → Option ℕ
table_refusal x size =
    refused (out_of 1 8 x.sources) 1
    (refused (out_of 1 4 x.parities) 1
    (refused (nat_lt 63 x.memory) 1
    (refused (not (size == table_size x)) 4 accepted)))
