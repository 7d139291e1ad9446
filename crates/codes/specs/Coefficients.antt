-- The coefficients c(j, a, k) of each code: parity j, age a in slots, sub-symbol k, all counted from 0.
-- zero and one are the arithmetic's.
use Rattle.std.specs.Prelude.{ℕ, ◌+◌, ◌-◌, ◌*◌, ◌/◌, ◌%◌, max, Bool, cond, ◌&&◌, ◌==◌, nat_le, nat_lt}
use Rattle.codes.specs.Shape.{Shape, capped}
use Rattle.arithmetic.specs.Operations.{Sums, Products}

-- one where the test holds, and zero elsewhere
abbrev pub one_where : {F : Type 0} → Sums F → Products F → Bool → F
one_where s p b = cond b p.one s.zero

-- main diagonal of width m: sub-symbol k, k below m, at age m - k
abbrev pub main_shape : ℕ → Shape
main_shape m = record { sources = m; parities = 1; memory = m }

abbrev pub main_coefficients : {F : Type 0} → Sums F → Products F → ℕ → ℕ → ℕ → ℕ → F
main_coefficients s p m j a k = one_where s p (j == 0 && (nat_lt k m && a + k == m))

-- back diagonal of width m and step g: sub-symbol k, k below m, at age g times k + 1
abbrev pub back_shape : ℕ → ℕ → Shape
back_shape m g = record { sources = m; parities = 1; memory = capped (g * m) }

abbrev pub back_coefficients : {F : Type 0} → Sums F → Products F → ℕ → ℕ → ℕ → ℕ → ℕ → F
back_coefficients s p m g j a k = one_where s p (j == 0 && (nat_lt k m && a == g * (k + 1)))

-- two codes on top of each other, the second delayed by d slots
abbrev pub overlay_shape : Shape → Shape → ℕ → Shape
overlay_shape x y d = record {
  sources = max x.sources y.sources;
  parities = max x.parities y.parities;
  memory = max x.memory (capped (y.memory + d));
}

abbrev pub overlay : {F : Type 0} → Sums F → (ℕ → ℕ → ℕ → F) → (ℕ → ℕ → ℕ → F) → ℕ → ℕ → ℕ → ℕ → F
overlay s x y d j a k = s.plus (x j a k) (cond (nat_le d a) (y j (a - d) k) s.zero)

-- a code whose ages are spread out by the factor g
abbrev pub spread_shape : Shape → ℕ → Shape
spread_shape x g = record { sources = x.sources; parities = x.parities; memory = capped (g * x.memory) }

abbrev pub spread : {F : Type 0} → Sums F → (ℕ → ℕ → ℕ → F) → ℕ → ℕ → ℕ → ℕ → F
spread s x g j a k = cond (a % g == 0) (x j (a / g) k) s.zero
