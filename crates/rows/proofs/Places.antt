-- Where rows of w elements each lie that come one after the other. Assumes nothing.
use Rattle.std.proofs.Common.{◌≡◌, ℕ, ◌+◌, ◌-◌, ◌*◌, ◌<◌, ◌≤◌, ◌≢◌, ◌⊎◌, inl, inr, ap, mul-le-mul_right, add-mul, arith}
use Rattle.std.proofs.lemmas.Bool.{cases_order, cases_eq}

pub row_before : (q r w : ℕ) → q < r → q * w + w ≤ r * w
row_before q r w h =
    let up : (q + 1) * w ≤ r * w = mul-le-mul_right w (omega arith) in
    let more = add-mul q 1 w in
    omega arith

-- row r of m rows lies within n elements
pub row_within : (r m w n : ℕ) → r < m → m * w ≤ n → r * w + w ≤ n
row_within r m w n h room = let up = row_before r m w h in omega arith

-- two rows do not overlap
pub rows_apart : (q r w : ℕ) → q ≢ r → (q * w + w ≤ r * w) ⊎ (r * w + w ≤ q * w)
rows_apart q r w other =
    elim (cases_order q r) [
      | inl same ↦ absurd (other same)
      | inr less ↦ elim less [ inl h ↦ inl (row_before q r w h) | inr h ↦ inr (row_before r q w h) ]
    ]

-- an element of row q lies outside row r
pub outside_row : (q r w u : ℕ) → q ≢ r → u < w → (q * w + u < r * w) ⊎ (r * w + w ≤ q * w + u)
outside_row q r w u other h = elim (rows_apart q r w other) [ inl a ↦ inl (omega arith) | inr a ↦ inr (omega arith) ]

-- element u of row r of m rows lies within n elements
pub place_within : (r m w n u : ℕ) → r < m → m * w ≤ n → u < w → r * w + u < n
place_within r m w n u h room k = let up = row_within r m w n h room in omega arith

-- elements of two rows lie in two places
pub other_place : (q r w u v : ℕ) → q ≢ r → u < w → v < w → q * w + u ≢ r * w + v
other_place q r w u v other h k e = elim (outside_row q r w u other h) [ inl a ↦ omega arith | inr a ↦ omega arith ]

-- an element of row q lies outside the columns of row r from column `start` on
pub outside_columns : (q r w start u : ℕ) → start ≤ w → u < w → (q ≢ r) ⊎ (u < start) → (q * w + u < r * w + start) ⊎ (r * w + start + (w - start) ≤ q * w + u)
outside_columns q r w start u within h elsewhere =
    elim (cases_eq q r) [
      | inl same ↦
          let level : q * w ≡ r * w = ap (λ (i : ℕ). i * w) same in
          elim elsewhere [ inl other ↦ absurd (other same) | inr before ↦ inl (omega arith) ]
      | inr other ↦ elim (outside_row q r w u other h) [ inl a ↦ inl (omega arith) | inr a ↦ inr (omega arith) ]
    ]

-- elements of two rows, or of two columns, lie in two places
pub other_column : (q r w u v : ℕ) → u < w → v < w → (q ≢ r) ⊎ (u ≢ v) → q * w + u ≢ r * w + v
other_column q r w u v h k side e =
    elim (cases_eq q r) [
      | inl same ↦
          let level : q * w ≡ r * w = ap (λ (i : ℕ). i * w) same in
          elim side [ inl other ↦ other same | inr other ↦ other (omega arith) ]
      | inr other ↦ other_place q r w u v other h k e
    ]
