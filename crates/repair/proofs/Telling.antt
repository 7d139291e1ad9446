-- What an arrival gives. Assumes nothing.
use Rattle.std.specs.Prelude.{◌≡◌, ℕ, ◌+◌, ◌*◌, ◌<◌, ◌≤◌, ◌≢◌}

-- the block of slot t arrived: where all but one of the sub-symbols that its parity adds up are known, so is that one. Known u k says
-- that sub-symbol k of slot u is the same in both streams. The main diagonal of width m adds up sub-symbol k of slot t - m + k, the back
-- diagonal of step s, delayed by m + 1, that of slot t - (m + 1 + s * (k + 1)), for each k below m
pub record Tells (m s : ℕ) (Known : ℕ → ℕ → Type 0) (t : ℕ) : Type 0 where
  -- one of the main diagonal,
  pub first : (k : ℕ) → k < m
      → ((v i : ℕ) → i < m → i ≢ k → v + m ≡ t + i → Known v i)
      → ((v i : ℕ) → i < m → v + (m + 1 + s * (i + 1)) ≡ t → Known v i)
      → (v : ℕ) → v + m ≡ t + k → Known v k
  -- or of the back diagonal, which there is where it makes steps
  pub second : 1 ≤ s → (k : ℕ) → k < m
      → ((v i : ℕ) → i < m → v + m ≡ t + i → Known v i)
      → ((v i : ℕ) → i < m → i ≢ k → v + (m + 1 + s * (i + 1)) ≡ t → Known v i)
      → (v : ℕ) → v + (m + 1 + s * (k + 1)) ≡ t → Known v k
