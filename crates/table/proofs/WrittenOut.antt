-- A table that is written out gives its bytes. Assumes nothing.
use Rattle.std.proofs.Common.{◌≡◌, ℕ, zero, suc, ◌+◌, ◌*◌, ◌<◌, ◌≤◌, List, [], ◌∷◌, take, drop, get_or, length, ◌++◌, sym, ap, ap₂, ◌∙◌, length-drop, mul_assoc, add-mul, zero-mul, suc-mul, mul-le-mul_right, arith}
use Rattle.std.specs.List.{flat_map, range_with_len}
use Rattle.std.proofs.Math.Seq.{take-add, take-length}
use Rattle.std.proofs.lemmas.List.{get_or-drop, get_or-take, length-take-le, drop-drop}
use Rattle.std.proofs.lemmas.List.FromFn.{fill_by_all}
use Rattle.std.proofs.lemmas.List.Concat.{flat_map_single}
use Rattle.std.proofs.lemmas.Bool.{cond-true, and_from, lt-ltb, le-leb}
use Rattle.codes.proofs.Places.{below}
use Rattle.codes.specs.Shape.{Shape}
use Rattle.byte.specs.Field.{value_of}
use Rattle.byte.specs.Equal.{byte_value}
use Rattle.table.specs.Table.{place, table_size, table_coefficients}
use Rattle.table.specs.WrittenOut.{in_turn, written_out}
use Rattle.table.proofs.Inside.{place_inside}

-- where f a, f (a + 1), .. are a list's rows of w numbers, n of them written in turn are its front
rows_from : (w n a : ℕ) (f : ℕ → List ℕ) (xs : List ℕ) → ((i : ℕ) → i < n → f (a + i) ≡ take w (drop (i * w) xs)) → flat_map f (range_with_len a n) ≡ take (n * w) xs
rows_from w zero a f xs each = ap (λ s. take s xs) (sym (zero-mul w))
rows_from w (suc n) a f xs each =
    ap₂ ◌++◌ first (rows_from w n (a + 1) f (drop w xs) rest) ∙ sym (take-add w (n * w) xs) ∙ ap (λ s. take s xs) whole where
      whole : w + n * w ≡ suc n * w
      whole = omega (arith, suc-mul n w)

      first : f a ≡ take w xs
      first =
          let same : a ≡ a + 0 = omega arith in
          ap f same ∙ each 0 (omega arith) ∙ ap (λ s. take w (drop s xs)) (zero-mul w)

      rest : (i : ℕ) → i < n → f (a + 1 + i) ≡ take w (drop (i * w) (drop w xs))
      rest i h =
          let same : a + 1 + i ≡ a + (i + 1) = omega arith in
          let more = add-mul i 1 w in
          let next : (i + 1) * w ≡ w + i * w = omega arith in
          ap f same ∙ each (i + 1) (omega arith) ∙ ap (λ s. take w (drop s xs)) next ∙ ap (take w) (sym (drop-drop (i * w) w xs))

-- and so are f 0, f 1, ..
rows_of : (w n : ℕ) (f : ℕ → List ℕ) (xs : List ℕ) → ((i : ℕ) → i < n → f i ≡ take w (drop (i * w) xs)) → in_turn n f ≡ take (n * w) xs
rows_of w n f xs each = rows_from w n 0 f xs (λ i h. let same : 0 + i ≡ i = omega arith in ap f same ∙ each i h)

-- k numbers of a list, from place s on
piece : (k s : ℕ) (f : ℕ → ℕ) (xs : List ℕ) → s + k ≤ length xs → ((i : ℕ) → i < k → f i ≡ get_or xs (s + i) 0) → in_turn k (λ i. f i ∷ []) ≡ take k (drop s xs)
piece k s f xs within each =
    let enough : k ≤ length (drop s xs) = omega (arith, length-drop s xs) in
    flat_map_single f (range_with_len 0 k)
    ∙ sym (fill_by_all f (take k (drop s xs)) k 0 (length-take-le k (drop s xs) enough)
    (λ i h. get_or-take k (drop s xs) i 0 h ∙ get_or-drop s xs i 0 ∙ sym (each i h)))

-- where row a begins in part j, of parts of m rows of k numbers
row_start : (m k j a : ℕ) → (j * m + a) * k ≡ j * (m * k) + a * k
row_start m k j a = omega (arith, add-mul (j * m) a k, mul_assoc j m k)

-- and it ends within all p parts
row_inside : (p m k j a : ℕ) → j < p → a < m → (j * m + a) * k + k ≤ p * m * k
row_inside p m k j a hj ha =
    let at = below p m j a hj ha in
    let up : (j * m + a + 1) * k ≤ p * m * k = mul-le-mul_right k (omega arith) in
    let more = add-mul (j * m + a) 1 k in
    omega arith

module _ (x : Shape) (bytes : List ℕ) (long : length bytes ≡ table_size x) (small : (p : ℕ) → p < length bytes → get_or bytes p 0 < 256) where
  -- a coefficient inside the shape is the byte in its place
  byte_there : (j a k : ℕ) → j < x.parities → a < x.memory + 1 → k < x.sources → (table_coefficients x bytes j a k).value ≡ get_or bytes (place x j a k) 0
  byte_there j a k hj ha hk =
      let age : a ≤ x.memory = omega arith in
      let within = place_inside x.parities x.memory x.sources j a k hj age hk in
      ap value_of (cond-true _ _ _ (and_from _ _ (lt-ltb j x.parities hj) (and_from _ _ (le-leb a x.memory age) (lt-ltb k x.sources hk))))
      ∙ byte_value (get_or bytes (place x j a k) 0) (small (place x j a k) (omega arith))

  -- the coefficients of a parity and an age are a row of the table
  row : (j a : ℕ) → j < x.parities → a < x.memory + 1
      → in_turn x.sources (λ k. (table_coefficients x bytes j a k).value ∷ [])
      ≡ take x.sources (drop (a * x.sources) (drop (j * ((x.memory + 1) * x.sources)) bytes))
  row j a hj ha =
      let inside = row_inside x.parities (x.memory + 1) x.sources j a hj ha in
      piece x.sources ((j * (x.memory + 1) + a) * x.sources) (λ k. (table_coefficients x bytes j a k).value) bytes (omega arith) (λ k. byte_there j a k hj ha)
      ∙ ap (take x.sources)
      (ap (λ s. drop s bytes) (row_start (x.memory + 1) x.sources j a)
      ∙ sym (drop-drop (a * x.sources) (j * ((x.memory + 1) * x.sources)) bytes))

  pub written_back : written_out x (table_coefficients x bytes) ≡ bytes
  written_back =
      rows_of ((x.memory + 1) * x.sources) x.parities _ bytes
      (λ j hj. rows_of x.sources (x.memory + 1) _ (drop (j * ((x.memory + 1) * x.sources)) bytes) (λ a. row j a hj))
      ∙ ap (λ n. take n bytes) (sym (mul_assoc x.parities (x.memory + 1) x.sources) ∙ sym long)
      ∙ take-length bytes
