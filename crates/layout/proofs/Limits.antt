-- The limits of a shape, as numbers. Assumes nothing.
use Rattle.std.proofs.Common.{◌≡◌, ℕ, ◌+◌, ◌≤◌, true, false, arith}
use Rattle.std.proofs.lemmas.Nat.{mul-le}
use Rattle.std.proofs.lemmas.Bool.Decides.{nat_tests}
use Rattle.layout.specs.declared.head.BlockShape.{BlockShape}
use Rattle.layout.specs.Layout.{is_width, outside_shape, symbol_count}

module _ (x : BlockShape) (right : outside_shape x ≡ false) where
  pub sources_within : (1 ≤ x.sources) × (x.sources ≤ 8)
  sources_within = (grind (arith, nat_tests), grind (arith, nat_tests))

  pub parities_within : (1 ≤ x.parities) × (x.parities ≤ 4)
  parities_within = (grind (arith, nat_tests), grind (arith, nat_tests))

  pub symbols_within : (1 ≤ x.symbols) × (x.symbols ≤ 32)
  symbols_within = (grind (arith, nat_tests), grind (arith, nat_tests))

  -- a block has at most 384 symbols
  pub few_symbols : symbol_count x ≤ 384
  few_symbols =
      let k = sources_within in
      let p = parities_within in
      let l = symbols_within in
      mul-le (x.sources + x.parities) x.symbols 12 32 (omega arith) (omega arith)

module _ (w : ℕ) (right : is_width w ≡ true) where
  pub width_within : (1 ≤ w) × (w ≤ 4)
  width_within = (grind (arith, nat_tests), grind (arith, nat_tests))
