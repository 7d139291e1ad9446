-- What streams send over a table of coefficients. Assumes nothing.
use Rattle.std.proofs.Common.{[], ◌∷◌, refl}
use Rattle.galois.specs.Product.{product}
use Rattle.byte.specs.Equal.{same_symbol}
use Rattle.byte.specs.Symbols.{value_of_symbol}
use Rattle.streams.specs.Streams.{Sends}
use Rattle.examples.specs.Listed.{symbols}
use Rattle.examples.specs.Tables.{TableExamples, link, narrow, wide}
use Rattle.examples.proofs.Places.{sends}

narrow_0 : Sends (link 1) narrow 0 (symbols (142 ∷ 200 ∷ 68 ∷ 2 ∷ []))
unfolding product
narrow_0 =
    sends value_of_symbol same_symbol (link 1) narrow 0 _ refl
    ((refl, tt), ((refl, tt), tt))
    ((refl, tt), ((refl, tt), tt))

narrow_1 : Sends (link 1) narrow 1 (symbols (3 ∷ 128 ∷ 1 ∷ 228 ∷ []))
unfolding product
narrow_1 =
    sends value_of_symbol same_symbol (link 1) narrow 1 _ refl
    ((refl, tt), ((refl, tt), tt))
    ((refl, tt), ((refl, tt), tt))

narrow_2 : Sends (link 1) narrow 2 (symbols (255 ∷ 1 ∷ 73 ∷ 211 ∷ []))
unfolding product
narrow_2 =
    sends value_of_symbol same_symbol (link 1) narrow 2 _ refl
    ((refl, tt), ((refl, tt), tt))
    ((refl, tt), ((refl, tt), tt))

wide_0 : Sends (link 2) wide 0 (symbols (142 ∷ 1 ∷ 200 ∷ 2 ∷ 68 ∷ 4 ∷ 2 ∷ 142 ∷ []))
unfolding product
wide_0 =
    sends value_of_symbol same_symbol (link 2) wide 0 _ refl
    ((refl, (refl, tt)), ((refl, (refl, tt)), tt))
    ((refl, (refl, tt)), ((refl, (refl, tt)), tt))

wide_1 : Sends (link 2) wide 1 (symbols (3 ∷ 4 ∷ 128 ∷ 64 ∷ 1 ∷ 124 ∷ 228 ∷ 72 ∷ []))
unfolding product
wide_1 =
    sends value_of_symbol same_symbol (link 2) wide 1 _ refl
    ((refl, (refl, tt)), ((refl, (refl, tt)), tt))
    ((refl, (refl, tt)), ((refl, (refl, tt)), tt))

wide_2 : Sends (link 2) wide 2 (symbols (255 ∷ 16 ∷ 1 ∷ 170 ∷ 73 ∷ 210 ∷ 211 ∷ 133 ∷ []))
unfolding product
wide_2 =
    sends value_of_symbol same_symbol (link 2) wide 2 _ refl
    ((refl, (refl, tt)), ((refl, (refl, tt)), tt))
    ((refl, (refl, tt)), ((refl, (refl, tt)), tt))

pub tables : TableExamples
tables = record {
  place_0_1_0 = refl;
  place_1_0_1 = refl;
  at_0_0_1 = refl;
  at_0_1_0 = refl;
  at_1_0_1 = refl;
  at_1_1_0 = refl;
  no_parity = refl;
  no_age = refl;
  no_sub = refl;
  narrow_0 = narrow_0;
  narrow_1 = narrow_1;
  narrow_2 = narrow_2;
  wide_0 = wide_0;
  wide_1 = wide_1;
  wide_2 = wide_2;
  right = refl;
  largest = refl;
  smallest = refl;
  shorter = refl;
  longer = refl;
  no_sources = refl;
  no_parities = refl;
  many_parities = refl;
  long_memory = refl;
  long_memory_and_shorter = refl;
  many_sources = refl;
  many_sources_and_shorter = refl;
}
