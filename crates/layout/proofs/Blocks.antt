-- The bytes of a block, symbol by symbol. Assumes nothing.
use Rattle.std.proofs.Common.{◌≡◌, ℕ, ◌-◌, ◌*◌, ◌/◌, ◌%◌, ◌<◌, ◌≤◌, ltb, List, [], ◌∷◌, ◌++◌, length, get_or, take, drop, replicate, sym, refl, ap, ◌∙◌, inl, inr, arith}
use Rattle.std.specs.List.{flat_map}
use Rattle.std.proofs.lemmas.Nat.{div-add-mod', mod_below}
use Rattle.std.proofs.lemmas.List.{drop_at, get_or_append_left, take_at}
use Rattle.std.proofs.lemmas.Bool.{ltb-false, or_parts}
use Rattle.arithmetic.specs.Laws.{ByteLaws}
use Rattle.arithmetic.specs.Operations.{Bytes}
use Rattle.codes.specs.Shape.{last_slot}
use Rattle.layout.specs.declared.head.BlockShape.{BlockShape}
use Rattle.layout.specs.Layout.{Lawful, is_width, outside_shape}
use Rattle.layout.proofs.Pieces.{length_joined, get_d_joined, get_d_joined_past, all_joined}
use Rattle.layout.specs.Frames.{Within, head_for}

-- the bytes of a block
module _ {S : Type 0} (b : Bytes S) (laws : ByteLaws b) where
  pub some_width : 0 < b.width
  some_width = elim laws.widths [ inl e ↦ omega arith | inr e ↦ omega arith ]

  -- byte n lies in symbol n / width; four holds that symbol's bytes first
  pub byte_within : (block : List S) (n : ℕ) (x : S) (four : List ℕ) → n / b.width < length block → x ≡ get_or block (n / b.width) x
      → four ≡ b.write x ++ replicate (4 - b.width) 0 → get_or four (n % b.width) 0 ≡ get_or (flat_map b.write block) n 0
  byte_within block n x four within is first =
      let w = b.width in
      let small : n % w < w = mod_below n w some_width in
      ap (λ (l : List ℕ). get_or l (n % w) 0) first
      ∙ get_or_append_left (b.write x) (replicate (4 - w) 0) 0 (n % w) (omega (arith, laws.long x))
      ∙ sym (get_d_joined b.write w laws.long block (n / w) (n % w) x 0 within small is)
      ∙ ap (λ m. get_or (flat_map b.write block) m 0) (div-add-mod' n w)

  pub byte_past : (block : List S) (n : ℕ) → length block ≤ n / b.width → 0 ≡ get_or (flat_map b.write block) n 0
  byte_past block n past = sym (get_d_joined_past b.write b.width laws.long block n 0 some_width past)

  -- a block within its limits makes a lawful frame
  pub lawful_block : (slot : ℕ) (x : BlockShape) (block : List S) → Within slot x block → Lawful (head_for b slot x) (flat_map b.write block)
  lawful_block slot x block within =
      let all = or_parts (ltb last_slot slot) (outside_shape x) within.limits in
      record {
        slot = ltb-false last_slot slot all.0;
        shape = all.1;
        width = elim laws.widths [ inl e ↦ ap is_width e | inr e ↦ ap is_width e ];
        long = length_joined b.write b.width laws.long block ∙ ap (λ n. n * b.width) within.long;
        small = all_joined (λ n. n < 256) b.write laws.small block;
      }

  -- as many symbols with the same bytes are the same symbols
  pub same_block : (xs ys : List S) → length xs ≡ length ys → flat_map b.write xs ≡ flat_map b.write ys → xs ≡ ys
  same_block [] [] long same = refl
  same_block [] (y ∷ ys) long same = absurd (omega arith)
  same_block (x ∷ xs) [] long same = absurd (omega arith)
  same_block (x ∷ xs) (y ∷ ys) long same =
      let w = b.width in
      let first : b.write x ≡ b.write y =
      sym (take_at (b.write x) (flat_map b.write xs) w (laws.long x)) ∙ ap (take w) same
      ∙ take_at (b.write y) (flat_map b.write ys) w (laws.long y) in
      let rest : flat_map b.write xs ≡ flat_map b.write ys =
      sym (drop_at (b.write x) (flat_map b.write xs) w (laws.long x)) ∙ ap (drop w) same
      ∙ drop_at (b.write y) (flat_map b.write ys) w (laws.long y) in
      let front : x ≡ y = sym (laws.back x) ∙ ap b.read first ∙ laws.back y in
      let back : xs ≡ ys = same_block xs ys (omega arith) rest in
      rw (front, back) refl
