-- Worked examples: symbols as bytes, and back.
use Rattle.std.specs.Prelude.{◌≡◌, [], ◌∷◌}
use Rattle.word.specs.Words.{word}
use Rattle.word.specs.Arithmetic.{word_strings}
use Rattle.byte.specs.Symbols.{symbol}
use Rattle.byte.specs.Arithmetic.{byte_strings}

pub record ByteExamples : Type 0 where
  -- a word is written most significant byte first
  pub word_written : word_strings.write (word 0x01020304) ≡ 1 ∷ 2 ∷ 3 ∷ 4 ∷ []
  pub word_read : (word_strings.read (1 ∷ 2 ∷ 3 ∷ 4 ∷ [])).value ≡ 0x01020304
  pub high_word_written : word_strings.write (word 0xfedcba98) ≡ 254 ∷ 220 ∷ 186 ∷ 152 ∷ []
  pub high_word_read : (word_strings.read (254 ∷ 220 ∷ 186 ∷ 152 ∷ [])).value ≡ 0xfedcba98
  -- a symbol of a byte is written as that byte
  pub byte_written : byte_strings.write (symbol 171) ≡ 171 ∷ []
  pub byte_read : (byte_strings.read (171 ∷ [])).value ≡ 171
