use Rattle.std.proofs.Common.{◌≡◌, ◌-◌, ◌^◌, false, List, ℕ, [], ◌++◌, codes, decimal, string_bytes, sym, ◌∙◌, append_assoc}
use Rattle.std.specs.Fmt.{digits, format_spec, padded_integral}
use Rattle.std.specs.List.{flat_map}
use Rattle.std.proofs.lemmas.Result.{IfOk-weaker}
use Rattle.hextext.specs.Digits.{byte_text}
use Rattle.layout.specs.Words.{word_bytes}
use Rattle.frametext.specs.WordText.{text_of_word}
use Rattle.frametext.proofs.Hex.{hex_word}
use Rattle.frametext.proofs.word.word_text.Goals as goal

-- the pieces of a line, grouped from the other end
regroup : (a b c d e f : List ℕ) → a ++ (b ++ (c ++ (d ++ (e ++ f)))) ≡ a ++ b ++ c ++ d ++ e ++ f
regroup a b c d e f =
    sym
    (append_assoc (a ++ b ++ c ++ d) e f ∙ append_assoc (a ++ b ++ c) d (e ++ f) ∙ append_assoc (a ++ b) c (d ++ (e ++ f))
    ∙ append_assoc a b (c ++ (d ++ (e ++ f))))

pub returns : goal.returns
returns c =
    let i = c.args.index in
    let w = c.args.word in
    let said = string_bytes c.in_ok-said.said in
    let hex = padded_integral (format_spec 32 0 4 8 (2 ^ 64 - 1)) false [] (digits 16 false w) in
    IfOk-weaker c.format.result _ (λ s. string_bytes s ≡ text_of_word i w)
    (λ s e.
    let printed : string_bytes s ≡ codes "word " ++ (decimal i ++ (codes " " ++ (hex ++ (codes " " ++ said)))) = e in
    printed ∙ rw (hex_word w c.ranges.word.fits, c.in_ok-said.ensures) (regroup (codes "word ") (decimal i) (codes " ") (flat_map byte_text (word_bytes w)) (codes " ") _))
    (rw (c.laid_out.ensures, c.in_radix.ensures) at c.format.ensures.ok)
