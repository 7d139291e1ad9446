use Rattle.std.proofs.Common.{◌≡◌, eqb, Some, None, Option, sym, ap, ◌∙◌, subst, MatchOption}
use Rattle.std.proofs.lemmas.Bool.{ne_eqb, cond-false}
use Rattle.galois.specs.Product.{reciprocal}
use Rattle.byte.specs.declared.element.Byte.{Byte}
use Rattle.byte.specs.Field.{byte, byte_products, inverse_of}
use Rattle.byte.specs.Equal.{is_byte}
use Rattle.byte.specs.Laws.{byte_product_laws}
use Rattle.byte.proofs.field.ByteField.inverse.Goals as goal

-- what the law says of the inverse, of an answer that is the inverse
cases : (a : Byte) (r : Option Byte) → r ≡ inverse_of a → MatchOption r (a ≡ byte 0) (λ b. byte_products.times a b ≡ byte 1)
cases a r e =
    subst (λ (o : Option Byte). MatchOption o (a ≡ byte 0) (λ b. byte_products.times a b ≡ byte 1)) (sym e)
    (byte_product_laws.inverse a)

pub returns-else-value-eq0 : goal.returns-else-value-eq0
returns-else-value-eq0 c =
    let present : Some c.reciprocal.result ≡ inverse_of c.args.self =
    ap {B = Option Byte} Some (is_byte c.reciprocal.result (reciprocal c.args.self.value) c.reciprocal.ensures)
    ∙ sym (cond-false (eqb c.args.self.value 0) None (Some (byte (reciprocal c.args.self.value)))
    (ne_eqb c.args.self.value 0 (λ e. c.if-value-eq0.false (c.value.ensures ∙ e)))) in
    record { value = present; cases = cases c.args.self (Some c.reciprocal.result) present }
