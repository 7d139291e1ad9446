use Rattle.std.proofs.Common.{◌+◌, ◌*◌, ◌<◌, ◌≤◌, length, vec_items, sym, ◌∙◌, inl, inr, arith}
use Rattle.std.proofs.lemmas.List.{get_or_read}
use Rattle.std.proofs.lemmas.Bool.{cond-true, and_from, lt-ltb, le-leb}
use Rattle.byte.specs.Equal.{is_byte}
use Rattle.table.proofs.Inside.{place_inside}
use Rattle.table.proofs.code.CoefficientTableCodeByte.coefficient.Goals as goal

pub index-requires : goal.index-requires
index-requires c =
    let self = c.args.self.now in
    let inside = place_inside self.parities self.memory self.sources c.args.parity c.args.age c.args.sub (omega arith) (omega arith) (omega arith) in
    rw (c.value-memory.ensures.value, c.value-sources.ensures.value) (omega arith)

pub returns-then-sub-sources : goal.returns-then-sub-sources
returns-then-sub-sources c =
    let self = c.args.self.now in
    let items = vec_items self.bytes in
    let at = (c.args.parity * (self.memory + 1) + c.args.age) * self.sources + c.args.sub in
    let j : c.args.parity < self.parities = omega arith in
    let a : c.args.age ≤ self.memory = omega arith in
    let k : c.args.sub < self.sources = omega arith in
    let inside = place_inside self.parities self.memory self.sources c.args.parity c.args.age c.args.sub j a k in
    let within : at < length items = omega (arith, self.whole, self.bytes.ok.0) in
    let found = rw (c.value-memory.ensures.value, c.value-sources.ensures.value) at c.index.ensures in
    let read = c.new.ensures ∙ get_or_read items at _ within found 0 in
    let test = and_from _ _ (lt-ltb c.args.parity self.parities j) (and_from _ _ (le-leb c.args.age self.memory a) (lt-ltb c.args.sub self.sources k)) in
    record {
      value = is_byte c.new.result _ read ∙ sym (cond-true _ _ _ test);
      outside = λ o. absurd (elim o [ inl p ↦ omega arith | inr q ↦ elim q [ inl k ↦ omega arith | inr a ↦ omega arith ] ]);
    }
