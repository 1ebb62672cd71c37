-- `hot::Hot::operate` meets its contract.
use mathlib.Core.Path.{refl, sym, ◌∙◌, ◌≡◌}
use native.Mathlib.Omega.{arith}
use borrow.Author.Rules.{rules}
use Rattle.plan.specs.Result.{alu_of}
use Rattle.hot.specs.Arms.{compare_operates, cost_below, divided_operates, load_above, load_below, load_operates, next_operates, shift_operates, shl_computes}
use Rattle.source.specs.Rows.{add, adds, and, div, load_cost, modulo, mul, or, shra, shrl, sub, xor}
use Rattle.source.specs.Fields.{mode_of}
use Rattle.hot.specs.Tells.{stay}
use Rattle.hot.proofs.Hot.operate.Goals as goal

pub returns-then-x-ge-NONE : goal.returns-then-x-ge-NONE
returns-then-x-ge-NONE c = stay c.stop.ensures refl

pub returns-then-d-ge-USP : goal.returns-then-d-ge-USP
returns-then-d-ge-USP c = stay c.stop-then-d-ge-USP.ensures refl

pub overflow_add-x : goal.overflow_add-x
overflow_add-x c =
    omega (
      arith,
      c.requires.0,
      cost_below
          (mode_of c.args.w) (omega arith),
    )

pub overflow_add-x-in-10 : goal.overflow_add-x-in-10
overflow_add-x-in-10 c =
    omega (
      arith,
      c.requires.0,
      cost_below
          (mode_of c.args.w) (omega arith),
    )

pub overflow_add-x-in-11 : goal.overflow_add-x-in-11
overflow_add-x-in-11 c =
    omega (
      arith,
      c.requires.0,
      cost_below
          (mode_of c.args.w) (omega arith),
    )

pub overflow_add-x-in-12 : goal.overflow_add-x-in-12
overflow_add-x-in-12 c =
    omega (
      arith,
      c.requires.0,
      cost_below
          (mode_of c.args.w) (omega arith),
    )

pub overflow_add-x-in-16 : goal.overflow_add-x-in-16
overflow_add-x-in-16 c =
    omega (
      arith,
      c.requires.0,
      cost_below
          (mode_of c.args.w) (omega arith),
    )

pub overflow_add-x-in-16-2 : goal.overflow_add-x-in-16-2
overflow_add-x-in-16-2 c =
    omega (
      arith,
      c.requires.0,
      cost_below
          (mode_of c.args.w) (omega arith),
    )

pub overflow_add-x-in-18 : goal.overflow_add-x-in-18
overflow_add-x-in-18 c =
    omega (
      arith,
      c.requires.0,
      cost_below
          (mode_of c.args.w) (omega arith),
    )

pub overflow_add-x-in-18-2 : goal.overflow_add-x-in-18-2
overflow_add-x-in-18-2 c =
    omega (
      arith,
      c.requires.0,
      cost_below
          (mode_of c.args.w) (omega arith),
    )

pub overflow_add-x-in-19 : goal.overflow_add-x-in-19
overflow_add-x-in-19 c =
    omega (
      arith,
      c.requires.0,
      cost_below
          (mode_of c.args.w) (omega arith),
    )

pub overflow_add-x-in-19-2 : goal.overflow_add-x-in-19-2
overflow_add-x-in-19-2 c =
    omega (
      arith,
      c.requires.0,
      cost_below
          (mode_of c.args.w) (omega arith),
    )

pub returns-in-1 : goal.returns-in-1
returns-in-1 c =
    let pre' = c.requires in
    let a = c.args in
    let q : c.load_cost.result ≡ load_cost (mode_of a.w) = rw pre'.2 (c.load_cost.ensures (rw pre'.2 at pre'.0)) in
    rw (c.load.ensures.value, c.load.ensures.written) (load_operates a.regs.now (search (rules, c.well_formed)) a.self a.w a.x pre'.0
    (omega (arith, c.if-d-ge-USP.false))
    c.if-x-ge-NONE.false (pre'.1 ∙ c.in-1.is) c.load_cost.result q
    (omega (arith, q, load_above (mode_of a.w) (omega arith))) (omega (arith, q, load_below (mode_of a.w) (omega arith))))

pub returns-in-3 : goal.returns-in-3
unfolding alu_of
returns-in-3 c =
    let a = c.args in
    let pre' = c.requires in
    rw (c.with.ensures.value, c.with.ensures.written) (next_operates a.regs.now (search (rules, c.well_formed)) a.self a.w a.x pre'.0
    (omega (arith, c.if-d-ge-USP.false))
    c.if-x-ge-NONE.false c.add.result c.add.ensures (λ q. omega arith)
    (pre'.1 ∙ c.in-3.is) (omega arith) _ add (omega arith))

pub returns-in-4 : goal.returns-in-4
unfolding alu_of
returns-in-4 c =
    let a = c.args in
    let pre' = c.requires in
    rw (c.with-in-4.ensures.value, c.with-in-4.ensures.written) (next_operates a.regs.now (search (rules, c.well_formed)) a.self a.w a.x pre'.0
    (omega (arith, c.if-d-ge-USP.false))
    c.if-x-ge-NONE.false c.sub.result c.sub.ensures (λ q. omega arith)
    (pre'.1 ∙ c.in-4.is) (omega arith) _ sub (omega arith))

pub returns-in-5 : goal.returns-in-5
returns-in-5 c =
    let a = c.args in
    let pre' = c.requires in
    rw c.flagged.ensures (compare_operates a.regs.now (search (rules, c.well_formed)) a.self a.w a.x pre'.0
    (omega (arith, c.if-d-ge-USP.false)) c.if-x-ge-NONE.false
    c.sub-in-5.result (pre'.1 ∙ c.in-5.is) c.sub-in-5.ensures)

pub returns-in-6 : goal.returns-in-6
unfolding alu_of
returns-in-6 c =
    let a = c.args in
    let pre' = c.requires in
    rw (c.with-in-6.ensures.value, c.with-in-6.ensures.written) (next_operates a.regs.now (search (rules, c.well_formed)) a.self a.w a.x pre'.0
    (omega (arith, c.if-d-ge-USP.false))
    c.if-x-ge-NONE.false c.and.result c.and.ensures (λ q. omega arith)
    (pre'.1 ∙ c.in-6.is) (omega arith) _ and (omega arith))

pub returns-in-7 : goal.returns-in-7
unfolding alu_of
returns-in-7 c =
    let a = c.args in
    let pre' = c.requires in
    rw (c.with-in-7.ensures.value, c.with-in-7.ensures.written) (next_operates a.regs.now (search (rules, c.well_formed)) a.self a.w a.x pre'.0
    (omega (arith, c.if-d-ge-USP.false))
    c.if-x-ge-NONE.false c.or.result c.or.ensures (λ q. omega arith)
    (pre'.1 ∙ c.in-7.is) (omega arith) _ or (omega arith))

pub returns-in-8 : goal.returns-in-8
unfolding alu_of
returns-in-8 c =
    let a = c.args in
    let pre' = c.requires in
    rw (c.with-in-8.ensures.value, c.with-in-8.ensures.written) (next_operates a.regs.now (search (rules, c.well_formed)) a.self a.w a.x pre'.0
    (omega (arith, c.if-d-ge-USP.false))
    c.if-x-ge-NONE.false c.xor.result c.xor.ensures (λ q. omega arith)
    (pre'.1 ∙ c.in-8.is) (omega arith) _ xor (omega arith))

pub returns-in-9 : goal.returns-in-9
unfolding alu_of
returns-in-9 c =
    let a = c.args in
    let pre' = c.requires in
    rw (c.with-in-9.ensures.value, c.with-in-9.ensures.written) (next_operates a.regs.now (search (rules, c.well_formed)) a.self a.w a.x pre'.0
    (omega (arith, c.if-d-ge-USP.false))
    c.if-x-ge-NONE.false c.adds.result c.adds.ensures
    (λ q. omega arith) (pre'.1 ∙ c.in-9.is) (omega arith) _ adds refl)

pub returns-in-10 : goal.returns-in-10
unfolding alu_of
returns-in-10 c =
    let a = c.args in
    let pre' = c.requires in
    rw (c.with-in-10.ensures.value, c.with-in-10.ensures.written) (next_operates a.regs.now (search (rules, c.well_formed)) a.self a.w a.x pre'.0
    (omega (arith, c.if-d-ge-USP.false))
    c.if-x-ge-NONE.false c.mul.result c.mul.ensures
    (λ q. omega arith) (pre'.1 ∙ c.in-10.is) (omega arith) _ mul refl)

pub returns-in-11 : goal.returns-in-11
unfolding alu_of
returns-in-11 c =
    let a = c.args in
    let pre' = c.requires in
    divided_operates a.regs.now (search (rules, c.well_formed)) a.self a.w a.x pre'.0
    (omega (arith, c.if-d-ge-USP.false))
    c.if-x-ge-NONE.false c.div.result c.div.ensures
    (λ q. omega arith) (pre'.1 ∙ c.in-11.is) (omega arith) _ div refl c.divide.ensures

pub returns-in-12 : goal.returns-in-12
unfolding alu_of
returns-in-12 c =
    let a = c.args in
    let pre' = c.requires in
    divided_operates a.regs.now (search (rules, c.well_formed)) a.self a.w a.x pre'.0
    (omega (arith, c.if-d-ge-USP.false))
    c.if-x-ge-NONE.false c.modulo.result c.modulo.ensures
    (λ q. omega arith) (pre'.1 ∙ c.in-12.is) (omega arith) _ modulo refl c.divide-in-12.ensures

pub returns-in-16 : goal.returns-in-16
returns-in-16 c =
    let a = c.args in
    let pre' = c.requires in
    let shl' = c.shl in
    let computes = shl_computes a.code (omega arith) (omega arith) in
    rw (c.with-in-16.ensures.value, c.with-in-16.ensures.written) (shift_operates a.regs.now (search (rules, c.well_formed)) a.self a.w a.x pre'.0
    (omega (arith, c.if-d-ge-USP.false))
    c.if-x-ge-NONE.false shl'.result (shl'.ensures ∙ sym (computes.1 _ _)) (λ q. omega arith)
    pre'.1 (omega arith) _ computes.0 refl)

pub returns-in-18 : goal.returns-in-18
unfolding alu_of
returns-in-18 c =
    let a = c.args in
    let pre' = c.requires in
    let shra' = c.shra in
    rw (c.with-in-18.ensures.value, c.with-in-18.ensures.written) (shift_operates a.regs.now (search (rules, c.well_formed)) a.self a.w a.x pre'.0
    (omega (arith, c.if-d-ge-USP.false))
    c.if-x-ge-NONE.false shra'.result shra'.ensures (λ q. omega arith)
    (pre'.1 ∙ c.in-18.is) (omega arith) _ shra refl)

pub returns-in-19 : goal.returns-in-19
unfolding alu_of
returns-in-19 c =
    let a = c.args in
    let pre' = c.requires in
    let shrl' = c.shrl in
    rw (c.with-in-19.ensures.value, c.with-in-19.ensures.written) (shift_operates a.regs.now (search (rules, c.well_formed)) a.self a.w a.x pre'.0
    (omega (arith, c.if-d-ge-USP.false))
    c.if-x-ge-NONE.false shrl'.result shrl'.ensures (λ q. omega arith)
    (pre'.1 ∙ c.in-19.is) (omega arith) _ shrl refl)

pub returns-in_default : goal.returns-in_default
returns-in_default c = stay c.stop-in_default.ensures refl
