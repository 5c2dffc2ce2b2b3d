use Rattle.std.proofs.Common.{◌≡◌, ◌<◌, ◌+◌, ◌-◌, ◌∙◌, ℕ, ap, arith, get_or, length, sym}
use Rattle.si_bounds.specs.declared.needs.Need.{Need}
use Rattle.si_bounds.proofs.NeedLists.{all_left, asks_that, one_gone, still}
use Rattle.si_bounds.proofs.needs.drop_beaten.Goals as goal

pub loop-k-init : goal.loop-k-init
loop-k-init c = all_left c.args.needs.now.items c.args.need.now

pub asks_within-requires-clause-high : goal.asks_within-requires-clause-high
asks_within-requires-clause-high c =
    let inside : c.loop-k.k < length c.loop-k.needs.items = omega (arith, c.loop-k.needs.ok.0) in
    sym (still c.args.needs.now.items c.loop-k.needs.items c.args.need.now c.loop-k.invariant c.loop-k.k inside
    (λ (other : Need). length other.high ≡ length c.args.need.now.high) c.requires.high c.index.result.now
    c.index.ensures)

pub asks_within-requires-clause-low : goal.asks_within-requires-clause-low
asks_within-requires-clause-low c =
    let inside : c.loop-k.k < length c.loop-k.needs.items = omega (arith, c.loop-k.needs.ok.0) in
    sym (still c.args.needs.now.items c.loop-k.needs.items c.args.need.now c.loop-k.invariant c.loop-k.k inside
    (λ (other : Need). length other.low ≡ length c.args.need.now.low) c.requires.low c.index-in-loop-k.result.now
    c.index-in-loop-k.ensures)

pub loop-k-preserved-then-asks_within : goal.loop-k-preserved-then-asks_within
loop-k-preserved-then-asks_within c =
    let now = c.loop-k.needs.items in
    let inside : c.loop-k.k < length now = omega (arith, c.loop-k.needs.ok.0) in
    let whole = c.loop-k.needs.ok.0 in
    let count : length c.swap_remove.new.self.items + 1 ≡ length now =
    omega (arith, c.swap_remove.ensures.len, c.loop-k.needs.ok.0, c.swap_remove.new.self.ok.0) in
    one_gone c.args.needs.now.items now c.args.need.now c.loop-k.invariant c.loop-k.k inside
    c.swap_remove.new.self.items count
    (λ d behind. c.swap_remove.ensures.by_index.0 d (omega (arith, behind, whole))
    ∙ ap (λ (n : ℕ). get_or now (n - 1) d) whole)
    (λ j d other earlier. c.swap_remove.ensures.by_index.1 j d other (omega (arith, earlier, whole)))
    (λ d d_is. asks_that now c.loop-k.k c.args.need.now c.index.result.now c.index-in-loop-k.result.now d inside
    c.index.ensures c.index-in-loop-k.ensures d_is (c.asks_within.ensures.0 c.if-asks_within.true))
