use Rattle.std.proofs.Common.{◌≡◌, ◌≤◌, ◌<◌, ◌+◌, ◌-◌, ◌∙◌, ◌⊎◌, ℕ, [], List, All, Contains, ap, arith, length, subst, sym}
use Rattle.si_base.specs.declared.graph.Signal.{Signal}
use Rattle.si_base.specs.Codes.{CodedGraph}
use Rattle.si_base.specs.Graph.{StateGraph}
use Rattle.si_cell.specs.Library.{Library}
use Rattle.si_checks.specs.Loops.Lent.{coded_of}
use Rattle.si_match.specs.Loops.Rows.{AreSignals}
use Rattle.si_match.proofs.RowLemmas.{signals_below}
use Rattle.si_bounds.specs.Loops.Least.{AreAllTriggers, HaveFewPins}
use Rattle.si_bounds.specs.Loops.Needs.{AreNeeds, AreToldOver, IsNeedOfOne}
use Rattle.si_bounds.specs.Loops.Points.{IsBlind}
use Rattle.si_bounds.specs.declared.needs.Need.{Need}
use Rattle.si_bounds.proofs.NeedReads.{none_enough, these_needs}
use Rattle.si_bounds.proofs.needs.needs_of.Goals as goal

pub returns-then-len-most : goal.returns-then-len-most
returns-then-len-most c =
    let graph = coded_of c.args.graph in
    let library = c.args.library.now in
    let coded = c.coded-coded.result.now in
    let triggers = c.trigger_signals-triggers.result in
    let first = c.in_ok-chosen.chosen.items in
    let same : coded ≡ graph = c.coded-coded.ensures.same ∙ c.proper.ensures.same in
    let signals = c.signals.ensures ∙ ap (λ (g : StateGraph). g.signals) c.graph.ensures.same in
    let those = subst (λ (xs : List Signal). AreSignals triggers (length xs) first) signals
    c.in_ok-chosen.ensures.signals in
    let all = subst (λ (e : CodedGraph). AreAllTriggers e c.args.z triggers) (sym same)
    c.trigger_signals-triggers.ensures in
    let inside = subst (λ (e : CodedGraph). c.args.z < length e.graph.signals) (sym same) c.requires in
    let few = subst (λ (l : Library). HaveFewPins l c.most_pins-most.result) c.library.ensures
    c.most_pins-most.ensures.few in
    let many : c.most_pins-most.result ≤ length first =
    omega (arith, c.if-len-most.true, c.in_ok-chosen.chosen.ok.0) in
    subst (AreNeeds graph library c.args.z) (sym c.new-needs.ensures.items)
    (subst (λ (e : CodedGraph). AreNeeds e library c.args.z []) same
    (none_enough coded library c.args.z c.graph.ensures.coded inside triggers all first those
    c.in_ok-chosen.ensures.once c.most_pins-most.result few many))

pub add_further-requires-clause-chosen : goal.add_further-requires-clause-chosen
add_further-requires-clause-chosen c =
    let coded = c.coded-coded.result.now in
    let count = length coded.graph.signals in
    let triggers = c.trigger_signals-triggers.result in
    let first = c.in_ok-chosen.chosen.items in
    let signals = c.signals.ensures ∙ ap (λ (g : StateGraph). g.signals) c.graph.ensures.same in
    let those = subst (λ (xs : List Signal). AreSignals triggers (length xs) first) signals
    c.in_ok-chosen.ensures.signals in
    subst (All (λ y. y < count)) (sym c.deref-2.ensures.value)
    (signals_below triggers count count first those (omega arith))

pub returns-then-branch : goal.returns-then-branch
returns-then-branch c =
    let graph = coded_of c.args.graph in
    let library = c.args.library.now in
    let coded = c.coded-coded.result.now in
    let triggers = c.trigger_signals-triggers.result in
    let first = c.in_ok-chosen.chosen.items in
    let same : coded ≡ graph = c.coded-coded.ensures.same ∙ c.proper.ensures.same in
    let signals = c.signals.ensures ∙ ap (λ (g : StateGraph). g.signals) c.graph.ensures.same in
    let those = subst (λ (xs : List Signal). AreSignals triggers (length xs) first) signals
    c.in_ok-chosen.ensures.signals in
    let all = subst (λ (e : CodedGraph). AreAllTriggers e c.args.z triggers) (sym same)
    c.trigger_signals-triggers.ensures in
    let inside = subst (λ (e : CodedGraph). c.args.z < length e.graph.signals) (sym same) c.requires in
    let few = subst (λ (l : Library). HaveFewPins l c.most_pins-most.result) c.library.ensures
    c.most_pins-most.ensures.few in
    let fewer : length first < c.most_pins-most.result =
    omega (arith, c.if-len-most.false, c.in_ok-chosen.chosen.ok.0) in
    let more = c.most_pins-most.result - 1 - c.len-2.result in
    let pins : length first + more + 1 ≡ c.most_pins-most.result =
    omega (arith, fewer, c.len-2.ensures, c.in_ok-chosen.chosen.ok.0) in
    let places : c.len-3.result ≡ length first = omega (arith, c.len-3.ensures, c.in_ok-chosen.chosen.ok.0) in
    let needs = c.add_further.new.needs.items in
    let told = subst (λ (xs : List ℕ). AreToldOver coded c.args.z xs first more needs) c.deref.ensures.value
    (subst (λ (xs : List ℕ). AreToldOver coded c.args.z c.deref.result.now xs more needs) c.deref-2.ensures.value
    (c.in_ok-add_further.ensures.told c.if-branch.true)) in
    subst (λ (e : CodedGraph). AreNeeds e library c.args.z c.add_further.new.needs.items) same
    (these_needs coded library c.args.z c.graph.ensures.coded inside triggers all first those
    c.in_ok-chosen.ensures.once c.most_pins-most.result few more pins
    (omega (arith, c.most_pins-most.ensures.small)) c.tables.result.now c.in_ok-tables.tables.items
    c.tables.ensures.tables needs c.in_ok-tables.ensures.within
    (subst (λ (n : ℕ). (t : ℕ) → Contains c.tables.result.now t → Contains c.in_ok-tables.tables.items t
    ⊎ ((k : ℕ) × (k < n) × IsBlind t (k + 1))) places c.in_ok-tables.ensures.others) told
    (subst (λ (before : List Need). All (λ need. Contains before need
    ⊎ IsNeedOfOne coded c.args.z c.in_ok-tables.tables.items need) needs) c.new-needs.ensures.items
    (subst (λ (xs : List ℕ). All (λ need. Contains c.new-needs.result.items need
    ⊎ IsNeedOfOne coded c.args.z xs need) needs) c.deref.ensures.value c.in_ok-add_further.ensures.no_more)))
