use Rattle.std.proofs.Common.{◌≡◌, ℕ, false, ◌∙◌, ap, subst, sym}
use Rattle.si_base.specs.Bits.{bit}
use Rattle.si_base.specs.Codes.{CodedGraph}
use Rattle.si_insert.specs.Partition.{IsLawful}
use Rattle.si_bounds.specs.Loops.Bounds.{AreBounds}
use Rattle.si_bounds.specs.Loops.Least.{WeighsAtLeast}
use Rattle.si_bounds.specs.Loops.Waiting.{NeverWaits}
use Rattle.si_bounds.proofs.WaitingFits.{kept_known, known_unknown}
use Rattle.si_map.proofs.SearchLemmas.{below_left, conflict_left, free_left, heavy_leaves_none, inserted_free}
use Rattle.si_map.proofs.SearchLemmas.{none_below_left}
use Rattle.si_map.proofs.search.Search.weight_left.Goals as goal

pub returns-then-is_none-clause-none : goal.returns-then-is_none-clause-none
returns-then-is_none-clause-none c =
    let given = c.classes-classes.ensures ∙ c.partition.ensures in
    conflict_left c.args.graph.now c.args.library.now c.args.accepted.now c.classes-classes.result.now c.in_ok-free.free
    c.is_none.result c.args.self.now.bar given c.is_none.ensures c.if-is_none.true c.in_ok-free.ensures.none

pub known-distinct-requires : goal.known-distinct-requires
known-distinct-requires c =
    let given = c.classes-classes.ensures ∙ c.partition.ensures in
    let free = free_left c.args.graph.now c.args.accepted.now c.classes-classes.result.now c.in_ok-free.free
    c.is_none.result given c.is_none.ensures c.if-is_none.false c.in_ok-free.ensures.fewer in
    inserted_free c.args.graph.now c.args.library.now c.args.accepted.now c.args.self.now.name c.in_ok-inserted.inserted
    c.in_ok-inserted.ensures c.requires.ready.coded c.requires.accepted.lawful free

pub returns-clause-below : goal.returns-clause-below
returns-clause-below c =
    let given = c.classes-classes.ensures ∙ c.partition.ensures in
    let free = free_left c.args.graph.now c.args.accepted.now c.classes-classes.result.now c.in_ok-free.free
    c.is_none.result given c.is_none.ensures c.if-is_none.false c.in_ok-free.ensures.fewer in
    below_left c.args.graph.now c.args.library.now c.args.accepted.now c.args.self.now.name c.in_ok-inserted.inserted _
    c.in_ok-inserted.ensures c.known-distinct.ensures c.in_ok-weight.weight c.args.self.now.bar free
    c.in_ok-weight.ensures.some

pub returns-clause-none : goal.returns-clause-none
returns-clause-none c =
    none_below_left c.args.graph.now c.args.library.now c.args.accepted.now c.args.self.now.name
    c.in_ok-inserted.inserted _ c.in_ok-inserted.ensures c.known-distinct.ensures c.in_ok-weight.weight
    c.args.self.now.bar c.in_ok-weight.ensures.none

pub weight_below-requires-clause-known : goal.weight_below-requires-clause-known
weight_below-requires-clause-known c =
    let given = c.classes-classes.ensures ∙ c.partition.ensures in
    let graph = c.graph.ensures.same ∙ ap (λ (d : CodedGraph). d.graph) c.coded-coded.ensures.same in
    let graph_again = c.graph-2.ensures.same ∙ ap (λ (d : CodedGraph). d.graph) c.coded-coded.ensures.same in
    let never = known_unknown c.graph-2.result.now c.graph.result.now c.classes-classes.result.now
    c.waiting_signals-waiting.result c.known_fits-known.result.unknown (graph ∙ sym graph_again)
    c.known_fits-known.ensures.unknown c.waiting_signals-waiting.ensures.never in
    kept_known c.args.graph.now c.args.library.now c.args.accepted.now c.args.self.now.name c.in_ok-inserted.inserted
    c.requires.ready.coded c.requires.accepted.lawful c.in_ok-inserted.ensures c.args.self.now.fitted
    c.requires.ready.fitted _ c.known-distinct.ensures c.graph-2.result.now c.classes-classes.result.now graph_again
    given c.known_fits-known.result never c.known_fits-known.ensures.fitted c.known_fits-known.ensures.read

-- ---- bounds
pub may_weigh_below-requires-clause-lawful : goal.may_weigh_below-requires-clause-lawful
may_weigh_below-requires-clause-lawful c =
    let given = c.classes-classes.ensures ∙ c.partition.ensures in
    let graph = ap (λ (d : CodedGraph). d.graph) c.coded-coded.ensures.same in
    subst (λ g. IsLawful g c.classes-classes.result.now) (sym graph)
    (subst (IsLawful c.args.graph.now.graph) (sym given) c.requires.accepted.lawful)

pub may_weigh_below-requires-clause-never : goal.may_weigh_below-requires-clause-never
may_weigh_below-requires-clause-never c =
    subst (λ g. (z : ℕ) → bit c.waiting_signals-waiting.result z ≡ false
    → NeverWaits g c.classes-classes.result.now z) c.graph.ensures.same c.waiting_signals-waiting.ensures.never

pub may_weigh_below-requires-clause-bounds : goal.may_weigh_below-requires-clause-bounds
may_weigh_below-requires-clause-bounds c = (
  c.args.library.now,
  subst (λ d. AreBounds d c.args.library.now c.args.self.now.bounds) (sym c.coded-coded.ensures.same)
      c.requires.ready.bounds,
)

pub returns-then-not-branch-clause-none : goal.returns-then-not-branch-clause-none
returns-then-not-branch-clause-none c =
    let d = c.args.graph.now in
    let library = c.args.library.now in
    let search = c.args.self.now in
    let ready = c.requires.ready in
    let same = c.coded-coded.ensures.same in
    let given = c.classes-classes.ensures ∙ c.partition.ensures in
    let bounds = subst (λ e. AreBounds e library search.bounds) (sym same) ready.bounds in
    let lent = c.in_ok-may_weigh_below.ensures c.if-not-branch.true library bounds in
    let heavy = subst (λ xs. WeighsAtLeast d library xs search.bar) given
    (subst (λ e. WeighsAtLeast e library c.classes-classes.result.now search.bar) same lent) in
    heavy_leaves_none d library c.args.accepted.now search.name search.bar ready.coded c.requires.accepted ready.new
    heavy
