use Rattle.std.proofs.Common.{◌≡◌, ◌+◌, ◌-◌, ◌<◌, ◌∙◌, drop, length, sym, subst, arith}
use Rattle.std.proofs.lemmas.List.Elements.{All-drop, All-take}
use Rattle.si_checks.specs.Loops.Lent.{coded_of}
use Rattle.si_map.specs.Loops.Progress.{AreUpToDate, IsSearching}
use Rattle.si_map.proofs.SearchSignals.{unfit_by, next_divisor, end_signal, pass_fitted, pass_zero}
use Rattle.si_map.proofs.BestDivisors.{all_instances}
use Rattle.si_map.proofs.DivisorFunctions.{HasSignals}
use Rattle.si_map.proofs.search.Search.try_signal.Goals as goal

pub returns-then-self-eq0-clause-after : goal.returns-then-self-eq0-clause-after
returns-then-self-eq0-clause-after c =
    pass_zero (coded_of c.args.graph) c.args.library.now c.args.z c.args.self.now c.if-self-eq0.true c.requires.before

pub returns-then-get-clause-after : goal.returns-then-get-clause-after
returns-then-get-clause-after c =
    let fits = sym (c.requires.before.ready.fitted c.args.z c.requires.driven)
    ∙ sym c.get.ensures ∙ c.if-get.true in
    pass_fitted (coded_of c.args.graph) c.args.library.now c.args.z c.args.self.now fits c.requires.before

pub functions_of-requires : goal.functions_of-requires
functions_of-requires c =
    let are = rw c.library-cells.ensures at c.in_ok-divisors.ensures in
    rw (c.library-cells.ensures, c.deref.ensures.value) (all_instances (coded_of c.args.graph) c.args.library.now
    c.args.z c.in_ok-divisors.divisors.items c.requires.before.ready.coded are)

pub loop-k-preserved : goal.loop-k-preserved
loop-k-preserved c =
    let d = coded_of c.args.graph in
    let library = c.args.library.now in
    let within : c.loop-k.k < length c.in_ok-coming.coming.items =
    omega (arith, c.loop-k-test.true, c.len-k-end.ensures) in
    let are = rw c.library-cells.ensures at c.in_ok-divisors.ensures in
    let made = rw (c.library-cells.ensures, c.deref.ensures.value) at c.in_ok-coming.ensures in
    let unfit = unfit_by d library c.args.z c.requires.driven
    (sym (c.requires.before.ready.fitted c.args.z c.requires.driven) ∙ sym c.get.ensures ∙ c.if-get.false) in
    record {
      searching = next_divisor d library c.proper.result.now c.args.z c.loop-k.k c.in_ok-divisors.divisors.items
          c.index.result.now c.in_ok-coming.coming.items c.loop-k.self c.try_once.new.self c.proper.ensures.same
          unfit are made within c.index.ensures c.in_ok-try_once.ensures.tried c.loop-k.invariant.searching;
      known = subst (λ e. AreUpToDate e library c.try_once.new.self.bar c.try_once.new.functions)
          c.proper.ensures.same c.in_ok-try_once.ensures.known;
    }

pub returns-clause-after : goal.returns-clause-after
returns-clause-after c =
    let d = coded_of c.args.graph in
    let library = c.args.library.now in
    let divisors = c.in_ok-divisors.divisors.items in
    let are = rw c.library-cells.ensures at c.in_ok-divisors.ensures in
    let made = rw (c.library-cells.ensures, c.deref.ensures.value) at c.in_ok-coming.ensures in
    let all : c.loop-k.k ≡ length divisors =
    omega (arith, c.loop-k-test.false, c.loop-k.auto.k-end, c.len-k-end.ensures, made.size) in
    end_signal d library c.args.z divisors c.loop-k.self are
    (subst (λ k. IsSearching d library c.args.z k c.loop-k.self) all c.loop-k.invariant.searching)

pub try_once-requires-clause-known : goal.try_once-requires-clause-known
try_once-requires-clause-known c =
    subst (λ e. AreUpToDate e c.args.library.now c.loop-k.self.bar c.loop-k.functions) (sym c.proper.ensures.same)
    c.loop-k.invariant.known

pub try_once-requires-clause-within : goal.try_once-requires-clause-within
try_once-requires-clause-within c =
    let within : c.loop-k.k < length c.in_ok-coming.coming.items =
    omega (arith, c.loop-k-test.true, c.len-k-end.ensures) in
    subst HasSignals (sym c.index.ensures) (c.in_ok-coming.ensures.within c.loop-k.k c.index.result.now within)

pub try_once-requires-clause-others : goal.try_once-requires-clause-others
try_once-requires-clause-others c =
    let next = c.loop-k.k + 1 in
    let coming = c.in_ok-coming.coming.items in
    rw c.deref-in-loop-k.ensures.value (All-take HasSignals (length coming - next) (drop next coming)
    (All-drop HasSignals next coming c.in_ok-coming.ensures.within))
