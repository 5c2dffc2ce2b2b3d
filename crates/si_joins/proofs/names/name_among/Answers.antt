use Rattle.std.proofs.Common.{◌≡◌, ◌∙◌, List, ℕ, IsTrue, ap, ap₂, length, subst, sym, inl, inr, arith}
use Rattle.std.proofs.lemmas.Result.{IfOk-weaker}
use Rattle.si_base.specs.declared.graph.Signal.{Signal}
use Rattle.si_base.specs.Words.{is_signal_name}
use Rattle.si_insert.specs.Fresh.{IsFresh}
use Rattle.si_joins.specs.Gates.{place_of}
use Rattle.si_joins.specs.Lifted.{IsNamedAmong, letters}
use Rattle.si_joins.proofs.NameLemmas.{found_named, letters_named, none_named, place_within}
use Rattle.si_joins.proofs.names.name_among.Goals as goal

-- ---- over what the calls give
placed : (seen signals : List Signal) (bytes own : List ℕ) → seen ≡ signals → bytes ≡ own
    → place_of seen bytes ≡ place_of signals own
placed seen signals bytes own same is = ap₂ place_of same is

pub returns-then-place_of-signals-clause-named : goal.returns-then-place_of-signals-clause-named
returns-then-place_of-signals-clause-named c =
    let signals = c.args.graph.now.signals in
    let own = c.args.own.now in
    let at = placed c.signals-signals.result.now signals c.bytes.result.now own c.signals-signals.ensures
    c.bytes.ensures in
    let many = ap (length {A = Signal}) c.signals-signals.ensures in
    let all : place_of signals own ≡ length signals =
    sym at ∙ sym c.place_of.ensures ∙ c.if-place_of-signals.true ∙ many in
    IfOk-weaker c.copy_of.result (λ (name : List ℕ). name ≡ c.bytes-then-place_of-signals.result.now)
    (IsNamedAmong signals own)
    (λ name is. inl (none_named signals own all, is ∙ c.bytes-then-place_of-signals.ensures)) c.copy_of.ensures

pub returns-else-place_of-signals-clause-named : goal.returns-else-place_of-signals-clause-named
returns-else-place_of-signals-clause-named c =
    let signals = c.args.graph.now.signals in
    let own = c.args.own.now in
    let at = placed c.signals-signals.result.now signals c.bytes.result.now own c.signals-signals.ensures
    c.bytes.ensures in
    let many = ap (length {A = Signal}) c.signals-signals.ensures in
    let most = place_within signals own in
    let other : place_of signals own ≡ length signals → ⊥ =
    λ all. c.if-place_of-signals.false (c.place_of.ensures ∙ at ∙ all ∙ sym many) in
    let taken = found_named signals own (omega (arith, most, other)) in
    let stem = c.letters.ensures ∙ ap letters c.bytes-else-place_of-signals.ensures in
    IfOk-weaker c.fresh_name.result (IsFresh signals c.letters.result.now) (IsNamedAmong signals own)
    (λ name fresh. inr (taken, subst (λ (w : List ℕ). IsFresh signals w name) stem fresh)) c.fresh_name.ensures.fresh

pub returns-else-place_of-signals-clause-signal_name : goal.returns-else-place_of-signals-clause-signal_name
returns-else-place_of-signals-clause-signal_name c =
    let own = c.args.own.now in
    let stem = c.letters.ensures ∙ ap letters c.bytes-else-place_of-signals.ensures in
    IfOk-weaker c.fresh_name.result
    (λ (name : List ℕ). IsTrue (is_signal_name c.letters.result.now) → IsTrue (is_signal_name name))
    (λ (name : List ℕ). IsTrue (is_signal_name own) → IsTrue (is_signal_name name))
    (λ name makes is. makes (subst (λ (w : List ℕ). IsTrue (is_signal_name w)) (sym stem) (letters_named own is)))
    c.fresh_name.ensures.signal_name
