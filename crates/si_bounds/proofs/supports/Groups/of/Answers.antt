use Rattle.std.proofs.Common.{◌≡◌, List, rules, subst, sym, true, false, ℕ, nat_cmp}
use Rattle.std.specs.List.Sorted.{IsBinarySearchResult}
use Rattle.std.specs.Result.{is_ok}
use Rattle.si_match.specs.Loops.Codes.{AreCodes}
use Rattle.si_bounds.proofs.SupportsLemmas.{all_found, key_found, key_passed}
use Rattle.si_bounds.proofs.supports.Groups.of.Goals as goal

pub loop-key-preserved-then-is_err : goal.loop-key-preserved-then-is_err
loop-key-preserved-then-is_err c =
    let missed : is_ok c.binary_search.result ≡ false = search rules in
    let on = subst (AreCodes c.args.coded.now c.args.z true c.args.signals) (sym c.deref-key-items.ensures.value)
    c.in_ok-on.ensures.same in
    let Tells : List ℕ → Type 0 = λ xs.
    IsBinarySearchResult (λ y. nat_cmp y c.key-item.result) xs c.binary_search.result in
    key_passed c.args.coded.now c.args.z c.args.signals c.requires.coded c.deref-key-items.result.now
    c.in_ok-off.off.items on c.in_ok-off.ensures.same c.in_ok-off.ensures.in_order c.loop-key.key-index
    c.key-item.result c.loop-key.list.items c.loop-key.invariant c.loop-key-test.true c.key-item.is
    c.binary_search.result (subst Tells c.deref.ensures.value c.binary_search.ensures.position) missed

pub loop-key-preserved : goal.loop-key-preserved
loop-key-preserved c =
    let found : is_ok c.binary_search.result ≡ true = search rules in
    let on = subst (AreCodes c.args.coded.now c.args.z true c.args.signals) (sym c.deref-key-items.ensures.value)
    c.in_ok-on.ensures.same in
    let Tells : List ℕ → Type 0 = λ xs.
    IsBinarySearchResult (λ y. nat_cmp y c.key-item.result) xs c.binary_search.result in
    key_found c.args.coded.now c.args.z c.args.signals c.requires.coded c.deref-key-items.result.now
    c.in_ok-off.off.items on c.in_ok-off.ensures.same c.in_ok-off.ensures.in_order c.loop-key.key-index
    c.key-item.result c.loop-key.list.items c.loop-key.invariant c.loop-key-test.true c.key-item.is
    c.binary_search.result (subst Tells c.deref.ensures.value c.binary_search.ensures.position) found
    c.in_ok-of.field-0 c.in_ok-of.ensures.ones c.in_ok-of.ensures.zeros c.push.new.self.items
    c.in_ok-push.ensures.items

pub returns : goal.returns
returns c =
    let on = subst (AreCodes c.args.coded.now c.args.z true c.args.signals) (sym c.deref-key-items.ensures.value)
    c.in_ok-on.ensures.same in
    all_found c.args.coded.now c.args.z c.args.signals c.requires.coded c.deref-key-items.result.now
    c.in_ok-off.off.items on c.in_ok-off.ensures.same c.in_ok-off.ensures.in_order c.loop-key.key-index
    (record { list = c.loop-key.list }) c.loop-key.invariant c.loop-key-test.false
