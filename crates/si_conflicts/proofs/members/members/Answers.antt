use Rattle.std.proofs.Common.{◌<◌, subst, map}
use Rattle.std.proofs.lemmas.List.Sorted.{IsPermutation-map, All-permutation}
use Rattle.std.specs.List.Sorted.{IsPermutation}
use Rattle.si_conflicts.specs.declared.members.Member.{Member}
use Rattle.si_conflicts.specs.Loops.Keys.{IsKey}
use Rattle.si_conflicts.proofs.members.members.Goals as goal

pub returns : goal.returns
returns c =
    let d = c.args.coded.now in
    let old = c.in_ok-members.members.items in
    let new = c.sort_unstable.new.self.items in
    record {
      states = subst (λ xs. IsPermutation xs (map (λ (m : Member). m.state) new)) c.in_ok-members.ensures.states
          (IsPermutation-map (λ (m : Member). m.state) old new c.sort_unstable.ensures.permutation);
      within = All-permutation (λ m. m.state < d.graph.states) old new c.sort_unstable.ensures.permutation
          c.in_ok-members.ensures.within;
      keys = All-permutation (λ m. IsKey d m.state m.key) old new c.sort_unstable.ensures.permutation
          c.in_ok-members.ensures.keys;
      sorted = c.sort_unstable.ensures.sorted;
    }
