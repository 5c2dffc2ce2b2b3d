use Rattle.std.proofs.Common.{◌∙◌, sym, subst}
use Rattle.si_map.specs.Loops.Progress.{AreSpent}
use Rattle.si_map.proofs.SearchLemmas.{more_spent, spent_tried, zero_tried}
use Rattle.si_map.proofs.search.Search.try_once.Goals as goal

pub returns-then-self-eq0-clause-tried : goal.returns-then-self-eq0-clause-tried
returns-then-self-eq0-clause-tried c i is =
    zero_tried c.args.graph.now c.args.library.now i c.args.self.now c.if-self-eq0.true

pub returns-then-contains-clause-tried : goal.returns-then-contains-clause-tried
returns-then-contains-clause-tried c i is =
    let spent = c.requires.known.spent c.args.function.now i (sym c.contains.ensures ∙ c.if-contains.true) is in
    spent_tried c.args.graph.now c.args.library.now i c.args.self.now spent

pub returns-clause-known : goal.returns-clause-known
returns-clause-known c =
    let before = subst (λ fs. AreSpent c.args.graph.now c.args.library.now c.args.self.now.bar fs)
    (sym c.in_ok-try_function.ensures.same) c.requires.known.spent in
    record {
      spent = more_spent c.args.graph.now c.args.library.now c.args.self.now.bar c.try_function.new.self.bar
          c.args.function.now c.try_function.new.functions.tried c.insert.new.self
          c.in_ok-try_function.ensures.lower before c.in_ok-try_function.ensures.spent
          (rw c.copy_of.ensures at c.in_ok-insert.ensures.updates);
      sets = c.in_ok-try_function.ensures.sets;
    }
