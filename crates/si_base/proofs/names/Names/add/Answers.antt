use Rattle.std.proofs.Common.{◌≡◌, [], ◌∷◌, ◌++◌, vec_items, map, sym, rules, Contains}
use Rattle.si_base.proofs.NameLemmas.{grows, last_place, shown_distinct}
use Rattle.si_base.proofs.names.Names.add.Goals as goal

after : (c : goal.In_ok-insert) → ¬ Contains c.args.self.now c.args.name.now
    → map vec_items c.insert.new.self.keys ≡ c.args.self.now ++ c.args.name.now ∷ []
after c absent = rw (← c.self.view_is)
    (grows vec_items _ _ c.in_ok-owned.owned c.args.name.now c.in_ok-owned.ensures.items (rw c.self.view_is absent)
    c.in_ok-insert.ensures.keys)

pub returns-clause-placed : goal.returns-clause-placed
returns-clause-placed c = let absent : ¬ Contains c.args.self.now c.args.name.now = search rules in
    rw (after c absent) (last_place _ _ _ (sym c.len-k.ensures.len))

pub returns-clause-new : goal.returns-clause-new
returns-clause-new c = after c

pub returns-clause-distinct : goal.returns-clause-distinct
returns-clause-distinct c = shown_distinct vec_items _ c.insert.ensures.unique
