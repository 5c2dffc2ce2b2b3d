use Rattle.std.proofs.Common.{◌≡◌, ℕ, suc, ◌-◌, ◌++◌, [], ◌∷◌, List, ap, ◌∙◌, arith, refl, subst, sym}
use Rattle.si_match.specs.Loops.Columns.{AreColumns}
use Rattle.si_match.specs.Functions.{places}
use Rattle.si_match.proofs.ColumnLemmas.{few_columns}
use Rattle.si_match.proofs.FunctionLemmas.{all_before, next_tables}
use Rattle.si_match.proofs.SearchLemmas.{counted, all_counted}
use Rattle.si_match.proofs.functions.+add_tables.Goals as goal

pub with_literal-chosen-requires-clause-few : goal.with_literal-chosen-requires-clause-few
with_literal-chosen-requires-clause-few t c = rw c.requires.count (few_columns c.args.more c.requires.few)

pub loop-place-preserved : goal.loop-place-preserved
loop-place-preserved t c cell literals are =
    let l = c.literal_at.result in
    let place = c.loop-place.place in
    let within = counted c.args.allowed places places c.literal_count-place-end.result place refl c.literal_count-place-end.ensures
    c.loop-place-test.true in
    let chosen = subst (AreColumns cell (literals ++ l ∷ [])) (sym c.as_slice.ensures.value)
    (c.with_literal-chosen.ensures.columns cell literals are) in
    let added = c.in_ok-add_tables.ensures cell (literals ++ l ∷ []) chosen in
    let next = next_tables c.args.allowed cell literals (c.args.more - 1) place l within c.literal_at.ensures.literal
    c.args.tables.now.items c.loop-place.tables.items (c.loop-place.invariant cell literals are) in
    ◌∙◌ {A = List ℕ} added next

pub returns : goal.returns
returns t c cell literals are =
    let one_less : c.args.more ≡ suc (c.args.more - 1) = omega (arith, c.if-more-eq0.false) in
    let past = all_counted c.args.allowed places places c.literal_count-place-end.result c.loop-place.place refl
    c.literal_count-place-end.ensures c.loop-place-test.false in
    c.loop-place.invariant cell literals are ∙ ap (λ (ts : List ℕ). c.args.tables.now.items ++ ts)
    (all_before c.args.allowed cell literals c.args.more (c.args.more - 1) c.loop-place.place one_less past)
