use Rattle.std.proofs.Common.{◌≡◌, ◌-◌, ◌/◌, ◌^◌, ◌++◌, ◌∙◌, [], List, ℕ, length, sym, ap, ap₂, arith}
use Rattle.std.proofs.lemmas.Option.{get_or_from_slice_get}
use Rattle.std.specs.List.{slice_index_or}
use Rattle.si_circuit.specs.Spelling.{mark}
use Rattle.si_circuit.proofs.SpellingWord.{few_insertions}
use Rattle.si_insert.specs.Lineage.{origin}
use Rattle.si_insert.specs.declared.lineage.TraceStep.{TraceStep}
use Rattle.si_joins.specs.Lifted.{PartView}
use Rattle.si_joins.proofs.ViewLemmas.{word_is}
use Rattle.si_joins.proofs.view.PartView.own_word.Goals as goal

pub add_mark-requires : goal.add_mark-requires
add_mark-requires c =
    let few = few_insertions c.args.lineage.now c.trace-inserted.ensures.made in
    let same = ap (length {A = TraceStep}) c.trace-inserted.ensures.same in
    let before = ap (λ (v : PartView). v.before) c.self.view_is in
    omega (arith, few, same, before, c.requires.before)

pub returns : goal.returns
returns c =
    let view = c.args.self.now in
    let l = c.args.lineage.now in
    let names = ap (λ (v : PartView). v.names) c.self.view_is in
    let before = ap (λ (v : PartView). v.before) c.self.view_is in
    let own : ℕ = length c.trace-inserted.result.now - c.self.inside.before in
    let at : c.origin.inside.0 ≡ origin l.current c.args.s = omega arith in
    let name = sym (get_or_from_slice_get c.self.inside.names c.origin.inside.0 c.get.result.now [] c.get.ensures)
    ∙ ap₂ (λ (ns : List (List ℕ)) (o : ℕ). slice_index_or ns o []) names at in
    let own_is = ap (λ (n : ℕ). n - c.self.inside.before) (ap (length {A = TraceStep}) c.trace-inserted.ensures.same)
    ∙ ap (λ (b : ℕ). length l.trace - b) before in
    let made = c.in_ok-add_mark.ensures
    ∙ ap (λ (w : List ℕ). w ++ mark own (c.bits.result / 2 ^ c.self.inside.before)) c.in_ok-word.ensures
    ∙ ap (λ (b : ℕ). c.get.result.now ++ mark own (c.bits.result / 2 ^ b)) before in
    word_is view l c.args.s c.bits.result own c.get.result.now c.add_mark.new.word name own_is c.bits.ensures made
