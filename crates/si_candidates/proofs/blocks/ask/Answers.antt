use Rattle.std.proofs.Common.{ℕ, ◌<◌, ◌++◌, ◌∙◌, All, List, length, take, drop, ap, ap₂, sym, subst, arith}
use Rattle.std.proofs.lemmas.List.Elements.{All-append}
use Rattle.si_base.specs.declared.ids.Event.{Event}
use Rattle.si_candidates.specs.Loops.Asked.{asked_for, asks_from, AreReady}
use Rattle.si_candidates.specs.Blocks.{state_set}
use Rattle.si_candidates.proofs.AddingLemmas.{all_taken, all_dropped}
use Rattle.si_candidates.proofs.AskLemmas.{next_wait}
use Rattle.si_candidates.proofs.blocks.ask.Goals as goal

pub loop-at-preserved : goal.loop-at-preserved
loop-at-preserved c =
    let g = c.args.graph.now.graph in
    let from = c.args.from.now in
    let stops = c.args.stops.now in
    let at = c.loop-at.at in
    let count = c.min-count.result in
    let signals = length g.signals in
    let seeds = c.add.new.self.seeds.items in
    let before = c.make_room.new.asked in
    let room = c.in_ok-make_room.ensures in
    let next = c.split_at-in-loop-at.ensures.front ∙ ap (take count) c.split_at.ensures.back in
    let known = subst (λ es. All (λ (e : Event). e.sig < signals) es) (sym next)
    (all_taken count signals (drop at stops) (all_dropped at signals stops c.requires.stops)) in
    record {
      within = omega (arith, c.min-count.ensures, c.split_at.ensures.back_len, c.loop-at.invariant.within);
      ready = subst (λ n. AreReady n seeds c.add.new.self.stops.items) room.ready.size c.in_ok-add.ensures.ready;
      known = subst (λ es. All (λ (e : Event). e.sig < signals) es) (sym c.in_ok-add.ensures.stops)
          (All-append (λ (e : Event). e.sig < signals) before.stops.items _ room.within known);
      adds = next_wait g (state_set g.states from) stops at count _ _ _ _ _ _ c.loop-at.invariant.adds room.adds _
          (c.in_ok-add.ensures.asks ∙ ap₂ (λ (n : ℕ) (es : List Event).
          asked_for before.seeds.items before.stops.items ++ asks_from (state_set n from) es) room.ready.size next);
    }
