use Rattle.std.proofs.Common.{◌≡◌, ◌∙◌, ◌∷◌, Bool, false, true, if◌then◌else◌, arith, rules, sym, ap, ap₂}
use Rattle.si_base.specs.Bits.{bit}
use Rattle.si_base.specs.Codes.{next_value}
use Rattle.si_match.specs.Loops.Apart.{AllAlike, AllAlikeTo}
use Rattle.si_match.specs.Loops.Places.{placed_code}
use Rattle.si_match.proofs.ApartLemmas.{if_none_never}
use Rattle.si_match.proofs.ApartPlaces.{place_of, all_alike, all_seen_next, by_place_next, none_of_none, not_alike}
use Rattle.si_match.proofs.apart.first_apart.Goals as goal

pub loop-s-init : goal.loop-s-init
loop-s-init c = record {
  within = c.requires.witnesses;
  seen = none_of_none c.args.coded.now c.args.z c.args.chosen.now c.none-seen.result c.none-seen.ensures.0
      c.none-seen.ensures.1;
  all = λ s below. absurd (omega (arith, below));
  alike = λ s t below within same. absurd (omega (arith, below));
}

pub loop-s-preserved : goal.loop-s-preserved
loop-s-preserved c =
    let coded = c.args.coded.now in
    let z = c.args.z in
    let chosen = c.args.chosen.now in
    let s = c.loop-s.s in
    let seen = c.loop-s.seen in
    let at : c.placed_code-values.result ≡ place_of coded z chosen s =
    c.placed_code-values.ensures.value ∙ ap (placed_code (z ∷ chosen)) c.code.ensures in
    let others : c.opposite-others.result ≡ (if next_value coded s z then seen.off else seen.on) =
    c.opposite-others.ensures ∙ ap (λ (v : Bool). if v then seen.off else seen.on) c.next_value.ensures in
    let clear : bit (if next_value coded s z then seen.off else seen.on) (place_of coded z chosen s) ≡ false =
    sym (ap₂ bit others at) ∙ sym c.table_value.ensures ∙ c.if-table_value.false in
    record {
      within = c.loop-s.invariant.within;
      seen = c.with_state-seen.ensures.seen;
      all = all_seen_next coded z chosen s seen c.with_state-seen.result c.loop-s.invariant.all
          c.with_state-seen.ensures.there c.with_state-seen.ensures.kept;
      alike = by_place_next coded z chosen s seen c.loop-s.invariant.all clear c.loop-s.invariant.alike;
    }

pub returns-then-table_value-clause-none : goal.returns-then-table_value-clause-none
returns-then-table_value-clause-none c =
    let coded = c.args.coded.now in
    let z = c.args.z in
    let chosen = c.args.chosen.now in
    let s = c.loop-s.s in
    let seen = c.loop-s.seen in
    let at : c.placed_code-values.result ≡ place_of coded z chosen s =
    c.placed_code-values.ensures.value ∙ ap (placed_code (z ∷ chosen)) c.code.ensures in
    let others : c.opposite-others.result ≡ (if next_value coded s z then seen.off else seen.on) =
    c.opposite-others.ensures ∙ ap (λ (v : Bool). if v then seen.off else seen.on) c.next_value.ensures in
    let there : bit (if next_value coded s z then seen.off else seen.on) (place_of coded z chosen s) ≡ true =
    sym (ap₂ bit others at) ∙ sym c.table_value.ensures ∙ c.if-table_value.true in
    if_none_never (AllAlikeTo coded z c.args.read s) (AllAlike coded z c.args.read) c.apart_from.result
    c.apart_from.ensures.none
    (not_alike coded z chosen c.args.read c.requires.read s seen c.loop-s.invariant.seen there)

pub returns-clause-none : goal.returns-clause-none
returns-clause-none c =
    let coded = c.args.coded.now in
    let count : c.states-s-end.result ≡ coded.graph.states = search rules in
    all_alike coded c.args.z c.args.chosen.now c.args.read c.requires.read
    (λ s t s_in t_in same. c.loop-s.invariant.alike s t (omega (arith, s_in, count, c.loop-s-test.false))
    (omega (arith, t_in, count, c.loop-s-test.false)) same)
