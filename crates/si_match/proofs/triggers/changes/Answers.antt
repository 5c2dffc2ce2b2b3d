use Rattle.std.proofs.Common.{◌≡◌, ◌∙◌, not, sym, ap, eq-eqb, ne_eqb}
use Rattle.std.proofs.lemmas.Bool.{true≢false}
use Rattle.si_match.specs.Support.{agree}
use Rattle.si_match.proofs.TriggerLemmas.{next_changes, next_stays}
use Rattle.si_match.proofs.triggers.changes.Goals as goal

pub returns-then-ne : goal.returns-then-ne
returns-then-ne c =
    let a = c.args.a.now in
    let z = c.args.z in
    let only = c.args.only in
    let tested : c.ne.result ≡ not (agree only c.next.result c.next-2.result) =
    rw (c.cut.ensures, c.cut-2.ensures) at c.ne.ensures in (
      λ on. (
        λ same. true≢false (sym on ∙ c.ne-then-ne.ensures ∙ ap not (eq-eqb a.event.sig z same)),
        next_changes c.args.coded.now z a.from a.to only c.next-2.result c.next.result c.ne.result
            c.requires.signal c.requires.only c.next-2.ensures c.next.ensures tested c.if-ne.true,
      ),
      λ changes. c.ne-then-ne.ensures ∙ ap not (ne_eqb a.event.sig z changes.0),
    )

pub returns-else-ne : goal.returns-else-ne
returns-else-ne c =
    let a = c.args.a.now in
    let tested : c.ne.result ≡ not (agree c.args.only c.next.result c.next-2.result) =
    rw (c.cut.ensures, c.cut-2.ensures) at c.ne.ensures in
    let stays = next_stays c.args.coded.now c.args.z a.from a.to c.args.only c.next-2.result c.next.result
    c.ne.result c.requires.signal c.requires.only c.next-2.ensures c.next.ensures tested c.if-ne.false in
    (λ on. absurd (true≢false (sym on ∙ c.if-ne.false)), λ changes. absurd (changes.1 stays))
