use Rattle.std.proofs.Common.{◌≡◌, ◌+◌, ℕ, List, [], None, rules, sym, ap, subst, ◌∙◌}
use Rattle.si_base.specs.Faults.{first_after}
use Rattle.si_tokens.specs.Loops.Parts.{left, piece}
use Rattle.si_tokens.specs.Unread.{tokens}
use Rattle.si_tokens.proofs.SourceLemmas.{token_smaller}
use Rattle.si_equations.specs.Equations.{list_fault}
use Rattle.si_equations.proofs.ListLemmas.{good_push, room_in_list}
use Rattle.si_equations_reader.proofs.ListLemmas.{count_more, count_same}
use Rattle.si_equations_reader.proofs.lists.read_names.Goals.{then-not-has, else-not-has}
use Rattle.si_equations_reader.proofs.lists.read_names.Goals as goal

pub loop-token-smaller : goal.loop-token-smaller
loop-token-smaller c = token_smaller (left c.loop-token.source) (piece c.in-Some.token (left c.next_token.new.self))
    (tokens (left c.next_token.new.self)) c.in-Some.ensures

pub push-requires-clause-room : goal.push-requires-clause-room
push-requires-clause-room c =
    let fine : c.name_kind.result ≡ None = search rules in
    room_in_list c.args.others.now c.loop-token.names c.bare-name.result.now c.requires c.loop-token.invariant.good
    (sym c.name_kind.ensures ∙ fine)

pub loop-token-preserved : goal.loop-token-preserved
loop-token-preserved c =
    let fine : c.name_kind.result ≡ None = search rules in
    let none = sym c.name_kind.ensures ∙ fine in
    record {
      names = search rules;
      good = subst (λ (l : List (List ℕ)). first_after (list_fault c.args.others.now) [] l ≡ None)
          (sym c.in_ok-push.ensures)
          (good_push (list_fault c.args.others.now) [] c.loop-token.names c.bare-name.result.now
          c.loop-token.invariant.good none);
      count = elim c.if-not-has.branch [
        | then-not-has w ↦ w.count-is ∙ ap (λ (k : ℕ). k + 1) c.loop-token.invariant.count
            ∙ count_more c.args.others.now c.loop-token.names c.push.new.names c.bare-name.result.now
            c.in_ok-push.ensures (sym c.has.ensures ∙ w.if-not-has.true)
        | else-not-has w ↦ w.count-is ∙ c.loop-token.invariant.count
            ∙ count_same c.args.others.now c.loop-token.names c.push.new.names c.bare-name.result.now
            c.in_ok-push.ensures (sym c.has.ensures ∙ w.if-not-has.false)
      ];
    }
