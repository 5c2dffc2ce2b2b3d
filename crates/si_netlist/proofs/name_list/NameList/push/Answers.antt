use Rattle.std.proofs.Common.{◌≡◌, ◌++◌, ◌∷◌, [], true, not, ap, ◌∙◌, length, List, ℕ}
use Rattle.std.specs.Result.{is_ok}
use Rattle.si_netlist.proofs.PieceLemmas.{pieces_push, ends_push}
use Rattle.si_netlist.proofs.name_list.NameList.push.Goals as goal

pub invariant_of-self-else-is_err : goal.invariant_of-self-else-is_err
invariant_of-self-else-is_err c =
    let ok : is_ok c.push.result ≡ true = c.is_err.ensures.negation ∙ ap not c.if-is_err.false in
    let end : c.len.result ≡ length c.extend_from_slice.new.self.items =
    c.len.ensures ∙ c.extend_from_slice.new.self.ok.0 in
    ends_push _ _ c.args.name.now _ _ _ c.self.invariant c.in_ok-extend_from_slice.ensures.items
    (rw ok at c.push.ensures.items) end

pub returns-clause-added : goal.returns-clause-added
returns-clause-added c =
    let ok : is_ok c.push.result ≡ true = c.is_err.ensures.negation ∙ ap not c.if-is_err.false in
    let end : c.len.result ≡ length c.extend_from_slice.new.self.items =
    c.len.ensures ∙ c.extend_from_slice.new.self.ok.0 in
    pieces_push _ _ c.args.name.now _ _ _ c.self.invariant c.in_ok-extend_from_slice.ensures.items
    (rw ok at c.push.ensures.items) end
    ∙ ap (λ (names : List (List ℕ)). names ++ c.args.name.now ∷ []) c.self.view_is
