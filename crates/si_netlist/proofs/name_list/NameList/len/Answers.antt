use Rattle.std.proofs.Common.{sym, ap, ◌∙◌, length, List, ℕ}
use Rattle.si_netlist.proofs.PieceLemmas.{piece_count}
use Rattle.si_netlist.proofs.name_list.NameList.len.Goals as goal

pub returns : goal.returns
returns c =
    c.len.ensures ∙ c.self.inside.ends.ok.0 ∙ sym (piece_count c.self.inside.bytes.items c.self.inside.ends.items)
    ∙ ap (length {A = List ℕ}) c.self.view_is
