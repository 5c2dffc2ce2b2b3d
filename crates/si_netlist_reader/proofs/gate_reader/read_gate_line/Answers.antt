use Rattle.std.proofs.Common.{◌∙◌, sym, ap}
use Rattle.std.proofs.lemmas.Bool.{not-false}
use Rattle.si_netlist.specs.Loops.Parts.{gate_seen}
use Rattle.si_tokens.specs.LineParts.{made}
use Rattle.si_words.proofs.SumWordLemmas.{tail_is}
use Rattle.si_netlist_reader.proofs.GateLineLemmas.{read_line, no_gate}
use Rattle.si_netlist_reader.proofs.gate_reader.read_gate_line.Goals as goal

pub returns-in-Some : goal.returns-in-Some
returns-in-Some c = read_line c.args.signals.now c.args.name.now c.args.words.now _ _ c.in-Some.gate
    c.in-len1-up.len_at_least (tail_is c.args.words.now) (not-false _ (sym c.ne.ensures ∙ c.if-ne.false))
    (ap (made gate_seen) (sym c.in-Some.is) ∙ c.in_ok-gate.ensures)

pub returns-in-None : goal.returns-in-None
returns-in-None c = no_gate c.args.signals.now c.args.name.now c.args.words.now _ _ c.in-len1-up.len_at_least
    (tail_is c.args.words.now) (not-false _ (sym c.ne.ensures ∙ c.if-ne.false))
    (ap (made gate_seen) (sym c.in-None.is) ∙ c.in_ok-gate.ensures)
