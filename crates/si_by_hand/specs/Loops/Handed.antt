-- What the code hands out of the readings of a gate.
use Rattle.si_netlist.specs.Loops.Parts.{gate_seen}
use Rattle.si_sg.specs.GivenGraph.{sg_now}
use Rattle.si_by_hand.specs.GateText.{NewGate}
use Rattle.si_by_hand.specs.HandReadings.{HandReadings}
use Rattle.si_by_hand.specs.declared.gate_text.NewGate.{NewGate as NewGateRead}
use Rattle.si_by_hand.specs.declared.readings.HandReadings.{HandReadings as HandRead}

abbrev pub new_gate_now : NewGateRead → NewGate
new_gate_now made = record { name = made.name; gate = gate_seen made.gate }

abbrev pub hand_readings_now : HandRead → HandReadings
hand_readings_now r = record { given = sg_now r.given; made = new_gate_now r.made }
