-- Codes, names, lines, and a whole dump: the definitions at work.
use Rattle.std.proofs.Common.{◌≡◌, ℕ, true, false, List, [], ◌∷◌, ◌++◌, refl, ap₂, codes, arith}
use Rattle.std.proofs.lemmas.Fmt.{decimal_digit}
use Rattle.si_base.specs.declared.graph.SigKind.TheVariants.{Input, Output}
use Rattle.si_base.specs.declared.ids.Event.{Event}
use Rattle.si_base.specs.Netlist.{Netlist}
use Rattle.si_base.specs.Words.{line}
use Rattle.si_wave.specs.Dump.{change_line, wire_line}
use Rattle.si_wave.specs.Reading.{shown_value}
use Rattle.si_wave.specs.Wave.{change_of, scope_name, wave_of, wave_text, wire_code}

-- ---- codes and names
first_code : wire_code 0 ≡ codes "!"
first_code = refl

last_short_code : wire_code 93 ≡ codes "~"
last_short_code = refl

first_long_code : wire_code 94 ≡ codes "!!"
first_long_code = refl

last_code : wire_code 127 ≡ codes "!B"
last_code = refl

plain_scope : scope_name (codes "c2") ≡ codes "c2"
plain_scope = refl

escaped_scope : scope_name (codes "$end") ≡ codes "\\$end"
escaped_scope = refl

-- ---- lines
declared : line (wire_line (record { code = wire_code 1; name = codes "b" })) ≡ codes "$var wire 1 \" b $end\n"
declared = refl

risen : line (change_line (change_of 1 true)) ≡ codes "1\"\n"
risen = refl

-- ---- a buffer from `a` to `z`, of which `a` rises
abbrev buffer : Netlist
buffer = record {
  model = codes "m";
  signals = record { name = codes "a"; kind = Input } ∷ record { name = codes "z"; kind = Output } ∷ [];
  start = 0;
  inserts = [];
  gates = [];
}

abbrev rise : List Event
rise = record { sig = 0; up = true } ∷ []

low_at_start : shown_value (wave_of buffer rise) 0 (codes "!") ≡ false
low_at_start = refl

high_after : shown_value (wave_of buffer rise) 1 (codes "!") ≡ true
high_after = refl

other_stays : shown_value (wave_of buffer rise) 1 (codes "\"") ≡ false
other_stays = refl

-- with no event there are the start values, and time 1
abbrev front : List ℕ
front = codes "$timescale 1 ns $end\n$scope module m $end\n$var wire 1 ! a $end\n$var wire 1 \" z $end\n"
    ++ codes "$upscope $end\n$enddefinitions $end\n#"

whole : wave_text buffer [] ≡ front ++ codes "0\n$dumpvars\n0!\n0\"\n$end\n#1\n"
unfolding wave_text
whole =
    ap₂ (λ (zero one : List ℕ). front ++ ((zero ++ codes "\n") ++ (codes "$dumpvars\n0!\n0\"\n$end\n#"
    ++ ((one ++ codes "\n") ++ []))))
    (decimal_digit 0 (omega arith)) (decimal_digit 1 (omega arith))
