-- The lines of a dump in three parts: up to its wires, up to its values at time 0, and the rest.
use Rattle.std.proofs.Common.{ℕ, List, [], ◌∷◌, map, flat_map, codes, decimal}
use Rattle.si_wave.specs.Dump.{Dump, change_line, moment_lines, wire_line}

abbrev pub front : Dump → List (List (List ℕ))
front d = (codes "$timescale" ∷ codes "1" ∷ codes "ns" ∷ codes "$end" ∷ [])
    ∷ (codes "$scope" ∷ codes "module" ∷ d.scope ∷ codes "$end" ∷ []) ∷ map wire_line d.wires

abbrev pub middle : Dump → List (List (List ℕ))
middle d = (codes "$upscope" ∷ codes "$end" ∷ []) ∷ (codes "$enddefinitions" ∷ codes "$end" ∷ [])
    ∷ ((35 ∷ decimal 0) ∷ []) ∷ (codes "$dumpvars" ∷ []) ∷ map change_line d.starts

abbrev pub back : Dump → List (List (List ℕ))
back d = (codes "$end" ∷ []) ∷ flat_map moment_lines d.moments
