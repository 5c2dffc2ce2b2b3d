-- Modules with instances have no `/`.
use Rattle.std.proofs.Common.{List, [], ◌∷◌, ◌++◌, refl, sym, subst, flat_map}
use Rattle.std.specs.List.{join_by}
use Rattle.si_base.specs.Bytes.{comma, semicolon, closing_parenthesis}
use Rattle.si_verilog.specs.Symbols.{Symbol, Mark}
use Rattle.si_structure.specs.Parts.{Connection, Placement, Part, SpellPart, SpellParts, no_part, part}
use Rattle.si_structure.specs.Parts.{connection_symbols, placement_symbols}
use Rattle.si_verilog_reader.proofs.CommentLemmas.{NoSlash, both, all_behind, all_joined, in_assigns, in_module}

in_connection : (c : Connection) → NoSlash (connection_symbols c)
in_connection c = refl

in_placement : (p : Placement) → NoSlash (placement_symbols p)
in_placement p = both (join_by connection_symbols (Mark comma ∷ []) p.connections)
    (Mark closing_parenthesis ∷ Mark semicolon ∷ [])
    (all_joined connection_symbols (Mark comma ∷ []) refl in_connection p.connections) refl

in_part : (xs : List Symbol) (p : Part) → SpellPart xs p → NoSlash xs
in_part xs p spells =
    let placements = all_behind placement_symbols in_placement p.placements in
    let inside = both spells.assigns (flat_map placement_symbols p.placements) (in_assigns spells.spell) placements in
    subst NoSlash (sym spells.whole)
    (in_module p.body (spells.assigns ++ flat_map placement_symbols p.placements) inside)

in_parts : {xs : List Symbol} {parts : List Part} → SpellParts xs parts → NoSlash xs
in_parts no_part = refl
in_parts (part {xs = xs} {rest = rest} {p = p} one more) = both xs rest (in_part xs p one) (in_parts more)

-- no mark of modules with instances is `/`
pub parts_without_slash : (xs : List Symbol) (parts : List Part) → SpellParts xs parts → NoSlash xs
parts_without_slash xs parts spells = in_parts spells
