-- (law) What joining can be refused for, and what the netlist is that it comes to.
use Rattle.std.specs.Prelude.{◌≡◌, ℕ, ◌<◌, ◌⊎◌, false, List, ◌∷◌, Some, Ok, Err, length, map}
use Rattle.std.specs.Prelude.{slice_get}
use Rattle.si_base.specs.declared.graph.Signal.{Signal}
use Rattle.si_base.specs.Graph.{name_of}
use Rattle.si_base.specs.Netlist.{Netlist}
use Rattle.si_base.specs.System.{is_inserted}
use Rattle.si_compose.specs.JoinedNetlist.{IsJoined}
use Rattle.si_compose.specs.Renamed.{HasGatesOf}
use Rattle.si_joins.specs.Join.{join}
use Rattle.si_joins.specs.Laws.{graphs_among}
use Rattle.si_netlist_reader.specs.NetlistValue.{netlist_of}
use Rattle.si_refusals.specs.Refusal.{TextRefusal}
use Rattle.si_systems.specs.Compose.{compose}
use Rattle.si_works.specs.Audited.{AuditedPart, audited_parts}
use Rattle.si_works.specs.AuditedLaws.{AreAuditedParts}
use Rattle.si_works.specs.System.{two_by_two}
use Rattle.si_lifts.specs.Parts.{named_part, part_at, to_at}
use Rattle.si_lifts.specs.Reasons.{IsOfInsertion}

-- some netlist isn't certified for its graph, or the graphs can't be composed, or an inserted
-- signal
-- doesn't switch in the composed graph, or has no room there
abbrev pub MayRefuse : (files texts : List (List ℕ)) → TextRefusal → Type 0
MayRefuse files texts refusal = audited_parts files texts (Err refusal)
    ⊎ (compose (graphs_among files) (graphs_among texts) (Err refusal) ⊎ IsOfInsertion refusal)

-- for nothing else are one or more pairs of texts refused: each insertion of a part is one of the
-- composed graph otherwise, and the netlist of all gates passes its audit
abbrev pub JoinsAreRefusedSo : Type 0
JoinsAreRefusedSo = (graph_file netlist_file graph_text netlist_text : List ℕ)
    (files texts : List (List ℕ)) (refusal : TextRefusal)
    → join (graph_file ∷ netlist_file ∷ files) (graph_text ∷ netlist_text ∷ texts) (Err refusal)
    → MayRefuse (graph_file ∷ netlist_file ∷ files) (graph_text ∷ netlist_text ∷ texts) refusal

-- the netlist has all gates of those that the texts spell, each over the signals of its part, which
-- stand at these places of the whole; so it is these netlists, joined
pub record IsOfParts (texts : List (List ℕ)) (netlist : Netlist) : Type 0 where
  pub parts : List AuditedPart
  pub are : AreAuditedParts (two_by_two texts) parts
  pub places : List (List ℕ)
  -- a signal that isn't inserted has its own name there
  pub given : (i z : ℕ) (x : Signal) → i < length parts
      → slice_get (part_at (map (λ p. p.netlist) parts) i).signals z ≡ Some x
      → is_inserted x.kind ≡ false → name_of netlist.signals (to_at places i z) ≡ x.name
  pub gates : HasGatesOf (length parts)
      (named_part netlist.signals places (map (λ p. p.netlist) parts)) (to_at places) netlist
  pub joined : IsJoined (length parts)
      (named_part netlist.signals places (map (λ p. p.netlist) parts)) netlist

-- such is what `join` comes to for one or more pairs of texts
abbrev pub JoinedAreOfParts : Type 0
JoinedAreOfParts = (graph_file netlist_file graph_text netlist_text : List ℕ)
    (files texts : List (List ℕ)) (output : List ℕ) → length texts ≡ length files
    → join (graph_file ∷ netlist_file ∷ files) (graph_text ∷ netlist_text ∷ texts) (Ok output)
    → IsOfParts (graph_text ∷ netlist_text ∷ texts) (netlist_of output)
