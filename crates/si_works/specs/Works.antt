-- (command) Whether netlists, each certified for its own graph, work together.
use Rattle.std.specs.Prelude.{◌≡◌, ℕ, ◌+◌, ◌*◌, List, [], ◌∷◌, ◌++◌, length, map, codes}
use Rattle.std.specs.Prelude.{slice_index_or}
use Rattle.std.specs.Prelude.{Option, Some, None, Ok, Err}
use Rattle.si_base.specs.Bytes.{sign}
use Rattle.si_base.specs.Codes.{CodedGraph}
use Rattle.si_base.specs.Words.{text_of}
use Rattle.si_composing.specs.declared.clash.Clash.TheVariants as clash
use Rattle.si_groups.specs.Together.{ShowsMisfit, WorkTogether}
use Rattle.si_groups.specs.declared.misfit.Interference.{Interference}
use Rattle.si_groups.specs.declared.misfit.Misfit.{Misfit}
use Rattle.si_groups.specs.declared.misfit.Misfit.TheVariants as misfit
use Rattle.si_refusals.specs.Refusal.{TextRefusal}
use Rattle.si_refusals.specs.Refusal as answer
use Rattle.si_refusals.specs.Stages.{Stage, ◌>>=◌}
use Rattle.si_refusals.specs.declared.uncomposed.NamedCause.TheVariants as named
use Rattle.si_sg.specs.CanonicalText.{state_at}
use Rattle.si_reports.specs.Reports.{count_line}
use Rattle.si_works.specs.Audited.{AuditedPart, audited_parts}

-- the graphs with their codes
abbrev pub graphs : List AuditedPart → List CodedGraph
graphs parts = map (λ p. p.coded) parts

-- the file of the graph of part i: the files stand two by two
abbrev pub file_of : (files : List (List ℕ)) → ℕ → List ℕ
file_of files i = slice_index_or files (2 * i) []

-- the names of the states of part i
abbrev pub states_of : List AuditedPart → ℕ → List (List ℕ)
states_of parts i = slice_index_or (map (λ p. p.given.states) parts) i []

-- how many gates the netlists have
abbrev pub gate_count : List AuditedPart → ℕ
gate_count [] = 0
gate_count (p ∷ parts) = length p.netlist.gates + gate_count parts

abbrev pub works_text : (parts groups signals gates : ℕ) → List ℕ
works_text parts groups signals gates = text_of ((codes "works" ∷ [])
    ∷ count_line (codes "parts") parts ∷ count_line (codes "groups") groups
    ∷ count_line (codes "signals") signals ∷ count_line (codes "gates") gates ∷ [])

-- for each part of the group its file and the name of its state
abbrev pub places_of : (files : List (List ℕ)) → List AuditedPart → (group at : List ℕ)
    → List (List ℕ)
places_of files parts [] at = []
places_of files parts (k ∷ group) [] = []
places_of files parts (k ∷ group) (s ∷ at) =
    file_of files k ∷ state_at (states_of parts k) s ∷ places_of files parts group at

-- an interference by the names of states and files
abbrev pub interfering : (files : List (List ℕ)) → List AuditedPart → Interference → TextRefusal
interfering files parts x = answer.Interfering (x.name ++ sign x.up ∷ []) (file_of files x.driver)
    (file_of files x.refuser) (places_of files parts x.group x.at)

-- what stands against the parts, by the names of signals, states and files; want of memory is none
abbrev pub misfit_name : (files : List (List ℕ)) → List AuditedPart → Misfit → Option TextRefusal
misfit_name files parts misfit.NoMemory = None
misfit_name files parts (misfit.Signal clash.Driven name) =
    Some (answer.Uncomposed (named.Driven name))
misfit_name files parts (misfit.Signal clash.Private name) =
    Some (answer.Uncomposed (named.Private name))
misfit_name files parts (misfit.Signal clash.Starts name) =
    Some (answer.Uncomposed (named.Starts name))
misfit_name files parts (misfit.TooMany count) = Some (answer.Uncomposed (named.Signals count))
misfit_name files parts misfit.States = Some (answer.Uncomposed named.States)
misfit_name files parts (misfit.Interferes x) = Some (interfering files parts x)

-- the parts work together, and the output tells of them
pub record TellsWork (parts : List AuditedPart) (output : List ℕ) : Type 0 where
  pub signals : ℕ
  pub groups : ℕ
  pub work : WorkTogether (graphs parts) signals groups
  pub output_is : output ≡ works_text (length parts) groups signals (gate_count parts)

-- the refusal shows what first stands against them
pub record TellsMisfit (files : List (List ℕ)) (parts : List AuditedPart) (refusal : TextRefusal)
    : Type 0 where
  pub first : Misfit
  pub shows : ShowsMisfit (graphs parts) first
  pub named : misfit_name files parts first ≡ Some refusal

abbrev pub together : (files : List (List ℕ)) → List AuditedPart → Stage TextRefusal (List ℕ)
together files parts (Ok output) = TellsWork parts output
together files parts (Err refusal) = TellsMisfit files parts refusal

-- each two files with their texts: a graph, and a netlist for it
abbrev pub works : (files texts : List (List ℕ)) → Stage TextRefusal (List ℕ)
works files texts = do
  parts ← audited_parts files texts
  together files parts
