-- (command) What a command line asks for.
use Rattle.std.specs.Prelude.{◌≡◌, ℕ, ◌-◌, Bool, if◌then◌else◌, List, [], ◌∷◌, map, codes, String}
use Rattle.std.specs.declared.alloc.Global.{Global}
use Rattle.si_words.specs.Names.{stands_in}
use Rattle.si_cell.specs.declared.pins.Pins.{Pins}
use Rattle.si_cell.specs.declared.pins.Pins.TheVariants.{Any, Plain}
use Rattle.si_circuit.specs.declared.style.Style.{Style}
use Rattle.si_circuit.specs.declared.style.Style.TheVariants.{Complex, GeneralisedC}
use Rattle.si_refusals.specs.Ending.{Ending, NoMemory, Usage}
use Rattle.si_commands.specs.Form.{Form, HasForm, Slot, Word, File, LoneFile, LibraryFile, OneOf}
use Rattle.si_commands.specs.Form.{Name, Tail}
use Rattle.si_commands.specs.Form.{MoreFiles, MorePairs, Nothing, Options, words_of}
use Rattle.si_commands.specs.declared.task.LibraryKind.{LibraryKind}
use Rattle.si_commands.specs.declared.task.LibraryKind.TheVariants.{Cells, Gates}
use Rattle.si_commands.specs.declared.task.Task.{Task}
use Rattle.si_commands.specs.declared.task.Task.TheVariants.{About, Tell, Synth, Map, FromGenlib}
use Rattle.si_commands.specs.declared.task.Task.TheVariants.{Verilog, Replay, Audit, Exercise}
use Rattle.si_commands.specs.declared.task.Task.TheVariants as task
use Rattle.si_commands.specs.declared.task.Task.TheVariants.{TellNetlist, Resolve, Insert, Same}
use Rattle.si_commands.specs.declared.task.Task.TheVariants.{Certify, CertifyEquations}
use Rattle.si_commands.specs.declared.task.Task.TheVariants.{CertifyModules, InsertGate}
use Rattle.si_commands.specs.declared.task.Task.TheVariants.{Suggest, Structure, Equations}
use Rattle.si_commands.specs.declared.task.Task.TheVariants.{Resettable, ResettableStructure}
use Rattle.si_commands.specs.declared.task.Task.TheVariants.{Timing}
use Rattle.si_readings.specs.declared.library_format.LibraryFormat.{LibraryFormat}
use Rattle.si_readings.specs.declared.library_format.LibraryFormat.TheVariants.{Own, Genlib}
use Rattle.si_reports.specs.declared.netlist_report.NetlistReport.{NetlistReport}
use Rattle.si_reports.specs.declared.netlist_report.NetlistReport.TheVariants.{Loops, Reset}
use Rattle.si_reports.specs.declared.replay_kind.ReplayReport.{ReplayReport}
use Rattle.si_reports.specs.declared.replay_kind.ReplayReport.TheVariants.{End, Wave}
use Rattle.si_reports.specs.declared.report_kind.Report.{Report}
use Rattle.si_reports.specs.declared.report_kind.Report.TheVariants.{Summary, Regions}
use Rattle.si_reports.specs.declared.report_kind.Report.TheVariants.{Conflicts, Covers, Fold}
use Rattle.si_reports.specs.declared.report_kind.Report.TheVariants.{States, Explain, Dot, Lint}
use Rattle.si_commands.specs.declared.task.HelpPlace.TheVariants.{Before, Behind}
use Rattle.si_commands.specs.declared.task.Together.{Together}
use Rattle.si_commands.specs.declared.task.Together.TheVariants as together
use Rattle.si_commands.specs.declared.task.Topic.TheVariants.{Help, Page, Version}

-- ---- words

-- those that ask for the help
abbrev pub help_words : List (List ℕ)
help_words = codes "--help" ∷ codes "-h" ∷ codes "help" ∷ []

-- a word of a command, and what the help says of the command
pub record Named : Type 0 where
  pub word : List ℕ
  pub says : List ℕ

abbrev pub named : (word says : List ℕ) → Named
named word says = record { word = word; says = says }

-- reports on a graph
abbrev pub report_named : Report → Named
report_named Summary = named (codes "check") (codes "the size of a graph, where it is proper")
report_named States = named (codes "states") (codes "its states: their codes, what they enable")
report_named Regions =
    named (codes "regions") (codes "where events are excited, and what follows")
report_named Conflicts = named (codes "conflicts") (codes "states that no gates can tell apart")
report_named Explain =
    named (codes "explain") (codes "walks to them, and which no signal resolves")
report_named Lint = named (codes "lint") (codes "dead ends, and more worth a second look")
report_named Covers = named (codes "covers") (codes "sums for each signal, and monotonous cubes")
report_named Fold = named (codes "fold") (codes "the graph with alike states merged")
report_named Dot = named (codes "dot") (codes "the graph as a picture for Graphviz")

-- reports on a netlist
abbrev pub netlist_named : NetlistReport → Named
netlist_named Loops = named (codes "loops") (codes "which pins to cut, so that it has no loop")
netlist_named Reset = named (codes "reset") (codes "which outputs to force, so that it starts")

-- what is told of a schedule
abbrev pub replay_named : ReplayReport → Named
replay_named End = named (codes "replay") (codes "where a schedule over a netlist ends")
replay_named Wave = named (codes "wave") (codes "the same as a Value Change Dump")

-- styles of gates
abbrev pub style_named : Style → Named
style_named Complex = named (codes "complex") (codes "a netlist of complex gates")
style_named GeneralisedC = named (codes "gc") (codes "a netlist of generalised C-elements")

-- what is made of controllers together
abbrev pub together_named : Together → Named
together_named together.Product =
    named (codes "product") (codes "the graph of cycles that share events")
together_named together.Compose = named (codes "compose") (codes "the graph of graphs side by side")
together_named together.Join =
    named (codes "join") (codes "the netlist of netlists side by side")
together_named together.Works =
    named (codes "works") (codes "whether netlists are right together")

-- the digits from 1 to 8
abbrev pub digits : List (List ℕ)
digits = codes "1" ∷ codes "2" ∷ codes "3" ∷ codes "4" ∷ codes "5" ∷ codes "6" ∷ codes "7"
    ∷ codes "8" ∷ []

-- the number that a digit spells
abbrev pub number_of : List ℕ → ℕ
number_of (digit ∷ []) = digit - 48
number_of word = 0

-- the options of `resolve` and `map`: `suggest` asks for insertions that a wider search finds, and
-- `plain` for pins without complements
abbrev pub resolve_options : List (List ℕ)
resolve_options = codes "suggest" ∷ []

abbrev pub map_options : List (List ℕ)
map_options = codes "suggest" ∷ codes "plain" ∷ []

-- that of `verilog` over a library: an inverter for each complemented pin
abbrev pub structure_options : List (List ℕ)
structure_options = codes "inverters" ∷ []

abbrev pub is_suggested : (options : List (List ℕ)) → Bool
is_suggested options = stands_in options (codes "suggest")

abbrev pub is_inverted : (options : List (List ℕ)) → Bool
is_inverted options = stands_in options (codes "inverters")

abbrev pub pins_of : (options : List (List ℕ)) → Pins
pins_of options = if stands_in options (codes "plain") then Plain else Any

-- the format of a library, by the words of the command
abbrev pub format_of : LibraryKind → (options : List (List ℕ)) → LibraryFormat
format_of Cells options = Own (pins_of options)
format_of Gates options = Genlib (pins_of options)

-- what no library is called before other words: the word that tells the format of the next file,
-- and for `verilog` also that before the name of an input
abbrev pub format_words : List (List ℕ)
format_words = codes "genlib" ∷ []

abbrev pub verilog_words : List (List ℕ)
verilog_words = codes "genlib" ∷ codes "reset" ∷ []

-- ---- forms

-- the names that the help gives to files: graphs, netlists, libraries of genlib
abbrev pub graph_name : List ℕ
graph_name = codes "F"

abbrev pub genlib_name : List ℕ
genlib_name = codes "FILE"

abbrev pub netlist_name : List ℕ
netlist_name = codes "NETLIST"

-- the words that a form begins with: those of the commands
abbrev pub command_words : List (List ℕ)
command_words = codes "check" ∷ codes "states" ∷ codes "regions" ∷ codes "conflicts"
    ∷ codes "explain" ∷ codes "lint" ∷ codes "covers" ∷ codes "fold" ∷ codes "dot" ∷ codes "synth"
    ∷ codes "suggest" ∷ codes "map" ∷ codes "resolve" ∷ codes "insert" ∷ codes "genlib"
    ∷ codes "verilog" ∷ codes "eqn"
    ∷ codes "loops" ∷ codes "reset" ∷ codes "replay" ∷ codes "wave" ∷ codes "audit"
    ∷ codes "certify" ∷ codes "same" ∷ codes "product" ∷ codes "compose" ∷ codes "join"
    ∷ codes "works" ∷ codes "exercise" ∷ codes "help" ∷ codes "--version" ∷ []

abbrev pub command_slot : Slot
command_slot = OneOf (codes "COMMAND") command_words

-- a row of the table: the form in which a task is written, and what the help says of it
pub record Row : Type 0 where
  pub form : Form
  pub says : List ℕ

abbrev pub row_with : (places : List Slot) → Tail → (says : List ℕ) → Row
row_with places tail says = record { form = record { places = places; tail = tail }; says = says }

abbrev pub row : (places : List Slot) → (says : List ℕ) → Row
row places says = row_with places Nothing says

-- of graphs, and of graphs with their netlists
abbrev pub row_of_graphs : Named → Row
row_of_graphs command =
    row_with (Word command.word ∷ File graph_name ∷ File (codes "G") ∷ []) (MoreFiles 62)
    command.says

abbrev pub row_of_pairs : Named → Row
row_of_pairs command =
    row_with
    (Word command.word ∷ File graph_name ∷ File (codes "N") ∷ File (codes "G")
    ∷ File (codes "M") ∷ [])
    (MorePairs 124) command.says

abbrev pub row_together : Together → Row
row_together together.Product = row_of_graphs (together_named together.Product)
row_together together.Compose = row_of_graphs (together_named together.Compose)
row_together together.Join = row_of_pairs (together_named together.Join)
row_together together.Works = row_of_pairs (together_named together.Works)

-- how many files they name at most: of 64 graphs, or of as many with their netlists
abbrev pub most_files : Together → ℕ
most_files together.Product = 64
most_files together.Compose = 64
most_files together.Join = 128
most_files together.Works = 128

abbrev pub row_of : Task → Row
row_of (Tell report) =
    row (Word (report_named report).word ∷ LoneFile graph_name ∷ []) (report_named report).says
row_of (Synth style) =
    row (Word (codes "synth") ∷ File graph_name ∷ Word (style_named style).word ∷ [])
    (style_named style).says
row_of (Suggest style) =
    row (Word (codes "suggest") ∷ File graph_name ∷ Word (style_named style).word ∷ [])
    (codes "the same by a wider search")
row_of (Map Cells) =
    row_with (Word (codes "map") ∷ File graph_name ∷ LibraryFile (codes "LIB") format_words ∷ [])
    (Options map_options) (codes "a netlist of cells of a library")
row_of (Map Gates) =
    row_with (Word (codes "map") ∷ File graph_name ∷ Word (codes "genlib") ∷ File genlib_name ∷ [])
    (Options map_options) (codes "the same of gates of genlib")
row_of Resolve =
    row_with (Word (codes "resolve") ∷ LoneFile graph_name ∷ []) (Options resolve_options)
    (codes "the graph with its conflicts resolved")
row_of Insert =
    row (Word (codes "insert") ∷ File graph_name ∷ File netlist_name ∷ [])
    (codes "the graph after insertions of a netlist")
row_of InsertGate =
    row
    (Word (codes "insert") ∷ File graph_name ∷ Word (codes "gate") ∷ File (codes "GATE") ∷ [])
    (codes "the graph with a signal for a gate")
row_of FromGenlib =
    row (Word (codes "genlib") ∷ LoneFile genlib_name ∷ [])
    (codes "a library of genlib as a library of cells")
row_of Verilog =
    row (Word (codes "verilog") ∷ LoneFile netlist_name ∷ [])
    (codes "a netlist as a module of Verilog")
row_of Resettable =
    row
    (Word (codes "verilog") ∷ File netlist_name ∷ Word (codes "reset") ∷ Name (codes "NAME") ∷ [])
    (codes "the same with an input that resets it")
row_of (Structure Cells) =
    row_with
    (Word (codes "verilog") ∷ File netlist_name ∷ LibraryFile (codes "LIB") verilog_words ∷ [])
    (Options structure_options) (codes "the same of instances of cells")
row_of (Structure Gates) =
    row_with
    (Word (codes "verilog") ∷ File netlist_name ∷ Word (codes "genlib") ∷ File genlib_name ∷ [])
    (Options structure_options) (codes "the same of gates of genlib")
row_of (ResettableStructure Cells) =
    row_with
    (Word (codes "verilog") ∷ File netlist_name ∷ LibraryFile (codes "LIB") verilog_words
    ∷ Word (codes "reset") ∷ Name (codes "NAME") ∷ [])
    (Options structure_options) (codes "cells, with a reset input")
row_of (ResettableStructure Gates) =
    row_with
    (Word (codes "verilog") ∷ File netlist_name ∷ Word (codes "genlib") ∷ File genlib_name
    ∷ Word (codes "reset") ∷ Name (codes "NAME") ∷ [])
    (Options structure_options) (codes "the same of genlib")
row_of Equations =
    row (Word (codes "eqn") ∷ LoneFile netlist_name ∷ []) (codes "a netlist as equations")
row_of (Timing Cells) =
    row (Word (codes "loops") ∷ File netlist_name ∷ LibraryFile (codes "LIB") format_words ∷ [])
    (codes "the same for a timing tool")
row_of (Timing Gates) =
    row (Word (codes "loops") ∷ File netlist_name ∷ Word (codes "genlib") ∷ File genlib_name ∷ [])
    (codes "the same of gates of genlib")
row_of (TellNetlist report) =
    row (Word (netlist_named report).word ∷ LoneFile netlist_name ∷ []) (netlist_named report).says
row_of (Replay report) =
    row
    (Word (replay_named report).word ∷ File graph_name ∷ File netlist_name
    ∷ File (codes "SCHEDULE") ∷ [])
    (replay_named report).says
row_of Audit =
    row (Word (codes "audit") ∷ File graph_name ∷ File netlist_name ∷ [])
    (codes "whether a netlist is certified for a graph")
row_of Certify =
    row (Word (codes "certify") ∷ File graph_name ∷ File netlist_name ∷ [])
    (codes "a netlist with insertions told by its gates")
row_of CertifyEquations =
    row
    (Word (codes "certify") ∷ File graph_name ∷ Word (codes "eqn") ∷ File (codes "EQUATIONS") ∷ [])
    (codes "the same of equations")
row_of CertifyModules =
    row
    (Word (codes "certify") ∷ File graph_name ∷ Word (codes "verilog")
    ∷ File (codes "MODULES") ∷ [])
    (codes "the same of modules of Verilog")
row_of Same =
    row (Word (codes "same") ∷ File graph_name ∷ File (codes "G") ∷ [])
    (codes "whether two graphs behave alike")
row_of (task.Together what) = row_together what
row_of Exercise =
    row (Word (codes "exercise") ∷ OneOf (codes "N") digits ∷ [])
    (codes "the sizes of N handshakes, from 1 to 8")
row_of (About Help) =
    row (OneOf (codes "--help, -h or help") help_words ∷ []) (codes "this text")
row_of (About (Page Before)) =
    row (Word (codes "help") ∷ command_slot ∷ [])
    (codes "what a command writes, and how it may end")
row_of (About (Page Behind)) = row (command_slot ∷ Word (codes "--help") ∷ []) (codes "the same")
row_of (About Version) =
    row (Word (codes "--version") ∷ []) (codes "the version, and what proved it")

-- each task, in the order of the help
abbrev pub tasks : List Task
tasks = Tell Summary ∷ Tell States ∷ Tell Regions ∷ Tell Conflicts ∷ Tell Explain ∷ Tell Lint
    ∷ Tell Covers ∷ Tell Fold ∷ Tell Dot ∷ Synth Complex ∷ Synth GeneralisedC
    ∷ Suggest Complex ∷ Suggest GeneralisedC ∷ Map Cells
    ∷ Map Gates ∷ Resolve ∷ Insert ∷ InsertGate ∷ FromGenlib
    ∷ Verilog ∷ Resettable ∷ Structure Cells ∷ Structure Gates
    ∷ ResettableStructure Cells ∷ ResettableStructure Gates ∷ Equations
    ∷ TellNetlist Loops ∷ Timing Cells ∷ Timing Gates ∷ TellNetlist Reset ∷ Replay End
    ∷ Replay Wave ∷ Audit ∷ Certify ∷ CertifyEquations ∷ CertifyModules ∷ Same
    ∷ task.Together together.Product ∷ task.Together together.Compose
    ∷ task.Together together.Join ∷ task.Together together.Works ∷ Exercise
    ∷ About Help ∷ About (Page Before) ∷ About (Page Behind) ∷ About Version ∷ []

abbrev pub rows : List Row
rows = map (λ task. row_of task) tasks

abbrev pub form_of : Task → Form
form_of task = (row_of task).form

-- ---- what is asked for

-- a task; its files, and the words that it leaves to choose, in the order of the words
pub record Request : Type 0 where
  pub task : Task
  pub files : List (List ℕ)
  pub choices : List (List ℕ)

abbrev pub Asks : List (String Global) → Request → Type 0
Asks words request =
    HasForm (form_of request.task) (words_of words) request.files request.choices

-- the words match no command
abbrev pub AsksNothing : List (String Global) → Type 0
AsksNothing words = (request : Request) → Asks words request → ⊥

-- the words name no file: they match no command, or one without files
abbrev pub NamesNoFile : List (String Global) → Type 0
NamesNoFile words = (request : Request) → Asks words request → request.files ≡ []

-- a call that finds what the words ask for may stop so: they match no command, or memory ran out
abbrev pub MayStopAsking : List (String Global) → Ending → Type 0
MayStopAsking words NoMemory = Unit {0}
MayStopAsking words Usage = AsksNothing words
MayStopAsking words ending = ⊥
