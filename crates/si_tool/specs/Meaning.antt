-- (command) What a command that is asked for means over its texts, and what it comes to over its
-- files.
use Rattle.std.specs.Prelude.{◌≡◌, ℕ, Bool, true, false, if◌then◌else◌, List, [], ◌∷◌, String}
use Rattle.std.specs.Prelude.{Ok, Err, Some, None}
use Rattle.std.specs.declared.alloc.Global.{Global}
use Rattle.si_commands.specs.About.{about_text}
use Rattle.si_commands.specs.Command.{Request, Asks, format_of, is_inverted, is_suggested}
use Rattle.si_commands.specs.Command.{number_of}
use Rattle.si_commands.specs.declared.task.Task.{Task}
use Rattle.si_commands.specs.declared.task.Task.TheVariants.{About, Tell, Synth, Map, FromGenlib}
use Rattle.si_commands.specs.declared.task.Task.TheVariants.{Verilog, Replay, Audit, Exercise}
use Rattle.si_commands.specs.declared.task.Task.TheVariants.{TellNetlist, Resolve, Insert, Same}
use Rattle.si_commands.specs.declared.task.Task.TheVariants.{Suggest, Structure, Equations}
use Rattle.si_commands.specs.declared.task.Task.TheVariants.{Resettable, ResettableStructure}
use Rattle.si_commands.specs.declared.task.Task.TheVariants.{Timing, Certify, InsertGate}
use Rattle.si_commands.specs.declared.task.Task.TheVariants.{CertifyEquations, CertifyModules}
use Rattle.si_commands.specs.declared.task.Task.TheVariants as task
use Rattle.si_commands.specs.declared.task.Together.{Together}
use Rattle.si_commands.specs.declared.task.Together.TheVariants as kind
use Rattle.si_refusals.specs.Ending.{Ending, NoMemory, Answered}
use Rattle.si_refusals.specs.Refusal.{FileRefusal, TextRefusal, Answer, Output}
use Rattle.si_refusals.specs.Refusal.{FileRefused, TextRefused}
use Rattle.si_refusals.specs.Stages.{Stage, gives}
use Rattle.si_readings.specs.declared.library_format.LibraryFormat.{LibraryFormat}
use Rattle.si_by_hand.specs.ByHand.{by_hand}
use Rattle.si_certify.specs.Certify.{certify}
use Rattle.si_certify_equations.specs.Certify.{certify_equations}
use Rattle.si_certify_equations.specs.declared.form.Form.TheVariants as forms
use Rattle.si_exercise.specs.Exercise.{exercise}
use Rattle.si_exports.specs.Equations.{equations}
use Rattle.si_exports.specs.Resettable.{resettable}
use Rattle.si_exports.specs.Structure.{structure}
use Rattle.si_exports.specs.Timing.{timing}
use Rattle.si_stages.specs.Genlib.{genlib}
use Rattle.si_stages.specs.Inserted.{insert, resolve}
use Rattle.si_reports.specs.Meaning.{report, replay}
use Rattle.si_stages.specs.Meaning.{synth, mapping, audit}
use Rattle.si_likeness.specs.Same.{same}
use Rattle.si_joins.specs.Join.{join}
use Rattle.si_systems.specs.Compose.{compose}
use Rattle.si_systems.specs.Product.{product}
use Rattle.si_works.specs.Works.{works}
use Rattle.si_reports.specs.NetlistReports.{netlist_report}
use Rattle.si_reports.specs.Verilog.{verilog}
use Rattle.si_structure.specs.declared.complements.Complements.{Complements}
use Rattle.si_structure.specs.declared.complements.Complements.TheVariants.{Refused, Inverted}
use Rattle.si_suggestion.specs.Suggested.{map_suggested, resolve_suggested}
use Rattle.si_suggestion.specs.Suggestion.{suggest}

-- the graph after insertions that resolve its conflicts, and a netlist of cells over them: those of
-- `suggest`, where they are asked for, and else those of `synth`
abbrev pub resolved_by : (suggested : Bool) → (file text : List ℕ) → Stage TextRefusal (List ℕ)
resolved_by true file text = resolve_suggested file text
resolved_by false file text = resolve file text

abbrev pub mapped_by : (suggested : Bool) → LibraryFormat
    → (graph graph_text library library_text : List ℕ) → Stage TextRefusal (List ℕ)
mapped_by true format g graph l library = map_suggested format g graph l library
mapped_by false format g graph l library = mapping format g graph l library

-- what becomes of complemented pins
abbrev pub complements_of : (options : List (List ℕ)) → Complements
complements_of options = if is_inverted options then Inverted else Refused

-- what is made of controllers together, each file with its text
abbrev pub together : Together → (files texts : List (List ℕ)) → Stage TextRefusal (List ℕ)
together kind.Product files texts = product files texts
together kind.Compose files texts = compose files texts
together kind.Join files texts = join files texts
together kind.Works files texts = works files texts

-- a task over its files, each with its text, and the words that are chosen: options too
abbrev pub meaning : Task → (files choices texts : List (List ℕ)) → Stage TextRefusal (List ℕ)
meaning (About topic) [] choices [] = gives (about_text topic choices)
meaning (Tell what) (file ∷ []) choices (text ∷ []) = report what file text
meaning (Synth style) (file ∷ []) choices (text ∷ []) = synth style file text
meaning (Suggest style) (file ∷ []) choices (text ∷ []) = suggest style file text
meaning (Map kind) (g ∷ l ∷ []) options (graph ∷ library ∷ []) =
    mapped_by (is_suggested options) (format_of kind options) g graph l library
meaning FromGenlib (file ∷ []) choices (text ∷ []) = genlib file text
meaning Verilog (file ∷ []) choices (text ∷ []) = verilog file text
meaning Resettable (file ∷ []) (name ∷ []) (text ∷ []) = resettable file text name
meaning (Structure kind) (n ∷ l ∷ []) options (netlist ∷ library ∷ []) =
    structure (format_of kind options) (complements_of options) None n netlist l library
meaning (ResettableStructure kind) (n ∷ l ∷ []) (name ∷ options) (netlist ∷ library ∷ []) =
    structure (format_of kind options) (complements_of options) (Some name) n netlist l library
meaning Equations (file ∷ []) choices (text ∷ []) = equations file text
meaning (Timing kind) (n ∷ l ∷ []) options (netlist ∷ library ∷ []) =
    timing (format_of kind options) n netlist l library
meaning (TellNetlist what) (file ∷ []) choices (text ∷ []) = netlist_report what file text
meaning (Replay what) (g ∷ n ∷ s ∷ []) choices (graph ∷ netlist ∷ schedule ∷ []) =
    replay what g graph n netlist s schedule
meaning Audit (g ∷ n ∷ []) choices (graph ∷ netlist ∷ []) = audit g graph n netlist
meaning Certify (g ∷ n ∷ []) choices (graph ∷ netlist ∷ []) = certify g graph n netlist
meaning CertifyEquations (g ∷ e ∷ []) choices (graph ∷ equations ∷ []) =
    certify_equations forms.Equations g graph e equations
meaning CertifyModules (g ∷ m ∷ []) choices (graph ∷ modules ∷ []) =
    certify_equations forms.Modules g graph m modules
meaning Resolve (file ∷ []) options (text ∷ []) = resolved_by (is_suggested options) file text
meaning Insert (g ∷ n ∷ []) choices (graph ∷ netlist ∷ []) = insert g graph n netlist
meaning InsertGate (g ∷ x ∷ []) choices (graph ∷ gate ∷ []) = by_hand g graph x gate
meaning Same (f ∷ g ∷ []) choices (one ∷ other ∷ []) = same f one g other
meaning (task.Together what) files choices texts = together what files texts
meaning Exercise [] (digit ∷ []) [] = exercise (number_of digit)
meaning task files choices texts = λ answer. ⊥

-- whether what a task means is one answer alone: what is suggested may be one of several
abbrev pub IsDetermined : Task → (choices : List (List ℕ)) → Type 0
IsDetermined (Suggest style) choices = ⊥
IsDetermined Resolve options = is_suggested options ≡ false
IsDetermined (Map kind) options = is_suggested options ≡ false
IsDetermined task choices = Unit {0}

-- ---- the same over files

-- what the loads of a list of files may come to
abbrev pub LoadStage : Type 1
LoadStage = List (List ℕ) → Stage FileRefusal (List (List ℕ))

-- one of the files can't be used, or the task comes to what it means over their texts
abbrev pub ComesTo : LoadStage → Request → Answer → Type 0
ComesTo loading asked (FileRefused refusal) = loading asked.files (Err refusal)
ComesTo loading asked (TextRefused refusal) =
    (texts : List (List ℕ)) × loading asked.files (Ok texts)
    × meaning asked.task asked.files asked.choices texts (Err refusal)
ComesTo loading asked (Output text) =
    (texts : List (List ℕ)) × loading asked.files (Ok texts)
    × meaning asked.task asked.files asked.choices texts (Ok text)

-- what the words ask for comes to this answer
pub record WordsComeTo (words : List (String Global)) (loading : LoadStage)
    (answer : Answer) : Type 0 where
  pub asked : Request
  pub asks : Asks words asked
  pub comes : ComesTo loading asked answer

-- a call that does the work of a command may stop so: with a refusal to which it comes, or memory
-- ran out
abbrev pub MayStopCommand : LoadStage → Request → Ending → Type 0
MayStopCommand loading asked NoMemory = Unit {0}
MayStopCommand loading asked (Answered (FileRefused refusal)) =
    ComesTo loading asked (FileRefused refusal)
MayStopCommand loading asked (Answered (TextRefused refusal)) =
    ComesTo loading asked (TextRefused refusal)
MayStopCommand loading asked ending = ⊥
