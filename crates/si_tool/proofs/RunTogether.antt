-- A run of `works` that is done: the graphs and netlists of its files are right together.
use Rattle.std.proofs.Common.{◌≡◌, ℕ, List, [], ◌∷◌, Ok, String, Global, sym, subst}
use Rattle.si_commands.specs.Command.{Request, Asks}
use Rattle.si_commands.specs.Form.{words_of}
use Rattle.si_commands.specs.declared.task.Task.TheVariants as task
use Rattle.si_commands.specs.declared.task.Together.TheVariants as kind
use Rattle.si_io.specs.Outside.{IsContent}
use Rattle.si_refusals.specs.Stages.{Passes, Refuses}
use Rattle.si_refusals.specs.declared.status.Status.{Status}
use Rattle.si_refusals.specs.declared.status.Status.TheVariants as status
use Rattle.si_tool.specs.Loads.{Contents, Counts, loads}
use Rattle.si_tool.specs.Run.{SinkChange, Ends}
use Rattle.si_tool.specs.Together.{AreContents, AreRightFiles, AskForSystem}
use Rattle.si_tool.proofs.LoadLemmas.{loads_as_many}
use Rattle.si_tool.proofs.RunOutputs.{puts_output}
use Rattle.si_works.proofs.WorksLemmas.{outputs_are_right}

-- what was loaded of files is what they hold
are_contents : (content : Contents) (before now : Counts) (files texts : List (List ℕ))
    → loads content before now files (Ok texts) → AreContents content files texts
are_contents content before now [] texts is = subst (λ (ts : List (List ℕ)). AreContents content [] ts) (sym is.0) tt
are_contents content before now (file ∷ files) texts (Passes text one (Passes later others is)) =
    let same : texts ≡ text ∷ later = cc in
    subst (λ (ts : List (List ℕ)). AreContents content (file ∷ files) ts) (sym same)
    (one.0, are_contents content before now files later others)
are_contents content before now (file ∷ files) texts (Passes text one (Refuses r others is)) = cc
are_contents content before now (file ∷ files) texts (Refuses r one is) = cc

abbrev system_of : (files : List (List ℕ)) → Request
system_of files = record { task = task.Together kind.Works; files = files; choices = [] }

module _ (words : List (String Global)) (content : Contents) (before now : Counts) (out err : SinkChange)
    (result : Status) where
  asked_right : (files : List (List ℕ)) → Asks words (system_of files)
      → Ends words (loads content before now) out err result → result ≡ status.Done → AreRightFiles content files
  asked_right files asks ends is =
      let puts = puts_output words content before now out err result (system_of files) asks ends is in
      let many = loads_as_many content before now files puts.texts puts.loaded in
      record {
        texts = puts.texts;
        read = are_contents content before now files puts.texts puts.loaded;
        right = outputs_are_right files puts.texts puts.output many puts.means;
      }

  pub system_right : (files : List (List ℕ)) → Ends words (loads content before now) out err result
      → result ≡ status.Done → AskForSystem files (words_of words) → AreRightFiles content files
  system_right [] ends is asks = absurd asks
  system_right (graph ∷ []) ends is asks = absurd asks
  system_right (graph ∷ netlist ∷ []) ends is asks = absurd asks
  system_right (graph ∷ netlist ∷ other ∷ []) ends is asks = absurd asks
  system_right (graph ∷ netlist ∷ other ∷ its ∷ more) ends is (asks, few, even) =
      asked_right (graph ∷ netlist ∷ other ∷ its ∷ more) (asks, (few, even)) ends is
