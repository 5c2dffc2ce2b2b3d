-- What a run of `insert` with a gate puts on `out`.
use Rattle.std.proofs.Common.{◌≡◌, ℕ, List, [], ◌∷◌, Ok, String, Global}
use Rattle.si_io.specs.Outside.{Appends}
use Rattle.si_refusals.specs.declared.status.Status.{Status}
use Rattle.si_refusals.specs.declared.status.Status.TheVariants as status
use Rattle.si_by_hand.proofs.ByHandTexts.{outputs_are_made_by_hand}
use Rattle.si_commands.specs.Command.{Request, Asks}
use Rattle.si_tool.specs.Laws.{PutsByHand}
use Rattle.si_tool.specs.Loads.{Contents, Counts, loads}
use Rattle.si_tool.specs.Meaning.{meaning}
use Rattle.si_tool.specs.Run.{SinkChange, Ends}
use Rattle.si_commands.specs.declared.task.Task.TheVariants.{InsertGate}
use Rattle.si_tool.proofs.RunOutputs.{puts_output}

abbrev by_hand_of : (graph gate : List ℕ) → Request
by_hand_of graph gate = record { task = InsertGate; files = graph ∷ gate ∷ []; choices = [] }

-- each of the two files has one text
puts_by_hand : (content : Contents) (before now : Counts) (graph gate : List ℕ) (out : SinkChange)
    (output : List ℕ) (texts : List (List ℕ)) → loads content before now (graph ∷ gate ∷ []) (Ok texts)
    → meaning InsertGate (graph ∷ gate ∷ []) [] texts (Ok output) → Appends out.old output out.new
    → PutsByHand content before now graph gate out
puts_by_hand content before now graph gate out output [] loaded means written = absurd means
puts_by_hand content before now graph gate out output (a ∷ []) loaded means written = absurd means
puts_by_hand content before now graph gate out output (a ∷ b ∷ []) loaded means written = record {
  graph_text = a;
  gate_text = b;
  loaded = loaded;
  output = output;
  made = outputs_are_made_by_hand graph a gate b output means;
  written = written;
}
puts_by_hand content before now graph gate out output (a ∷ b ∷ c ∷ texts) loaded means written = absurd means

pub by_hand_puts : (words : List (String Global)) (content : Contents) (before now : Counts) (out err : SinkChange)
    (result : Status) (graph gate : List ℕ) → Asks words (by_hand_of graph gate)
    → Ends words (loads content before now) out err result → result ≡ status.Done
    → PutsByHand content before now graph gate out
by_hand_puts words content before now out err result graph gate asks ends is =
    let puts = puts_output words content before now out err result (by_hand_of graph gate) asks ends is in
    puts_by_hand content before now graph gate out puts.output puts.texts puts.loaded puts.means puts.written
