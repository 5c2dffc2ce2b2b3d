-- What a run of `certify` puts on `out`.
use Rattle.std.proofs.Common.{◌≡◌, ℕ, List, [], ◌∷◌, Ok, String, Global}
use Rattle.si_io.specs.Outside.{Appends}
use Rattle.si_refusals.specs.declared.status.Status.{Status}
use Rattle.si_refusals.specs.declared.status.Status.TheVariants as status
use Rattle.si_certify.proofs.CertifyLemmas.{certified_texts_pass}
use Rattle.si_commands.specs.Command.{Request, Asks}
use Rattle.si_tool.specs.Laws.{PutsCertified}
use Rattle.si_tool.specs.Loads.{Contents, Counts, loads}
use Rattle.si_tool.specs.Meaning.{meaning}
use Rattle.si_tool.specs.Run.{SinkChange, Ends}
use Rattle.si_commands.specs.declared.task.Task.TheVariants.{Certify}
use Rattle.si_tool.proofs.RunOutputs.{puts_output}

abbrev certify_of : (graph netlist : List ℕ) → Request
certify_of graph netlist = record { task = Certify; files = graph ∷ netlist ∷ []; choices = [] }

-- each of the two files has one text
puts_certify : (content : Contents) (before now : Counts) (graph netlist : List ℕ) (out : SinkChange)
    (output : List ℕ) (texts : List (List ℕ)) → loads content before now (graph ∷ netlist ∷ []) (Ok texts)
    → meaning Certify (graph ∷ netlist ∷ []) [] texts (Ok output) → Appends out.old output out.new
    → PutsCertified content before now graph netlist out
puts_certify content before now graph netlist out output [] loaded means written = absurd means
puts_certify content before now graph netlist out output (a ∷ []) loaded means written = absurd means
puts_certify content before now graph netlist out output (a ∷ b ∷ []) loaded means written = record {
  graph_text = a;
  netlist_text = b;
  loaded = loaded;
  output = output;
  certified = certified_texts_pass graph a netlist b output means;
  written = written;
}
puts_certify content before now graph netlist out output (a ∷ b ∷ c ∷ texts) loaded means written = absurd means

pub certify_puts : (words : List (String Global)) (content : Contents) (before now : Counts) (out err : SinkChange)
    (result : Status) (graph netlist : List ℕ) → Asks words (certify_of graph netlist)
    → Ends words (loads content before now) out err result → result ≡ status.Done
    → PutsCertified content before now graph netlist out
certify_puts words content before now out err result graph netlist asks ends is =
    let puts = puts_output words content before now out err result (certify_of graph netlist) asks ends is in
    puts_certify content before now graph netlist out puts.output puts.texts puts.loaded puts.means puts.written
