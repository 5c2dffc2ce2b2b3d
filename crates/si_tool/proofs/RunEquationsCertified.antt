-- What a run of `certify` with equations puts on `out`.
use Rattle.std.proofs.Common.{◌≡◌, ℕ, List, [], ◌∷◌, Ok, String, Global}
use Rattle.si_io.specs.Outside.{Appends}
use Rattle.si_refusals.specs.declared.status.Status.{Status}
use Rattle.si_refusals.specs.declared.status.Status.TheVariants as status
use Rattle.si_certify_equations.specs.Certify.{certify_equations}
use Rattle.si_certify_equations.proofs.CertifyLemmas.{certified_equations_pass}
use Rattle.si_commands.specs.Command.{Request, Asks}
use Rattle.si_tool.specs.Laws.{PutsCertifiedEquations, certifying}
use Rattle.si_tool.specs.Loads.{Contents, Counts, loads}
use Rattle.si_tool.specs.Meaning.{meaning}
use Rattle.si_tool.specs.Run.{SinkChange, Ends}
use Rattle.si_certify_equations.specs.declared.form.Form.{Form}
use Rattle.si_certify_equations.specs.declared.form.Form.TheVariants as forms
use Rattle.si_tool.proofs.RunOutputs.{puts_output}

abbrev equations_of : Form → (graph equations : List ℕ) → Request
equations_of form graph equations = record {
  task = certifying form;
  files = graph ∷ equations ∷ [];
  choices = [];
}

-- each of the two files has one text
module _ (content : Contents) (before now : Counts) (graph equations : List ℕ) (out : SinkChange) (output : List ℕ) where
  puts : (form : Form) (a b : List ℕ) → loads content before now (graph ∷ equations ∷ []) (Ok (a ∷ b ∷ []))
      → certify_equations form graph a equations b (Ok output) → Appends out.old output out.new
      → PutsCertifiedEquations content before now form graph equations out
  puts form a b loaded means written = record {
    graph_text = a;
    equations_text = b;
    loaded = loaded;
    output = output;
    certified = certified_equations_pass form graph a equations b output means;
    written = written;
  }

  puts_equations : (form : Form) (texts : List (List ℕ)) → loads content before now (graph ∷ equations ∷ []) (Ok texts)
      → meaning (certifying form) (graph ∷ equations ∷ []) [] texts (Ok output) → Appends out.old output out.new
      → PutsCertifiedEquations content before now form graph equations out
  puts_equations forms.Equations [] loaded means written = absurd means
  puts_equations forms.Equations (a ∷ []) loaded means written = absurd means
  puts_equations forms.Equations (a ∷ b ∷ []) loaded means written = puts forms.Equations a b loaded means written
  puts_equations forms.Equations (a ∷ b ∷ c ∷ texts) loaded means written = absurd means
  puts_equations forms.Modules [] loaded means written = absurd means
  puts_equations forms.Modules (a ∷ []) loaded means written = absurd means
  puts_equations forms.Modules (a ∷ b ∷ []) loaded means written = puts forms.Modules a b loaded means written
  puts_equations forms.Modules (a ∷ b ∷ c ∷ texts) loaded means written = absurd means

pub equations_put : (words : List (String Global)) (content : Contents) (before now : Counts) (out err : SinkChange)
    (result : Status) (form : Form) (graph equations : List ℕ) → Asks words (equations_of form graph equations)
    → Ends words (loads content before now) out err result → result ≡ status.Done
    → PutsCertifiedEquations content before now form graph equations out
equations_put words content before now out err result form graph equations asks ends is =
    let run = puts_output words content before now out err result (equations_of form graph equations) asks ends is in
    puts_equations content before now graph equations out run.output form run.texts run.loaded run.means run.written
