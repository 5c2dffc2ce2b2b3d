-- What a run that is done puts on `out`: what its task means over the texts of its files.
use Rattle.std.proofs.Common.{◌≡◌, ℕ, List, [], ◌∷◌, length, Ok, String, Global, arith, subst}
use Rattle.si_io.specs.Outside.{Appends}
use Rattle.si_refusals.specs.Refusal.{Output}
use Rattle.si_refusals.specs.declared.status.Status.{Status}
use Rattle.si_refusals.specs.declared.status.Status.TheVariants as status
use Rattle.si_commands.specs.Command.{Request, Asks}
use Rattle.si_tool.specs.Loads.{Contents, Counts, loads}
use Rattle.si_tool.specs.Meaning.{ComesTo, meaning}
use Rattle.si_tool.specs.Run.{SinkChange, Ends}
use Rattle.si_commands.specs.declared.task.Task.{Task}
use Rattle.si_commands.proofs.FormOverlap.{one_request}
use Rattle.si_tool.proofs.LoadLemmas.{loads_as_many}
use Rattle.si_tool.proofs.RunLemmas.{ends_done}

-- the files were loaded, and on `out` stands what the task means over their texts
pub record PutsOutput (content : Contents) (before now : Counts) (asked : Request) (out : SinkChange) : Type 0 where
  pub texts : List (List ℕ)
  pub loaded : loads content before now asked.files (Ok texts)
  pub output : List ℕ
  pub means : meaning asked.task asked.files asked.choices texts (Ok output)
  pub written : Appends out.old output out.new

-- the same of a task of one file, which has one text
pub record PutsOfFile (content : Contents) (before now : Counts) (task : Task) (file : List ℕ)
    (choices : List (List ℕ)) (out : SinkChange) : Type 0 where
  pub text : List ℕ
  pub loaded : loads content before now (file ∷ []) (Ok (text ∷ []))
  pub output : List ℕ
  pub means : meaning task (file ∷ []) choices (text ∷ []) (Ok output)
  pub written : Appends out.old output out.new

-- and of one of two
pub record PutsOfTwo (content : Contents) (before now : Counts) (task : Task) (file other : List ℕ)
    (choices : List (List ℕ)) (out : SinkChange) : Type 0 where
  pub text : List ℕ
  pub other_text : List ℕ
  pub loaded : loads content before now (file ∷ other ∷ []) (Ok (text ∷ other_text ∷ []))
  pub output : List ℕ
  pub means : meaning task (file ∷ other ∷ []) choices (text ∷ other_text ∷ []) (Ok output)
  pub written : Appends out.old output out.new

module _ (words : List (String Global)) (content : Contents) (before now : Counts) (out err : SinkChange)
    (result : Status) where
  pub puts_output : (asked : Request) → Asks words asked → Ends words (loads content before now) out err result
      → result ≡ status.Done → PutsOutput content before now asked out
  puts_output asked asks ends is =
      let done = ends_done words (loads content before now) out err result ends is in
      let same = one_request words done.comes.asked asked done.comes.asks asks in
      let comes = subst (λ (a : Request). ComesTo (loads content before now) a (Output done.output)) same
      done.comes.comes in
      record {
        texts = comes.0;
        loaded = comes.1;
        output = done.output;
        means = comes.2;
        written = done.written;
      }

  pub puts_of_file : (task : Task) (file : List ℕ) (choices : List (List ℕ))
      → Asks words (record { task = task; files = file ∷ []; choices = choices })
      → Ends words (loads content before now) out err result → result ≡ status.Done
      → PutsOfFile content before now task file choices out
  puts_of_file task file choices asks ends is =
      let puts = puts_output (record { task = task; files = file ∷ []; choices = choices }) asks ends is in
      of_one puts.output puts.texts puts.loaded puts.means puts.written
      (loads_as_many content before now (file ∷ []) puts.texts puts.loaded)
    where
      of_one : (output : List ℕ) (texts : List (List ℕ)) → loads content before now (file ∷ []) (Ok texts)
          → meaning task (file ∷ []) choices texts (Ok output) → Appends out.old output out.new → length texts ≡ 1
          → PutsOfFile content before now task file choices out
      of_one output [] loaded means written many = absurd (omega (arith, many))
      of_one output (text ∷ []) loaded means written many = record {
        text = text;
        loaded = loaded;
        output = output;
        means = means;
        written = written;
      }
      of_one output (text ∷ more ∷ texts) loaded means written many = absurd (omega (arith, many))

  pub puts_of_two : (task : Task) (file other : List ℕ) (choices : List (List ℕ))
      → Asks words (record { task = task; files = file ∷ other ∷ []; choices = choices })
      → Ends words (loads content before now) out err result → result ≡ status.Done
      → PutsOfTwo content before now task file other choices out
  puts_of_two task file other choices asks ends is =
      let puts = puts_output (record { task = task; files = file ∷ other ∷ []; choices = choices }) asks ends is in
      of_two puts.output puts.texts puts.loaded puts.means puts.written
      (loads_as_many content before now (file ∷ other ∷ []) puts.texts puts.loaded)
    where
      of_two : (output : List ℕ) (texts : List (List ℕ)) → loads content before now (file ∷ other ∷ []) (Ok texts)
          → meaning task (file ∷ other ∷ []) choices texts (Ok output) → Appends out.old output out.new
          → length texts ≡ 2 → PutsOfTwo content before now task file other choices out
      of_two output [] loaded means written many = absurd (omega (arith, many))
      of_two output (a ∷ []) loaded means written many = absurd (omega (arith, many))
      of_two output (a ∷ b ∷ []) loaded means written many = record {
        text = a;
        other_text = b;
        loaded = loaded;
        output = output;
        means = means;
        written = written;
      }
      of_two output (a ∷ b ∷ c ∷ texts) loaded means written many = absurd (omega (arith, many))
