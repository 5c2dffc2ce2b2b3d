-- A run of `exercise` is refused by no file and no text.
use Rattle.std.proofs.Common.{◌≡◌, ℕ, List, [], ◌∷◌, Err, String, Global, refl, sym, subst, inl, inr}
use Rattle.si_refusals.specs.Ending.{Ending, NoMemory, Usage, WriteFault, Answered, status_of}
use Rattle.si_refusals.specs.Refusal.{TextRefusal, Output, FileRefused, TextRefused}
use Rattle.si_refusals.specs.declared.status.Status.{Status}
use Rattle.si_commands.specs.Command.{Request, Asks}
use Rattle.si_commands.specs.declared.task.Task.TheVariants.{Exercise}
use Rattle.si_tool.specs.Laws.{IsUnrefused}
use Rattle.si_tool.specs.Loads.{Contents, Counts, loads}
use Rattle.si_tool.specs.Meaning.{meaning}
use Rattle.si_tool.specs.Run.{SinkChange, MayEnd, Ends}
use Rattle.si_commands.proofs.FormOverlap.{one_request}

abbrev exercise_of : (digit : List ℕ) → Request
exercise_of digit = record { task = Exercise; files = []; choices = digit ∷ [] }

no_text : (digit : List ℕ) (texts : List (List ℕ)) (r : TextRefusal)
    → meaning Exercise [] (digit ∷ []) texts (Err r) → ⊥
no_text digit [] r means = means
no_text digit (text ∷ texts) r means = means

module _ (words : List (String Global)) (content : Contents) (before now : Counts) (out : SinkChange)
    (digit : List ℕ) (asks : Asks words (exercise_of digit)) where
  by_ending : (e : Ending) → MayEnd words (loads content before now) out e → IsUnrefused (status_of e)
  by_ending NoMemory may = inr (inl refl)
  by_ending Usage may = absurd (may.0 (exercise_of digit) asks)
  by_ending WriteFault may = inr (inr refl)
  by_ending (Answered (Output text)) may = inl refl
  by_ending (Answered (FileRefused r)) may =
      let same : may.0.asked ≡ exercise_of digit = one_request words may.0.asked (exercise_of digit) may.0.asks asks in
      let comes = subst (λ (a : Request). loads content before now a.files (Err r)) same may.0.comes in
      absurd comes
  by_ending (Answered (TextRefused r)) may =
      let same : may.0.asked ≡ exercise_of digit = one_request words may.0.asked (exercise_of digit) may.0.asks asks in
      let texts = may.0.comes.0 in
      absurd (no_text digit texts r (subst (λ (a : Request). meaning a.task a.files a.choices texts (Err r)) same may.0.comes.2))

pub exercise_unrefused : (words : List (String Global)) (content : Contents) (before now : Counts)
    (out err : SinkChange) (result : Status) (digit : List ℕ) → Asks words (exercise_of digit)
    → Ends words (loads content before now) out err result → IsUnrefused result
exercise_unrefused words content before now out err result digit asks ends =
    subst IsUnrefused (sym ends.puts.status_is)
    (by_ending words content before now out digit asks ends.ending ends.may)
