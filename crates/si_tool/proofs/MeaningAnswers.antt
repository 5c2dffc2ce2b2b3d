-- A command comes to one answer: by its texts, and by its files where they are told.
use Rattle.std.proofs.Common.{◌≡◌, ℕ, List, [], ◌∷◌, length, Some, None, Result, Ok, Err, Contains, ap, subst, arith}
use Rattle.std.proofs.Common.{◌⊎◌, Bool, true, false, inl, inr}
use Rattle.si_io.specs.Outside.{Rose}
use Rattle.si_commands.specs.About.{about_text}
use Rattle.si_commands.specs.Command.{Request, form_of, format_of, is_suggested, number_of}
use Rattle.si_commands.specs.Form.{Fit}
use Rattle.si_tool.specs.Loads.{Contents, Counts, loads, load_well, loads_well, AreTold}
use Rattle.si_tool.specs.Meaning.{meaning, ComesTo, IsDetermined, complements_of, mapped_by, resolved_by, together}
use Rattle.si_refusals.specs.Refusal.{TextRefusal, ReadFault, Answer, Output, FileRefused, TextRefused}
use Rattle.si_commands.specs.declared.task.Task.{Task}
use Rattle.si_commands.specs.declared.task.Topic.TheVariants.{Help, Page, Version}
use Rattle.si_commands.specs.declared.task.HelpPlace.TheVariants.{Before, Behind}
use Rattle.si_commands.specs.declared.task.Task.TheVariants.{About, Tell, Synth, Map, FromGenlib, Verilog, Replay}
use Rattle.si_commands.specs.declared.task.Task.TheVariants.{Audit, Certify, CertifyEquations}
use Rattle.si_commands.specs.declared.task.Task.TheVariants.{CertifyModules, InsertGate}
use Rattle.si_certify_equations.specs.declared.form.Form.TheVariants as forms
use Rattle.si_commands.specs.declared.task.Task.TheVariants.{Exercise}
use Rattle.si_commands.specs.declared.task.Task.TheVariants.{TellNetlist, Resolve, Insert, Same, Suggest}
use Rattle.si_commands.specs.declared.task.Task.TheVariants as task
use Rattle.si_commands.specs.declared.task.Together.{Together}
use Rattle.si_commands.specs.declared.task.Together.TheVariants as kind
use Rattle.si_readings.specs.Laws.{AtMostOne, HasResult}
use Rattle.si_commands.specs.declared.task.LibraryKind.TheVariants.{Cells, Gates}
use Rattle.si_stages.proofs.AuditLemmas.{audit_one, audit_some}
use Rattle.si_by_hand.proofs.ByHandTexts.{by_hand_one, by_hand_some}
use Rattle.si_certify.proofs.CertifyLemmas.{certify_one, certify_some}
use Rattle.si_certify_equations.proofs.CertifyLemmas as equated
use Rattle.si_exercise.proofs.ExerciseLemmas.{exercise_one, exercise_some}
use Rattle.si_stages.proofs.GenlibLemmas.{genlib_one, genlib_some}
use Rattle.si_stages.proofs.InsertedTexts.{insert_one, insert_some, resolve_one, resolve_some}
use Rattle.si_reports.proofs.MeaningLemmas.{report_one, replay_one}
use Rattle.si_stages.proofs.MeaningLemmas.{synth_one, mapping_one}
use Rattle.si_reports.proofs.MeaningLemmas.{report_some, replay_some}
use Rattle.si_stages.proofs.MeaningLemmas.{synth_some, mapping_some}
use Rattle.si_readings.proofs.StageLemmas.{gives_one, gives_some}
use Rattle.si_likeness.proofs.SameLemmas.{same_one, same_some}
use Rattle.si_joins.proofs.JoinLemmas.{join_one, join_some}
use Rattle.si_systems.proofs.ComposeLemmas.{compose_one, compose_some}
use Rattle.si_systems.proofs.ProductLemmas.{product_one, product_some}
use Rattle.si_works.proofs.WorksLemmas.{works_one, works_some}
use Rattle.si_reports.proofs.NetlistReportLemmas.{netlist_report_one, netlist_report_some}
use Rattle.si_reports.proofs.VerilogLemmas.{verilog_one, verilog_some}
use Rattle.si_exports.proofs.EquationsLemmas.{equations_one, equations_some}
use Rattle.si_exports.proofs.ResettableLemmas.{resettable_one, resettable_some}
use Rattle.si_exports.proofs.StructureLemmas.{structure_one, structure_some}
use Rattle.si_exports.proofs.TimingLemmas.{timing_one, timing_some}
use Rattle.si_commands.specs.declared.task.Task.TheVariants.{Structure, Equations, Resettable, Timing}
use Rattle.si_commands.specs.declared.task.Task.TheVariants.{ResettableStructure}
use Rattle.si_suggestion.proofs.SuggestedTexts.{map_suggested_some, resolve_suggested_some}
use Rattle.si_suggestion.proofs.SuggestionsExist.{suggest_some}
use Rattle.si_readings.specs.declared.library_format.LibraryFormat.{LibraryFormat}
use Rattle.si_tool.proofs.LoadLemmas.{all_one, all_some, all_or_fault, as_many}
use Rattle.si_commands.proofs.CommandTasks.{few_handshakes}
use Rattle.si_commands.proofs.FormLemmas.{count_of_files}

-- ---- the insertions that are asked for
resolved_one : (suggested : Bool) (file text : List ℕ) → suggested ≡ false → AtMostOne (resolved_by suggested file text)
resolved_one true file text rule = cc
resolved_one false file text rule = resolve_one file text

resolved_some : (suggested : Bool) (file text : List ℕ) → HasResult (resolved_by suggested file text)
resolved_some true file text = resolve_suggested_some file text
resolved_some false file text = resolve_some file text

mapped_one : (suggested : Bool) (format : LibraryFormat) (g a l b : List ℕ) → suggested ≡ false
    → AtMostOne (mapped_by suggested format g a l b)
mapped_one true format g a l b rule = cc
mapped_one false format g a l b rule = mapping_one format g a l b

mapped_some : (suggested : Bool) (format : LibraryFormat) (g a l b : List ℕ)
    → HasResult (mapped_by suggested format g a l b)
mapped_some true format g a l b = map_suggested_some format g a l b
mapped_some false format g a l b = mapping_some format g a l b

-- ---- of controllers together
together_one : (what : Together) (files texts : List (List ℕ)) → AtMostOne (together what files texts)
together_one kind.Product files texts = product_one files texts
together_one kind.Compose files texts = compose_one files texts
together_one kind.Join files texts = join_one files texts
together_one kind.Works files texts = works_one files texts

together_some : (what : Together) (files texts : List (List ℕ)) → HasResult (together what files texts)
together_some kind.Product files texts = product_some files texts
together_some kind.Compose files texts = compose_some files texts
together_some kind.Join files texts = join_some files texts
together_some kind.Works files texts = works_some files texts

-- ---- by their texts: to one answer at most
pub meaning_one : (task : Task) (files choices texts : List (List ℕ)) → IsDetermined task choices
    → AtMostOne (meaning task files choices texts)
meaning_one (Suggest style) files choices texts one = absurd one
meaning_one (About topic) [] choices [] one = gives_one (about_text topic choices)
meaning_one (Tell what) (file ∷ []) choices (text ∷ []) one = report_one what file text
meaning_one (Synth style) (file ∷ []) choices (text ∷ []) one = synth_one style file text
meaning_one (Map kind) (g ∷ l ∷ []) options (a ∷ b ∷ []) one =
    mapped_one (is_suggested options) (format_of kind options) g a l b one
meaning_one FromGenlib (file ∷ []) choices (text ∷ []) one = genlib_one file text
meaning_one Verilog (file ∷ []) choices (text ∷ []) one = verilog_one file text
meaning_one Resettable (file ∷ []) (name ∷ []) (text ∷ []) one = resettable_one file text name
meaning_one (Structure kind) (n ∷ l ∷ []) options (a ∷ b ∷ []) one =
    structure_one (format_of kind options) (complements_of options) None n a l b
meaning_one (ResettableStructure kind) (n ∷ l ∷ []) (name ∷ options) (a ∷ b ∷ []) one =
    structure_one (format_of kind options) (complements_of options) (Some name) n a l b
meaning_one Equations (file ∷ []) choices (text ∷ []) one = equations_one file text
meaning_one (Timing kind) (n ∷ l ∷ []) options (a ∷ b ∷ []) one = timing_one (format_of kind options) n a l b
meaning_one (TellNetlist what) (file ∷ []) choices (text ∷ []) one = netlist_report_one what file text
meaning_one (Replay what) (g ∷ n ∷ s ∷ []) choices (a ∷ b ∷ c ∷ []) one = replay_one what g a n b s c
meaning_one Audit (g ∷ n ∷ []) choices (a ∷ b ∷ []) one = audit_one g a n b
meaning_one Certify (g ∷ n ∷ []) choices (a ∷ b ∷ []) one = certify_one g a n b
meaning_one CertifyEquations (g ∷ e ∷ []) choices (a ∷ b ∷ []) one = equated.answers_are_one forms.Equations g a e b
meaning_one CertifyModules (g ∷ m ∷ []) choices (a ∷ b ∷ []) one = equated.answers_are_one forms.Modules g a m b
meaning_one Resolve (file ∷ []) options (text ∷ []) one = resolved_one (is_suggested options) file text one
meaning_one Insert (g ∷ n ∷ []) choices (a ∷ b ∷ []) one = insert_one g a n b
meaning_one InsertGate (g ∷ x ∷ []) choices (a ∷ b ∷ []) one = by_hand_one g a x b
meaning_one Same (f ∷ g ∷ []) choices (a ∷ b ∷ []) one = same_one f a g b
meaning_one (task.Together what) files choices texts one = together_one what files texts
meaning_one Exercise [] (digit ∷ []) [] one = exercise_one (number_of digit)
meaning_one task files choices texts one = λ a b first second. absurd first

-- ---- and to some answer, where a task has the files and choices of its form, and each file its text
pub meaning_some : (task : Task) (files choices texts : List (List ℕ)) → Fit (form_of task) files choices
    → length texts ≡ length files → HasResult (meaning task files choices texts)
meaning_some (About Help) [] choices [] fit each = gives_some (about_text Help choices)
meaning_some (About (Page Before)) [] choices [] fit each = gives_some (about_text (Page Before) choices)
meaning_some (About (Page Behind)) [] choices [] fit each = gives_some (about_text (Page Behind) choices)
meaning_some (About Version) [] choices [] fit each = gives_some (about_text Version choices)
meaning_some (Tell what) (file ∷ []) choices (text ∷ []) fit each = report_some what file text
meaning_some (Synth style) (file ∷ []) choices (text ∷ []) fit each = synth_some style file text
meaning_some (Suggest style) (file ∷ []) choices (text ∷ []) fit each = suggest_some style file text
meaning_some (Map Cells) (g ∷ l ∷ []) options (a ∷ b ∷ []) fit each =
    mapped_some (is_suggested options) (format_of Cells options) g a l b
meaning_some (Map Gates) (g ∷ l ∷ []) options (a ∷ b ∷ []) fit each =
    mapped_some (is_suggested options) (format_of Gates options) g a l b
meaning_some FromGenlib (file ∷ []) choices (text ∷ []) fit each = genlib_some file text
meaning_some Verilog (file ∷ []) choices (text ∷ []) fit each = verilog_some file text
meaning_some Resettable (file ∷ []) (name ∷ []) (text ∷ []) fit each = resettable_some file text name fit.0
meaning_some (Structure Cells) (n ∷ l ∷ []) options (a ∷ b ∷ []) fit each =
    structure_some (format_of Cells options) (complements_of options) None n a l b tt
meaning_some (Structure Gates) (n ∷ l ∷ []) options (a ∷ b ∷ []) fit each =
    structure_some (format_of Gates options) (complements_of options) None n a l b tt
meaning_some (ResettableStructure Cells) (n ∷ l ∷ []) (name ∷ options) (a ∷ b ∷ []) fit each =
    structure_some (format_of Cells options) (complements_of options) (Some name) n a l b fit.1.0
meaning_some (ResettableStructure Gates) (n ∷ l ∷ []) (name ∷ options) (a ∷ b ∷ []) fit each =
    structure_some (format_of Gates options) (complements_of options) (Some name) n a l b fit.0
meaning_some Equations (file ∷ []) choices (text ∷ []) fit each = equations_some file text
meaning_some (Timing Cells) (n ∷ l ∷ []) options (a ∷ b ∷ []) fit each =
    timing_some (format_of Cells options) n a l b
meaning_some (Timing Gates) (n ∷ l ∷ []) options (a ∷ b ∷ []) fit each =
    timing_some (format_of Gates options) n a l b
meaning_some (TellNetlist what) (file ∷ []) choices (text ∷ []) fit each = netlist_report_some what file text
meaning_some (Replay what) (g ∷ n ∷ s ∷ []) choices (a ∷ b ∷ c ∷ []) fit each = replay_some what g a n b s c
meaning_some Audit (g ∷ n ∷ []) choices (a ∷ b ∷ []) fit each = audit_some g a n b
meaning_some Certify (g ∷ n ∷ []) choices (a ∷ b ∷ []) fit each = certify_some g a n b
meaning_some CertifyEquations (g ∷ e ∷ []) choices (a ∷ b ∷ []) fit each = equated.answers_exist forms.Equations g a e b
meaning_some CertifyModules (g ∷ m ∷ []) choices (a ∷ b ∷ []) fit each = equated.answers_exist forms.Modules g a m b
meaning_some Resolve (file ∷ []) options (text ∷ []) fit each = resolved_some (is_suggested options) file text
meaning_some Insert (g ∷ n ∷ []) choices (a ∷ b ∷ []) fit each = insert_some g a n b
meaning_some InsertGate (g ∷ x ∷ []) choices (a ∷ b ∷ []) fit each = by_hand_some g a x b
meaning_some Same (f ∷ g ∷ []) choices (a ∷ b ∷ []) fit each = same_some f a g b
meaning_some (task.Together what) files choices texts fit each = together_some what files texts
meaning_some Exercise [] (digit ∷ []) [] fit each =
    exercise_some (number_of digit) (few_handshakes digit fit.0)
meaning_some task files choices texts fit each =
    let many = count_of_files (form_of task).places (form_of task).tail files choices fit in
    absurd (omega (arith, many.low, many.high, each))

-- ---- by their files: to one answer at most
pub command_one : (content : Contents) (asked : Request) (a b : Answer) → IsDetermined asked.task asked.choices
    → AreTold content asked.files → ComesTo (loads_well content) asked a → ComesTo (loads_well content) asked b → a ≡ b
command_one content asked a b determined told = by a b
  where
    loaded_one : AtMostOne (loads_well content asked.files)
    loaded_one = all_one content asked.files told

    texts_one : (texts others : List (List ℕ)) (r q : Result (List ℕ) TextRefusal)
        → loads_well content asked.files (Ok texts) → loads_well content asked.files (Ok others)
        → meaning asked.task asked.files asked.choices texts r → meaning asked.task asked.files asked.choices others q → r ≡ q
    texts_one texts others r q one other means also =
        let same = loaded_one (Ok texts) (Ok others) one other in
        let same_texts : texts ≡ others = cc in
        let Means : List (List ℕ) → Type 0 = λ ts. meaning asked.task asked.files asked.choices ts r in
        meaning_one asked.task asked.files asked.choices others determined r q (subst Means same_texts means) also

    by : (a b : Answer) → ComesTo (loads_well content) asked a → ComesTo (loads_well content) asked b → a ≡ b
    by (Output t) (Output u) x y = (let same = texts_one x.0 y.0 (Ok t) (Ok u) x.1 y.1 x.2 y.2 in cc)
    by (Output t) (TextRefused q) x y = (let same = texts_one x.0 y.0 (Ok t) (Err q) x.1 y.1 x.2 y.2 in cc)
    by (TextRefused r) (Output u) x y = (let same = texts_one x.0 y.0 (Err r) (Ok u) x.1 y.1 x.2 y.2 in cc)
    by (TextRefused r) (TextRefused q) x y = (let same = texts_one x.0 y.0 (Err r) (Err q) x.1 y.1 x.2 y.2 in cc)
    by (FileRefused r) (FileRefused q) x y = (let same = loaded_one (Err r) (Err q) x y in cc)
    by (FileRefused r) (Output u) x y = (let same = loaded_one (Err r) (Ok y.0) x y.1 in cc)
    by (FileRefused r) (TextRefused q) x y = (let same = loaded_one (Err r) (Ok y.0) x y.1 in cc)
    by (Output t) (FileRefused q) x y = (let same = loaded_one (Ok x.0) (Err q) x.1 y in cc)
    by (TextRefused r) (FileRefused q) x y = (let same = loaded_one (Ok x.0) (Err q) x.1 y in cc)

-- where loads may meet faults: to what it comes to without them, or to a fault that was counted
pub record IsReadFault (before now : Counts) (files : List (List ℕ)) (a : Answer) : Type 0 where
  pub file : List ℕ
  pub named : Contains files file
  pub rose : Rose (before file) (now file)
  pub is : a ≡ FileRefused (ReadFault file)

texts_well : (content : Contents) (before now : Counts) (files texts : List (List ℕ))
    → loads content before now files (Ok texts) → loads_well content files (Ok texts)
texts_well content before now files texts is = elim (all_or_fault content before now files (Ok texts) is) [
  | inl well ↦ well
  | inr fault ↦ (let fault_is = fault.is in cc)
]

pub command_or_fault : (content : Contents) (before now : Counts) (asked : Request) (a : Answer)
    → ComesTo (loads content before now) asked a
    → ComesTo (loads_well content) asked a ⊎ IsReadFault before now asked.files a
command_or_fault content before now asked (Output t) is =
    inl (is.0, texts_well content before now asked.files is.0 is.1, is.2)
command_or_fault content before now asked (TextRefused r) is =
    inl (is.0, texts_well content before now asked.files is.0 is.1, is.2)
command_or_fault content before now asked (FileRefused r) is =
    elim (all_or_fault content before now asked.files (Err r) is) [
      | inl well ↦ inl well
      | inr fault ↦ (
          let fault_is = fault.is in
          let same : r ≡ ReadFault fault.file = cc in
          inr (record { file = fault.file; named = fault.named; rose = fault.rose; is = ap FileRefused same })
          )
    ]

-- ---- told files come to some answer
pub command_some : (content : Contents) (asked : Request)
    → Fit (form_of asked.task) asked.files asked.choices → AreTold content asked.files
    → (a : Answer) × ComesTo (loads_well content) asked a
command_some content asked fit told = go (all_some content asked.files told)
  where
    answered : (texts : List (List ℕ)) → loads_well content asked.files (Ok texts)
        → HasResult (meaning asked.task asked.files asked.choices texts) → (a : Answer) × ComesTo (loads_well content) asked a
    answered texts are (Ok output, means) = (Output output, (texts, are, means))
    answered texts are (Err refusal, means) = (TextRefused refusal, (texts, are, means))

    go : HasResult (loads_well content asked.files) → (a : Answer) × ComesTo (loads_well content) asked a
    go (Err refusal, is) = (FileRefused refusal, is)
    go (Ok texts, is) =
        answered texts is (meaning_some asked.task asked.files asked.choices texts fit
        (as_many (load_well content) asked.files texts is))
