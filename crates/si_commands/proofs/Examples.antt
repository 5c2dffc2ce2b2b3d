-- What words ask for, computed.
use Rattle.std.proofs.Common.{◌≡◌, [], ◌∷◌, refl, codes, inl, inr}
use Rattle.si_circuit.specs.declared.style.Style.TheVariants.{Complex, GeneralisedC}
use Rattle.si_commands.specs.About.{row_line}
use Rattle.si_commands.specs.Command.{form_of, number_of, row_of}
use Rattle.si_commands.specs.Form.{fill, Fit}
use Rattle.si_commands.specs.declared.task.Topic.TheVariants.{Help}
use Rattle.si_commands.specs.declared.task.Task.TheVariants.{About, Tell, Synth, Map, FromGenlib, Verilog, Replay}
use Rattle.si_commands.specs.declared.task.Task.TheVariants.{Audit}
use Rattle.si_commands.specs.declared.task.Task.TheVariants.{Exercise}
use Rattle.si_commands.specs.declared.task.Task.TheVariants.{Resolve, Insert, Structure, Equations}
use Rattle.si_commands.specs.declared.task.LibraryKind.TheVariants.{Cells, Gates}
use Rattle.si_reports.specs.declared.replay_kind.ReplayReport.TheVariants.{End, Wave}
use Rattle.si_reports.specs.declared.report_kind.Report.TheVariants.{Summary, Regions, Fold}

-- ---- what words ask for
help_by_word : fill (form_of (About Help)) [] (codes "-h" ∷ []) ≡ codes "-h" ∷ []
help_by_word = refl

check_words : fill (form_of (Tell Summary)) (codes "c.sg" ∷ []) [] ≡ codes "check" ∷ codes "c.sg" ∷ []
check_words = refl

regions_words : fill (form_of (Tell Regions)) (codes "c.sg" ∷ []) [] ≡ codes "regions" ∷ codes "c.sg" ∷ []
regions_words = refl

synth_words : fill (form_of (Synth Complex)) (codes "c.sg" ∷ []) []
    ≡ codes "synth" ∷ codes "c.sg" ∷ codes "complex" ∷ []
synth_words = refl

gc_words : fill (form_of (Synth GeneralisedC)) (codes "c.sg" ∷ []) [] ≡ codes "synth" ∷ codes "c.sg" ∷ codes "gc" ∷ []
gc_words = refl

-- a library may have any name
map_words : fill (form_of (Map Cells)) (codes "c.sg" ∷ codes "genlib" ∷ []) []
    ≡ codes "map" ∷ codes "c.sg" ∷ codes "genlib" ∷ []
map_words = refl

map_named_so : Fit (form_of (Map Cells)) (codes "c.sg" ∷ codes "genlib" ∷ []) []
map_named_so = (inr refl, refl)

map_genlib_words : fill (form_of (Map Gates)) (codes "c.sg" ∷ codes "g" ∷ []) []
    ≡ codes "map" ∷ codes "c.sg" ∷ codes "genlib" ∷ codes "g" ∷ []
map_genlib_words = refl

-- options stand behind the files
map_plain_words : fill (form_of (Map Cells)) (codes "c.sg" ∷ codes "./genlib" ∷ []) (codes "plain" ∷ [])
    ≡ codes "map" ∷ codes "c.sg" ∷ codes "./genlib" ∷ codes "plain" ∷ []
map_plain_words = refl

-- these words name a file of genlib, `plain`, and no library `genlib`
no_library : Fit (form_of (Map Cells)) (codes "c.sg" ∷ codes "genlib" ∷ []) (codes "plain" ∷ []) → ⊥
no_library (inl other, some) = cc
no_library (inr last, some) = cc

-- an option is given once
not_twice : Fit (form_of (Map Gates)) (codes "c.sg" ∷ codes "g" ∷ []) (codes "plain" ∷ codes "plain" ∷ []) → ⊥
not_twice fit = cc

map_genlib_plain_words : fill (form_of (Map Gates)) (codes "c.sg" ∷ codes "g" ∷ []) (codes "plain" ∷ [])
    ≡ codes "map" ∷ codes "c.sg" ∷ codes "genlib" ∷ codes "g" ∷ codes "plain" ∷ []
map_genlib_plain_words = refl

genlib_words : fill (form_of FromGenlib) (codes "g" ∷ []) [] ≡ codes "genlib" ∷ codes "g" ∷ []
genlib_words = refl

fold_words : fill (form_of (Tell Fold)) (codes "c.sg" ∷ []) [] ≡ codes "fold" ∷ codes "c.sg" ∷ []
fold_words = refl

verilog_words : fill (form_of Verilog) (codes "c.net" ∷ []) [] ≡ codes "verilog" ∷ codes "c.net" ∷ []
verilog_words = refl

-- with a library, in either format
structure_words : fill (form_of (Structure Cells)) (codes "c.net" ∷ codes "c.lib" ∷ []) []
    ≡ codes "verilog" ∷ codes "c.net" ∷ codes "c.lib" ∷ []
structure_words = refl

genlib_structure_words : fill (form_of (Structure Gates)) (codes "c.net" ∷ codes "g" ∷ []) []
    ≡ codes "verilog" ∷ codes "c.net" ∷ codes "genlib" ∷ codes "g" ∷ []
genlib_structure_words = refl

equations_words : fill (form_of Equations) (codes "c.net" ∷ []) [] ≡ codes "eqn" ∷ codes "c.net" ∷ []
equations_words = refl

replay_words : fill (form_of (Replay End)) (codes "c.sg" ∷ codes "c.net" ∷ codes "steps" ∷ []) []
    ≡ codes "replay" ∷ codes "c.sg" ∷ codes "c.net" ∷ codes "steps" ∷ []
replay_words = refl

wave_words : fill (form_of (Replay Wave)) (codes "c.sg" ∷ codes "c.net" ∷ codes "steps" ∷ []) []
    ≡ codes "wave" ∷ codes "c.sg" ∷ codes "c.net" ∷ codes "steps" ∷ []
wave_words = refl

audit_words : fill (form_of Audit) (codes "c.sg" ∷ codes "c.net" ∷ []) []
    ≡ codes "audit" ∷ codes "c.sg" ∷ codes "c.net" ∷ []
audit_words = refl

resolve_words : fill (form_of Resolve) (codes "c.sg" ∷ []) [] ≡ codes "resolve" ∷ codes "c.sg" ∷ []
resolve_words = refl

insert_words : fill (form_of Insert) (codes "c.sg" ∷ codes "c.net" ∷ []) []
    ≡ codes "insert" ∷ codes "c.sg" ∷ codes "c.net" ∷ []
insert_words = refl

-- a digit is chosen, and tells how many handshakes
exercise_words : fill (form_of Exercise) [] (codes "8" ∷ []) ≡ codes "exercise" ∷ codes "8" ∷ []
exercise_words = refl

exercise_number : number_of (codes "8") ≡ 8
exercise_number = refl

-- no other is
no_ninth : Fit (form_of Exercise) [] (codes "9" ∷ []) → ⊥
no_ninth fit = (let chosen = fit.0 in cc)

-- a line of the help
check_line : row_line (row_of (Tell Summary))
    ≡ codes "\n  sisyn check F                      the size of a graph, where it is proper"
check_line = refl
