-- (command) The words of the reasons why a netlist isn't certified, or a gate makes no new signal.
use Rattle.std.specs.Prelude.{ℕ, List, [], ◌∷◌, codes, decimal}
use Rattle.si_base.specs.Limits.{max_states}
use Rattle.si_refusals.specs.declared.rejection.NamedRejection.{NamedRejection}
use Rattle.si_refusals.specs.declared.rejection.NamedRejection.TheVariants.{Astray, TooMany}
use Rattle.si_refusals.specs.declared.rejection.NamedRejection.TheVariants.{NeverUp, NeverDown}
use Rattle.si_refusals.specs.declared.rejection.NamedRejection.TheVariants.{Both, Unforced}
use Rattle.si_refusals.specs.declared.rejection.NamedRejection.TheVariants.{Contrary, Leaves}
use Rattle.si_refusals.specs.declared.rejection.NamedRejection.TheVariants.{Constant}
use Rattle.si_refusals.specs.declared.rejection.NamedRejection.TheVariants.{Products, Hidden}
use Rattle.si_refusals.specs.declared.rejection.NamedRejection.TheVariants.{States, Classes}
use Rattle.si_refusals.specs.declared.rejection.NamedRejection.TheVariants.{Delays, Breaks}
use Rattle.si_refusals.specs.declared.rejection.NamedRejection.TheVariants.{TooLarge, Start, Gate}

-- the words of a reason against insertion k, which is counted from 1
abbrev pub insert_words : ℕ → List (List ℕ) → List (List ℕ)
insert_words k words = codes "insert" ∷ decimal k ∷ words

abbrev pub reason_words : NamedRejection → List (List ℕ)
reason_words (Astray signal state) = codes "astray" ∷ signal ∷ state ∷ []
reason_words TooMany = codes "states" ∷ decimal max_states ∷ []
reason_words (NeverUp k) = insert_words k (codes "never" ∷ codes "up" ∷ [])
reason_words (NeverDown k) = insert_words k (codes "never" ∷ codes "down" ∷ [])
reason_words (Both k state) = insert_words k (codes "both" ∷ state ∷ [])
reason_words (Unforced state) = codes "unforced" ∷ state ∷ []
reason_words (Contrary state) = codes "contrary" ∷ state ∷ []
reason_words (Leaves state) = codes "leaves" ∷ state ∷ []
reason_words Constant = codes "constant" ∷ []
reason_words (Products signal) = codes "products" ∷ signal ∷ []
reason_words (Hidden count) = codes "hidden" ∷ decimal count ∷ []
reason_words (States k) = insert_words k (codes "states" ∷ [])
reason_words (Classes k) = insert_words k (codes "classes" ∷ [])
reason_words (Delays k state event) = insert_words k (codes "delays" ∷ state ∷ event ∷ [])
reason_words (Breaks k state lost by) = insert_words k (codes "breaks" ∷ state ∷ lost ∷ by ∷ [])
reason_words (TooLarge k states) = insert_words k (codes "toolarge" ∷ decimal states ∷ [])
reason_words (Start signal) = codes "start" ∷ signal ∷ []
reason_words (Gate signal state) = codes "gate" ∷ signal ∷ state ∷ []
