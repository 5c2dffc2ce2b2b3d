-- Lines of refusals, and their statuses, computed.
use Rattle.std.proofs.Common.{◌≡◌, [], ◌∷◌, ◌++◌, refl, codes, append_assoc}
use Rattle.std.specs.Prelude.{decimal}
use Rattle.si_base.specs.declared.fault.TextKind.TheVariants.{Repeated}
use Rattle.si_base.specs.Netlist.{Insertion}
use Rattle.si_system.specs.declared.verdict.Verdict.TheVariants.{Lost}
use Rattle.si_refusals.specs.Ending.{Usage, Answered, line_of, status_of}
use Rattle.si_refusals.specs.Refusal.{FileRefused, TextRefused, TooLong}
use Rattle.si_refusals.specs.Refusal.{BadText, ListsDiffer, Improper, Unresolved, Differs, Rejected}
use Rattle.si_refusals.specs.Refusal.{Uncomposed, Interfering, Uncertified, JoinedTooLarge, Complemented}
use Rattle.si_refusals.specs.declared.breach.NamedBreach.TheVariants.{Inconsistent}
use Rattle.si_refusals.specs.declared.rejection.NamedRejection.TheVariants.{Delays, Start, Gate}
use Rattle.si_refusals.specs.declared.rejection.NamedRejection.TheVariants.{Astray, TooMany, Both, Leaves}
use Rattle.si_refusals.specs.declared.rejection.NamedRejection.TheVariants.{Products}
use Rattle.si_refusals.specs.declared.uncomposed.NamedCause.TheVariants.{Interferes}
use Rattle.si_refusals.specs.declared.status.Status.TheVariants as status

abbrev one_insertion : Insertion
one_insertion =
    record { name = codes "csc0"; up = codes "s6" ∷ codes "s7" ∷ []; down = codes "s1" ∷ [] }

-- ---- lines of refusals, and their statuses
usage_line : line_of Usage ≡ codes "usage\n"
usage_line = refl

long_line : line_of (Answered (FileRefused (TooLong (codes "c.sg")))) ≡ codes "toolong c.sg\n"
long_line = refl

fault_line : line_of (Answered (TextRefused (BadText (codes "c.net") 12 Repeated)))
    ≡ codes "badtext c.net " ++ decimal 12 ++ codes " Repeated\n"
fault_line = simp append_assoc

lists_line : line_of (Answered (TextRefused (ListsDiffer (codes "c.net") 1)))
    ≡ codes "lists c.net " ++ decimal 1 ++ codes "\n"
lists_line = simp append_assoc

lists_status : status_of (Answered (TextRefused (ListsDiffer (codes "c.net") 1))) ≡ status.BadText
lists_status = refl

lost_line : line_of (Answered (TextRefused (Differs 2 (codes "c") (Lost 2))))
    ≡ codes "differs " ++ decimal 2 ++ codes " c lost\n"
lost_line = simp append_assoc

-- reasons against a netlist
gate_line : line_of (Answered (TextRefused (Rejected (Gate (codes "c") (codes "s1")))))
    ≡ codes "rejected gate c s1\n"
gate_line = refl

delays_line : line_of (Answered (TextRefused (Rejected (Delays 1 (codes "s5") (codes "DSr-")))))
    ≡ codes "rejected insert " ++ decimal 1 ++ codes " delays s5 DSr-\n"
delays_line = simp append_assoc

astray_line : line_of (Answered (TextRefused (Rejected (Astray (codes "LDS") (codes "s0@1")))))
    ≡ codes "rejected astray LDS s0@1\n"
astray_line = refl

too_many_line : line_of (Answered (TextRefused (Rejected TooMany)))
    ≡ codes "rejected states " ++ decimal 262144 ++ codes "\n"
too_many_line = simp append_assoc

both_line : line_of (Answered (TextRefused (Rejected (Both 2 (codes "s3@1")))))
    ≡ codes "rejected insert " ++ decimal 2 ++ codes " both s3@1\n"
both_line = simp append_assoc

leaves_line : line_of (Answered (TextRefused (Rejected (Leaves (codes "s3"))))) ≡ codes "rejected leaves s3\n"
leaves_line = refl

products_line : line_of (Answered (TextRefused (Rejected (Products (codes "z"))))) ≡ codes "rejected products z\n"
products_line = refl

rejected_status : status_of (Answered (TextRefused (Rejected (Start (codes "csc0"))))) ≡ status.Rejected
rejected_status = refl

-- breaches and conflicts, by their names
inconsistent_line : line_of (Answered (TextRefused (Improper (Inconsistent (codes "a"))))) ≡ codes "inconsistent a\n"
inconsistent_line = refl

conflict_line : line_of (Answered (TextRefused (Unresolved (codes "s0") (codes "s2") [])))
    ≡ codes "unresolved s0 s2\n"
conflict_line = refl

-- what is left after an insertion, and the insertion
left_line : line_of (Answered (TextRefused (Unresolved (codes "s3@1") (codes "s10@1") (one_insertion ∷ []))))
    ≡ codes "unresolved s3@1 s10@1 | csc0 up s6 s7 down s1\n"
left_line = refl

-- two graphs that don't fit together: their states, the event, and a walk there
interferes_line : line_of (Answered (TextRefused (Uncomposed
    (Interferes (codes "s2" ∷ codes "t1" ∷ []) (codes "a+") (codes "r+" ∷ codes "b+" ∷ [])))))
    ≡ codes "interferes s2 t1 a+ r+ b+\n"
interferes_line = refl

-- a group of parts that don't: the event, the files of its driver and of the graph that refuses it,
-- and each file with its state
interfering_line : line_of (Answered (TextRefused (Interfering (codes "a+") (codes "f.sg") (codes "g.sg")
    (codes "f.sg" ∷ codes "s2" ∷ codes "g.sg" ∷ codes "t1" ∷ []))))
    ≡ codes "interferes a+ f.sg g.sg f.sg s2 g.sg t1\n"
interfering_line = refl

uncertified_line : line_of (Answered (TextRefused (Uncertified (codes "c.net") (Gate (codes "c") (codes "s1")))))
    ≡ codes "uncertified c.net gate c s1\n"
uncertified_line = refl

uncertified_status : status_of (Answered (TextRefused (Uncertified (codes "c.net") (Start (codes "csc0")))))
    ≡ status.Unjoined
uncertified_status = refl

too_large_line : line_of (Answered (TextRefused (JoinedTooLarge (codes "csc0") 300000)))
    ≡ codes "toolarge csc0 " ++ decimal 300000 ++ codes "\n"
too_large_line = simp append_assoc

complemented_line : line_of (Answered (TextRefused (Complemented (codes "c") (codes "AND2") (codes "b"))))
    ≡ codes "complemented c AND2 b\n"
complemented_line = refl

complemented_status : status_of (Answered (TextRefused (Complemented (codes "c") (codes "AND2") (codes "b"))))
    ≡ status.Unplaced
complemented_status = refl
