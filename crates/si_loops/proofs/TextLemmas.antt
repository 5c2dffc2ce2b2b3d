-- The text of loops: what is still to add, and that there is one.
use Rattle.std.proofs.Common.{◌≡◌, ℕ, suc, ◌+◌, ◌<◌, List, [], ◌∷◌, ◌++◌, map, drop, length, get_or, refl, sym, ap, ap₂}
use Rattle.std.proofs.Common.{◌∙◌, add-one, append_assoc, codes, decimal}
use Rattle.std.proofs.Math.Seq.{drop-cons}
use Rattle.si_base.specs.declared.graph.Signal.{Signal}
use Rattle.si_base.specs.Graph.{name_of}
use Rattle.si_base.specs.Netlist.{Netlist}
use Rattle.si_base.specs.Words.{line, text_of}
use Rattle.si_loops.specs.declared.arcs.Arc.{Arc}
use Rattle.si_loops.specs.Arcs.{arcs_of}
use Rattle.si_loops.specs.LoopsText.{cut_line, loops_text, IsLoopsText}
use Rattle.si_loops.proofs.Cutting.{splits_are_one}
use Rattle.si_loops.proofs.Deciding.{splits_exist}

-- the lines of the arcs from the i-th on
abbrev pub cuts_from : List Signal → List Arc → ℕ → List ℕ
cuts_from signals cut i = text_of (map (cut_line signals) (drop i cut))

pub cut_more : (signals : List Signal) (cut : List Arc) (i : ℕ) (a : Arc) (gate pin old text new : List ℕ)
    → i < length cut → a ≡ get_or cut i a → text ++ cuts_from signals cut i ≡ old → gate ≡ name_of signals a.to
    → pin ≡ name_of signals a.from → new ≡ text ++ line (codes "cut" ∷ gate ∷ pin ∷ [])
    → new ++ cuts_from signals cut (i + 1) ≡ old
cut_more signals cut i a gate pin old text new within at so_far first second is =
    let line_of : Arc → List ℕ = λ b. line (cut_line signals b) in
    let written : List ℕ = line (codes "cut" ∷ gate ∷ pin ∷ []) in
    let here : written ≡ line_of (get_or cut i a) =
    ap₂ (λ (g p : List ℕ). line (codes "cut" ∷ g ∷ p ∷ [])) first second ∙ ap line_of at in
    let left : cuts_from signals cut i ≡ written ++ cuts_from signals cut (i + 1) =
    ap (λ (l : List Arc). text_of (map (cut_line signals) l)) (drop-cons cut i a within)
    ∙ ap (λ (t : List ℕ). t ++ cuts_from signals cut (suc i)) (sym here) ∙ rw add-one refl in
    ap (λ (t : List ℕ). t ++ cuts_from signals cut (i + 1)) is
    ∙ append_assoc text written (cuts_from signals cut (i + 1))
    ∙ ap (λ (t : List ℕ). text ++ t) (sym left) ∙ so_far

pub loops_by_calls : (signals : List Signal) (arcs count : ℕ) (cut : List Arc) (empty first second all : List ℕ)
    → count ≡ length cut → empty ≡ codes "" → first ≡ empty ++ line (codes "arcs" ∷ decimal arcs ∷ [])
    → second ≡ first ++ line (codes "cut" ∷ decimal count ∷ []) → all ≡ second ++ cuts_from signals cut 0
    → all ≡ loops_text signals arcs cut
unfolding loops_text
loops_by_calls signals arcs count cut empty first second all e0 e1 e2 e3 e4 = rw (e4, e3, e2, e1, e0)
    (append_assoc (line (codes "arcs" ∷ decimal arcs ∷ [])) (line (codes "cut" ∷ decimal (length cut) ∷ [])) (cuts_from signals cut 0))

-- ---- one text
pub one_text : (n : Netlist) (text other : List ℕ) → IsLoopsText n text → IsLoopsText n other → text ≡ other
one_text n text other a b =
    let same = splits_are_one (arcs_of n) a.kept b.kept a.cut b.cut a.split b.split in
    a.text_is ∙ ap (loops_text n.signals (length (arcs_of n))) same.1 ∙ sym b.text_is

pub some_text : (n : Netlist) → (text : List ℕ) × IsLoopsText n text
some_text n =
    let s = splits_exist (arcs_of n) in
    (loops_text n.signals (length (arcs_of n)) s.1, record { kept = s.0; cut = s.1; split = s.2; text_is = refl })
