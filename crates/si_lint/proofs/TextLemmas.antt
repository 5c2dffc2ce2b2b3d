-- The text, kind by kind.
use Rattle.std.proofs.Common.{◌≡◌, ℕ, ◌∙◌, List, [], ◌∷◌, ◌++◌, sym, ap, arith}
use Rattle.std.proofs.Common.{codes, refl, inl, inr}
use Rattle.std.proofs.lemmas.List.{append-nil}
use Rattle.std.proofs.lemmas.Option.{slice_get_within}
use Rattle.si_base.specs.declared.ids.Event.{Event}
use Rattle.si_base.specs.declared.graph.Edge.{Edge}
use Rattle.si_base.specs.declared.graph.Signal.{Signal}
use Rattle.si_base.specs.Graph.{StateGraph, IsGraph}
use Rattle.si_base.specs.Codes.{CodedGraph, IsCoded}
use Rattle.si_base.specs.Proper.{Loss, IsConflict}
use Rattle.si_base.specs.Words.{line, text_of}
use Rattle.si_base.proofs.StepCodes.{step_within}
use Rattle.si_carried.specs.Lint.{IsOneWay, Withdraws, IsSameCode}
use Rattle.si_lint.specs.Findings.{IsMerged, IsUnresolvable, Findings, AreFindings}
use Rattle.si_lint.specs.LintText.{unused_line, dead_line, one_way_line, loss_line, pair_line, told_count}
use Rattle.si_told.specs.ToldLines.{kind_lines}
use Rattle.si_lint.specs.LintText.{lint_text, IsLintText}
use Rattle.si_told.specs.ToldLines.{dropped_line, told_line}
use Rattle.si_told.specs.Loops.Lines.{AddsLines, ArcIsWithin, LossIsWithin}
use Rattle.si_lint.specs.Loops.Lines.{PairIsWithin}
use Rattle.si_lint.proofs.LintTexts.{some_ways, ways_are_walks}

pub arc_is_within : (g : StateGraph) → IsGraph g → (a : Edge) → IsOneWay g a → ArcIsWithin g a
arc_is_within g is a way = step_within g a.from a.event a.to is way.step

pub loss_is_within : (g : StateGraph) → IsGraph g → (b : Loss) → Withdraws g b → LossIsWithin g b
loss_is_within g is b w =
    let by = step_within g b.s b.by w.after.0 is w.after.1 in
    (by.0, slice_get_within g.signals b.lost.sig w.signal w.named, by.1)

pub same_is_within : (c : CodedGraph) (n : ℕ) → n ≡ c.graph.states → (p : ℕ × ℕ) → IsSameCode c p → PairIsWithin n p
same_is_within c n size p is = (omega (arith, is.order, is.within, size), omega (arith, is.within, size))

pub merged_is_within : (c : CodedGraph) (n : ℕ) → n ≡ c.graph.states → (p : ℕ × ℕ) → IsMerged c p → PairIsWithin n p
merged_is_within c n size p is =
    (omega (arith, is.least.alike.other_within, size), omega (arith, is.least.alike.one_within, size))

pub unresolvable_is_within : (c : CodedGraph) (n : ℕ) → n ≡ c.graph.states → (p : ℕ × ℕ) → IsUnresolvable c p
    → PairIsWithin n p
unresolvable_is_within c n size p is = elim is [
  | inl twins ↦ inside twins.1.conflict
  | inr large ↦ inside large.1.joined.conflict
]
  where
    inside : IsConflict c p → PairIsWithin n p
    inside conflict = (omega (arith, conflict.order, conflict.within, size), omega (arith, conflict.within, size))

-- the text that the calls make
pub text_by_calls : (c : CodedGraph) (states dropped : List (List ℕ)) (f : Findings) (known : List Signal) (count : ℕ)
    (t0 t1 t2 t3 t4 t5 t6 t7 t8 t9 t10 : List ℕ) → IsCoded c → AreFindings c f → known ≡ c.graph.signals
    → count ≡ told_count dropped f → t0 ≡ codes "" → t1 ≡ t0 ++ line (told_line count)
    → t2 ≡ t1 ++ text_of (kind_lines dropped_line dropped)
    → t3 ≡ t2 ++ text_of (kind_lines (unused_line known) f.unused)
    → AddsLines c.graph (λ walk. kind_lines (dead_line c.graph.signals states walk) f.dead) t3 t4
    → AddsLines c.graph (λ walk. kind_lines (one_way_line c.graph.signals states walk) f.one_way) t4 t5
    → t6 ≡ t5 ++ text_of (kind_lines (loss_line (codes "choice") c.graph.signals states) f.choices)
    → t7 ≡ t6 ++ text_of (kind_lines (loss_line (codes "disabled") c.graph.signals states) f.disablings)
    → t8 ≡ t7 ++ text_of (kind_lines (pair_line (codes "samecode") states) f.same_codes)
    → t9 ≡ t8 ++ text_of (kind_lines (pair_line (codes "alike") states) f.merged)
    → t10 ≡ t9 ++ text_of (kind_lines (pair_line (codes "unresolvable") states) f.unresolvable)
    → IsLintText c states dropped t10
unfolding lint_text
text_by_calls c states dropped f known count t0 t1 t2 t3 t4 t5 t6 t7 t8 t9 t10 coded are signals counted e0 e1 e2 e3
    e4 e5 e6 e7 e8 e9 e10 =
    let some = some_ways c.graph coded.connected in
    record {
      findings = f;
      are = are;
      walk = some.0;
      walks = ways_are_walks c.graph some.0 coded.deterministic some.1;
      text_is = text_is some.0 (e4 some.0 some.1) (e5 some.0 some.1);
    }
  where
    head : t1 ≡ text_of (told_line (told_count dropped f) ∷ [])
    head = e1 ∙ rw (e0, counted) (sym (append-nil (line (told_line (told_count dropped f)))))

    unused : t3 ≡ t2 ++ text_of (kind_lines (unused_line c.graph.signals) f.unused)
    unused = e3 ∙ ap (λ (l : List Signal). t2 ++ text_of (kind_lines (unused_line l) f.unused)) signals

    text_is : (walk : ℕ → List Event)
        → t4 ≡ t3 ++ text_of (kind_lines (dead_line c.graph.signals states walk) f.dead)
        → t5 ≡ t4 ++ text_of (kind_lines (one_way_line c.graph.signals states walk) f.one_way)
        → t10 ≡ lint_text c.graph.signals states dropped walk f
    text_is walk dead one_way = rw (e10, e9, e8, e7, e6, one_way, dead, unused, e2, head) refl
