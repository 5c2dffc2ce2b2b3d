-- All insertions of all parts, part after part: each is an insertion of the whole, or one is refused for
-- its use or for its room.
use Rattle.std.proofs.Common.{◌≡◌, ℕ, ◌<◌, ◌≤◌, ◌+◌, List, [], ◌∷◌, length, slice_get}
use Rattle.std.proofs.Common.{IsTrue, Some, Ok, Err, refl, sym, ap, subst, ◌∙◌, arith, inl, inr}
use Rattle.std.proofs.lemmas.Bool.{cases_eq}
use Rattle.std.proofs.lemmas.List.{append-nil, length_push}
use Rattle.std.proofs.lemmas.List.Elements.{All-head, All-tail}
use Rattle.si_base.specs.declared.graph.Signal.{Signal}
use Rattle.si_base.specs.Codes.{CodedGraph}
use Rattle.si_base.specs.GivenGraph.{Sg}
use Rattle.si_base.specs.Netlist.{Insertion, Netlist}
use Rattle.si_base.specs.Words.{is_signal_name}
use Rattle.si_insert.specs.Built.{IsBuilt}
use Rattle.si_insert.specs.Lineage.{Current, History, IsLineage, given_current, given_history, origin}
use Rattle.si_insert.specs.declared.lineage.TraceStep.{TraceStep}
use Rattle.si_insert.proofs.LineageTraceLength.{AreNamed}
use Rattle.si_audit.specs.Audit.{TakesAll}
use Rattle.si_audit.specs.Laws.{CanBeAudited}
use Rattle.si_audit.proofs.OneAudit.{spelled_first, spelled_next}
use Rattle.si_audit.proofs.StateWords.{HasStateNames}
use Rattle.si_joins.specs.Lifted.{PartView, names_in_part}
use Rattle.si_joins.specs.Loops.Parts.{AreLinesNamed}
use Rattle.si_joins.specs.Steps.{along, numbered, with_line, with_part}
use Rattle.si_joins.proofs.LineLemmas.{lines_named}
use Rattle.si_readings.proofs.StageLemmas.{no_refusal, one_value, passed}
use Rattle.si_refusals.specs.Refusal.{TextRefusal}
use Rattle.si_lifts.specs.Parts.{inserts_before}
use Rattle.si_lifts.specs.Reasons.{IsOfInsertion}
use Rattle.si_lifts.proofs.LiftedLine.{line_next, line_refused}
use Rattle.si_lifts.proofs.Told.{IsAtPart, IsNextAt, IsTold, refused_then}
use Rattle.si_lifts.proofs.Standing.{Stands}

-- ---- the lines of one part
-- its lines are told one after another
then_next : (count : ℕ) (tuples : List (List ℕ)) (l : History) (signals : ℕ → List Signal) (parts : ℕ → Current)
    (i before : ℕ) (middle final m n : History) (first : IsNextAt count tuples l signals parts i before middle m)
    → IsNextAt count tuples m first.signals_then first.parts_then i before final n
    → IsNextAt count tuples l signals parts i before final n
then_next count tuples l signals parts i before middle final m n first other = record {
  given_stays = other.given_stays ∙ first.given_stays;
  lineage_goes_on = λ lineage. other.lineage_goes_on (first.lineage_goes_on lineage);
  named_goes_on = λ named. other.named_goes_on (first.named_goes_on named);
  signals_stay = λ k x is. other.signals_stay k x (first.signals_stay k x is);
  signals_then = other.signals_then;
  parts_then = other.parts_then;
  at_then = other.at_then;
  now = other.now;
  others_signals = λ j apart. other.others_signals j apart ∙ first.others_signals j apart;
  others_parts = λ j apart. other.others_parts j apart ∙ first.others_parts j apart;
}

module _ (count : ℕ) (tuples : List (List ℕ)) (i before : ℕ) (inside : i < count) (states names : List (List ℕ)) where
  abbrev view : PartView
  view = record { names = names_in_part names i tuples; before = before }

  abbrev IsLineNamed : Insertion → Type 0
  IsLineNamed line = IsTrue (is_signal_name line.name)

  lines_refused : (l : History) (signals : ℕ → List Signal) (parts : ℕ → Current) (at : ℕ → ℕ → ℕ) (own final : History)
      (lines : List Insertion) → IsAtPart count tuples l signals parts at i before own → HasStateNames names own
      → TakesAll names own lines final → AreLinesNamed lines → (r : TextRefusal)
      → along (with_line states view) l lines (Err r)
      → IsOfInsertion r
  lines_refused l signals parts at own final [] now spelled taken named r is =
      absurd (no_refusal {R = TextRefusal} (Err r) l r is refl)
  lines_refused l signals parts at own final (line ∷ rest) now spelled (next, takes, later) named r all =
      refused_then IsOfInsertion _ _
      (line_refused count tuples l signals parts at i before own now inside names spelled states line next takes)
      (λ m is. (let step = line_next count tuples l signals parts at i before own now inside names spelled states line
      next
      takes (All-head IsLineNamed line rest named) m is in
      lines_refused m step.signals_then step.parts_then step.at_then next final rest step.now
      (spelled_next names own line next spelled takes) later (All-tail IsLineNamed line rest named))) r all

  lines_taken : (l : History) (signals : ℕ → List Signal) (parts : ℕ → Current) (at : ℕ → ℕ → ℕ) (own final : History)
      (lines : List Insertion) → IsAtPart count tuples l signals parts at i before own → HasStateNames names own
      → TakesAll names own lines final → AreLinesNamed lines → (m : History)
      → along (with_line states view) l lines (Ok m)
      → IsNextAt count tuples l signals parts i before final m
  lines_taken l signals parts at own final [] now spelled taken named m is =
      let same : m ≡ l = one_value {R = TextRefusal} (Ok m) m l refl is in
      subst (IsNextAt count tuples l signals parts i before final) (sym same) (record {
        given_stays = refl;
        lineage_goes_on = λ lineage. lineage;
        named_goes_on = λ named. named;
        signals_stay = λ k x there. there;
        signals_then = signals;
        parts_then = parts;
        at_then = at;
        now = subst (IsAtPart count tuples l signals parts at i before) taken now;
        others_signals = λ j apart. refl;
        others_parts = λ j apart. refl;
      })
  lines_taken l signals parts at own final (line ∷ rest) now spelled (next, takes, later) named n all =
      let first = passed (with_line states view l line) _ n all in
      let step = line_next count tuples l signals parts at i before own now inside names spelled states line next takes
      (All-head IsLineNamed line rest named) first.0 first.1 in
      then_next count tuples l signals parts i before next final first.0 n step
      (lines_taken first.0 step.signals_then step.parts_then step.at_then next final rest step.now
      (spelled_next names own line next spelled takes) later (All-tail IsLineNamed line rest named) n first.2)

-- ---- a part that is audited
pub record IsAuditedFor (given : Sg) (coded : CodedGraph) (netlist : Netlist) (final : History) : Type 0 where
  pub can : CanBeAudited given.states coded netlist
  pub taken : TakesAll given.states (given_history coded) netlist.inserts final
  pub built : IsBuilt final.current netlist

pub trace_taken : (states : List (List ℕ)) (l : History) (lines : List Insertion) (m : History)
    → TakesAll states l lines m → length m.trace ≡ length l.trace + length lines
trace_taken states l [] m same = (let even = ap (λ (h : History). length h.trace) same in omega (arith, even))
trace_taken states l (line ∷ rest) m (next, takes, later) =
    let one = ap (λ (t : List TraceStep). length t) takes.extends.trace_grows ∙ length_push l.trace takes.step in
    let more = trace_taken states next rest m later in
    omega (arith, one, more)

-- what a part has told stays so while others tell of theirs
told_on : (l m : History) (signals : List Signal) (before : ℕ) (own : History) → m.given ≡ l.given
    → ((k : ℕ) (x : Signal) → slice_get l.current.coded.graph.signals k ≡ Some x
    → slice_get m.current.coded.graph.signals k ≡ Some x) → IsTold l signals before own → IsTold m signals before own
told_on l m signals before own given stay told = record {
  mine = told.mine;
  signals_are = told.signals_are;
  many = told.many;
  inserted = λ z x is. subst (λ (c : CodedGraph).
      slice_get m.current.coded.graph.signals (length c.graph.signals + (before + z)) ≡ Some x) (sym given)
      (stay _ x (told.inserted z x is));
}

-- ---- part after part
module _ (count : ℕ) (tuples : List (List ℕ)) (whole : CodedGraph) (netlists : List Netlist) (coded : ℕ → CodedGraph)
    (final : ℕ → History) where
  -- the parts before part j have told of all their insertions, and no other has begun
  pub record IsBeforePart (l : History) (signals : ℕ → List Signal) (parts : ℕ → Current) (at : ℕ → ℕ → ℕ) (j : ℕ)
      : Type 0 where
    pub given_is : l.given ≡ whole
    pub lineage : IsLineage l.given l.trace l.current
    pub named : AreNamed l.current
    pub stands : Stands count tuples l.current signals parts at
    pub size : length l.current.coded.graph.signals ≡ length l.given.graph.signals + length l.trace
    pub origins : (s : ℕ) → s < l.current.coded.graph.states → origin l.current s < length tuples
    pub so_many : length l.trace ≡ inserts_before netlists j
    pub done : (k : ℕ) → k < j → k < count
        → (parts k ≡ (final k).current) × IsTold l (signals k) (inserts_before netlists k) (final k)
    pub left : (k : ℕ) → j ≤ k → k < count
        → (parts k ≡ given_current (coded k)) × (signals k ≡ (coded k).graph.signals)

  pub record IsAfterPart (l : History) (j : ℕ) : Type 0 where
    pub signals : ℕ → List Signal
    pub parts : ℕ → Current
    pub at : ℕ → ℕ → ℕ
    pub before : IsBeforePart l signals parts at j

  module _ (l : History) (signals : ℕ → List Signal) (parts : ℕ → Current) (at : ℕ → ℕ → ℕ) (j : ℕ)
      (is : IsBeforePart l signals parts at j) (below : j < count) (given : Sg) (netlist : Netlist)
      (audited : IsAuditedFor given (coded j) netlist (final j))
      (one_more : inserts_before netlists (j + 1) ≡ inserts_before netlists j + length netlist.inserts)
      (states : List (List ℕ)) where
    abbrev own : History
    own = given_history (coded j)

    spelled : HasStateNames given.states own
    spelled = spelled_first given.states (coded j) netlist audited.can

    begins : IsAtPart count tuples l signals parts at j (length l.trace) own
    begins =
        let none = is.left j (omega arith) below in
        record {
          stands = is.stands;
          size = is.size;
          origins = is.origins;
          part_is = none.0;
          told = record {
            mine = [];
            signals_are = none.1 ∙ sym (append-nil (coded j).graph.signals);
            many = refl;
            inserted = λ z x there. cc;
          };
          so_many = omega arith;
        }

    pub part_refused : (r : TextRefusal) → with_part states tuples l (j, (given, netlist)) (Err r) → IsOfInsertion r
    part_refused r all =
        lines_refused count tuples j (length l.trace) below states given.states l signals parts at own (final j)
        netlist.inserts begins spelled audited.taken (lines_named netlist audited.can.netlist) r all

    pub part_taken : (m : History) → with_part states tuples l (j, (given, netlist)) (Ok m) → IsAfterPart m (j + 1)
    part_taken m all =
        let step = lines_taken count tuples j (length l.trace) below states given.states l signals parts at own
        (final j)
        netlist.inserts begins spelled audited.taken (lines_named netlist audited.can.netlist) m all in
        let now = step.now in
        let many = now.so_many in
        let lines = trace_taken given.states own netlist.inserts (final j) audited.taken in
        let before = is.so_many in
        record {
          signals = step.signals_then;
          parts = step.parts_then;
          at = step.at_then;
          before = record {
            given_is = step.given_stays ∙ is.given_is;
            lineage = step.lineage_goes_on is.lineage;
            named = step.named_goes_on is.named;
            stands = now.stands;
            size = now.size;
            origins = now.origins;
            so_many = omega (arith, many, lines, before, one_more);
            done = λ k small within. done_then step k (omega (arith, small)) within;
            left = λ k above within. (
                let other : k ≡ j → ⊥ = λ same. omega (arith, same, above) in
                let none = is.left k (omega (arith, above)) within in
                (step.others_parts k other ∙ none.0, step.others_signals k other ∙ none.1));
          };
        }
      where
        done_then : (step : IsNextAt count tuples l signals parts j (length l.trace) (final j) m) (k : ℕ) → k ≤ j
            → k < count → (step.parts_then k ≡ (final k).current)
            × IsTold m (step.signals_then k) (inserts_before netlists k) (final k)
        done_then step k most within = elim (cases_eq k j) [
          | inl same ↦ subst (λ (n : ℕ). (step.parts_then n ≡ (final n).current)
              × IsTold m (step.signals_then n) (inserts_before netlists n) (final n)) (sym same)
              (step.now.part_is, subst (λ (b : ℕ). IsTold m (step.signals_then j) b (final j)) is.so_many step.now.told)
          | inr other ↦ (
              let old = is.done k (omega (arith, most, other)) within in (
                step.others_parts k other ∙ old.0,
                subst (λ (xs : List Signal). IsTold m xs (inserts_before netlists k) (final k))
                    (sym (step.others_signals k other))
                    (told_on l m (signals k) (inserts_before netlists k) (final k) step.given_stays step.signals_stay
                    old.1),
              ))
        ]

  -- the parts from part j on
  abbrev pub AreAuditedFrom : ℕ → List (Sg × Netlist) → Type 0
  AreAuditedFrom j [] = j ≡ count
  AreAuditedFrom j (x ∷ rest) = (j < count) × IsAuditedFor x.0 (coded j) x.1 (final j)
      × (inserts_before netlists (j + 1) ≡ inserts_before netlists j + length x.1.inserts)
      × AreAuditedFrom (j + 1) rest

  module _ (states : List (List ℕ)) where
    pub parts_refused : (l : History) (j : ℕ) (rest : List (Sg × Netlist)) → IsAfterPart l j → AreAuditedFrom j rest
        → (r : TextRefusal) → along (with_part states tuples) l (numbered j rest) (Err r) → IsOfInsertion r
    parts_refused l j [] is audited r none = absurd (no_refusal {R = TextRefusal} (Err r) l r none refl)
    parts_refused l j (x ∷ rest) is (below, audited, more, later) r all =
        refused_then IsOfInsertion _ _
        (part_refused l is.signals is.parts is.at j is.before below x.0 x.1 audited more states)
        (λ m taken. parts_refused m (j + 1) rest
        (part_taken l is.signals is.parts is.at j is.before below x.0 x.1 audited more states m taken) later)
        r all

    pub parts_taken : (l : History) (j : ℕ) (rest : List (Sg × Netlist)) → IsAfterPart l j → AreAuditedFrom j rest
        → (m : History) → along (with_part states tuples) l (numbered j rest) (Ok m) → IsAfterPart m count
    parts_taken l j [] is all_done m none =
        let same : m ≡ l = one_value {R = TextRefusal} (Ok m) m l refl none in
        subst (λ (h : History). IsAfterPart h count) (sym same) (subst (IsAfterPart l) all_done is)
    parts_taken l j (x ∷ rest) is (below, audited, more, later) m all =
        let first = passed (with_part states tuples l (j, x)) _ m all in
        parts_taken first.0 (j + 1) rest
        (part_taken l is.signals is.parts is.at j is.before below x.0 x.1 audited more states first.0 first.1) later m
        first.2
