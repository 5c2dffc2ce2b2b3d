-- A netlist that is built along a lineage, with the insertions of its trace, is certified by it; and no other is.
use Rattle.std.proofs.Common.{◌≡◌, ℕ, zero, suc, ◌+◌, ◌<◌, ◌≤◌, ◌↔◌, Bool, true, false, cond, List, [], ◌∷◌, ◌++◌}
use Rattle.std.proofs.Common.{length, map, filter, refl, sym, ap, ap₂, subst, ◌∙◌, arith, append_assoc}
use Rattle.std.proofs.lemmas.Bool.{true≢false}
use Rattle.std.proofs.lemmas.List.{append-nil, length-map, length_push}
use Rattle.std.specs.List.{range_with_len, slice_index_or}
use Rattle.si_base.specs.Codes.{CodedGraph}
use Rattle.si_base.specs.Netlist.{Insertion, Netlist}
use Rattle.si_base.specs.Sets.{IsIn, IsDisjoint}
use Rattle.si_base.proofs.Booleans.{same_if}
use Rattle.si_insert.specs.declared.lineage.TraceStep.{TraceStep}
use Rattle.si_insert.specs.declared.partition.Class.{Class}
use Rattle.si_insert.specs.declared.partition.Class.TheVariants.{Low, Rising, High, Falling}
use Rattle.si_insert.specs.Built.{IsBuilt}
use Rattle.si_insert.specs.Lineage.{Current, Grows, History, Inserts, IsLineage, given_current, given_history}
use Rattle.si_insert.specs.Insertion.{switching}
use Rattle.si_insert.specs.GraphOfCopies.{switches}
use Rattle.si_insert.specs.Partition.{class_of}
use Rattle.si_insert.proofs.InsertionKeeps.{keeps}
use Rattle.si_insert.proofs.OneInsertion.{lineage_on}
use Rattle.si_candidates.proofs.LawfulParts.{lawful_are_classes}
use Rattle.si_circuit.specs.declared.spelling.Descent.{Descent}
use Rattle.si_circuit.specs.Spelling.{AreDescents, current_word, descent, descents_after, given_descents}
use Rattle.si_circuit.specs.Spelling.{insertion_of, insertions_from, insertions_of, state_word, switching_words}
use Rattle.si_circuit.proofs.SpellingWord.{current_word_made}
use Rattle.si_circuit.proofs.SpellingDescents.{given_are, next_descents, one_more}
use Rattle.si_audit.specs.Audit.{Certifies, NamesAccepted, Takes, TakesAll}
use Rattle.si_audit.specs.Laws.{BuiltAreCertified, CertifiedAreBuilt}
use Rattle.si_audit.specs.Named.{AreWordsOf, NamesSets, states_in}
use Rattle.si_audit.proofs.OneAudit.{spelled_all, spelled_first}

-- ---- the set of the states at which a signal switches
abbrev switching_set : Bool → List Class → List Bool
switching_set up classes = map (switches up) classes

stays_low : (up : Bool) → switches up Low ≡ false
stays_low true = refl
stays_low false = refl

in_set : (up : Bool) (classes : List Class) (s : ℕ)
    → slice_index_or (switching_set up classes) s false ≡ switches up (class_of classes s)
in_set up [] s = sym (stays_low up)
in_set up (c ∷ rest) zero = refl
in_set up (c ∷ rest) (suc s) = in_set up rest s

rises_there : (c : Class) → switches true c ≡ true → c ≡ Rising
rises_there Low is = absurd (true≢false (sym is))
rises_there Rising is = refl
rises_there High is = absurd (true≢false (sym is))
rises_there Falling is = absurd (true≢false (sym is))

falls_there : (c : Class) → switches false c ≡ true → c ≡ Falling
falls_there Low is = absurd (true≢false (sym is))
falls_there Rising is = absurd (true≢false (sym is))
falls_there High is = absurd (true≢false (sym is))
falls_there Falling is = refl

in_rising : (classes : List Class) (s : ℕ) → (class_of classes s ≡ Rising) ↔ IsIn (switching_set true classes) s
in_rising classes s = (
  λ is. in_set true classes s ∙ ap (switches true) is,
  λ there. rises_there (class_of classes s) (sym (in_set true classes s) ∙ there),
)

in_falling : (classes : List Class) (s : ℕ)
    → (class_of classes s ≡ Falling) ↔ IsIn (switching_set false classes) s
in_falling classes s = (
  λ is. in_set false classes s ∙ ap (switches false) is,
  λ there. falls_there (class_of classes s) (sym (in_set false classes s) ∙ there),
)

switches_once : (classes : List Class) → IsDisjoint (switching_set true classes) (switching_set false classes)
switches_once classes s up down =
    let rising : class_of classes s ≡ Rising = (in_rising classes s).1 up in
    let falling : class_of classes s ≡ Falling = (in_falling classes s).1 down in
    cc

-- a flag that is set just where the class switches
same_flag : (up : Bool) (c : Class) (b : Bool) → (c ≡ switching up ↔ b ≡ true) → switches up c ≡ b
same_flag true c b same = same_if (switches true c) b (λ is. same.0 (rises_there c is))
    (λ set. ap (switches true) (same.1 set))
same_flag false c b same = same_if (switches false c) b (λ is. same.0 (falls_there c is))
    (λ set. ap (switches false) (same.1 set))

-- ---- words of the chosen of so many numbers from a on
one_alike : (f g : ℕ → List ℕ) (b d : Bool) (a : ℕ) (xs ys : List ℕ) → b ≡ d → f a ≡ g a → map f xs ≡ map g ys
    → map f (cond b (a ∷ xs) xs) ≡ map g (cond d (a ∷ ys) ys)
one_alike f g true true a xs ys same word rest = ap₂ (λ (w : List ℕ) (ws : List (List ℕ)). w ∷ ws) word rest
one_alike f g true false a xs ys same word rest = absurd (true≢false same)
one_alike f g false true a xs ys same word rest = absurd (true≢false (sym same))
one_alike f g false false a xs ys same word rest = rest

words_alike : (f g : ℕ → List ℕ) (p q : ℕ → Bool) (a m : ℕ)
    → ((s : ℕ) → a ≤ s → s < a + m → (p s ≡ q s) × (f s ≡ g s))
    → map f (filter p (range_with_len a m)) ≡ map g (filter q (range_with_len a m))
words_alike f g p q a zero same = refl
words_alike f g p q a (suc m) same =
    let after = range_with_len (a + 1) m in
    let first = same a (omega arith) (omega arith) in
    one_alike f g (p a) (q a) a (filter p after) (filter q after) first.0 first.1
    (words_alike f g p q (a + 1) m (λ s above below. same s (omega arith) (omega arith)))

-- ---- step by step
-- what holds of a lineage after k steps, with these descents
record IsReached (given : CodedGraph) (done : List TraceStep) (now : Current) (k : ℕ) (ds : List Descent)
    : Type 0 where
  line : IsLineage given done now
  count : k ≡ length done
  size : length now.coded.graph.signals ≡ length given.graph.signals + k
  descents : AreDescents given now ds

module _ (states : List (List ℕ)) (given : CodedGraph) where
  -- the lineage of the steps that are done, with the graph that they make
  abbrev so_far : List TraceStep → Current → History
  so_far done now = record { given = given; trace = done; current = now }

  word_is : (done : List TraceStep) (now : Current) (k : ℕ) (ds : List Descent) → IsReached given done now k ds
      → (s : ℕ) → s < now.coded.graph.states
      → state_word states k (descent ds s) ≡ current_word states (so_far done now) s
  word_is done now k ds reached s within =
      current_word_made states (so_far done now) s k (descent ds s) (state_word states k (descent ds s)) reached.count
      (reached.descents.origins s within) (λ i. reached.descents.values s i within) refl

  -- the words of the states at which a signal switches, where the set has these states
  words_of_set : (done : List TraceStep) (now : Current) (k : ℕ) (ds : List Descent) (classes : List Class) (up : Bool)
      → IsReached given done now k ds → length classes ≡ now.coded.graph.states → (set : List Bool)
      → length set ≡ now.coded.graph.states
      → ((s : ℕ) → s < now.coded.graph.states → switches up (class_of classes s) ≡ slice_index_or set s false)
      → switching_words states k ds classes up ≡ map (current_word states (so_far done now)) (states_in set)
  words_of_set done now k ds classes up reached count set size flags =
      let word : ℕ → List ℕ = current_word states (so_far done now) in
      let flag : ℕ → Bool = λ s. slice_index_or set s false in
      let own : ℕ → List ℕ = λ s. state_word states k (descent ds s) in
      let same = words_alike own word (λ s. switches up (class_of classes s)) flag 0 (length classes)
      (λ s above below. (let within : s < now.coded.graph.states = omega (arith, below, count) in
      (flags s within, word_is done now k ds reached s within))) in
      same ∙ ap (λ (n : ℕ). map word (filter flag (range_with_len 0 n))) (count ∙ sym size)

  -- ---- what is built is taken
  words_are : (done : List TraceStep) (now : Current) (k : ℕ) (ds : List Descent) (classes : List Class) (up : Bool)
      → IsReached given done now k ds → length classes ≡ now.coded.graph.states
      → AreWordsOf states (so_far done now) (switching_words states k ds classes up) (switching_set up classes)
  words_are done now k ds classes up reached count =
      let set : List Bool = switching_set up classes in
      let size : length set ≡ now.coded.graph.states = length-map classes (switches up) ∙ count in
      record {
        size = size;
        words_are = words_of_set done now k ds classes up reached count set size
            (λ s within. sym (in_set up classes s));
      }

  step_names : (done : List TraceStep) (now : Current) (k : ℕ) (ds : List Descent) (p : TraceStep) (next : Current)
      → IsReached given done now k ds → Inserts now p next
      → NamesAccepted states (so_far done now) (insertion_of states k ds p) p.partition
  step_names done now k ds p next reached inserts =
      let classes = p.partition in
      let lawful = inserts.accepted.lawful in
      let coded = (keeps given done now reached.line).coded in
      let plus = switching_set true classes in
      let minus = switching_set false classes in
      let names : NamesSets states (so_far done now) (insertion_of states k ds p) plus minus = record {
        up = words_are done now k ds classes true reached lawful.count;
        down = words_are done now k ds classes false reached lawful.count;
        apart = switches_once classes;
      } in
      record {
        plus = plus;
        minus = minus;
        names = names;
        parted = lawful_are_classes now.coded.graph plus minus classes coded.graph_is coded.connected lawful
            (λ s within. in_rising classes s) (λ s within. in_falling classes s);
        accepted = inserts.accepted;
      }

  step_takes : (done : List TraceStep) (now : Current) (k : ℕ) (ds : List Descent) (p : TraceStep) (next : Current)
      → IsReached given done now k ds → Inserts now p next
      → Takes states (so_far done now) (insertion_of states k ds p) (so_far (done ++ p ∷ []) next)
  step_takes done now k ds p next reached inserts = record {
    step = p;
    name_is = refl;
    names = step_names done now k ds p next reached inserts;
    extends = record { given_stays = refl; trace_grows = refl; inserts = inserts };
  }

  step_reaches : (done : List TraceStep) (now : Current) (k : ℕ) (ds : List Descent) (p : TraceStep) (next : Current)
      → IsReached given done now k ds → Inserts now p next
      → IsReached given (done ++ p ∷ []) next (k + 1) (descents_after k p.partition ds)
  step_reaches done now k ds p next reached inserts =
      let kept = keeps given done now reached.line in
      let longer = length_push done p in
      let more = one_more now p next inserts in
      record {
        line = lineage_on given done now p next reached.line inserts;
        count = omega (arith, longer, reached.count);
        size = omega (arith, more, reached.size);
        descents = next_descents given now p next k ds kept reached.size inserts reached.descents;
      }

  -- the steps to come are taken, each as it is spelled
  rest_taken : (done rest : List TraceStep) (now last : Current) (k : ℕ) (ds : List Descent)
      → IsReached given done now k ds → Grows now rest last
      → TakesAll states (so_far done now) (insertions_from states k ds rest) (so_far (done ++ rest) last)
  rest_taken done [] now last k ds reached grows = ap₂ so_far (sym (append-nil done)) grows
  rest_taken done (p ∷ rest) now last k ds reached (next, inserts, grows) =
      let more = done ++ p ∷ [] in
      let after = descents_after k p.partition ds in
      let Reaches : List TraceStep → Type 0 = λ steps.
      TakesAll states (so_far more next) (insertions_from states (k + 1) after rest) (so_far steps last) in (
        so_far more next,
        step_takes done now k ds p next reached inserts,
        subst Reaches (append_assoc done (p ∷ []) rest)
            (rest_taken more rest next last (k + 1) after (step_reaches done now k ds p next reached inserts) grows),
      )

  -- ---- what is taken is built
  named_words : (done : List TraceStep) (now : Current) (k : ℕ) (ds : List Descent) (classes : List Class) (up : Bool)
      → IsReached given done now k ds → length classes ≡ now.coded.graph.states → (words : List (List ℕ))
      → (set : List Bool)
      → ((s : ℕ) → s < now.coded.graph.states → (class_of classes s ≡ switching up) ↔ IsIn set s)
      → AreWordsOf states (so_far done now) words set → words ≡ switching_words states k ds classes up
  named_words done now k ds classes up reached count words set there are =
      are.words_are
      ∙ sym (words_of_set done now k ds classes up reached count set are.size
      (λ s within. same_flag up (class_of classes s) (slice_index_or set s false) (there s within)))

  spelled_so : (done : List TraceStep) (now : Current) (k : ℕ) (ds : List Descent) (i : Insertion) (p : TraceStep)
      → IsReached given done now k ds → p.name ≡ i.name → NamesAccepted states (so_far done now) i p.partition
      → i ≡ insertion_of states k ds p
  spelled_so done now k ds i p reached name names =
      let parted = names.parted in
      let up = named_words done now k ds p.partition true reached parted.count i.up names.plus parted.rising
      names.names.up in
      let down = named_words done now k ds p.partition false reached parted.count i.down names.minus parted.falling
      names.names.down in
      λ j. record { name = sym name j; up = up j; down = down j }

  -- the insertions that are taken are those of a trace to m
  record AreSpelledTo (done : List TraceStep) (now : Current) (k : ℕ) (ds : List Descent) (inserts : List Insertion)
      (m : History) : Type 0 where
    rest : List TraceStep
    given_is : m.given ≡ given
    trace_is : m.trace ≡ done ++ rest
    grows : Grows now rest m.current
    inserts_are : inserts ≡ insertions_from states k ds rest

  all_spelled : (done : List TraceStep) (now : Current) (k : ℕ) (ds : List Descent) (inserts : List Insertion)
      (m : History) → IsReached given done now k ds → TakesAll states (so_far done now) inserts m
      → AreSpelledTo done now k ds inserts m
  all_spelled done now k ds [] m reached taken = record {
    rest = [];
    given_is = ap (λ (l : History). l.given) (sym taken);
    trace_is = ap (λ (l : History). l.trace) (sym taken) ∙ sym (append-nil done);
    grows = ap (λ (l : History). l.current) taken;
    inserts_are = refl;
  }
  all_spelled done now k ds (i ∷ inserts) m reached (w, takes, taken) =
      let p = takes.step in
      let more = done ++ p ∷ [] in
      let after = descents_after k p.partition ds in
      let next = w.current in
      let same : w ≡ so_far more next = λ j. record {
        given = takes.extends.given_stays j;
        trace = takes.extends.trace_grows j;
        current = next;
      } in
      let later = subst (λ (l : History). TakesAll states l inserts m) same taken in
      let reaches = step_reaches done now k ds p next reached takes.extends.inserts in
      let rest = all_spelled more next (k + 1) after inserts m reaches later in
      record {
        rest = p ∷ rest.rest;
        given_is = rest.given_is;
        trace_is = rest.trace_is ∙ append_assoc done (p ∷ []) rest.rest;
        grows = (next, takes.extends.inserts, rest.grows);
        inserts_are = ap₂ (λ (j : Insertion) (js : List Insertion). j ∷ js)
            (spelled_so done now k ds i p reached takes.name_is takes.names) rest.inserts_are;
      }

-- ---- the whole netlist
first_reached : (given : CodedGraph) → IsLineage given [] (given_current given)
    → IsReached given [] (given_current given) 0 (given_descents given.graph.states)
first_reached given line = record {
  line = line;
  count = refl;
  size = omega arith;
  descents = given_are given line.coded;
}

pub built_are_certified : (states : List (List ℕ)) (l : History) (n : Netlist)
    → IsLineage l.given l.trace l.current → IsBuilt l.current n → n.inserts ≡ insertions_of states l
    → Certifies states l.given n l
unfolding insertions_of
built_are_certified states l n line built inserts_are =
    let c = l.given in
    let first = given_descents c.graph.states in
    let begins : IsLineage c [] (given_current c) = record {
      coded = line.coded;
      proper = line.proper;
      none_inserted = line.none_inserted;
      grown = refl;
    } in
    let taken : TakesAll states (given_history c) (insertions_from states 0 first l.trace) l =
    rest_taken states c [] l.trace (given_current c) l.current 0 first (first_reached c begins) line.grown in
    record {
      taken = subst (λ (inserts : List Insertion). TakesAll states (given_history c) inserts l) (sym inserts_are) taken;
      built = built;
    }

pub built_along : BuiltAreCertified
built_along states c n l along =
    subst (λ (g : CodedGraph). Certifies states g n l) along.given_is
    (built_are_certified states l n along.lineage along.built along.inserts_are)

pub certified_along : CertifiedAreBuilt
unfolding insertions_of
certified_along states c n l can certifies =
    let first = spelled_first states c n can in
    let all = all_spelled states c [] (given_current c) 0 (given_descents c.graph.states) n.inserts l
    (first_reached c first.lineage) certifies.taken in
    let back : c ≡ l.given = sym all.given_is in
    let spelled : n.inserts ≡ insertions_from states 0 (given_descents c.graph.states) l.trace =
    all.inserts_are ∙ ap (insertions_from states 0 (given_descents c.graph.states)) (sym all.trace_is) in
    let Spells : CodedGraph → Type 0 = λ g.
    n.inserts ≡ insertions_from states 0 (given_descents g.graph.states) l.trace in
    record {
      given_is = all.given_is;
      lineage = (spelled_all states (given_history c) n.inserts l first certifies.taken).lineage;
      built = certifies.built;
      inserts_are = subst Spells back spelled;
    }
