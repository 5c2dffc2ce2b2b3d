-- An insertion of a part that its audit takes is, lifted, an insertion of the whole, or it is refused for
-- its use or for its room.
use Rattle.std.proofs.Common.{◌≡◌, ℕ, ◌<◌, ◌+◌, ◌-◌, ◌/◌, ◌^◌, ◌↔◌, Bool, false, List, [], ◌∷◌, ◌++◌}
use Rattle.std.proofs.Common.{length}
use Rattle.std.proofs.Common.{slice_get, slice_index, Some, Ok, Err, refl, sym, ap, subst, ◌∙◌, arith, inl, inr}
use Rattle.std.proofs.Common.{bytes_eq}
use Rattle.std.specs.List.{list_any, slice_index_or}
use Rattle.std.proofs.lemmas.Bool.{cases_lt}
use Rattle.std.proofs.Common.{IsTrue, append_assoc, subst₂}
use Rattle.std.proofs.lemmas.List.{get_or-map, length-append, length_push}
use Rattle.std.proofs.lemmas.List.FromFn.{get_or-map-range_with_len}
use Rattle.si_base.specs.Bits.{bit}
use Rattle.si_base.specs.declared.graph.Signal.{Signal}
use Rattle.si_base.specs.Codes.{CodedGraph, IsCoded, code}
use Rattle.si_base.specs.Graph.{StateGraph}
use Rattle.si_base.specs.Netlist.{Insertion}
use Rattle.si_base.specs.Sets.{IsDisjoint, IsIn}
use Rattle.si_base.specs.Words.{is_signal_name}
use Rattle.si_base.proofs.BitFacts.{same_codes}
use Rattle.si_base.proofs.StepCodes.{code_fits, no_bit}
use Rattle.si_graph.proofs.SearchLemmas.{in_below}
use Rattle.si_insert.specs.Accepted.{IsAccepted, ShowsRejected}
use Rattle.si_insert.specs.Insertion.{new_signal}
use Rattle.si_insert.specs.Lineage.{Current, Extends, History, Inserts, IsLineage, next_current, origin}
use Rattle.si_insert.specs.Partition.{Has, IsLawful, class_of}
use Rattle.si_insert.specs.declared.partition.Class.{Class}
use Rattle.si_insert.specs.declared.partition.Class.TheVariants.{Falling, Rising}
use Rattle.si_insert.specs.declared.lineage.TraceStep.{TraceStep}
use Rattle.si_insert.specs.declared.accept.Rejected.{Rejected}
use Rattle.si_insert.specs.declared.accept.Rejected.TheVariants as why
use Rattle.si_insert.proofs.InsertionCopies.{copy_at}
use Rattle.si_insert.proofs.LineageGrowth.{later_bit}
use Rattle.si_insert.proofs.LineageTraceLength.{named_after}
use Rattle.si_insert.proofs.OneInsertion.{lineage_on}
use Rattle.si_candidates.specs.Parts.{AreClasses}
use Rattle.si_candidates.proofs.LawfulParts.{lawful_are_classes}
use Rattle.si_candidates.proofs.PartLaws.{classes_unique}
use Rattle.si_circuit.specs.Spelling.{current_word, mark}
use Rattle.si_audit.specs.Audit.{Takes}
use Rattle.si_audit.specs.Named.{AreWordsOf}
use Rattle.si_audit.proofs.StateWords.{HasStateNames}
use Rattle.si_compose.specs.Lifted.{lifted_classes}
use Rattle.si_compose.proofs.LiftedInsertions.{last, or_last, there}
use Rattle.si_compose.proofs.LiftedSteps.{classes_lifted}
use Rattle.si_joins.specs.Lifted.{PartView, lifted_set, names_in_part, own_word}
use Rattle.si_joins.specs.Steps.{HasSome, accepted, apart, named, parted, told, used, with_line, with_sets}
use Rattle.si_joins.proofs.StepAnswers.{set_size}
use Rattle.si_readings.proofs.StageLemmas.{passed}
use Rattle.si_refusals.specs.Refusal.{TextRefusal}
use Rattle.si_sg.specs.CanonicalText.{state_at}
use Rattle.si_lifts.specs.Reasons.{IsOfInsertion, OfRoom, OfUse}
use Rattle.si_lifts.proofs.LiftedTests.{IsWantOfRoom, lifted_lawful, want_of_room}
use Rattle.si_lifts.proofs.RenamedGraphs.{alike_many}
use Rattle.si_lifts.proofs.Standing.{Stands, as_named, exchanged, exchanged_other, exchanged_there, named_accepted}
use Rattle.si_lifts.proofs.Standing.{after, copied_origin, named_coded, named_proper, named_within, stands_after}
use Rattle.si_lifts.proofs.WordLemmas.{named_just_so}
use Rattle.si_lifts.proofs.NamedParts.{signal_there}
use Rattle.si_lifts.proofs.Told.{IsAtPart, IsNextAt, IsTold, behind, named_among, refused_then}

module _ (count : ℕ) (tuples : List (List ℕ)) (l : History) (signals : ℕ → List Signal) (parts : ℕ → Current)
    (at : ℕ → ℕ → ℕ) (i before : ℕ) (own : History) (now : IsAtPart count tuples l signals parts at i before own)
    (inside : i < count) (names : List (List ℕ)) (spelled : HasStateNames names own) where
  abbrev h : StateGraph
  h = l.current.coded.graph

  abbrev g : StateGraph
  g = own.current.coded.graph

  abbrev view : PartView
  view = record { names = names_in_part names i tuples; before = before }

  stands : Stands count tuples l.current signals parts at
  stands = now.stands

  own_within : (s : ℕ) → s < h.states → at i s < g.states
  own_within s within = subst (λ (v : Current). at i s < v.coded.graph.states) now.part_is
      (named_within count tuples l.current signals parts at stands i s inside within)

  -- ---- the part's own word for a state
  name_is : (s : ℕ) → s < h.states
      → slice_index_or view.names (origin l.current s) [] ≡ slice_index_or names (origin own.current (at i s)) []
  name_is s within =
      let shown : List ℕ → List ℕ = λ xs. state_at names (slice_index xs i) in
      get_or-map shown tuples (origin l.current s) [] [] (now.origins s within)
      ∙ ap (state_at names) (stands.origins i s inside within)
      ∙ ap (λ (v : Current). state_at names (origin v (at i s))) now.part_is

  bit_of_whole : (s k : ℕ) → bit (code l.current.coded s / 2 ^ length l.given.graph.signals / 2 ^ before) k
      ≡ bit (code l.current.coded s) (length l.given.graph.signals + (before + k))
  bit_of_whole s k =
      later_bit (code l.current.coded s / 2 ^ length l.given.graph.signals) before k
      ∙ later_bit (code l.current.coded s) (length l.given.graph.signals) (before + k)

  own_bit : (s k : ℕ) → bit (code own.current.coded (at i s) / 2 ^ length own.given.graph.signals) k
      ≡ bit (code own.current.coded (at i s)) (length own.given.graph.signals + k)
  own_bit s k = later_bit (code own.current.coded (at i s)) (length own.given.graph.signals) k

  told_size : length (signals i) ≡ length own.given.graph.signals + length own.trace
  told_size = ap (λ (xs : List Signal). length xs) now.told.signals_are
      ∙ length-append own.given.graph.signals now.told.mine
      ∙ ap (λ (n : ℕ). length own.given.graph.signals + n) now.told.many

  own_size : length g.signals ≡ length own.given.graph.signals + length own.trace
  own_size = ap (λ (v : Current). length v.coded.graph.signals) (sym now.part_is)
      ∙ sym (alike_many (signals i) (parts i).coded.graph.signals (stands.alike i inside)) ∙ told_size

  same_bit : (s k : ℕ) → s < h.states
      → bit (code l.current.coded s) (length l.given.graph.signals + (before + k))
      ≡ bit (code own.current.coded (at i s)) (length own.given.graph.signals + k)
  same_bit s k within = elim (cases_lt k (length own.trace)) [
    | inl below ↦ (
        let x = signal_there now.told.mine k (let many = now.told.many in omega (arith, below, many)) in
        stands.glued i (length l.given.graph.signals + (before + k)) (length own.given.graph.signals + k) s inside
        within
        (record {
          signal = x.0;
          own = x.0;
          signal_is = now.told.inserted k x.0 x.1;
          own_is = subst (λ (xs : List Signal). slice_get xs (length own.given.graph.signals + k) ≡ Some x.0)
              (sym now.told.signals_are) (behind own.given.graph.signals now.told.mine k x.0 x.1);
          name = refl;
        })
        ∙ ap (λ (v : Current). bit (code v.coded (at i s)) (length own.given.graph.signals + k)) now.part_is)
    | inr above ↦ (
        let size = now.size in
        let many = now.so_many in
        no_bit (code l.current.coded s) (length h.signals) (length l.given.graph.signals + (before + k))
        (code_fits l.current.coded s stands.coded within) (omega (arith, above, size, many))
        ∙ sym (no_bit (code own.current.coded (at i s)) (length g.signals) (length own.given.graph.signals + k)
        (code_fits own.current.coded (at i s) (subst (λ (v : Current). IsCoded v.coded) now.part_is
        (stands.part_coded i inside)) (own_within s within)) (omega (arith, above, own_size))))
  ]

  bits_are : (s : ℕ) → s < h.states → code l.current.coded s / 2 ^ length l.given.graph.signals / 2 ^ before
      ≡ code own.current.coded (at i s) / 2 ^ length own.given.graph.signals
  bits_are s within = same_codes (code l.current.coded s / 2 ^ length l.given.graph.signals / 2 ^ before)
      (code own.current.coded (at i s) / 2 ^ length own.given.graph.signals)
      (λ k. bit_of_whole s k ∙ same_bit s k within ∙ sym (own_bit s k))

  own_word_is : (s : ℕ) → s < h.states → own_word view l s ≡ current_word names own (at i s)
  unfolding current_word
  own_word_is s within =
      let bits = code l.current.coded s / 2 ^ length l.given.graph.signals / 2 ^ before in
      let many : length l.trace - before ≡ length own.trace = (let so = now.so_many in omega (arith, so)) in
      ap (λ (n : List ℕ). n ++ mark (length l.trace - before) bits) (name_is s within)
      ∙ ap (λ (k : ℕ). slice_index_or names (origin own.current (at i s)) [] ++ mark k bits) many
      ∙ ap (λ (b : ℕ). slice_index_or names (origin own.current (at i s)) [] ++ mark (length own.trace) b)
      (bits_are s within)

  -- ---- one line of its netlist, which its own audit takes
  module _ (states : List (List ℕ)) (line : Insertion) (next : History) (takes : Takes names own line next) where
    abbrev p : TraceStep
    p = takes.step

    abbrev plus : List Bool
    plus = lifted_set view l line.up

    abbrev minus : List Bool
    minus = lifted_set view l line.down

    abbrev whole : List Class
    whole = lifted_classes at i p.partition h.states

    in_set : (words : List (List ℕ)) (set : List Bool) → AreWordsOf names own words set → (s : ℕ) → s < h.states
        → IsIn (lifted_set view l words) s ↔ IsIn set (at i s)
    in_set words set are s within =
        let flag : ℕ → Bool = λ t. list_any (bytes_eq (own_word view l t)) words in
        let here : slice_index_or (lifted_set view l words) s false ≡ flag s =
        get_or-map-range_with_len flag 0 h.states s s false within (omega arith) in
        let own_flag : flag s ≡ list_any (bytes_eq (current_word names own (at i s))) words =
        ap (λ (w : List ℕ). list_any (bytes_eq w) words) (own_word_is s within) in
        let named = named_just_so names own words set spelled are (at i s) (own_within s within) in (
          λ is. named.0 (sym own_flag ∙ sym here ∙ is),
          λ is. here ∙ own_flag ∙ named.1 is,
        )

    class_is : (s : ℕ) → s < h.states → class_of whole s ≡ class_of p.partition (at i s)
    class_is s within = (classes_lifted at h i p.partition).classes s within

    rising : (s : ℕ) → s < h.states → (class_of whole s ≡ Rising) ↔ IsIn plus s
    rising s within =
        let set = in_set line.up takes.names.plus takes.names.names.up s within in
        let part = takes.names.parted.rising (at i s) (own_within s within) in (
          λ is. set.1 (part.0 (sym (class_is s within) ∙ is)),
          λ is. class_is s within ∙ part.1 (set.0 is),
        )

    falling : (s : ℕ) → s < h.states → (class_of whole s ≡ Falling) ↔ IsIn minus s
    falling s within =
        let set = in_set line.down takes.names.minus takes.names.names.down s within in
        let part = takes.names.parted.falling (at i s) (own_within s within) in (
          λ is. set.1 (part.0 (sym (class_is s within) ∙ is)),
          λ is. class_is s within ∙ part.1 (set.0 is),
        )

    set_within : (words : List (List ℕ)) (s : ℕ) → IsIn (lifted_set view l words) s → s < h.states
    set_within words s is = (let below = in_below (lifted_set view l words) s is in
        omega (arith, below, set_size view l words))

    sets_apart : IsDisjoint plus minus
    sets_apart s up down =
        let within = set_within line.up s up in
        takes.names.names.apart (at i s) ((in_set line.up takes.names.plus takes.names.names.up s within).0 up)
        ((in_set line.down takes.names.minus takes.names.names.down s within).0 down)

    K_accepted : IsAccepted (as_named signals parts i).graph p.partition
    K_accepted = named_accepted count tuples l.current signals parts at stands i p.partition inside
        (subst (λ (v : Current). IsAccepted v.coded.graph p.partition) (sym now.part_is) takes.names.accepted)

    -- ---- where the new signal rises somewhere, and falls somewhere
    module _ (some : HasSome plus × HasSome minus) where
      rises : Has h whole Rising
      rises =
          let within = set_within line.up some.0.0 some.0.1 in
          (some.0.0, within, (rising some.0.0 within).1 some.0.1)

      falls : Has h whole Falling
      falls =
          let within = set_within line.down some.1.0 some.1.1 in
          (some.1.0, within, (falling some.1.0 within).1 some.1.1)

      lawful : IsLawful h whole
      lawful =
          lifted_lawful count (as_named signals parts) at l.current.coded i p.partition whole inside
          (named_coded count tuples l.current signals parts at stands i inside)
          (named_proper count tuples l.current signals parts at stands i inside) stands.composed stands.coded
          stands.proper
          K_accepted (classes_lifted at h i p.partition) rises falls

      are_lifted : AreClasses h plus minus whole
      are_lifted = lawful_are_classes h plus minus whole stands.coded.graph_is stands.coded.connected lawful rising
          falling

      one_class : (classes : List Class) → AreClasses h plus minus classes → classes ≡ whole
      one_class classes are =
          classes_unique h plus minus classes whole some.0.0 some.1.0 stands.coded.graph_is stands.coded.connected
          some.0.1 (set_within line.up some.0.0 some.0.1) some.1.1 (set_within line.down some.1.0 some.1.1) are
          are_lifted

      of_room : (k : ℕ) (classes : List Class) (first : Rejected) → IsWantOfRoom first
          → IsOfInsertion (told states l k line.name classes first)
      of_room k classes (why.DelaysInput s e) room = absurd room
      of_room k classes (why.BreaksPersistency s lost by) room = absurd room
      of_room k classes (why.TooLarge states) room = OfRoom line.name states
      of_room k classes why.NoCodeBit room = OfRoom line.name _

      room_wanted : (k : ℕ) (classes : List Class) → AreClasses h plus minus classes → (r : TextRefusal)
          → accepted states l k line.name classes (Err r) → IsOfInsertion r
      room_wanted k classes are r is =
          let shows = subst (λ (cs : List Class). ShowsRejected h cs is.0) (one_class classes are) is.1 in
          let room = want_of_room count (as_named signals parts) at l.current.coded i p.partition whole inside
          (named_coded count tuples l.current signals parts at stands i inside)
          (named_proper count tuples l.current signals parts at stands i inside) stands.composed stands.coded
          stands.proper
          K_accepted (classes_lifted at h i p.partition) lawful is.0 shows in
          subst IsOfInsertion (sym is.2) (of_room k classes is.0 room)

      sets_refused : (name : List ℕ) (r : TextRefusal) → with_sets states l line.name name plus minus (Err r)
          → IsOfInsertion r
      sets_refused name =
          refused_then IsOfInsertion _ _ (λ r is. absurd (is.0 whole are_lifted))
          (λ classes are. refused_then IsOfInsertion _ _ (room_wanted (length l.trace + 1) classes are)
          (λ _ taken r is. absurd is))

    -- it is refused for its use or for its room alone
    pub line_refused : (r : TextRefusal) → with_line states view l line (Err r) → IsOfInsertion r
    line_refused =
        refused_then IsOfInsertion _ _ (λ r is. absurd is)
        (λ name is. refused_then IsOfInsertion _ _ (λ r not_used. subst IsOfInsertion (sym not_used.1)
        (OfUse line.name))
        (λ _ some. refused_then IsOfInsertion _ _ (λ r meet. absurd (meet.0 sets_apart))
        (λ _ disjoint. sets_refused some name)))

    -- ---- or it is taken, and the whole stands with it
    module _ (m : History) (name : List ℕ) (is_name : IsTrue (is_signal_name name))
        (extends : Extends l (record { name = name; partition = whole }) m) where
      abbrev new : Signal
      new = new_signal name

      abbrev step : Inserts l.current (record { name = name; partition = whole }) m.current
      step = extends.inserts

      own_step : Inserts (parts i) p next.current
      own_step = subst (λ (v : Current). Inserts v p next.current) (sym now.part_is) takes.extends.inserts

      signals_are : m.current.coded.graph.signals ≡ h.signals ++ new ∷ []
      signals_are = ap (λ (v : Current). v.coded.graph.signals) step.makes ∙ step.insertion.signals

      one_more : length m.trace ≡ length l.trace + 1
      one_more = ap (λ (t : List TraceStep). length t) extends.trace_grows ∙ length_push l.trace _

      own_more : length next.trace ≡ length own.trace + 1
      own_more = ap (λ (t : List TraceStep). length t) takes.extends.trace_grows ∙ length_push own.trace p

      own_signals : exchanged i (signals i ++ new ∷ []) signals i ≡ signals i ++ new ∷ []
      own_signals = exchanged_there i (signals i ++ new ∷ []) signals

      given_length : length m.given.graph.signals ≡ length l.given.graph.signals
      given_length = ap (λ (c : CodedGraph). length c.graph.signals) extends.given_stays

      own_given : next.given.graph.signals ≡ own.given.graph.signals
      own_given = ap (λ (c : CodedGraph). c.graph.signals) takes.extends.given_stays

      told_inserted : (z : ℕ) (x : Signal) → slice_get (now.told.mine ++ new ∷ []) z ≡ Some x
          → slice_get (h.signals ++ new ∷ []) (length l.given.graph.signals + (before + z)) ≡ Some x
      told_inserted z x is = elim (or_last now.told.mine new z x is) [
        | inl old ↦ there h.signals new _ x (now.told.inserted z x old)
        | inr last_one ↦ (
            let size = now.size in
            let many = now.so_many in
            let mine = now.told.many in
            let z_is = last_one.0 in
            let place : length h.signals ≡ length l.given.graph.signals + (before + z) =
            omega (arith, z_is, size, many, mine) in
            subst (λ (k : ℕ). slice_get (h.signals ++ new ∷ []) k ≡ Some x) place
            (subst (λ (y : Signal). slice_get (h.signals ++ new ∷ []) (length h.signals) ≡ Some y) (sym last_one.1)
            (last h.signals new)))
      ]

      told_then : IsTold m (signals i ++ new ∷ []) before next
      told_then = record {
        mine = now.told.mine ++ new ∷ [];
        signals_are = ap (λ (xs : List Signal). xs ++ new ∷ []) now.told.signals_are
            ∙ append_assoc own.given.graph.signals now.told.mine (new ∷ [])
            ∙ ap (λ (xs : List Signal). xs ++ (now.told.mine ++ new ∷ [])) (sym own_given);
        many = length_push now.told.mine new ∙ (let mine = now.told.many in omega (arith, mine, own_more));
        inserted = λ z x is. subst (λ (xs : List Signal). slice_get xs (length m.given.graph.signals + (before + z)) ≡
            Some x)
            (sym signals_are)
            (subst (λ (n : ℕ). slice_get (h.signals ++ new ∷ []) (n + (before + z)) ≡ Some x) (sym given_length)
            (told_inserted z x is));
      }

      origins_then : (s : ℕ) → s < m.current.coded.graph.states → origin m.current s < length tuples
      origins_then = subst (λ (v : Current). (s : ℕ) → s < v.coded.graph.states → origin v s < length tuples)
          (sym step.makes) (λ s within. (
          let x = copy_at h whole new step.copies step.graph s step.insertion within in
          let from = copied_origin l.current step.copies step.graph s x.0 x.1 in
          subst (λ (o : ℕ). o < length tuples) (sym from) (now.origins x.0.state x.2.within)))

      goes_on_then : IsLineage l.given l.trace l.current → IsLineage m.given m.trace m.current
      goes_on_then lineage =
          subst₂ (λ (c : CodedGraph) (t : List TraceStep). IsLineage c t m.current) (sym extends.given_stays)
          (sym extends.trace_grows) (lineage_on l.given l.trace l.current _ m.current lineage step)

      pub line_taken : IsNextAt count tuples l signals parts i before next m
      line_taken =
          let own_next = next_current (parts i) own_step.copies own_step.graph in
          let signals2 = exchanged i (signals i ++ new ∷ []) signals in
          let parts2 = exchanged i own_next parts in
          let after2 = after count tuples l.current signals parts at stands i inside p own_step.copies own_step.graph
          own_step.accepted own_step.insertion own_step.limits name step.copies step.graph step.accepted step.insertion
          step.limits in
          record {
            given_stays = extends.given_stays;
            lineage_goes_on = goes_on_then;
            named_goes_on = named_after l.current _ m.current step is_name;
            signals_stay = λ k x is. subst (λ (xs : List Signal). slice_get xs k ≡ Some x) (sym signals_are)
                (there h.signals new k x is);
            signals_then = signals2;
            parts_then = parts2;
            at_then = after2.after;
            now = record {
              stands = subst (λ (v : Current). Stands count tuples v signals2 parts2 after2.after) (sym step.makes)
                  (stands_after count tuples l.current signals parts at stands i inside p own_step.copies
                  own_step.graph own_step.accepted own_step.insertion own_step.limits name step.copies step.graph
                  step.accepted step.insertion step.limits);
              size = ap (λ (xs : List Signal). length xs) signals_are ∙ length_push h.signals new
                  ∙ (let many = now.size in omega (arith, many, one_more, given_length));
              origins = origins_then;
              part_is = exchanged_there i own_next parts ∙ sym own_step.makes;
              told = subst (λ (xs : List Signal). IsTold m xs before next) (sym own_signals) told_then;
              so_many = (let many = now.so_many in omega (arith, many, one_more, own_more));
            };
            others_signals = λ j apart. exchanged_other i (signals i ++ new ∷ []) signals j apart;
            others_parts = λ j apart. exchanged_other i own_next parts j apart;
          }

    pub line_next : IsTrue (is_signal_name line.name) → (m : History) → with_line states view l line (Ok m)
        → IsNextAt count tuples l signals parts i before next m
    line_next spelled_so m all =
        let first = passed (named h.signals line.name) _ m all in
        let second = passed (used line.name plus minus) _ m first.2 in
        let third = passed (apart (length l.trace + 1) plus minus) _ m second.2 in
        let fourth = passed (parted h (length l.trace + 1) plus minus) _ m third.2 in
        let fifth = passed (accepted states l (length l.trace + 1) line.name fourth.0) _ m fourth.2 in
        line_taken m first.0
        (named_among h.signals line.name first.0 stands.coded.graph_is.few_signals first.1 spelled_so)
        (subst (λ (cs : List Class). Extends l (record { name = first.0; partition = cs }) m)
        (one_class second.1 fourth.0 fourth.1) fifth.2)
