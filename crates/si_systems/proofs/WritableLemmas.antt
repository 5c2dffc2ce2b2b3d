-- The composed graph has a text that reads back.
use Rattle.std.proofs.Common.{◌≡◌, ◌≢◌, ℕ, zero, suc, ◌<◌, ◌==◌, ◌&&◌, not, Bool, true, false, List, [], ◌∷◌, ◌++◌}
use Rattle.std.proofs.Common.{map, length, All, IsTrue, get_or, codes, refl, sym, ap}
use Rattle.std.proofs.Common.{subst, ◌∙◌, inl, inr, arith, true≢false, append-nil}
use Rattle.std.specs.List.{join_with_byte, list_all}
use Rattle.std.proofs.lemmas.List.{get_or-map, length-map}
use Rattle.std.proofs.lemmas.List.Folds.{list_all-append}
use Rattle.std.proofs.lemmas.Option.{slice_get-get_or, slice_get_within, get_or_from_slice_get}
use Rattle.si_base.specs.declared.graph.Signal.{Signal}
use Rattle.si_base.specs.declared.graph.SigKind.{SigKind}
use Rattle.si_base.specs.declared.graph.SigKind.TheVariants.{Inserted}
use Rattle.si_base.specs.Codes.{CodedGraph}
use Rattle.si_base.specs.GivenGraph.{Sg}
use Rattle.si_base.specs.Graph.{StateGraph, is_driven}
use Rattle.si_base.specs.System.{is_inserted}
use Rattle.si_base.specs.Words.{is_model_name, is_signal_name, is_word_byte, IsStateName}
use Rattle.si_composing.specs.JoinedSignals.{graph_of}
use Rattle.si_composing.specs.SideBySide.{IsSideBySide}
use Rattle.si_sg.specs.CanonicalText.{IsWritable, sg_text}
use Rattle.si_sg.specs.GivenGraph.{IsGivenBy}
use Rattle.si_sg.proofs.GivenNames.{given_named}
use Rattle.si_sg.proofs.GivenStates.{given_states}
use Rattle.si_sg.proofs.WholeLaw.{read_back}
use Rattle.si_systems.specs.Laws.{AreSound}
use Rattle.si_systems.specs.Loops.Parts.{AreGiven, AreTuplesOf}
use Rattle.si_systems.specs.Names.{IsTupleOf, composed_sg, escape, escaped, joined_model, names_at, tuple_name}
use Rattle.si_composing.proofs.TupleLemmas.{ordered_distinct}
use Rattle.si_systems.proofs.PartLemmas.{composed_tuples}
use Rattle.si_systems.proofs.TupleNames.{Ends, marked_or_plain, names_apart, one_word, tuple_at}

both_true : (a b : Bool) → a ≡ true → b ≡ true → (a && b) ≡ true
both_true true b one other = other
both_true false b one other = absurd (true≢false (sym one))

left_true : (a b : Bool) → (a && b) ≡ true → a ≡ true
left_true true b both = refl
left_true false b both = both

right_true : (a b : Bool) → (a && b) ≡ true → b ≡ true
right_true true b both = both
right_true false b both = absurd (true≢false (sym both))

-- ---- all bytes of joined words
module _ (p : ℕ → Bool) (bar_good : p 124 ≡ true) where
  abbrev AllGood : List (List ℕ) → Type 0
  AllGood [] = Unit {0}
  AllGood (w ∷ ws) = (list_all p w ≡ true) × AllGood ws

  joined_good : (ws : List (List ℕ)) → AllGood ws → list_all p (join_with_byte 124 ws) ≡ true
  joined_good [] all = refl
  joined_good (w ∷ []) all = all.0
  joined_good (w ∷ v ∷ ws) all =
      list_all-append p w (124 ∷ join_with_byte 124 (v ∷ ws))
      ∙ both_true _ _ all.0 (both_true (p 124) _ bar_good (joined_good (v ∷ ws) all.1))

  module _ (slash_good : p 92 ≡ true) where
    escape_good : (b : ℕ) → p b ≡ true → list_all p (escape b) ≡ true
    escape_good b good = elim (marked_or_plain b) [
      | inl marked ↦ ap (list_all p) marked
          ∙ both_true (p 92) _ slash_good (both_true (p b) true good refl)
      | inr plain ↦ ap (list_all p) plain.alone ∙ both_true (p b) true good refl
    ]

    escaped_good : (w : List ℕ) → list_all p w ≡ true → list_all p (escaped w) ≡ true
    escaped_good [] all = refl
    escaped_good (b ∷ bs) all =
        list_all-append p (escape b) (escaped bs)
        ∙ both_true _ _ (escape_good b (left_true (p b) _ all)) (escaped_good bs (right_true (p b) _ all))

-- ---- the model
-- each is a model name
abbrev pub AreModels : List Sg → Type 0
AreModels [] = Unit {0}
AreModels (g ∷ gs) = (is_model_name g.model ≡ true) × AreModels gs

model_bytes : (m : List ℕ) → is_model_name m ≡ true → list_all is_word_byte m ≡ true
model_bytes [] good = absurd (true≢false (sym good))
model_bytes (b ∷ bs) good = good

models_good : (given : List Sg) → AreModels given → AllGood is_word_byte refl (map (λ g. g.model) given)
models_good [] all = tt
models_good (g ∷ gs) all = (model_bytes g.model all.0, models_good gs all.1)

name_of_bytes : (m : List ℕ) → list_all is_word_byte m ≡ true → 0 < length m → is_model_name m ≡ true
name_of_bytes [] all some = absurd (omega (arith, some))
name_of_bytes (b ∷ bs) all some = all

model_some : (m : List ℕ) → is_model_name m ≡ true → 0 < length m
model_some [] good = absurd (true≢false (sym good))
model_some (b ∷ bs) good = omega arith

joined_some : (w : List ℕ) (ws : List (List ℕ)) → 0 < length w → 0 < length (join_with_byte 124 (w ∷ ws))
joined_some w [] some = some
joined_some [] (v ∷ ws) some = absurd (omega (arith, some))
joined_some (b ∷ bs) (v ∷ ws) some = omega arith

pub model_named : (given : List Sg) → AreModels given → 0 < length given → is_model_name (joined_model given) ≡ true
model_named [] all some = absurd (omega (arith, some))
model_named (g ∷ gs) all some =
    name_of_bytes (joined_model (g ∷ gs))
    (joined_good is_word_byte refl (map (λ (h : Sg). h.model) (g ∷ gs)) (models_good (g ∷ gs) all))
    (joined_some g.model (map (λ (h : Sg). h.model) gs) (model_some g.model all.0))

pub are_models : (given : List Sg) → AreGiven given → AreModels given
are_models [] are = tt
are_models (g ∷ gs) are = ((given_named are.0.0 g are.0.1).model, are_models gs are.1)

-- ---- names of tuples
abbrev is_state_byte : ℕ → Bool
is_state_byte b = is_word_byte b && not (b == 64)

abbrev AreNames : List (List ℕ) → Type 0
AreNames [] = Unit {0}
AreNames (n ∷ ns) = IsStateName n × AreNames ns

are_names : (given : List Sg) (xs : List ℕ) → AreGiven given → IsTupleOf given xs → AreNames (names_at given xs)
are_names [] [] are is = tt
are_names [] (x ∷ xs) are is = absurd is
are_names (g ∷ gs) [] are is = absurd is
are_names (g ∷ gs) (x ∷ xs) are is =
    (given_states are.0.0 g are.0.1 x [] is.0, are_names gs xs are.1 is.1)

names_good : (ns : List (List ℕ)) → AreNames ns → AllGood is_state_byte refl (map escaped ns)
names_good [] all = tt
names_good (n ∷ ns) all = (escaped_good is_state_byte refl refl n all.0.bytes, names_good ns all.1)

-- what stands behind the first name
record Begins (n : List ℕ) (name : List ℕ) : Type 0 where
  rest : List ℕ
  ends : Ends rest
  is : name ≡ escaped n ++ rest

begins : (n : List ℕ) (ns : List (List ℕ)) → Begins n (join_with_byte 124 (map escaped (n ∷ ns)))
begins n [] = record { rest = []; ends = tt; is = sym (append-nil (escaped n)) }
begins n (m ∷ ns) = record { rest = 124 ∷ join_with_byte 124 (map escaped (m ∷ ns)); ends = refl; is = refl }

begins_so : (n rest : List ℕ) → IsStateName n → (b : ℕ) (more : List ℕ) → escaped n ++ rest ≡ b ∷ more → b ≡ 46 → ⊥
begins_so [] rest name b more same dot = absurd (let some = name.some in omega (arith, some))
begins_so (c ∷ cs) rest name b more same dot = elim (marked_or_plain c) [
  | inl marked ↦ (
      let is : 92 ∷ ((c ∷ escaped cs) ++ rest) ≡ b ∷ more =
      sym (ap (λ (e : List ℕ). (e ++ escaped cs) ++ rest) marked) ∙ same in
      let head : 92 ≡ b = cc in
      absurd (omega (arith, head, dot)))
  | inr plain ↦ (
      let is : c ∷ (escaped cs ++ rest) ≡ b ∷ more =
      sym (ap (λ (e : List ℕ). (e ++ escaped cs) ++ rest) plain.alone) ∙ same in
      let head : c ≡ b = cc in
      name.no_dot cs (ap (λ (x : ℕ). x ∷ cs) (head ∙ dot)))
]

escaped_some : (n rest : List ℕ) → 0 < length n → 0 < length (escaped n ++ rest)
escaped_some [] rest some = absurd (omega (arith, some))
escaped_some (b ∷ bs) rest some = elim (marked_or_plain b) [
  | inl marked ↦ subst (λ (e : List ℕ). 0 < length ((e ++ escaped bs) ++ rest)) (sym marked) (omega arith)
  | inr plain ↦ subst (λ (e : List ℕ). 0 < length ((e ++ escaped bs) ++ rest)) (sym plain.alone) (omega arith)
]

joined_name : (ns : List (List ℕ)) → AreNames ns → 0 < length ns → IsStateName (join_with_byte 124 (map escaped ns))
joined_name [] all some = absurd (omega (arith, some))
joined_name (n ∷ ns) all some =
    let whole = begins n ns in
    record {
      bytes = joined_good is_state_byte refl (map escaped (n ∷ ns)) (names_good (n ∷ ns) all);
      some = subst (λ (w : List ℕ). 0 < length w) (sym whole.is) (escaped_some n whole.rest all.0.some);
      no_dot = λ more same. begins_so n whole.rest all.0 46 more (sym whole.is ∙ same) refl;
      not_down = λ same. (
          let found = one_word n (codes "down") whole.rest [] whole.ends tt (sym whole.is ∙ same) in
          all.0.not_down found.0);
    }

many_named : (given : List Sg) (xs : List ℕ) → IsTupleOf given xs → 0 < length given → 0 < length (names_at given xs)
many_named [] xs is some = absurd (omega (arith, some))
many_named (g ∷ gs) [] is some = absurd is
many_named (g ∷ gs) (x ∷ xs) is some = omega arith

pub tuple_named : (given : List Sg) (xs : List ℕ) → AreGiven given → IsTupleOf given xs → 0 < length given
    → IsStateName (tuple_name given xs)
tuple_named given xs are is some =
    joined_name (names_at given xs) (are_names given xs are is) (many_named given xs is some)

-- ---- signals
-- the signals of part i are spelled by a text
record IsSpelledAt (signals : List Signal) : Type 0 where
  names : All (λ x. IsTrue (is_signal_name x.name)) signals
  given : All (λ x. is_inserted x.kind ≡ false) signals

spelled_at : (given : List Sg) (parts : List CodedGraph) → AreGiven given → AreSound given parts → (i : ℕ)
    → i < length parts → IsSpelledAt (graph_of parts i).signals
spelled_at given [] are sound i below = absurd (omega (arith, below))
spelled_at [] (c ∷ cs) are sound i below = absurd sound
spelled_at (g ∷ gs) (c ∷ cs) are sound zero below =
    let forms = given_named are.0.0 g are.0.1 in
    subst (λ (h : StateGraph). IsSpelledAt h.signals) (sym sound.0.same_graph)
    (record { names = forms.names; given = forms.given })
spelled_at (g ∷ gs) (c ∷ cs) are sound (suc i) below = spelled_at gs cs are.1 sound.1 i (omega (arith, below))

module _ (given : List Sg) (parts : List CodedGraph) (are : AreGiven given) (sound : AreSound given parts)
    (tuples : List (List ℕ)) (whole : StateGraph) (is : IsSideBySide parts tuples whole)
    (some : 0 < length given) where
  signal_named : (k : ℕ) (d : Signal) → k < length whole.signals
      → IsTrue (is_signal_name (get_or whole.signals k d).name)
  signal_named k d below =
      let owner = is.composed.signals.no_other k below in
      let same = owner.3 in
      let own = slice_get_within (graph_of parts owner.0).signals owner.1 same.own same.own_is in
      let spelled = (spelled_at given parts are sound owner.0 owner.2).names owner.1 d own in
      let part_is : get_or (graph_of parts owner.0).signals owner.1 d ≡ same.own =
      get_or_from_slice_get (graph_of parts owner.0).signals owner.1 same.own d same.own_is in
      let whole_is : get_or whole.signals k d ≡ same.signal =
      get_or_from_slice_get whole.signals k same.signal d same.signal_is in
      let names : (get_or (graph_of parts owner.0).signals owner.1 d).name ≡ (get_or whole.signals k d).name =
      ap (λ (x : Signal). x.name) part_is ∙ same.name ∙ sym (ap (λ (x : Signal). x.name) whole_is) in
      subst (λ (n : List ℕ). IsTrue (is_signal_name n)) names spelled

  signal_given : (k : ℕ) (d : Signal) → k < length whole.signals → (get_or whole.signals k d).kind ≢ Inserted
  signal_given k d below inserted =
      let driver = is.composed.signals.driven k (get_or whole.signals k d) (slice_get-get_or whole.signals k d below)
      (subst (λ (kind : SigKind). IsTrue (is_driven kind)) (sym inserted) refl) in
      let same = driver.3.0 in
      let whole_is : get_or whole.signals k d ≡ same.signal =
      get_or_from_slice_get whole.signals k same.signal d same.signal_is in
      let kind_is : same.own.kind ≡ Inserted =
      sym (is.composed.signals.kind driver.0 k driver.1 driver.2 driver.3)
      ∙ sym (ap (λ (x : Signal). x.kind) whole_is) ∙ inserted in
      let own = slice_get_within (graph_of parts driver.0).signals driver.1 same.own same.own_is in
      let clean = (spelled_at given parts are sound driver.0 driver.2).given driver.1 d own in
      let part_is : get_or (graph_of parts driver.0).signals driver.1 d ≡ same.own =
      get_or_from_slice_get (graph_of parts driver.0).signals driver.1 same.own d same.own_is in
      true≢false (sym (ap is_inserted (ap (λ (x : Signal). x.kind) part_is ∙ kind_is)) ∙ clean)

  each : AreTuplesOf given tuples
  each = composed_tuples given parts are sound tuples whole is

  state_named : All IsStateName (map (tuple_name given) tuples)
  state_named k d below =
      let inside : k < length tuples = omega (arith, below, length-map tuples (tuple_name given)) in
      subst IsStateName (sym (get_or-map (tuple_name given) tuples k [] d inside))
      (tuple_named given (get_or tuples k []) are (tuple_at given tuples k [] each inside) some)

  pub composed_writable : IsWritable (composed_sg given tuples whole)
  composed_writable = record {
    graph = is.graph;
    connected = is.connected;
    model = model_named given (are_models given are) some;
    signals = signal_named;
    given = signal_given;
    states = state_named;
    distinct = names_apart given tuples are each (ordered_distinct tuples is.in_order);
    count = length-map tuples (tuple_name given) ∙ sym is.states;
    few_states = is.graph.few_states;
    few_edges = is.few_arcs;
  }

  pub composed_reads_back : IsGivenBy (sg_text (composed_sg given tuples whole)) (composed_sg given tuples whole)
  composed_reads_back = read_back (composed_sg given tuples whole) composed_writable
