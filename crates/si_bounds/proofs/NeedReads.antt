-- An instance that fits after the insertion reads the triggers, the new signal, and few others: so some need is met.
use Rattle.std.proofs.Common.{◌≡◌, ◌≢◌, ℕ, suc, ◌⊎◌, ◌+◌, ◌<◌, ◌≤◌, true, List, [], ◌∷◌, ◌++◌}
use Rattle.std.proofs.Common.{length, map, get_or, All, AllPairs, Contains, Option, Some, None, is_some}
use Rattle.std.proofs.Common.{refl, sym, ap, subst, ◌∙◌, arith, inl, inr, length-append}
use Rattle.std.proofs.lemmas.Bool.{true≢false}
use Rattle.std.proofs.lemmas.List.{get_or_default, length-map}
use Rattle.std.proofs.lemmas.List.Elements.{All-append, All-contains, All-nil}
use Rattle.si_base.specs.Bits.{bit}
use Rattle.si_base.specs.Codes.{CodedGraph, IsCoded}
use Rattle.si_base.specs.Graph.{StateGraph}
use Rattle.si_base.specs.declared.graph.Signal.{Signal}
use Rattle.si_base.specs.declared.ids.Literal.{Literal}
use Rattle.si_base.proofs.OrderAscending.{In}
use Rattle.si_base.proofs.GivenGraphUnique.{contains_from_in, in_from_contains}
use Rattle.si_cell.specs.Library.{Library, Instance, cell_at, no_cell}
use Rattle.si_insert.specs.declared.partition.Class.{Class}
use Rattle.si_insert.specs.Insertion.{Copy, IsInsertedGraph, coded}
use Rattle.si_insert.specs.Partition.{IsLawful}
use Rattle.si_match.specs.Fit.{first_fit, IsOver, Fits}
use Rattle.si_match.specs.Functions.{AreFunctions}
use Rattle.si_match.specs.Loops.Choices.{AreAmong}
use Rattle.si_match.specs.Loops.Rows.{AreSignals}
use Rattle.si_match.specs.Triggers.{IsTrigger}
use Rattle.si_match.proofs.ChoiceLemmas.{trigger_read}
use Rattle.si_match.proofs.FitLemmas.{fit_fits, from_map, in_map}
use Rattle.si_bounds.specs.Loops.Least.{AreAllTriggers, HaveFewPins}
use Rattle.si_bounds.specs.Loops.Needs.{AreNeeds, AreToldOver, HasSize, IsNeedOfOne, SomeIsMet, Suits}
use Rattle.si_bounds.specs.Loops.Points.{IsBlind, places_of}
use Rattle.si_bounds.specs.Loops.Waiting.{NeverWaits}
use Rattle.si_bounds.specs.declared.needs.Need.{Need}
use Rattle.si_bounds.proofs.LeastFits.{all_stay}
use Rattle.si_bounds.proofs.NeedFits.{fits_if_met, suiting_table}
use Rattle.si_bounds.proofs.NeedPoints.{small_places}
use Rattle.si_bounds.proofs.NeedSignals.{AreFurther, AreLeftOver, Once, at_no_other, at_some_place, further, left_over, once_each}
use Rattle.si_bounds.proofs.NeedSignals.{read_there}
use Rattle.si_bounds.proofs.NeedSuits.{reads_trigger}
use Rattle.si_bounds.proofs.WaitingFits.{fits_by_new}

in_left : (v : ℕ) (xs ys : List ℕ) → In v xs → In v (xs ++ ys)
in_left v [] ys there = absurd there
in_left v (x ∷ xs) ys (inl same) = inl same
in_left v (x ∷ xs) ys (inr later) = inr (in_left v xs ys later)

in_right : (v : ℕ) (xs ys : List ℕ) → In v ys → In v (xs ++ ys)
in_right v [] ys there = there
in_right v (x ∷ xs) ys there = inr (in_right v xs ys there)

module _ (c : CodedGraph) (library : Library) (z : ℕ) (is : IsCoded c) (old : z < length c.graph.signals)
    (triggers : ℕ) (all : AreAllTriggers c z triggers) (first : List ℕ)
    (those : AreSignals triggers (length c.graph.signals) first) (apart : AllPairs (λ x y. x ≢ y) first)
    (most : ℕ) (few : HaveFewPins library most) where
  abbrev n : ℕ
  n = length c.graph.signals

  -- the new signal and the triggers
  abbrev needed : List ℕ
  needed = n ∷ first

  in_set : (i : ℕ) → In i first → (i < n) × (bit triggers i ≡ true)
  in_set i there = (those i).0 (contains_from_in first i there)

  is_trigger : (i : ℕ) → In i first → IsTrigger c z i
  is_trigger i there = (all i).0 (in_set i there).1

  needed_once : Once needed
  needed_once = (λ there. (let low = (in_set n there).0 in omega (arith, low)), once_each first apart)

  own_free : In z needed → ⊥
  own_free (inl same) = omega (arith, old, same)
  own_free (inr there) = (is_trigger z there).other refl

  -- ---- after an insertion
  module _ (unfit : first_fit c library z ≡ None) (classes : List Class) (new : Signal) (copies : List Copy)
      (h : StateGraph) (lawful : IsLawful c.graph classes) (inserted : IsInsertedGraph c.graph classes new copies h)
      (made : IsCoded (coded c copies h)) (never : NeverWaits c.graph classes z) (f : Instance)
      (found : first_fit (coded c copies h) library z ≡ Some f) where
    abbrev d : CodedGraph
    d = coded c copies h

    over : IsOver d library f
    over = (fit_fits d library z f made found).0

    fit : Fits d library z f
    fit = (fit_fits d library z f made found).1

    abbrev read : List ℕ
    read = map (λ (l : Literal). l.sig) f.literals

    reads : (v : ℕ) → In v needed → In v read
    reads v (inl same) = read_there v f.literals (λ unread.
        fits_by_new c classes new copies h is lawful inserted library z old never unfit f over fit
        (subst (λ (i : ℕ). All (λ (l : Literal). l.sig ≢ i) f.literals) same unread))
    reads v (inr there) = read_there v f.literals (trigger_read d library z made triggers
        (all_stay c classes new copies h is lawful inserted z old never made library triggers (λ i set. (all i).0 set))
        v (in_set v there).1 f over fit)

    left : (zs : List ℕ) × AreLeftOver needed read zs
    left = left_over needed read needed_once reads

    few_read : length read ≤ most
    few_read =
        let short : length (cell_at library f.cell).pins ≤ most = few f.cell no_cell over.instance.cell in
        omega (arith, length-map f.literals (λ (l : Literal). l.sig), over.instance.pins, short)

    -- the triggers are fewer than the pins
    pub fewer_triggers : length first < most
    fewer_triggers = (let count = left.1.count in omega (arith, count, few_read))

    -- ---- so it reads few signals beside them
    module _ (more : ℕ) (pins : length first + more + 1 ≡ most) (three : most ≤ 4) where
      rest_of : (rest : List ℕ) × AreFurther n z needed old own_free (inl refl) more left.0 rest
      rest_of = further n z needed old own_free (inl refl) more left.0
          (let count = left.1.count in omega (arith, count, few_read, pins))
          (λ v there. small v (left.1.within v there))
        where
          small : (v : ℕ) → In v read → v < suc n
          small v there =
              let (l, (k, within, at), same) = literal_of v there in
              let low = over.signals k l within in
              let one_more = ap (length {A = Signal}) inserted.signals ∙ length-append c.graph.signals (new ∷ []) in
              omega (arith, low, one_more, same, ap (λ (m : Literal). m.sig) at)
            where
              literal_of : (v : ℕ) → In v read → (l : Literal) × Contains f.literals l × (v ≡ l.sig)
              literal_of v there =
                  let (l, l_there, same) = from_map (λ (m : Literal). m.sig) v f.literals there in
                  (l, contains_from_in f.literals l l_there, same)

      abbrev signals : List ℕ
      signals = first ++ rest_of.0

      few_signals : length signals ≤ 3
      few_signals = (let count = rest_of.1.count in
          omega (arith, count, pins, three, length-append first rest_of.0))

      all_small : All (λ y. y < n) signals
      all_small = All-append (λ y. y < n) first rest_of.0 (λ k d within.
          (in_set (get_or first k d) (in_from_contains first (get_or first k d) k within
          (get_or_default first k (get_or first k d) d within))).0) rest_of.1.small

      -- each that it reads stands at a place
      at_places : (v : ℕ) → In v read → Contains (z ∷ get_or signals 0 z ∷ get_or signals 1 z ∷ get_or signals 2 z ∷ n ∷ []) v
      at_places v there = elim (left.1.kept v there) [
        | inl needs ↦ of_needed needs
        | inr other ↦ elim (rest_of.1.kept v other) [
          | inl needs ↦ of_needed needs
          | inr further_one ↦ at_some_place z n v signals few_signals (in_right v first rest_of.0 further_one)
        ]
      ]
        where
          of_needed : In v needed → Contains (z ∷ get_or signals 0 z ∷ get_or signals 1 z ∷ get_or signals 2 z ∷ n ∷ []) v
          of_needed (inl same) = (4, omega arith, sym same)
          of_needed (inr trigger) = at_some_place z n v signals few_signals (in_left v first rest_of.0 trigger)

      among : AreAmong (z ∷ get_or signals 0 z ∷ get_or signals 1 z ∷ get_or signals 2 z ∷ n ∷ []) f.literals
      among k l within = at_places (get_or f.literals k l).sig (in_map (λ (m : Literal). m.sig) (get_or f.literals k l)
          f.literals (in_from_contains f.literals (get_or f.literals k l) k within
          (get_or_default f.literals k (get_or f.literals k l) l within)))

      -- ---- a table that suits the classes is told of
      module _ (tables kept : List ℕ) (are : AreFunctions library tables) (needs : List Need)
          (reading : (t : ℕ) → Contains tables t → Contains kept t ⊎ ((k : ℕ) × (k < length first) × IsBlind t (k + 1)))
          (told : AreToldOver c z kept first more needs) where
        pub some_met : SomeIsMet needs classes
        some_met =
            let (t, there, suits) = suiting_table c classes new copies h is lawful inserted z old never made library tables
            are (places_of z signals) (small_places n z signals old all_small) f over fit among in
            elim (reading t there) [
              | inl still ↦ told rest_of.0 rest_of.1.count rest_of.1.small t still classes suits
              | inr (k, within, blind) ↦ absurd (reads_first t suits k within blind)
            ]
          where
            reads_first : (t : ℕ) → Suits c classes z (places_of z signals) t → (k : ℕ) → k < length first
                → IsBlind t (k + 1) → ⊥
            reads_first t suits k within = reads_trigger c classes z t is lawful signals suits i k (is_trigger i there)
                (omega (arith, within, pins, three)) (λ j other. at_no_other z first rest_of.0 k j apart within
                (λ further_one. rest_of.1.free i further_one (inr there)) (λ same. (is_trigger i there).other (sym same))
                other)
              where
                i : ℕ
                i = get_or first k z

                there : In i first
                there = in_from_contains first i k within (get_or_default first k i z within)

  -- ---- what is told of z
  fits_somehow : (o : Option Instance) → is_some o ≡ true → (f : Instance) × (o ≡ Some f)
  fits_somehow None some = absurd (true≢false (sym some))
  fits_somehow (Some f) some = (f, refl)

  -- where it has as many triggers as a cell has pins, nothing is enough
  pub none_enough : most ≤ length first → AreNeeds c library z []
  none_enough many = record {
    sizes = All-nil (HasSize c.graph.states);
    fits = λ unfit classes new copies h lawful inserted made never. (
      λ fits. absurd (
          let (f, found) = fits_somehow (first_fit (coded c copies h) library z) fits in
          let fewer = fewer_triggers unfit classes new copies h lawful inserted made never f found in
          omega (arith, many, fewer)),
      λ (need, (k, within, at), met). absurd (omega (arith, within)),
    );
  }

  pub these_needs : (more : ℕ) → length first + more + 1 ≡ most → most ≤ 4 → (tables kept : List ℕ)
      → AreFunctions library tables → (needs : List Need)
      → ((t : ℕ) → Contains kept t → Contains tables t)
      → ((t : ℕ) → Contains tables t → Contains kept t ⊎ ((k : ℕ) × (k < length first) × IsBlind t (k + 1)))
      → AreToldOver c z kept first more needs → All (λ need. Contains [] need ⊎ IsNeedOfOne c z kept need) needs
      → AreNeeds c library z needs
  these_needs more pins three tables kept are needs within reading told exact = record {
    sizes = λ k d inside. (of_one (get_or needs k d) (exact k d inside)).is.size;
    fits = λ unfit classes new copies h lawful inserted made never. (
      λ fits. (
          let (f, found) = fits_somehow (first_fit (coded c copies h) library z) fits in
          some_met unfit classes new copies h lawful inserted made never f found more pins three tables kept are needs
          reading told),
      λ (need, there, met). fits_if_met c classes new copies h is lawful inserted z old never made library tables are need
          (of_one need (All-contains (λ x. Contains [] x ⊎ IsNeedOfOne c z kept x) needs need exact there)) met,
    );
  }
    where
      of_one : (need : Need) → Contains [] need ⊎ IsNeedOfOne c z kept need → IsNeedOfOne c z tables need
      of_one need (inl (k, inside, at)) = absurd (omega (arith, inside))
      of_one need (inr one) = record {
        table = one.table;
        places = one.places;
        there = within one.table one.there;
        small = one.small;
        is = one.is;
      }
