-- A graph whose signals have other names: all else is as it was.
use Rattle.std.proofs.Common.{◌≡◌, ◌^◌, ◌≤◌, ℕ, zero, suc, ◌<◌, Bool, List, [], ◌∷◌, ◌++◌, get_or, length, All}
use Rattle.std.proofs.Common.{slice_get, Some, IsTrue, refl, sym, ap, subst, ◌∙◌, arith, inl, inr}
use Rattle.si_base.specs.Bits.{bit}
use Rattle.si_base.specs.declared.ids.Event.{Event}
use Rattle.si_base.specs.declared.graph.Signal.{Signal}
use Rattle.si_base.specs.declared.graph.SigKind.{SigKind}
use Rattle.si_base.specs.Codes.{AreValues, CodedGraph, IsCoded, code}
use Rattle.si_base.specs.Graph.{IsGraph, IsNonInput, StateGraph, Walk, is_driven, kind_place}
use Rattle.si_base.specs.Proper.{IsProper, Loss}
use Rattle.si_insert.specs.Accepted.{Delay, IsAccepted, IsInput}
use Rattle.si_insert.specs.Insertion.{Copy, IsCopy, IsInsertedGraph, Moves, new_signal}
use Rattle.si_insert.specs.Loops.Tests.{InputWaits, WaitsAfter}
use Rattle.si_insert.specs.Partition.{IsLawful}
use Rattle.si_insert.specs.declared.partition.Class.{Class}
use Rattle.si_insert.proofs.AcceptedByTests.{accepts_at_tests}
use Rattle.si_compose.specs.Joined.{AreDistinct}

-- signals of the same kinds, one after another
abbrev pub AreAlike : List Signal → List Signal → Type 0
AreAlike [] [] = Unit {0}
AreAlike [] (y ∷ ys) = ⊥
AreAlike (x ∷ xs) [] = ⊥
AreAlike (x ∷ xs) (y ∷ ys) = (x.kind ≡ y.kind) × AreAlike xs ys

pub alike_many : (xs ys : List Signal) → AreAlike xs ys → length xs ≡ length ys
alike_many [] [] alike = refl
alike_many [] (y ∷ ys) alike = absurd alike
alike_many (x ∷ xs) [] alike = absurd alike
alike_many (x ∷ xs) (y ∷ ys) alike = ap suc (alike_many xs ys alike.1)

pub alike_at : (xs ys : List Signal) (z : ℕ) (y : Signal) → AreAlike xs ys → slice_get ys z ≡ Some y
    → (x : Signal) × (slice_get xs z ≡ Some x) × (x.kind ≡ y.kind)
alike_at [] [] z y alike at = cc
alike_at [] (v ∷ ys) z y alike at = absurd alike
alike_at (x ∷ xs) [] z y alike at = absurd alike
alike_at (x ∷ xs) (v ∷ ys) zero y alike at = (
  x,
  refl,
  alike.0 ∙ (let same : v ≡ y = cc in ap (λ (s : Signal). s.kind) same),
)
alike_at (x ∷ xs) (v ∷ ys) (suc z) y alike at = alike_at xs ys z y alike.1 at

pub alike_back : (xs ys : List Signal) → AreAlike xs ys → AreAlike ys xs
alike_back [] [] alike = tt
alike_back [] (y ∷ ys) alike = absurd alike
alike_back (x ∷ xs) [] alike = absurd alike
alike_back (x ∷ xs) (y ∷ ys) alike = (sym alike.0, alike_back xs ys alike.1)

pub alike_more : (xs ys : List Signal) (x y : Signal) → AreAlike xs ys → x.kind ≡ y.kind
    → AreAlike (xs ++ x ∷ []) (ys ++ y ∷ [])
alike_more [] [] x y alike same = (same, tt)
alike_more [] (v ∷ ys) x y alike same = absurd alike
alike_more (u ∷ xs) [] x y alike same = absurd alike
alike_more (u ∷ xs) (v ∷ ys) x y alike same = (alike.0, alike_more xs ys x y alike.1 same)

pub alike_itself : (xs : List Signal) → AreAlike xs xs
alike_itself [] = tt
alike_itself (x ∷ xs) = (refl, alike_itself xs)

alike_kind : (xs ys : List Signal) (z : ℕ) (d : Signal) → AreAlike xs ys → z < length xs
    → (get_or xs z d).kind ≡ (get_or ys z d).kind
alike_kind [] ys z d alike below = absurd (omega (arith, below))
alike_kind (x ∷ xs) [] z d alike below = absurd alike
alike_kind (x ∷ xs) (y ∷ ys) zero d alike below = alike.0
alike_kind (x ∷ xs) (y ∷ ys) (suc z) d alike below = alike_kind xs ys z d alike.1 (omega (arith, below))

-- ---- the graph
abbrev pub renamed : List Signal → StateGraph → StateGraph
renamed signals g = record { signals = signals; states = g.states; edges = g.edges; start = g.start }

abbrev pub renamed_coded : List Signal → CodedGraph → CodedGraph
renamed_coded signals c = record { graph = renamed signals c.graph; codes = c.codes }

pub same_walk : (signals : List Signal) (g : StateGraph) (es : List Event) (s t : ℕ) → Walk g s es t
    → Walk (renamed signals g) s es t
same_walk signals g [] s t walk = walk
same_walk signals g (e ∷ es) s t walk = (walk.0, walk.1, same_walk signals g es walk.0 t walk.2)

module _ (signals : List Signal) (g : StateGraph) (alike : AreAlike signals g.signals) where
  pub same_input : (a : ℕ) → IsInput signals a → IsInput g.signals a
  same_input a input =
      let there = alike_at g.signals signals a input.0 (alike_back signals g.signals alike) input.1 in
      (there.0, there.1, there.2 ∙ input.2)

  pub same_non_input : (a : ℕ) → IsNonInput signals a → IsNonInput g.signals a
  same_non_input a driven =
      let there = alike_at g.signals signals a driven.0 (alike_back signals g.signals alike) driven.1 in
      (there.0, there.1, subst (λ (k : SigKind). IsTrue (is_driven k)) (sym there.2) driven.2)

  pub renamed_graph : IsGraph g → AreDistinct signals → IsGraph (renamed signals g)
  renamed_graph is distinct =
      let many = alike_many signals g.signals alike in
      record {
        few_states = is.few_states;
        few_signals = (let few = is.few_signals in omega (arith, few, many));
        few_edges = is.few_edges;
        within = λ k d below. (let w = is.within k d below in
            (w.0, (let small = w.1 in omega (arith, small, many)), w.2));
        starts = is.starts;
        kinds = λ j k d order below. in_order j k d order below (is.kinds j k d order (omega (arith, below, many)));
        names = distinct;
        ordered = is.ordered;
      }
    where
      in_order : (j k : ℕ) (d : Signal) → j < k → k < length signals
          → kind_place (get_or g.signals j d).kind ≤ kind_place (get_or g.signals k d).kind
          → kind_place (get_or signals j d).kind ≤ kind_place (get_or signals k d).kind
      in_order j k d order below most =
          let first = ap kind_place (alike_kind signals g.signals j d alike (omega (arith, order, below))) in
          let other = ap kind_place (alike_kind signals g.signals k d alike below) in
          omega (arith, first, other, most)

  pub renamed_values : (a : ℕ) (v : ℕ → Bool) → AreValues g a v → AreValues (renamed signals g) a v
  renamed_values a v are = record { rises = are.rises; falls = are.falls; keeps = are.keeps; idle = are.idle }

  pub renamed_proper : IsProper g → IsProper (renamed signals g)
  renamed_proper is = record {
    deterministic = is.deterministic;
    consistent = λ a below. (
        let values = is.consistent a (let many = alike_many signals g.signals alike in omega (arith, below, many)) in
        (values.0, renamed_values a values.0 values.1));
    commutative = is.commutative;
    persistent = λ s e f t driven. is.persistent s e f t (same_non_input e.sig driven);
  }

-- ---- and its codes
module _ (signals : List Signal) (c : CodedGraph) (alike : AreAlike signals c.graph.signals) where
  pub renamed_is_coded : IsCoded c → AreDistinct signals → IsCoded (renamed_coded signals c)
  renamed_is_coded is distinct =
      let many = alike_many signals c.graph.signals alike in
      record {
        graph_is = renamed_graph signals c.graph alike is.graph_is distinct;
        connected = λ s below. (let walk = is.connected s below in
            (walk.0, same_walk signals c.graph walk.0 c.graph.start s walk.1));
        deterministic = is.deterministic;
        count = is.count;
        values = λ a below. renamed_values signals c.graph alike a (λ s. bit (code c s) a)
            (is.values a (omega (arith, below, many)));
        no_more = subst (λ (n : ℕ). All (λ k. k < 2 ^ n) c.codes) (sym many) is.no_more;
      }

  pub renamed_lawful : (classes : List Class) → IsLawful c.graph classes → IsLawful (renamed signals c.graph) classes
  renamed_lawful classes is = record { count = is.count; rises = is.rises; falls = is.falls; arcs = is.arcs }

  -- what is accepted stays so, whatever the signals are called
  pub renamed_accepted : (classes : List Class) → IsCoded c → IsProper c.graph → AreDistinct signals
      → IsAccepted c.graph classes → IsAccepted (renamed signals c.graph) classes
  renamed_accepted classes is proper distinct accepted =
      let many = alike_many signals c.graph.signals alike in
      let tests = (accepts_at_tests c classes is proper accepted.lawful).0 accepted in
      (accepts_at_tests (renamed_coded signals c) classes (renamed_is_coded is distinct)
      (renamed_proper signals c.graph alike proper) (renamed_lawful classes accepted.lawful)).1 (
        λ d waits. tests.0 d (own_wait d waits),
        λ b waits. tests.1 b (own_loss b waits),
        tests.2,
        (let few = tests.3 in omega (arith, few, many)),
      )
    where
      own_wait : (d : Delay) → InputWaits (renamed signals c.graph) classes d → InputWaits c.graph classes d
      own_wait d w = record {
        input = same_input signals c.graph alike d.e.sig w.input;
        to = w.to;
        step = w.step;
        value = w.value;
        late = w.late;
      }

      own_loss : (b : Loss) → WaitsAfter (renamed signals c.graph) classes b → WaitsAfter c.graph classes b
      own_loss b w = record {
        non_input = same_non_input signals c.graph alike b.lost.sig w.non_input;
        apart = w.apart;
        value = w.value;
        has = w.has;
        t = w.t;
        first = w.first;
        first_goes = w.first_goes;
        u = w.u;
        other = w.other;
        other_goes = w.other_goes;
        w = w.w;
        next = w.next;
        late = w.late;
      }

-- ---- a signal is inserted, whatever it is called
module _ (signals : List Signal) (g : StateGraph) (alike : AreAlike signals g.signals) (classes : List Class)
    (own other : List ℕ) (copies : List Copy) (h : StateGraph)
    (is : IsInsertedGraph g classes (new_signal own) copies h) where
  copy_there : (x : Copy) → IsCopy g classes x → IsCopy (renamed signals g) classes x
  copy_there x there = record { within = there.within; there = there.there }

  copy_back : (x : Copy) → IsCopy (renamed signals g) classes x → IsCopy g classes x
  copy_back x there = record { within = there.within; there = there.there }

  moves_there : (x : Copy) (e : Event) (y : Copy) → Moves g classes x e y → Moves (renamed signals g) classes x e y
  moves_there x e y (inl m) = inl (record { step = m.step; keeps = m.keeps; goes = m.goes })
  moves_there x e y (inr m) = inr (record {
    new = m.new ∙ sym (alike_many signals g.signals alike);
    stays = m.stays;
    from = m.from;
    to = m.to;
    class = m.class;
  })

  moves_back : (x : Copy) (e : Event) (y : Copy) → Moves (renamed signals g) classes x e y → Moves g classes x e y
  moves_back x e y (inl m) = inl (record { step = m.step; keeps = m.keeps; goes = m.goes })
  moves_back x e y (inr m) = inr (record {
    new = m.new ∙ alike_many signals g.signals alike;
    stays = m.stays;
    from = m.from;
    to = m.to;
    class = m.class;
  })

  pub renamed_insertion : IsInsertedGraph (renamed signals g) classes (new_signal other) copies
      (renamed (signals ++ new_signal other ∷ []) h)
  renamed_insertion = record {
    signals = refl;
    kind = refl;
    in_order = is.in_order;
    exactly = λ x. ((λ there. copy_there x ((is.exactly x).0 there)), (λ there. (is.exactly x).1 (copy_back x there)));
    count = is.count;
    starts = is.starts;
    arcs = λ k e m. (
      (λ step. (let j = (is.arcs k e m).0 step in record {
        from = j.from;
        to = j.to;
        from_is = j.from_is;
        to_is = j.to_is;
        moves = moves_there j.from e j.to j.moves;
      })),
      (λ j. (is.arcs k e m).1 (record {
        from = j.from;
        to = j.to;
        from_is = j.from_is;
        to_is = j.to_is;
        moves = moves_back j.from e j.to j.moves;
      })),
    );
  }
