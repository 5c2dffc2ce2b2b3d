-- Parts work together, or there is one first misfit, and not both.
use Rattle.std.proofs.Common.{◌≡◌, ℕ, zero, suc, ◌<◌, ◌≤◌, ◌⊎◌, List, [], ◌∷◌, ◌++◌, length, slice_get, Some}
use Rattle.std.proofs.Common.{Bool, refl, sym, ap, subst, ◌∙◌, arith, inl, inr}
use Rattle.std.proofs.lemmas.Bool.{cases_order}
use Rattle.std.proofs.lemmas.List.{length_push, same_from_push}
use Rattle.si_base.specs.declared.ids.Event.{Event}
use Rattle.si_base.specs.Codes.{CodedGraph}
use Rattle.si_base.specs.Graph.{event_place, name_of}
use Rattle.si_base.specs.declared.graph.Signal.{Signal}
use Rattle.si_base.specs.declared.graph.SigKind.{SigKind}
use Rattle.si_base.specs.Limits.{max_signals}
use Rattle.si_compose.proofs.SameSignals.{some_same}
use Rattle.si_composing.specs.JoinedSignals.{joined_names, joined_signals}
use Rattle.si_composing.specs.declared.clash.Clash.TheVariants.{Driven, Private, Starts}
use Rattle.si_composing.proofs.OneAnswer.{first_clash_one}
use Rattle.si_composing.proofs.PlaceLemmas.{before_or}
use Rattle.si_composing.proofs.TupleLemmas.{reached_width, same_event_place}
use Rattle.si_groups.specs.Groups.{AreFew, AreFree, AreFreeAt, AreWidened, IsBetween, IsFirstBetween, IsRefusedBy, IsWidened}
use Rattle.si_groups.specs.Groups.{group_of, members}
use Rattle.si_groups.specs.Together.{AddsGroups, AreFreeBelow, CanBeJoined, IsFirstMisfit, IsFreeWith, IsInterference}
use Rattle.si_groups.specs.Loops.Between.{IsGroup}
use Rattle.si_groups.specs.Together.{AreTooMany, IsLookedAt, ShowsIn, ShowsMisfit, StopsPair, WorkTogether}
use Rattle.si_groups.specs.declared.misfit.Interference.{Interference}
use Rattle.si_groups.specs.declared.misfit.Misfit.{Misfit}
use Rattle.si_groups.specs.declared.misfit.Misfit.TheVariants as misfit
use Rattle.si_groups.proofs.AloneJoined.{no_clash}
use Rattle.si_groups.proofs.GroupLemmas.{group_is}
use Rattle.si_groups.proofs.SettleLemmas.{not_free}
use Rattle.si_groups.proofs.WholeRight.{settled_below, settled_with}

module _ (parts : List CodedGraph) where
  -- ---- so many groups of a pair
  module _ (i j : ℕ) where
    not_both : (n m : ℕ) → n < m → AreFreeAt parts i j n → AreFreeAt parts i j m → ⊥
    not_both n m less one other = (other.widened_before n less).interfere one.free

    free_at_one : (n m : ℕ) → AreFreeAt parts i j n → AreFreeAt parts i j m → n ≡ m
    free_at_one n m one other = elim (cases_order n m) [
      | inl same ↦ same
      | inr (inl less) ↦ absurd (not_both n m less one other)
      | inr (inr more) ↦ absurd (not_both m n more other one)
    ]

    adds_one : (a b t u : ℕ) → a ≡ b → AddsGroups parts i j a t → AddsGroups parts i j b u → t ≡ u
    adds_one a b t u same (inl one) (inl other) =
        let n = free_at_one one.1.0 other.1.0 one.1.1 other.1.1 in
        omega (arith, same, n, one.1.2, other.1.2)
    adds_one a b t u same (inl one) (inr other) = absurd (other.0 one.0)
    adds_one a b t u same (inr one) (inl other) = absurd (one.0 other.0)
    adds_one a b t u same (inr one) (inr other) = one.1 ∙ same ∙ sym other.1

  with_one : (i j t u : ℕ) → IsFreeWith parts i j t → IsFreeWith parts i j u → t ≡ u
  with_one i zero t u one other = one ∙ sym other
  with_one i (suc j) t u one other =
      adds_one i j one.0 other.0 t u (with_one i j one.0 other.0 one.1 other.1) one.2 other.2

  below_one : (i t u : ℕ) → AreFreeBelow parts i t → AreFreeBelow parts i u → t ≡ u
  below_one zero t u one other = one ∙ sym other
  below_one (suc i) t u one other =
      let before = below_one i one.0 other.0 one.1 other.1 in
      let own = with_one i (length parts) one.2.0 other.2.0 one.2.1 other.2.1 in
      omega (arith, before, own, one.2.2, other.2.2)

  pub work_one : (signals groups others more : ℕ) → WorkTogether parts signals groups
      → WorkTogether parts others more → (signals ≡ others) × (groups ≡ more)
  work_one signals groups others more one other = (
    one.signals_are ∙ sym other.signals_are,
    below_one (length parts) groups more one.free other.free,
  )

  -- ---- what stands against a pair
  module _ (i j : ℕ) where
    shown_not_free : (group : List ℕ) (e : Misfit) → (e ≡ misfit.NoMemory → ⊥) → ShowsIn parts group i j e
        → AreFew (members parts group) → AreFree (members parts group) group i j → ⊥
    shown_not_free group misfit.NoMemory is x few free = is refl
    shown_not_free group (misfit.Signal clash name) is x few free = x
    shown_not_free group (misfit.TooMany n) is x few free =
        let most = few.signals in
        let same = x.0 in
        let more = x.1 in
        omega (arith, most, same, more)
    shown_not_free group misfit.States is x few free = few.states x.1
    shown_not_free group (misfit.Interferes y) is x few free = not_free parts i j group y x.1 free

    shown_not_widened : (group : List ℕ) (e : Misfit) → (e ≡ misfit.NoMemory → ⊥) → ShowsIn parts group i j e
        → IsWidened parts group i j → ⊥
    shown_not_widened group misfit.NoMemory is x w = is refl
    shown_not_widened group (misfit.Signal clash name) is x w = x
    shown_not_widened group (misfit.TooMany n) is x w =
        let most = w.few.signals in
        let same = x.0 in
        let more = x.1 in
        omega (arith, most, same, more)
    shown_not_widened group misfit.States is x w = w.few.states x.1
    shown_not_widened group (misfit.Interferes y) is x w = x.2 w.grows

    abbrev StopsAt : Misfit → Type 0
    StopsAt e = (n : ℕ) × AreWidened parts i j n × ShowsIn parts (group_of parts i j n) i j e

    stops_at : (e : Misfit) → (e ≡ misfit.NoMemory → ⊥) → StopsPair parts i j e → StopsAt e
    stops_at misfit.NoMemory is x = absurd (is refl)
    stops_at (misfit.Signal clash name) is x = x
    stops_at (misfit.TooMany n) is x = x
    stops_at misfit.States is x = x
    stops_at (misfit.Interferes y) is x = x

    pub stops_apart : (e : Misfit) → (e ≡ misfit.NoMemory → ⊥) → StopsPair parts i j e → (m : ℕ)
        → AreFreeAt parts i j m → ⊥
    stops_apart e is stops m free =
        let x = stops_at e is stops in
        elim (cases_order x.0 m) [
          | inl same ↦ (let at = subst (AreFreeAt parts i j) (sym same) free in
              shown_not_free (group_of parts i j x.0) e is x.2 at.few at.free)
          | inr (inl less) ↦ shown_not_widened (group_of parts i j x.0) e is x.2 (free.widened_before x.0 less)
          | inr (inr more) ↦ (x.1 m more).interfere free.free
        ]

  pub misfit_apart : (signals groups : ℕ) → WorkTogether parts signals groups → (e : Misfit)
      → (e ≡ misfit.NoMemory → ⊥) → IsFirstMisfit parts e → ⊥
  misfit_apart signals groups work e is x =
      let less = x.looked_at.0 in
      let settled = settled_below parts (length parts) groups work.free x.i x.j (omega (arith, less, x.within)) x.within
      x.looked_at in
      stops_apart x.i x.j e is x.stops settled.0 settled.1

  pub no_misfit : (signals groups : ℕ) (e : Misfit) → WorkTogether parts signals groups → ShowsMisfit parts e
      → e ≡ misfit.NoMemory
  no_misfit signals groups misfit.NoMemory work x = refl
  no_misfit signals groups (misfit.Signal Driven name) work x = absurd (work.joined.driven name x.clashes)
  no_misfit signals groups (misfit.Signal Private name) work x = absurd (work.joined.private name x.1.clashes)
  no_misfit signals groups (misfit.Signal Starts name) work x = absurd (work.joined.starts name x.2.clashes)
  no_misfit signals groups (misfit.TooMany n) work x =
      absurd (misfit_apart signals groups work (misfit.TooMany n) (λ same. cc) x.1)
  no_misfit signals groups misfit.States work x =
      absurd (misfit_apart signals groups work misfit.States (λ same. cc) x.1)
  no_misfit signals groups (misfit.Interferes y) work x =
      absurd (misfit_apart signals groups work (misfit.Interferes y) (λ same. cc) x.1)

-- ---- of two misfits each is the first
module _ (parts : List CodedGraph) (joined : CanBeJoined parts) where
  module _ (i j : ℕ) (less : i < j) (within : j < length parts) where
    -- who drives an event is one of the two, and so is who refuses it
    no_turn : (group : List ℕ) → IsGroup parts group → (xs : List ℕ) (e : Event)
        → IsRefusedBy (members parts group) group i j xs e → IsRefusedBy (members parts group) group j i xs e → ⊥
    no_turn group is xs e one other =
        let d = one.0.drives.0 in
        let t = other.0.drives.0 in
        let names : t.own.name ≡ d.own.name = t.name
        ∙ ap (λ (x : Signal). x.name) (some_same t.signal d.signal (sym t.signal_is ∙ d.signal_is)) ∙ sym d.name in
        no_clash parts group is Driven joined.driven d.own.name (
          record {
            one = one.0.driving;
            other = other.0.driving;
            apart = λ same. (
                let places = sym one.1 ∙ ap (slice_get group) same ∙ other.1 in
                let equal = some_same i j places in
                omega (arith, less, equal));
            own = one.0.driver;
            own_kind = d.own.kind;
            has = (one.0.driving_within, d.own_is);
            theirs = other.0.driver;
            their_kind = t.own.kind;
            also_has = (
              other.0.driving_within,
              t.own_is ∙ ap (λ (n : List ℕ). Some (signal_of n t.own.kind)) names,
            );
          },
          one.0.drives.1,
          other.0.drives.1,
        )
      where
        signal_of : List ℕ → SigKind → Signal
        signal_of n kind = record { name = n; kind = kind }

    abbrev Told : List ℕ → List ℕ → Event → ℕ → ℕ → Type 0
    Told group xs e driver refuser = IsRefusedBy (members parts group) group driver refuser xs e

    first_is_between : (group : List ℕ) (driver refuser : ℕ) (xs : List ℕ) (e : Event)
        → IsRefusedBy (members parts group) group driver refuser xs e
        → ((driver ≡ i) × (refuser ≡ j)) ⊎ ((driver ≡ j) × (refuser ≡ i))
        → IsBetween (members parts group) group i j xs e
    first_is_between group driver refuser xs e told (inl these) =
        inl (subst (λ (a : ℕ). Told group xs e a j) these.0 (subst (λ (b : ℕ). Told group xs e driver b) these.1 told))
    first_is_between group driver refuser xs e told (inr these) =
        inr (subst (λ (a : ℕ). Told group xs e a i) these.0 (subst (λ (b : ℕ). Told group xs e driver b) these.1 told))

    same_direction : (group : List ℕ) → IsGroup parts group → (xs : List ℕ) (e : Event) (a b c d : ℕ)
        → Told group xs e a b → ((a ≡ i) × (b ≡ j)) ⊎ ((a ≡ j) × (b ≡ i))
        → Told group xs e c d → ((c ≡ i) × (d ≡ j)) ⊎ ((c ≡ j) × (d ≡ i)) → (a ≡ c) × (b ≡ d)
    same_direction group is xs e a b c d one (inl p) other (inl q) = (p.0 ∙ sym q.0, p.1 ∙ sym q.1)
    same_direction group is xs e a b c d one (inr p) other (inr q) = (p.0 ∙ sym q.0, p.1 ∙ sym q.1)
    same_direction group is xs e a b c d one (inl p) other (inr q) = absurd (no_turn group is xs e
        (subst (λ (v : ℕ). Told group xs e v j) p.0 (subst (λ (v : ℕ). Told group xs e a v) p.1 one))
        (subst (λ (v : ℕ). Told group xs e v i) q.0 (subst (λ (v : ℕ). Told group xs e c v) q.1 other)))
    same_direction group is xs e a b c d one (inr p) other (inl q) = absurd (no_turn group is xs e
        (subst (λ (v : ℕ). Told group xs e v j) q.0 (subst (λ (v : ℕ). Told group xs e c v) q.1 other))
        (subst (λ (v : ℕ). Told group xs e v i) p.0 (subst (λ (v : ℕ). Told group xs e a v) p.1 one)))

    same_place : (group : List ℕ) (a b c d : ℕ) (xs ys : List ℕ) (e f : Event)
        → IsFirstBetween (members parts group) group i j a b xs e
        → IsFirstBetween (members parts group) group i j c d ys f → (xs ≡ ys) × (e ≡ f)
    same_place group a b c d xs ys e f one other =
        let those = members parts group in
        let p = event_place e in
        let q = event_place f in
        let x_width = reached_width those (joined_signals those) xs one.reached in
        let y_width = reached_width those (joined_signals those) ys other.reached in
        let width : length (xs ++ p ∷ []) ≡ length (ys ++ q ∷ []) =
        omega (arith, length_push xs p, length_push ys q, x_width, y_width) in
        elim (before_or (xs ++ p ∷ []) (ys ++ q ∷ []) width) [
          | inl same ↦ (let both = same_from_push xs ys p q same in (both.0, same_event_place e f both.1))
          | inr (inl earlier) ↦ absurd (other.none_before xs e one.reached
              (first_is_between group a b xs e one.refused one.these) earlier)
          | inr (inr later) ↦ absurd (one.none_before ys f other.reached
              (first_is_between group c d ys f other.refused other.these) later)
        ]

    same_interference : (group : List ℕ) → IsGroup parts group → (x y : Interference)
        → IsInterference parts group i j x → IsInterference parts group i j y → x ≡ y
    same_interference group is x y one other =
        let those = members parts group in
        let place = same_place group x.driver x.refuser y.driver y.refuser x.at y.at one.event other.event one.first
        other.first in
        let moved : Told group x.at one.event y.driver y.refuser =
        subst (λ (xs : List ℕ). Told group xs one.event y.driver y.refuser) (sym place.0)
        (subst (λ (e : Event). Told group y.at e y.driver y.refuser) (sym place.1) other.first.refused) in
        let way = same_direction group is x.at one.event x.driver x.refuser y.driver y.refuser one.first.refused
        one.first.these moved other.first.these in
        same_record x.group y.group x.at y.at x.name y.name x.up y.up x.driver y.driver x.refuser y.refuser
        (one.group_is ∙ sym other.group_is) place.0
        (one.named ∙ ap (λ (e : Event). name_of (joined_signals those) e.sig) place.1 ∙ sym other.named)
        (one.rises ∙ ap (λ (e : Event). e.up) place.1 ∙ sym other.rises) way.0 way.1
      where
        make : List ℕ → List ℕ → List ℕ → Bool → ℕ → ℕ → Interference
        make g xs n up a b = record { group = g; at = xs; name = n; up = up; driver = a; refuser = b }

        same_record : (g h xs ys n m : List ℕ) (up down : Bool) (a c b d : ℕ) → g ≡ h → xs ≡ ys → n ≡ m → up ≡ down
            → a ≡ c → b ≡ d → make g xs n up a b ≡ make h ys m down c d
        same_record g h xs ys n m up down a c b d p q r s t u =
            ap (λ (w : List ℕ). make w xs n up a b) p ∙ ap (λ (w : List ℕ). make h w n up a b) q
            ∙ ap (λ (w : List ℕ). make h ys w up a b) r ∙ ap (λ (w : Bool). make h ys m w a b) s
            ∙ ap (λ (w : ℕ). make h ys m down w b) t ∙ ap (λ (w : ℕ). make h ys m down c w) u

    too_many : (group : List ℕ) (n : ℕ) → AreTooMany (members parts group) (misfit.TooMany n)
        → length (joined_names (members parts group)) ≤ max_signals → ⊥
    too_many group n x few =
        let same = x.0 in
        let more = x.1 in
        omega (arith, few, same, more)

    -- in one group
    shown_one : (group : List ℕ) → IsGroup parts group → (e f : Misfit) → (e ≡ misfit.NoMemory → ⊥)
        → (f ≡ misfit.NoMemory → ⊥) → ShowsIn parts group i j e → ShowsIn parts group i j f → e ≡ f
    shown_one group is misfit.NoMemory f e_is f_is x y = absurd (e_is refl)
    shown_one group is (misfit.Signal clash name) f e_is f_is x y = absurd x
    shown_one group is (misfit.TooMany n) misfit.NoMemory e_is f_is x y = absurd (f_is refl)
    shown_one group is (misfit.TooMany n) (misfit.Signal clash name) e_is f_is x y = absurd y
    shown_one group is (misfit.TooMany n) (misfit.TooMany m) e_is f_is x y =
        ap (λ (k : ℕ). misfit.TooMany k) (x.0 ∙ sym y.0)
    shown_one group is (misfit.TooMany n) misfit.States e_is f_is x y = absurd (too_many group n x y.0)
    shown_one group is (misfit.TooMany n) (misfit.Interferes y2) e_is f_is x y =
        absurd (too_many group n x y.0.signals)
    shown_one group is misfit.States misfit.NoMemory e_is f_is x y = absurd (f_is refl)
    shown_one group is misfit.States (misfit.Signal clash name) e_is f_is x y = absurd y
    shown_one group is misfit.States (misfit.TooMany m) e_is f_is x y = absurd (too_many group m y x.0)
    shown_one group is misfit.States misfit.States e_is f_is x y = refl
    shown_one group is misfit.States (misfit.Interferes y2) e_is f_is x y = absurd (y.0.states x.1)
    shown_one group is (misfit.Interferes x2) misfit.NoMemory e_is f_is x y = absurd (f_is refl)
    shown_one group is (misfit.Interferes x2) (misfit.Signal clash name) e_is f_is x y = absurd y
    shown_one group is (misfit.Interferes x2) (misfit.TooMany m) e_is f_is x y =
        absurd (too_many group m y x.0.signals)
    shown_one group is (misfit.Interferes x2) misfit.States e_is f_is x y = absurd (x.0.states y.1)
    shown_one group is (misfit.Interferes x2) (misfit.Interferes y2) e_is f_is x y =
        ap (λ (z : Interference). misfit.Interferes z) (same_interference group is x2 y2 x.1 y.1)

    stops_one : (e f : Misfit) → (e ≡ misfit.NoMemory → ⊥) → (f ≡ misfit.NoMemory → ⊥) → StopsPair parts i j e
        → StopsPair parts i j f → e ≡ f
    stops_one e f e_is f_is one other =
        let x = stops_at parts i j e e_is one in
        let y = stops_at parts i j f f_is other in
        elim (cases_order x.0 y.0) [
          | inl same ↦ shown_one (group_of parts i j x.0) (group_is parts i j less within x.0) e f e_is f_is x.2
              (subst (λ (n : ℕ). ShowsIn parts (group_of parts i j n) i j f) (sym same) y.2)
          | inr (inl before) ↦ absurd (shown_not_widened parts i j (group_of parts i j x.0) e e_is x.2
              (y.1 x.0 before))
          | inr (inr after) ↦ absurd (shown_not_widened parts i j (group_of parts i j y.0) f f_is y.2 (x.1 y.0 after))
        ]

  first_one : (e f : Misfit) → (e ≡ misfit.NoMemory → ⊥) → (f ≡ misfit.NoMemory → ⊥) → IsFirstMisfit parts e
      → IsFirstMisfit parts f → e ≡ f
  first_one e f e_is f_is x y = elim (cases_order x.i y.i) [
    | inr (inl before) ↦ absurd (earlier x.i y.i x.j y.groups e e_is x.stops y.free_below before x.within x.looked_at)
    | inr (inr after) ↦ absurd (earlier y.i x.i y.j x.groups f f_is y.stops x.free_below after y.within y.looked_at)
    | inl same ↦ elim (cases_order x.j y.j) [
      | inr (inl before) ↦ absurd (sooner x.i x.j y.j y.own_groups e e_is x.stops
          (subst (λ (k : ℕ). IsFreeWith parts k y.j y.own_groups) (sym same) y.free_with) before x.looked_at)
      | inr (inr after) ↦ absurd (sooner y.i y.j x.j x.own_groups f f_is y.stops
          (subst (λ (k : ℕ). IsFreeWith parts k x.j x.own_groups) same x.free_with) after y.looked_at)
      | inl also ↦ stops_one x.i x.j x.looked_at.0 x.within e f e_is f_is x.stops
          (subst (λ (k : ℕ). StopsPair parts k x.j f) (sym same)
          (subst (λ (k : ℕ). StopsPair parts y.i k f) (sym also) y.stops))
    ]
  ]
    where
      earlier : (i k j total : ℕ) (e : Misfit) → (e ≡ misfit.NoMemory → ⊥) → StopsPair parts i j e
          → AreFreeBelow parts k total → i < k → j < length parts → IsLookedAt parts i j → ⊥
      earlier i k j total e is stops free less within looked =
          let settled = settled_below parts k total free i j less within looked in
          stops_apart parts i j e is stops settled.0 settled.1

      sooner : (i j k total : ℕ) (e : Misfit) → (e ≡ misfit.NoMemory → ⊥) → StopsPair parts i j e
          → IsFreeWith parts i k total → j < k → IsLookedAt parts i j → ⊥
      sooner i j k total e is stops free less looked =
          let settled = settled_with parts i k total free j less looked in
          stops_apart parts i j e is stops settled.0 settled.1

-- ---- the first misfit is one
module _ (parts : List CodedGraph) where
  -- a misfit of a pair
  pair_one : (e f : Misfit) → (e ≡ misfit.NoMemory → ⊥) → (f ≡ misfit.NoMemory → ⊥)
      → CanBeJoined parts × IsFirstMisfit parts e → CanBeJoined parts × IsFirstMisfit parts f → e ≡ f
  pair_one e f e_is f_is x y = first_one parts x.0 e f e_is f_is x.1 y.1

  pub one_misfit : (e f : Misfit) → (e ≡ misfit.NoMemory → ⊥) → (f ≡ misfit.NoMemory → ⊥) → ShowsMisfit parts e
      → ShowsMisfit parts f → e ≡ f
  one_misfit misfit.NoMemory f e_is f_is x y = absurd (e_is refl)
  one_misfit (misfit.Signal Driven n) misfit.NoMemory e_is f_is x y = absurd (f_is refl)
  one_misfit (misfit.Signal Driven n) (misfit.Signal Driven m) e_is f_is x y =
      ap (λ (w : List ℕ). misfit.Signal Driven w) (first_clash_one parts Driven n m x y)
  one_misfit (misfit.Signal Driven n) (misfit.Signal Private m) e_is f_is x y = absurd (y.0 n x.clashes)
  one_misfit (misfit.Signal Driven n) (misfit.Signal Starts m) e_is f_is x y = absurd (y.0 n x.clashes)
  one_misfit (misfit.Signal Driven n) (misfit.TooMany m) e_is f_is x y = absurd (y.0.driven n x.clashes)
  one_misfit (misfit.Signal Driven n) misfit.States e_is f_is x y = absurd (y.0.driven n x.clashes)
  one_misfit (misfit.Signal Driven n) (misfit.Interferes y2) e_is f_is x y = absurd (y.0.driven n x.clashes)
  one_misfit (misfit.Signal Private n) misfit.NoMemory e_is f_is x y = absurd (f_is refl)
  one_misfit (misfit.Signal Private n) (misfit.Signal Driven m) e_is f_is x y = absurd (x.0 m y.clashes)
  one_misfit (misfit.Signal Private n) (misfit.Signal Private m) e_is f_is x y =
      ap (λ (w : List ℕ). misfit.Signal Private w) (first_clash_one parts Private n m x.1 y.1)
  one_misfit (misfit.Signal Private n) (misfit.Signal Starts m) e_is f_is x y = absurd (y.1 n x.1.clashes)
  one_misfit (misfit.Signal Private n) (misfit.TooMany m) e_is f_is x y = absurd (y.0.private n x.1.clashes)
  one_misfit (misfit.Signal Private n) misfit.States e_is f_is x y = absurd (y.0.private n x.1.clashes)
  one_misfit (misfit.Signal Private n) (misfit.Interferes y2) e_is f_is x y = absurd (y.0.private n x.1.clashes)
  one_misfit (misfit.Signal Starts n) misfit.NoMemory e_is f_is x y = absurd (f_is refl)
  one_misfit (misfit.Signal Starts n) (misfit.Signal Driven m) e_is f_is x y = absurd (x.0 m y.clashes)
  one_misfit (misfit.Signal Starts n) (misfit.Signal Private m) e_is f_is x y = absurd (x.1 m y.1.clashes)
  one_misfit (misfit.Signal Starts n) (misfit.Signal Starts m) e_is f_is x y =
      ap (λ (w : List ℕ). misfit.Signal Starts w) (first_clash_one parts Starts n m x.2 y.2)
  one_misfit (misfit.Signal Starts n) (misfit.TooMany m) e_is f_is x y = absurd (y.0.starts n x.2.clashes)
  one_misfit (misfit.Signal Starts n) misfit.States e_is f_is x y = absurd (y.0.starts n x.2.clashes)
  one_misfit (misfit.Signal Starts n) (misfit.Interferes y2) e_is f_is x y = absurd (y.0.starts n x.2.clashes)
  one_misfit (misfit.TooMany n) misfit.NoMemory e_is f_is x y = absurd (f_is refl)
  one_misfit (misfit.TooMany n) (misfit.Signal Driven m) e_is f_is x y = absurd (x.0.driven m y.clashes)
  one_misfit (misfit.TooMany n) (misfit.Signal Private m) e_is f_is x y = absurd (x.0.private m y.1.clashes)
  one_misfit (misfit.TooMany n) (misfit.Signal Starts m) e_is f_is x y = absurd (x.0.starts m y.2.clashes)
  one_misfit (misfit.TooMany n) (misfit.TooMany m) e_is f_is x y = pair_one _ _ e_is f_is x y
  one_misfit (misfit.TooMany n) misfit.States e_is f_is x y = pair_one _ _ e_is f_is x y
  one_misfit (misfit.TooMany n) (misfit.Interferes y2) e_is f_is x y = pair_one _ _ e_is f_is x y
  one_misfit misfit.States misfit.NoMemory e_is f_is x y = absurd (f_is refl)
  one_misfit misfit.States (misfit.Signal Driven m) e_is f_is x y = absurd (x.0.driven m y.clashes)
  one_misfit misfit.States (misfit.Signal Private m) e_is f_is x y = absurd (x.0.private m y.1.clashes)
  one_misfit misfit.States (misfit.Signal Starts m) e_is f_is x y = absurd (x.0.starts m y.2.clashes)
  one_misfit misfit.States (misfit.TooMany m) e_is f_is x y = pair_one _ _ e_is f_is x y
  one_misfit misfit.States misfit.States e_is f_is x y = refl
  one_misfit misfit.States (misfit.Interferes y2) e_is f_is x y = pair_one _ _ e_is f_is x y
  one_misfit (misfit.Interferes x2) misfit.NoMemory e_is f_is x y = absurd (f_is refl)
  one_misfit (misfit.Interferes x2) (misfit.Signal Driven m) e_is f_is x y = absurd (x.0.driven m y.clashes)
  one_misfit (misfit.Interferes x2) (misfit.Signal Private m) e_is f_is x y = absurd (x.0.private m y.1.clashes)
  one_misfit (misfit.Interferes x2) (misfit.Signal Starts m) e_is f_is x y = absurd (x.0.starts m y.2.clashes)
  one_misfit (misfit.Interferes x2) (misfit.TooMany m) e_is f_is x y = pair_one _ _ e_is f_is x y
  one_misfit (misfit.Interferes x2) misfit.States e_is f_is x y = pair_one _ _ e_is f_is x y
  one_misfit (misfit.Interferes x2) (misfit.Interferes y2) e_is f_is x y = pair_one _ _ e_is f_is x y
