-- The parts of a group alone: their signals can be joined where those of all parts can.
use Rattle.std.proofs.Common.{◌≡◌, ◌≢◌, ℕ, ◌<◌, List, length, slice_get, Some}
use Rattle.std.proofs.Common.{All, sym, ap, subst, ◌∙◌, arith, inl, inr, slice_index}
use Rattle.std.proofs.lemmas.Bool.{cases_order}
use Rattle.std.proofs.lemmas.List.{length-map, get_or-map}
use Rattle.si_base.specs.declared.graph.Signal.{Signal}
use Rattle.si_base.specs.declared.graph.SigKind.{SigKind}
use Rattle.si_base.specs.declared.graph.SigKind.TheVariants.{Output}
use Rattle.si_base.specs.Bits.{bit}
use Rattle.si_base.specs.Codes.{CodedGraph, IsCoded, code}
use Rattle.si_base.specs.Graph.{StateGraph}
use Rattle.si_compose.specs.Joined.{AreDistinct, AreJoined, Drives, IsSame}
use Rattle.si_composing.specs.Causes.{HasNoClash}
use Rattle.si_composing.specs.JoinedSignals.{Has, HaveBoth, graph_of, joined_signals, part, start_value}
use Rattle.si_composing.specs.declared.clash.Clash.{Clash}
use Rattle.si_composing.specs.declared.clash.Clash.TheVariants.{Driven, Private, Starts}
use Rattle.si_composing.proofs.Composing.{coded_at, distinct_at}
use Rattle.si_composing.proofs.SignalLemmas.{signals_joined}
use Rattle.si_groups.specs.Groups.{members}
use Rattle.si_groups.specs.Loops.Between.{IsGroup}
use Rattle.si_groups.specs.Together.{CanBeJoined}

-- ---- other families of the same lists of signals
pub joined_over : (count : ℕ) (f g : ℕ → List Signal) (whole : List Signal) → ((i : ℕ) → i < count → f i ≡ g i)
    → AreJoined count f whole → AreJoined count g whole
joined_over count f g whole same joined = record {
  distinct = joined.distinct;
  part_distinct = λ i below. subst AreDistinct (same i below) (joined.part_distinct i below);
  each = λ i z below. subst (λ (xs : List Signal). z < length xs → (k : ℕ) × IsSame whole k xs z) (same i below)
      (joined.each i z below);
  no_other = λ k below. (
      let found = joined.no_other k below in (
        found.0,
        found.1,
        found.2,
        subst (λ (xs : List Signal). IsSame whole k xs found.1) (same found.0 found.2) found.3,
      ));
  kind = λ i k z below. subst
      (λ (xs : List Signal). (d : Drives whole k xs z) → d.0.signal.kind ≡ d.0.own.kind) (same i below)
      (joined.kind i k z below);
  driven = λ k x at is. (
      let found = joined.driven k x at is in (
        found.0,
        found.1,
        found.2,
        subst (λ (xs : List Signal). Drives whole k xs found.1) (same found.0 found.2) found.3,
      ));
  one_driver = λ i j k y z one other. subst
      (λ (xs : List Signal). Drives whole k xs y → Drives whole k (g j) z → i ≡ j) (same i one)
      (subst (λ (ys : List Signal). Drives whole k (f i) y → Drives whole k ys z → i ≡ j) (same j other)
      (joined.one_driver i j k y z one other));
  private = λ i j k y z one other. subst
      (λ (xs : List Signal). (d : Drives whole k xs y) → d.0.own.kind ≢ Output → IsSame whole k (g j) z → i ≡ j)
      (same i one)
      (subst (λ (ys : List Signal). (d : Drives whole k (f i) y) → d.0.own.kind ≢ Output → IsSame whole k ys z
      → i ≡ j) (same j other) (joined.private i j k y z one other));
}

module _ (parts : List CodedGraph) (group : List ℕ) (is : IsGroup parts group) where
  abbrev pub those : List CodedGraph
  those = members parts group

  -- the number of the member at a place
  abbrev pub number : ℕ → ℕ
  number a = slice_index group a

  pub size : length those ≡ length group
  size = length-map group (part parts)

  pub number_within : (a : ℕ) → a < length group → number a < length parts
  number_within a below = is.within a 0 below

  pub member : (a : ℕ) → a < length group → part those a ≡ part parts (number a)
  member a below = get_or-map (part parts) group a 0 _ below

  pub graph_same : (a : ℕ) → a < length group → graph_of those a ≡ graph_of parts (number a)
  graph_same a below = ap (λ (c : CodedGraph). c.graph) (member a below)

  pub members_coded : All IsCoded parts → All IsCoded those
  members_coded coded k d below =
      let inside : k < length group = omega (arith, below, size) in
      subst IsCoded (sym (get_or-map (part parts) group k 0 d inside))
      (coded_at parts coded (number k) (number_within k inside))

  -- ---- clashes
  numbers_apart : (a b : ℕ) → a < length group → b < length group → a ≢ b → number a ≢ number b
  numbers_apart a b in_a in_b apart same = elim (cases_order a b) [
    | inl equal ↦ apart equal
    | inr (inl less) ↦ (let order = is.in_order a b 0 less in_b in omega (arith, order, same))
    | inr (inr more) ↦ (let order = is.in_order b a 0 more in_a in omega (arith, order, same))
  ]

  has_in : (name : List ℕ) (a z : ℕ) (kind : SigKind) → Has those name a z kind → Has parts name (number a) z kind
  has_in name a z kind has =
      let inside : a < length group = (let below = has.0 in omega (arith, below, size)) in (
        number_within a inside,
        subst (λ (g : StateGraph). slice_get g.signals z ≡ Some (record { name = name; kind = kind }))
            (graph_same a inside) has.1,
      )

  inside_of : (a : ℕ) → a < length those → a < length group
  inside_of a below = omega (arith, below, size)

  both_in : (name : List ℕ) → HaveBoth those name → HaveBoth parts name
  both_in name b = record {
    one = number b.one;
    other = number b.other;
    apart = numbers_apart b.one b.other (inside_of b.one b.has.0) (inside_of b.other b.also_has.0) b.apart;
    own = b.own;
    own_kind = b.own_kind;
    has = has_in name b.one b.own b.own_kind b.has;
    theirs = b.theirs;
    their_kind = b.their_kind;
    also_has = has_in name b.other b.theirs b.their_kind b.also_has;
  }

  starts_in : (a z : ℕ) → a < length group → start_value those a z ≡ start_value parts (number a) z
  starts_in a z below = ap (λ (c : CodedGraph). bit (code c c.graph.start) z) (member a below)

  pub no_clash : (clash : Clash) → HasNoClash parts clash → HasNoClash those clash
  unfolding both_in
  no_clash Driven none name h = none name (both_in name h.0, h.1, h.2)
  no_clash Private none name h = none name (both_in name h.0, h.1, h.2)
  no_clash Starts none name h = none name (
    both_in name h.0,
    λ same. h.1 (starts_in h.0.one h.0.own (inside_of h.0.one h.0.has.0) ∙ same
        ∙ sym (starts_in h.0.other h.0.theirs (inside_of h.0.other h.0.also_has.0))),
  )

  pub joined_alone : All IsCoded parts → CanBeJoined parts
      → AreJoined (length group) (λ a. (graph_of parts (number a)).signals) (joined_signals those)
  joined_alone coded joined =
      let all : AreJoined (length those) (λ a. (graph_of those a).signals) (joined_signals those) =
      signals_joined those (distinct_at those (members_coded coded)) (no_clash Driven joined.driven)
      (no_clash Private joined.private) in
      joined_over (length group) (λ a. (graph_of those a).signals) (λ a. (graph_of parts (number a)).signals)
      (joined_signals those) (λ a below. ap (λ (g : StateGraph). g.signals) (graph_same a below))
      (subst (λ (n : ℕ). AreJoined n (λ a. (graph_of those a).signals) (joined_signals those)) size all)
