-- Blocks that a search may pass over, and graphs that it needn't be made for.
use Rattle.std.proofs.Common.{◌≡◌, ℕ, ◌+◌, ◌<◌, ◌≤◌, ◌↔◌, ◌∙◌, Bool, true, false, List, [], ◌∷◌, ◌++◌, length, get_or}
use Rattle.std.proofs.Common.{All, IfSome, None, Option, Some, slice_index_or, Contains, IsTrue, sym, arith, ap}
use Rattle.std.proofs.Common.{subst, inl, inr, ◌≢◌}
use Rattle.std.proofs.lemmas.Bool.{cases_eq}
use Rattle.std.proofs.lemmas.List.{get_or-map, get_or_append_left, get_or_push, length-map, get_or_default}
use Rattle.std.proofs.lemmas.List.Elements.{Contains-get_or}
use Rattle.si_base.specs.declared.graph.Signal.{Signal}
use Rattle.si_base.specs.Graph.{StateGraph}
use Rattle.si_base.specs.Limits.{max_signals}
use Rattle.si_base.specs.Codes.{CodedGraph}
use Rattle.si_base.specs.Sets.{IsIn}
use Rattle.si_base.specs.Proper.{IsConflict}
use Rattle.si_candidates.specs.Blocking.{MaySwitch}
use Rattle.si_candidates.specs.Blocks.{AreBlocks, block_at}
use Rattle.si_conflicts.specs.declared.conflicts.Pair.{Pair}
use Rattle.si_conflicts.specs.declared.crowds.Crowd.{Crowd}
use Rattle.si_conflicts.specs.declared.crowds.Crowded.{Crowded}
use Rattle.si_conflicts.specs.declared.members.Member.{Member}
use Rattle.si_conflicts.specs.Loops.Chains.{AreChains, Chains}
use Rattle.si_conflicts.specs.Loops.Crowds.{HasOfCrowd, crowded_of}
use Rattle.si_conflicts.specs.Conflicts.{AreFirstConflicts, HasConflicts, pairs_of}
use Rattle.si_candidates.specs.Loops.ManySets.{AreAllTold}
use Rattle.si_conflicts.proofs.CrowdLemmas.{crowded_within, has_of_crowd}
use Rattle.si_conflicts.proofs.OneConflictList.{one_count}
use Rattle.si_resolve.specs.Best.{NoneImproves}
use Rattle.si_resolve.specs.Loops.Aspects.{AreWithin}
use Rattle.si_resolve.specs.Loops.Usable.{HaveSides, IsUsable}
use Rattle.si_resolve.proofs.BlockSizes.{size_at}

pub usable_from : (g : StateGraph) (block : List Bool) (usable may : Bool)
    → IsTrue usable ↔ (IsTrue may × ((s : ℕ) × IsIn block s)) → (may ≡ true) ↔ MaySwitch g (IsIn block)
    → (usable ≡ true) ↔ IsUsable g block
usable_from g block usable may is switches = (
  λ on. (let both = is.0 on in record { state = both.1.0; there = both.1.1; may_switch = switches.0 both.0 }),
  λ x. is.1 (switches.1 x.may_switch, (x.state, x.there)),
)

pub usable_at : (g : StateGraph) (blocks : List (List Bool)) (flags : List Bool) (k : ℕ) (x : List Bool)
    (may usable : Bool) → k < length blocks → x ≡ get_or blocks k x → may ≡ get_or flags k may
    → AreAllTold g blocks flags → IsTrue usable ↔ (IsTrue may × ((s : ℕ) × IsIn x s))
    → (usable ≡ true) ↔ IsUsable g (block_at blocks k)
usable_at g blocks flags k x may usable inside at flag told is =
    subst (λ y. (usable ≡ true) ↔ IsUsable g y) (sym here) (usable_from g x usable may is switches)
  where
    here : block_at blocks k ≡ x
    here = get_or_default blocks k [] x inside ∙ sym at

    there : may ≡ get_or flags k false
    there = flag ∙ get_or_default flags k may false (omega (arith, inside, told.count))

    switches : (may ≡ true) ↔ MaySwitch g (IsIn x)
    switches = subst (λ b. (b ≡ true) ↔ MaySwitch g (IsIn x)) (sym there)
        (subst (λ y. (get_or flags k false ≡ true) ↔ MaySwitch g (IsIn y)) here (told.each k
        (omega (arith, inside, told.count))))

pub usable_more : (g : StateGraph) (blocks : List (List Bool)) (usable : List Bool) (flag : Bool) (n : ℕ)
    → length usable ≡ n → (flag ≡ true) ↔ IsUsable g (block_at blocks n)
    → ((k : ℕ) → k < n → (get_or usable k false ≡ true) ↔ IsUsable g (block_at blocks k))
    → (k : ℕ) → k < n + 1 → (get_or (usable ++ flag ∷ []) k false ≡ true) ↔ IsUsable g (block_at blocks k)
usable_more g blocks usable flag n count is before k below = elim (cases_eq k n) [
  | inl same ↦ subst At (sym same) (λ h. is.0 (sym last ∙ h), λ x. last ∙ is.1 x)
  | inr other ↦ (
    λ h. (before k (omega (arith, below, other))).0 (sym (kept other) ∙ h),
    λ x. kept other ∙ (before k (omega (arith, below, other))).1 x,
  )
]
  where
    At : ℕ → Type 0
    At j = (get_or (usable ++ flag ∷ []) j false ≡ true) ↔ IsUsable g (block_at blocks j)

    last : get_or (usable ++ flag ∷ []) n false ≡ flag
    last = get_or_push usable flag false n count

    kept : k ≢ n → get_or (usable ++ flag ∷ []) k false ≡ get_or usable k false
    kept other = get_or_append_left usable (flag ∷ []) false k (omega (arith, below, other, count))

pub none_from_zero : (c : CodedGraph) (n : ℕ) → HasConflicts c n → n ≡ 0 → NoneImproves c
none_from_zero c n counted zero x blocks m are choice also =
    let same = one_count c m n also counted in omega (arith, same, zero)

pub none_without_room : (c : CodedGraph) (signals : List Signal) → signals ≡ c.graph.signals
    → max_signals ≤ length signals → NoneImproves c
none_without_room c signals same full x blocks m are choice counted =
    let few = choice.accepted.few_signals in
    let size = ap (length {A = Signal}) same in
    absurd (omega (arith, few, full, size))

abbrev pair_of : Pair → ℕ × ℕ
pair_of x = (x.p, x.q)

-- the states of the first conflicts are within a set of the graph's states
pub pairs_inside : (c : CodedGraph) (limit : ℕ) (pairs : List Pair) (set sides : List Bool)
    → AreFirstConflicts c limit (pairs_of pairs) → length set ≡ c.graph.states → length sides ≡ c.graph.states
    → AreWithin set sides pairs
pairs_inside c limit pairs set sides are set_size sides_size = record {
  size = sides_size ∙ sym set_size;
  first = λ k d inside. (let is = conflict k d inside in omega (arith, is.order, is.within, set_size));
  later = λ k d inside. (let is = conflict k d inside in omega (arith, is.within, set_size));
}
  where
    conflict : (k : ℕ) (d : Pair) → k < length pairs → IsConflict c ((get_or pairs k d).p, (get_or pairs k d).q)
    conflict k d inside =
        are.each ((get_or pairs k d).p, (get_or pairs k d).q)
        (subst (λ (x : ℕ × ℕ). Contains (pairs_of pairs) x)
        (get_or-map pair_of pairs k d (0, 0) inside)
        (Contains-get_or (pairs_of pairs) k (0, 0)
        (omega (arith, inside, length-map pairs pair_of))))

-- and so within each usable block and its sides
module _ (c : CodedGraph) (blocks : List (List Bool)) (usable : List Bool) (sides : List (List Bool)) (limit : ℕ)
    (pairs : List Pair) (blocks_are : AreBlocks c blocks) (have : HaveSides c.graph blocks usable sides)
    (are : AreFirstConflicts c limit (pairs_of pairs)) where
  abbrev AreInside : List (List Bool) → List Bool → List (List Bool) → List Pair → Type 0
  AreInside bs us ss ps = (k : ℕ) → k < length bs → slice_index_or us k false ≡ true
      → AreWithin (block_at bs k) (block_at ss k) ps

  all_inside : AreInside blocks usable sides pairs
  all_inside k inside on = pairs_inside c limit pairs (block_at blocks k) (block_at sides k) are
      (size_at c blocks k blocks_are inside) (have.each k inside on).size

  pub given_inside : (bs : List (List Bool)) (us : List Bool) (ss : List (List Bool)) (ps : List Pair) → bs ≡ blocks
      → us ≡ usable → ss ≡ sides → ps ≡ pairs → AreInside bs us ss ps
  given_inside bs us ss ps blocks_same usable_same sides_same pairs_same =
      subst (λ (x : List (List Bool)). AreInside x us ss ps) (sym blocks_same)
      (subst (λ (x : List Bool). AreInside blocks x ss ps) (sym usable_same)
      (subst (λ (x : List (List Bool)). AreInside blocks usable x ps) (sym sides_same)
      (subst (λ (x : List Pair). AreInside blocks usable sides x) (sym pairs_same) all_inside)))

-- what holds at each place of a list holds so after a push
pub each_more : {A : Type 0} (d : A) (P : ℕ → A → Type 0) (items : List A) (x : A) (n : ℕ) → length items ≡ n
    → ((k : ℕ) → k < n → P k (get_or items k d)) → P n x
    → (k : ℕ) → k < n + 1 → P k (get_or (items ++ x ∷ []) k d)
each_more d P items x n size each last k below = elim (cases_eq k n) [
  | inl same ↦ subst (λ j. P j (get_or (items ++ x ∷ []) j d)) (sym same)
      (subst (P n) (sym (get_or_push items x d n size)) last)
  | inr other ↦ (
      let early : k < n = omega (arith, below, other) in
      subst (P k) (sym (get_or_append_left items (x ∷ []) d k (omega (arith, early, size)))) (each k early))
]

-- the crowded states of a graph are within a set of the graph's states
pub crowded_inside : (c : CodedGraph) (chains : Chains) (least : ℕ) (crowded : List Crowded) (set : List Bool)
    → AreChains c chains → crowded ≡ crowded_of chains.members least → length set ≡ c.graph.states
    → All (λ x. x.state < length set) crowded
crowded_inside c chains least crowded set chains_are are size =
    subst (λ (xs : List Crowded). All (λ x. x.state < length set) xs) (sym are)
    (subst (λ n. All (λ x. x.state < n) (crowded_of chains.members least)) (sym size)
    (crowded_within chains.members least c.graph.states chains_are.members_are.within))

-- a crowd that is found in a set has a state there
pub crowd_of_set : (members : List Member) (least : ℕ) (set : List Bool) (crowded : List Crowded) (o : Option Crowd)
    → crowded ≡ crowded_of members least
    → IfSome o (λ crowd. (x : Crowded) × Contains crowded x × IsIn set x.state × (crowd ≡ x.crowd))
    → IfSome o (HasOfCrowd members set)
crowd_of_set members least set crowded None are found = tt
crowd_of_set members least set crowded (Some crowd) are found = has_of_crowd members least set crowded crowd are found
