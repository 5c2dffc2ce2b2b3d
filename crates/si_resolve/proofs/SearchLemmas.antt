-- What becomes of a search with each candidate.
use Rattle.std.proofs.Common.{◌≡◌, ℕ, ◌+◌, ◌<◌, ◌≤◌, ◌↔◌, Bool, true, false, List, length, slice_index_or, Option}
use Rattle.std.proofs.Common.{Some, None, IfNone, IfSome, MatchOption, IsTrue, refl, sym, ap, ap₂, subst, ◌∙◌, arith}
use Rattle.std.proofs.Common.{inl, inr}
use Rattle.std.proofs.lemmas.Bool.{true≢false}
use Rattle.std.proofs.lemmas.List.{length-map}
use Rattle.si_base.specs.Graph.{StateGraph, IsGraph}
use Rattle.si_base.specs.Limits.{max_signals}
use Rattle.si_base.specs.Codes.{CodedGraph, IsCoded}
use Rattle.si_base.specs.Proper.{IsProper}
use Rattle.si_base.specs.Sets.{IsIn, IsDisjoint}
use Rattle.si_base.proofs.OrderAscending.{In}
use Rattle.si_base.proofs.GivenGraphUnique.{contains_from_in}
use Rattle.si_graph.proofs.SearchLemmas.{in_below}
use Rattle.si_insert.specs.declared.partition.Class.{Class}
use Rattle.si_insert.specs.Partition.{IsLawful}
use Rattle.si_candidates.specs.Loops.Sides.{IsPartitionOfBlocks, between}
use Rattle.si_candidates.proofs.SideLemmas.{class_is}
use Rattle.si_candidates.specs.Blocks.{AreBlocks, block_at}
use Rattle.si_candidates.specs.Parts.{AreClasses}
use Rattle.si_candidates.proofs.PartLaws.{classes_lawful}
use Rattle.si_conflicts.specs.declared.crowds.Crowd.{Crowd}
use Rattle.si_conflicts.specs.declared.members.Member.{Member}
use Rattle.si_conflicts.specs.Loops.Chains.{AreChains, Chains}
use Rattle.si_conflicts.specs.Conflicts.{HasConflicts}
use Rattle.si_conflicts.specs.Loops.Crowds.{HasOfCrowd, code_count}
use Rattle.si_conflicts.specs.Left.{LeavesConflicts}
use Rattle.si_conflicts.proofs.CrowdLemmas.{crowd_is_left}
use Rattle.si_conflicts.proofs.LeftStaying.{stay_left}
use Rattle.si_insert.specs.Loops.RowSearch.{bar as bar_in}
use Rattle.si_resolve.specs.declared.search.Found.{Found}
use Rattle.si_resolve.specs.declared.search.Search.{Search}
use Rattle.si_resolve.specs.Best.{Choice, Improves, IsChoice, NoneImproves}
use Rattle.si_resolve.specs.Loops.Search.{IsBestSoFar, IsEarlier, bar}
use Rattle.si_resolve.specs.declared.aspects.Aspect.{Aspect}
use Rattle.si_resolve.specs.declared.block_list.BlockList.{BlockList}
use Rattle.si_resolve.specs.Loops.Aspects.{HaveAspects, aspect_of, column_at, unparted_count}
use Rattle.si_resolve.specs.Loops.Sharing.{ShareCrowd, crowd_at}
use Rattle.si_resolve.specs.Loops.Usable.{IsUsable, AreSearched, AreUsable}
use Rattle.si_resolve.specs.Loops.Progress.{found_of, best_of, IsSearching, AreAccepted, bar_of, MayBeAccepted}
use Rattle.si_resolve.specs.Loops.Progress.{LeavesBelow}
use Rattle.si_resolve.specs.Loops.Progress.{LeavesNoneBelow, NoneIsBelow}
use Rattle.si_candidates.proofs.BlockingLemmas.{accepted_by_blocks}
use Rattle.si_candidates.proofs.BlockCopyCount.{copies_by_blocks}
use Rattle.si_resolve.proofs.AspectLemmas.{unparted_stay}
use Rattle.si_resolve.proofs.BlockSizes.{size_at}
use Rattle.si_resolve.proofs.SearchSteps.{search_skip, search_take, search_row, search_finds}
use Rattle.si_resolve.proofs.SearchSteps.{search_finds_none, block_refuses}

-- ---- a candidate alone
pub lawful_classes : (g : StateGraph) (plus minus : List Bool) (classes : List Class) → IsGraph g
    → length plus ≡ g.states → length minus ≡ g.states → ((s : ℕ) × IsIn plus s) → ((s : ℕ) × IsIn minus s)
    → AreClasses g plus minus classes → IsLawful g classes
lawful_classes g plus minus classes graph plus_size minus_size r f are =
    let r_in = in_below plus r.0 r.1 in
    let f_in = in_below minus f.0 f.1 in
    classes_lawful g plus minus classes r.0 f.0 graph are r.1 (omega (arith, r_in)) f.1 (omega (arith, f_in))

-- the classes that sides tell are those of the blocks, if there are any
pub told_classes : (c : CodedGraph) (plus minus : List Bool) (told classes : List Class) → IsCoded c
    → length plus ≡ c.graph.states → length minus ≡ c.graph.states
    → ((s : ℕ) × IsIn plus s) → ((s : ℕ) × IsIn minus s)
    → ((others : List Class) → IsPartitionOfBlocks c.graph plus minus others → others ≡ told)
    → AreClasses c.graph plus minus classes → classes ≡ told
told_classes c plus minus told classes is plus_size minus_size r f only are =
    let lawful = lawful_classes c.graph plus minus classes is.graph_is plus_size minus_size r f are in
    only classes (record { lawful = lawful; rising = are.rising; falling = are.falling })

pub some_is : {A : Type 0} (P : A → Type 0) (o : Option A) (x : A) → o ≡ Some x → IfSome o P → P x
some_is P o x same is = subst (λ z. IfSome z P) same is

-- ---- choices and candidates
pub choice_usable : (c : CodedGraph) (blocks : List (List Bool)) (x : Choice) → IsCoded c → IsProper c.graph
    → IsChoice c blocks x → IsUsable c.graph (block_at blocks x.i) × IsUsable c.graph (block_at blocks x.j)
choice_usable c blocks x is proper choice =
    let may = block_refuses c blocks x is proper choice in
    let r = choice.accepted.lawful.rises in
    let f = choice.accepted.lawful.falls in (
      record { state = r.0; there = (choice.are.rising r.0 r.1).0 r.2; may_switch = may.0 },
      record { state = f.0; there = (choice.are.falling f.0 f.1).0 f.2; may_switch = may.1 },
    )

pub choice_may_be : (c : CodedGraph) (blocks : List (List Bool)) (x : Choice) → AreBlocks c blocks
    → IsChoice c blocks x → MayBeAccepted c.graph (block_at blocks x.i) (block_at blocks x.j)
choice_may_be c blocks x are choice =
    let order = choice.candidate.order in
    let within = choice.candidate.within in
    let size_i = size_at c blocks x.i are (omega (arith, order, within)) in
    let size_j = size_at c blocks x.j are within in
    let copies = copies_by_blocks c.graph (block_at blocks x.i) (block_at blocks x.j) x.classes
    size_i size_j choice.are in
    record { disjoint = choice.candidate.disjoint; room = omega (arith, copies, choice.accepted.few_states) }

-- blocks in each of which a new signal may switch, and which may be accepted, are
pub candidate_accepted : (c : CodedGraph) (blocks : List (List Bool)) (i j : ℕ) → IsCoded c → IsProper c.graph
    → length c.graph.signals < max_signals → AreBlocks c blocks → i < j → j < length blocks
    → IsUsable c.graph (block_at blocks i) → IsUsable c.graph (block_at blocks j)
    → MayBeAccepted c.graph (block_at blocks i) (block_at blocks j)
    → AreAccepted c.graph (block_at blocks i) (block_at blocks j)
candidate_accepted c blocks i j is proper few are order within one other may classes classes_are =
    let g = c.graph in
    let plus = block_at blocks i in
    let minus = block_at blocks j in
    let size_i = size_at c blocks i are (omega (arith, order, within)) in
    let size_j = size_at c blocks j are within in
    let lawful = lawful_classes g plus minus classes is.graph_is size_i size_j
    (one.state, one.there) (other.state, other.there) classes_are in
    let copies = copies_by_blocks g plus minus classes size_i size_j classes_are in
    (accepted_by_blocks c plus minus classes is proper lawful classes_are).1
    (one.may_switch, other.may_switch, omega (arith, copies, may.room), few)

-- the candidate that was found at these places
abbrev pub choice_at : ℕ → ℕ → Found → Choice
choice_at i j found = record { i = i; j = j; classes = found.accepted; conflicts = found.conflicts }

pub candidate_choice : (c : CodedGraph) (blocks : List (List Bool)) (i j low : ℕ) (found : Found)
    → i < j → j < length blocks → IsDisjoint (block_at blocks i) (block_at blocks j)
    → AreAccepted c.graph (block_at blocks i) (block_at blocks j)
    → LeavesBelow c (block_at blocks i) (block_at blocks j) low found → IsChoice c blocks (choice_at i j found)
candidate_choice c blocks i j low found order within disjoint accepted left = record {
  candidate = record { order = order; within = within; disjoint = disjoint };
  are = left.are;
  accepted = accepted found.accepted left.are;
  leaves = left.leaves;
}

-- ---- the search
abbrev bar_by : ℕ → Option Found → ℕ
bar_by n o = bar_in (λ (x : Found). x.conflicts) n o

bar_same : (n : ℕ) (o : Option Choice) → bar_by n (best_of o) ≡ bar n o
bar_same n None = refl
bar_same n (Some x) = refl

pub skip : (c : CodedGraph) (blocks : List (List Bool)) (j i : ℕ) (s : Search) → IsSearching c blocks j i s
    → NoneIsBelow c blocks i j (bar_of s) → IsSearching c blocks j (i + 1) s
skip c blocks j i s so high =
    let n = s.given in
    let low : bar_by n s.best ≡ bar n so.best = ap (bar_by n) so.found ∙ bar_same n so.best in
    let above : (y : Choice) → IsChoice c blocks y → y.j ≡ j → y.i ≡ i → bar n so.best ≤ y.conflicts =
    λ y choice at_j at_i. (let more = high y choice at_j at_i in omega (arith, low, more)) in
    record {
      counts = so.counts;
      best = so.best;
      is_best = search_skip c blocks n j i so.best above so.is_best;
      found = so.found;
    }

pub keep : (c : CodedGraph) (blocks : List (List Bool)) (j i : ℕ) (s : Search) (x : Choice) → IsCoded c
    → IsSearching c blocks j i s → IsChoice c blocks x → x.j ≡ j → x.i ≡ i → x.conflicts < bar_of s
    → IsSearching c blocks j (i + 1) (record s { best = Some (found_of x) })
keep c blocks j i s x is so choice at_j at_i fewer =
    let n = s.given in
    let low : bar_by n s.best ≡ bar n so.best = ap (bar_by n) so.found ∙ bar_same n so.best in
    let under : x.conflicts < bar n so.best = omega (arith, low, fewer) in
    record {
      counts = so.counts;
      best = Some x;
      is_best = search_take c blocks n j i so.best x is choice at_j at_i under so.is_best;
      found = refl;
    }

-- a row that no accepted candidate is in, and the end of each row
pub skip_row : (c : CodedGraph) (blocks : List (List Bool)) (j : ℕ) (s : Search) → IsSearching c blocks j 0 s
    → ((y : Choice) → IsChoice c blocks y → y.j ≡ j → ⊥) → IsSearching c blocks (j + 1) 0 s
skip_row c blocks j s so none = record {
  counts = so.counts;
  best = so.best;
  is_best = search_row c blocks s.given j 0 so.best (λ y choice at. absurd (none y choice at)) so.is_best;
  found = so.found;
}

pub end_row : (c : CodedGraph) (blocks : List (List Bool)) (j : ℕ) (s : Search) → IsSearching c blocks j j s
    → IsSearching c blocks (j + 1) 0 s
end_row c blocks j s so = record {
  counts = so.counts;
  best = so.best;
  is_best = search_row c blocks s.given j j so.best (λ y choice at. inl (before y choice at)) so.is_best;
  found = so.found;
}
  where
    before : (y : Choice) → IsChoice c blocks y → y.j ≡ j → IsEarlier y j j
    before y choice at = (let order = choice.candidate.order in inr (at, inl (omega (arith, order, at))))

-- ---- what passes a candidate over
pub none_by_zero : (c : CodedGraph) (blocks : List (List Bool)) (i j low : ℕ) → low ≤ 0 → NoneIsBelow c blocks i j low
none_by_zero c blocks i j low zero y choice at_j at_i = omega (arith, zero)

at_both : (P : ℕ → ℕ → Type 0) (x : Choice) (i j : ℕ) → x.j ≡ j → x.i ≡ i → P x.i x.j → P i j
at_both P x i j at_j at_i is = subst (P i) at_j (subst (λ k. P k x.j) at_i is)

pub none_by_first : (c : CodedGraph) (blocks : List (List Bool)) (i j low : ℕ) → IsCoded c → IsProper c.graph
    → (IsUsable c.graph (block_at blocks i) → ⊥) → NoneIsBelow c blocks i j low
none_by_first c blocks i j low is proper not_usable y choice at_j at_i =
    absurd (not_usable (subst (λ k. IsUsable c.graph (block_at blocks k)) at_i
    (choice_usable c blocks y is proper choice).0))

pub none_by_later : (c : CodedGraph) (blocks : List (List Bool)) (j : ℕ) → IsCoded c → IsProper c.graph
    → (IsUsable c.graph (block_at blocks j) → ⊥) → (y : Choice) → IsChoice c blocks y → y.j ≡ j → ⊥
none_by_later c blocks j is proper not_usable y choice at_j =
    not_usable (subst (λ k. IsUsable c.graph (block_at blocks k)) at_j (choice_usable c blocks y is proper choice).1)

pub none_by_both : (c : CodedGraph) (blocks : List (List Bool)) (i j low : ℕ) → AreBlocks c blocks
    → (MayBeAccepted c.graph (block_at blocks i) (block_at blocks j) → ⊥) → NoneIsBelow c blocks i j low
none_by_both c blocks i j low are never y choice at_j at_i =
    absurd (never (at_both (λ a b. MayBeAccepted c.graph (block_at blocks a) (block_at blocks b)) y i j at_j at_i
    (choice_may_be c blocks y are choice)))

pub none_by_left : (c : CodedGraph) (blocks : List (List Bool)) (i j low : ℕ)
    → LeavesNoneBelow c (block_at blocks i) (block_at blocks j) low → NoneIsBelow c blocks i j low
none_by_left c blocks i j low none y choice at_j at_i =
    none y.classes y.conflicts
    (at_both (λ a b. AreClasses c.graph (block_at blocks a) (block_at blocks b) y.classes)
    y i j at_j at_i choice.are)
    choice.leaves

-- conflicts that the blocks don't part stay
pub same_lengths : (blocks : List (List Bool)) (usable : List Bool) (sides : List (List Bool)) (pairs : List (ℕ × ℕ))
    (columns : List (List Aspect)) (i j : ℕ) → HaveAspects blocks usable sides pairs columns → i < length blocks
    → j < length blocks → slice_index_or usable i false ≡ true → slice_index_or usable j false ≡ true
    → length (column_at columns j) ≡ length (column_at columns i)
same_lengths blocks usable sides pairs columns i j have i_in j_in one other =
    ap (length {A = Aspect}) (have.each j j_in other)
    ∙ length-map pairs (aspect_of (block_at blocks j) (block_at sides j))
    ∙ sym (ap (length {A = Aspect}) (have.each i i_in one)
    ∙ length-map pairs (aspect_of (block_at blocks i) (block_at sides i)))

module _ (c : CodedGraph) (list : BlockList) (searched : AreSearched c list) (i j : ℕ)
    (i_in : i < length list.blocks.items) (j_in : j < length list.blocks.items)
    (one : IsUsable c.graph (block_at list.blocks.items i)) (other : IsUsable c.graph (block_at list.blocks.items j))
  where
    abbrev one_block : List Bool
    one_block = block_at list.blocks.items i

    abbrev other_block : List Bool
    other_block = block_at list.blocks.items j

    abbrev one_sides : List Bool
    one_sides = block_at list.sides.items i

    abbrev other_sides : List Bool
    other_sides = block_at list.sides.items j

    pub one_flag : slice_index_or list.usable.items i false ≡ true
    one_flag = (searched.usable.each i i_in).1 one

    pub other_flag : slice_index_or list.usable.items j false ≡ true
    other_flag = (searched.usable.each j j_in).1 other

    pairs_within : (pair : ℕ × ℕ) → In pair searched.pairs → (pair.0 < c.graph.states) × (pair.1 < c.graph.states)
    pairs_within pair there =
        let is = searched.pairs_are.each pair (contains_from_in searched.pairs pair there) in
        (omega (arith, is.order, is.within), is.within)

    unparted_are_left : (chains : Chains) → AreChains c chains → (classes : List Class) (n : ℕ)
        → AreClasses c.graph one_block other_block classes → LeavesConflicts c classes n
        → unparted_count (column_at list.columns.items i) (column_at list.columns.items j) ≤ n
    unparted_are_left chains chains_are classes n are leaves =
        let coded = searched.coded in
        let size_i = size_at c list.blocks.items i searched.are i_in in
        let size_j = size_at c list.blocks.items j searched.are j_in in
        let lawful = lawful_classes c.graph one_block other_block classes coded.graph_is size_i size_j
        (one.state, one.there) (other.state, other.there) are in
        let r_in : one.state < c.graph.states = omega (arith, in_below one_block one.state one.there, size_i) in
        let each = class_is c.graph coded.graph_is one_block other_block classes
        (record { lawful = lawful; rising = are.rising; falling = are.falling })
        searched.sides.tree searched.sides.is_tree one_sides other_sides
        (searched.sides.each i i_in one_flag) (searched.sides.each j j_in other_flag) one.state r_in one.there in
        let stay = unparted_stay c.graph.states one_block other_block one_sides other_sides
        (between one_sides other_sides one.state) classes each searched.pairs pairs_within in
        let left = stay_left c coded classes chains chains_are searched.pairs searched.pairs_are.each
        searched.pairs_are.in_order lawful n leaves in
        let same = ap₂ unparted_count (searched.aspects.each i i_in one_flag)
        (searched.aspects.each j j_in other_flag) in
        omega (arith, same, stay, left)

    pub none_by_aspects : (chains : Chains) → AreChains c chains → (low : ℕ)
        → low ≤ unparted_count (column_at list.columns.items i) (column_at list.columns.items j)
        → NoneIsBelow c list.blocks.items i j low
    none_by_aspects chains chains_are low enough =
        none_by_left c list.blocks.items i j low (λ classes n are leaves.
        (let left = unparted_are_left chains chains_are classes n are leaves in omega (arith, enough, left)))

-- of two blocks with states of one crowd as many are left as it has states
pub none_by_crowd : (c : CodedGraph) (list : BlockList) (i j low : ℕ) → AreSearched c list
    → i < length list.blocks.items → j < length list.blocks.items
    → ShareCrowd (crowd_at list.crowds.items i) (crowd_at list.crowds.items j) low
    → NoneIsBelow c list.blocks.items i j low
none_by_crowd c list i j low searched i_in j_in share =
    none_by_left c blocks i j low (λ classes n are leaves.
    (let left = as_many_left classes n are leaves in omega (arith, share.enough, as_many, left)))
  where
    blocks : List (List Bool)
    blocks = list.blocks.items

    members : List Member
    members = searched.chains.members

    one : HasOfCrowd members (block_at blocks i) share.first
    one = some_is (HasOfCrowd members (block_at blocks i)) (crowd_at list.crowds.items i) share.first share.first_told
        (searched.crowds.each i i_in)

    other : HasOfCrowd members (block_at blocks j) share.second
    other = some_is (HasOfCrowd members (block_at blocks j)) (crowd_at list.crowds.items j) share.second
        share.second_told (searched.crowds.each j j_in)

    one_in : one.member.state < c.graph.states
    one_in =
        let size = size_at c blocks i searched.are i_in in
        omega (arith, in_below (block_at blocks i) one.member.state one.inside, size)

    other_in : other.member.state < c.graph.states
    other_in =
        let size = size_at c blocks j searched.are j_in in
        omega (arith, in_below (block_at blocks j) other.member.state other.inside, size)

    as_many : share.first.states ≡ code_count members one.member.key.code
    as_many = ap (λ (x : Crowd). x.states) one.is

    codes : other.member.key.code ≡ one.member.key.code
    codes = sym (ap (λ (x : Crowd). x.code) other.is) ∙ share.same_code ∙ ap (λ (x : Crowd). x.code) one.is

    as_many_left : (classes : List Class) (n : ℕ) → AreClasses c.graph (block_at blocks i) (block_at blocks j) classes
        → LeavesConflicts c classes n → code_count members one.member.key.code ≤ n
    as_many_left classes n are leaves =
        let lawful = lawful_classes c.graph (block_at blocks i) (block_at blocks j) classes searched.coded.graph_is
        (size_at c blocks i searched.are i_in) (size_at c blocks j searched.are j_in)
        (one.member.state, one.inside) (other.member.state, other.inside) are in
        crowd_is_left c searched.chains classes one.member other.member n searched.coded searched.chains_are lawful
        one.there other.there codes ((are.rising one.member.state one_in).1 one.inside)
        ((are.falling other.member.state other_in).1 other.inside) leaves

-- what a test of the list tells
pub not_usable : (g : StateGraph) (blocks : List (List Bool)) (usable : List Bool) (k : ℕ) → AreUsable g blocks usable
    → k < length blocks → slice_index_or usable k false ≡ false → IsUsable g (block_at blocks k) → ⊥
not_usable g blocks usable k are within is_not is = true≢false (sym ((are.each k within).1 is) ∙ is_not)

-- ---- in the words of the code
pub none_is : {A P : Type 0} (o : Option A) → o ≡ None → IfNone o P → P
none_is {A} {P} o same is = subst (λ z. IfNone z P) same is

pub at_blocks : (P : List Bool → List Bool → Type 0) (plus x minus y : List Bool) → plus ≡ x → minus ≡ y
    → P plus minus → P x y
at_blocks P plus x minus y one other is = subst (P x) other (subst (λ z. P z minus) one is)

pub not_both : (g : StateGraph) (plus x minus y : List Bool) (b : Bool) → plus ≡ x → minus ≡ y
    → (IsTrue b ↔ MayBeAccepted g plus minus) → b ≡ false → MayBeAccepted g x y → ⊥
not_both g plus x minus y b one other test refused may =
    true≢false (sym (test.1 (at_blocks (MayBeAccepted g) x plus y minus (sym one) (sym other) may)) ∙ refused)

pub block_size : (c : CodedGraph) (blocks : List (List Bool)) (k : ℕ) (block : List Bool) → AreBlocks c blocks
    → k < length blocks → block ≡ block_at blocks k → length block ≡ c.graph.states
block_size c blocks k block are within same = ap (length {A = Bool}) same ∙ size_at c blocks k are within

-- ---- the end of the search
module _ (c : CodedGraph) (blocks : List (List Bool)) (n : ℕ) (s : Search) (are : AreBlocks c blocks)
    (counted : HasConflicts c n) (given : s.given ≡ n) (so : IsSearching c blocks (length blocks) 0 s)
  where
    -- what a search shows that ends with this
    abbrev Shows : Option Found → Type 0
    Shows o = MatchOption o (NoneImproves c) (λ found. (x : Choice) × Improves c x × (x.classes ≡ found.accepted))

    shows : (o : Option Choice) → IsBestSoFar c blocks n (length blocks) 0 o → Shows (best_of o)
    shows None best = search_finds_none c blocks n are counted best
    shows (Some x) best = (x, search_finds c blocks n x are counted best, refl)

    search_shows : Shows s.best
    search_shows = subst Shows (sym so.found)
        (shows so.best (subst (λ m. IsBestSoFar c blocks m (length blocks) 0 so.best) given so.is_best))

    pub found_none : s.best ≡ None → NoneImproves c
    found_none none = subst Shows none search_shows

    pub found_some : (found : Found) → s.best ≡ Some found
        → (x : Choice) × Improves c x × (x.classes ≡ found.accepted)
    found_some found some = subst Shows some search_shows
