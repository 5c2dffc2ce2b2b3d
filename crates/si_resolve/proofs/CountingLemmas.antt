-- What a candidate leaves, in parts: what is told by its sides, and what each block has of its own.
use Rattle.std.proofs.Common.{◌≡◌, ◌≢◌, ◌⊎◌, ℕ, ◌+◌, ◌-◌, ◌<◌, ◌≤◌, Bool, List, length, length-set}
use Rattle.std.proofs.Common.{slice_set, replicate, Option, Some, None, IfNone, IfSome, unwrap_or, refl, sym, ap, subst}
use Rattle.std.proofs.Common.{◌∙◌, arith, inl, inr}
use Rattle.std.proofs.lemmas.Bool.{cases_eq}
use Rattle.std.proofs.lemmas.List.{get_or-replicate, get_or-set_other, get_or-set_same, length-replicate}
use Rattle.std.proofs.lemmas.Option.{IfSome_then}
use Rattle.si_base.specs.Codes.{CodedGraph}
use Rattle.si_insert.specs.declared.partition.Class.{Class}
use Rattle.si_insert.specs.Partition.{IsLawful}
use Rattle.si_candidates.specs.Blocks.{block_at}
use Rattle.si_candidates.specs.Parts.{AreClasses}
use Rattle.si_conflicts.specs.declared.members.Member.{Member}
use Rattle.si_conflicts.specs.Left.{LeavesConflicts}
use Rattle.si_conflicts.specs.Loops.Own.{HasOwnConflicts}
use Rattle.si_conflicts.specs.Loops.Apart.{pair_sum, stable_count}
use Rattle.si_conflicts.specs.Loops.Chains.{AreChains, Chains}
use Rattle.si_conflicts.proofs.LeftCount.{one_left}
use Rattle.si_conflicts.proofs.OwnLeft.{left_by_sets}
use Rattle.si_conflicts.proofs.OwnNumbers.{own_exists, own_unique}
use Rattle.si_resolve.specs.declared.block_list.BlockList.{BlockList}
use Rattle.si_resolve.specs.declared.counts.Counts.{Counts}
use Rattle.si_resolve.specs.Loops.Counting.{AreCounts, AreLeft, AreTold, HaveTold, IsOwn, own_at}
use Rattle.si_resolve.specs.Loops.Progress.{LeavesNoneBelow}
use Rattle.si_resolve.specs.Loops.Usable.{AreSearched, IsUsable}
use Rattle.si_resolve.proofs.BlockSizes.{size_at}
use Rattle.si_resolve.proofs.SearchLemmas.{lawful_classes}

-- ---- what is known of the blocks
-- copies of None are None
none_alone : (R : Option ℕ → Type 0) → ((m : ℕ) → R (Some m) → ⊥) → (x : Option ℕ) → R x → x ≡ None
none_alone R no_other None is = refl
none_alone R no_other (Some m) is = absurd (no_other m is)

pub copies_of_none : {R : Option ℕ → Type 0} {Q : Type 0} → (((x : Option ℕ) → R x → x ≡ None) → Q)
    → ((m : ℕ) → R (Some m) → ⊥) → Q
copies_of_none {R} holds no_other = holds (none_alone R no_other)

none_known : (n k : ℕ) (P : ℕ → Type 0) → k < n → IfSome (own_at (replicate n None) k) P
none_known n k P within = subst (λ o. IfSome o P) (sym (get_or-replicate n k None None within)) tt

pub counts_start : (c : CodedGraph) (blocks : List (List Bool)) (counts : Counts) (n : ℕ) → AreChains c counts.chains
    → counts.own.items ≡ replicate n None → length blocks ≡ n → AreCounts c blocks counts
counts_start c blocks counts n chains nothing size = record {
  chains = chains;
  size = ap (length {A = Option ℕ}) nothing ∙ length-replicate n None ∙ sym size;
  each = λ k within. (
      let P : ℕ → Type 0 = IsOwn c counts.chains.members (block_at blocks k) in
      subst (λ (own : List (Option ℕ)). IfSome (own_at own k) P) (sym nothing)
      (none_known n k P (omega (arith, within, size))));
}

-- one more block is known
pub counts_more : (c : CodedGraph) (blocks : List (List Bool)) (before after : Counts) (k n : ℕ)
    → AreCounts c blocks before → k < length blocks → IsOwn c before.chains.members (block_at blocks k) n
    → after.chains ≡ before.chains → after.own.items ≡ slice_set before.own.items k (Some n)
    → AreCounts c blocks after
counts_more c blocks before after k n are within own chains written = record {
  chains = subst (AreChains c) (sym chains) are.chains;
  size = ap (length {A = Option ℕ}) written ∙ length-set before.own.items k (Some n) ∙ are.size;
  each = λ j inside. at j inside (cases_eq j k);
}
  where
    Known : Chains → List (Option ℕ) → ℕ → Type 0
    Known x own j = IfSome (own_at own j) (IsOwn c x.members (block_at blocks j))

    now : (j : ℕ) → Known before.chains (slice_set before.own.items k (Some n)) j → Known after.chains after.own.items j
    now j is = subst (λ x. Known x after.own.items j) (sym chains)
        (subst (λ own. Known before.chains own j) (sym written) is)

    at : (j : ℕ) → j < length blocks → (j ≡ k) ⊎ (j ≢ k) → Known after.chains after.own.items j
    at j inside (inl same) = subst (λ i. Known after.chains after.own.items i) (sym same)
        (now k (subst (λ o. IfSome o (IsOwn c before.chains.members (block_at blocks k)))
        (sym (get_or-set_same before.own.items k (Some n) None (omega (arith, within, are.size)))) own))
    at j inside (inr other) =
        now j (subst (λ o. IfSome o (IsOwn c before.chains.members (block_at blocks j)))
        (sym (get_or-set_other before.own.items k j (Some n) None other)) (are.each j inside))

-- what is known of a block is at most what it has of its own
pub known_at_most : (c : CodedGraph) (members : List Member) (set : List Bool) (o : Option ℕ) (n : ℕ)
    → IfSome o (IsOwn c members set) → HasOwnConflicts c.graph members set n → unwrap_or o 0 ≤ n
known_at_most c members set None n known own = omega arith
known_at_most c members set (Some m) n known own =
    let same = own_unique c.graph members set m n known.own own in omega (arith, same)

-- ---- what the sides tell
module _ (c : CodedGraph) (members : List Member) (plus minus : List Bool) (told : List Class)
    (is : (classes : List Class) → AreClasses c.graph plus minus classes → classes ≡ told) where
  sums : (classes : List Class) → AreClasses c.graph plus minus classes
      → pair_sum (stable_count classes) members ≡ pair_sum (stable_count told) members
  sums classes are = ap (λ xs. pair_sum (stable_count xs) members) (is classes are)

  pub are_told : (o : Option ℕ) → IfSome o (λ n. n ≡ pair_sum (stable_count told) members)
      → IfSome o (AreTold c members plus minus)
  are_told o found = IfSome_then o found (λ n same classes are. same ∙ sym (sums classes are))

  pub have_told : (o : Option ℕ) (least : ℕ) → IfNone o (least ≤ pair_sum (stable_count told) members)
      → IfNone o (HaveTold c members plus minus least)
  have_told None least enough = λ classes are. (let same = sums classes are in omega (arith, same, enough))
  have_told (Some n) least found = found

-- ---- what two usable blocks leave
module _ (c : CodedGraph) (list : BlockList) (searched : AreSearched c list) (i j : ℕ)
    (i_in : i < length list.blocks.items) (j_in : j < length list.blocks.items)
    (one : IsUsable c.graph (block_at list.blocks.items i)) (other : IsUsable c.graph (block_at list.blocks.items j))
    (chains : Chains) (chains_are : AreChains c chains) where
  abbrev plus : List Bool
  plus = block_at list.blocks.items i

  abbrev minus : List Bool
  minus = block_at list.blocks.items j

  lawful : (classes : List Class) → AreClasses c.graph plus minus classes → IsLawful c.graph classes
  lawful classes are = lawful_classes c.graph plus minus classes searched.coded.graph_is
      (size_at c list.blocks.items i searched.are i_in) (size_at c list.blocks.items j searched.are j_in)
      (one.state, one.there) (other.state, other.there) are

  -- the parts together
  pub are_left : (told a b : ℕ) → AreTold c chains.members plus minus told → IsOwn c chains.members plus a
      → IsOwn c chains.members minus b → AreLeft c plus minus (told + (a + b))
  are_left told a b is_told own_plus own_minus classes are =
      let sum : pair_sum (stable_count classes) chains.members + a + b ≡ told + (a + b) =
      omega (arith, is_told classes are) in
      subst (λ n. LeavesConflicts c classes n) sum
      (left_by_sets c chains classes plus minus a b searched.coded chains_are (lawful classes are) are.rising
      are.falling own_plus.own own_minus.own)

  pub none_below : (o : Option ℕ) (total low : ℕ) → AreLeft c plus minus total → IfNone o (low ≤ total)
      → IfNone o (LeavesNoneBelow c plus minus low)
  none_below (Some n) total low left enough = enough
  none_below None total low left enough = λ classes n are leaves. (
      let same = one_left c searched.coded classes (lawful classes are) n total leaves (left classes are) in
      omega (arith, same, enough))

  -- what is told and what is known of the blocks are enough
  pub none_by_known : (own : List (Option ℕ)) (one_known other_known room low : ℕ)
      → IfSome (own_at own i) (IsOwn c chains.members plus) → IfSome (own_at own j) (IsOwn c chains.members minus)
      → one_known ≡ unwrap_or (own_at own i) 0 → other_known ≡ unwrap_or (own_at own j) 0
      → room ≡ low - (one_known + other_known) → HaveTold c chains.members plus minus room
      → LeavesNoneBelow c plus minus low
  none_by_known own one_known other_known room low plus_own minus_own one_is other_is room_is told classes n are
      leaves =
      let a = own_exists c chains plus chains_are in
      let b = own_exists c chains minus chains_are in
      let law = lawful classes are in
      let all = left_by_sets c chains classes plus minus a.0 b.0 searched.coded chains_are law are.rising are.falling
      a.1 b.1 in
      let same = one_left c searched.coded classes law n _ leaves all in
      let few_a = known_at_most c chains.members plus (own_at own i) a.0 plus_own a.1 in
      let few_b = known_at_most c chains.members minus (own_at own j) b.0 minus_own b.1 in
      let enough = told classes are in
      omega (arith, same, few_a, few_b, one_is, other_is, room_is, enough)
