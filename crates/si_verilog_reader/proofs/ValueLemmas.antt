-- Expressions that name signals alone: their names are known, and their values are the same for both
-- readings.
use Rattle.std.proofs.Common.{◌≡◌, ℕ, zero, suc, ◌+◌, ◌<◌, ◌&&◌, ◌||◌, not, Bool, true, List, [], ◌∷◌, length, map}
use Rattle.std.proofs.Common.{bytes_eq, slice_get, Some, refl, ap, subst, ◌∙◌, if◌then◌else◌}
use Rattle.std.specs.List.{AllByRecursion}
use Rattle.std.proofs.lemmas.Bool.{and_from}
use Rattle.si_base.specs.declared.graph.Signal.{Signal}
use Rattle.si_base.specs.Bits.{bit}
use Rattle.si_base.specs.Graph.{names_in}
use Rattle.si_base.specs.NetlistText.{name_of}
use Rattle.si_base.specs.Words.{is_signal_name}
use Rattle.si_words.specs.Names.{stands_in}
use Rattle.si_genlib.specs.Expression.{value_of}
use Rattle.si_equations.specs.Names.{bare, named_from, named_value}
use Rattle.si_equations.specs.Equations.{expression_value, known}
use Rattle.si_equations.proofs.MeaningLemmas.{AreNamed}
use Rattle.si_equations.proofs.NameLemmas.{plain_token}
use Rattle.si_verilog.specs.Grammar.{Tree, Constant, Named, Not, And, Or, Assign, tree_value}
use Rattle.si_verilog.specs.Meaning as verilog
use Rattle.si_verilog_reader.proofs.ExpressionLemmas.{tree_as}
use Rattle.si_verilog_reader.proofs.GateLemmas.{NamesSignals}
use Rattle.si_verilog_reader.proofs.CircuitLemmas.{Item, IsItem, item_assign, AreKnown}

module _ (signals : List Signal) (are : AreNamed signals) where
  bare_same : (name : List ℕ) (z : ℕ) → z < length signals → name ≡ name_of signals z → bare name ≡ name
  bare_same name z there same =
      let good : is_signal_name name ≡ true = ap is_signal_name same ∙ are.good z there in
      (plain_token name good).bare_is

  tree_known : (t : Tree) → NamesSignals signals t → value_of (known (names_in signals)) (tree_as t) ≡ true
  tree_known (Constant value) names = refl
  tree_known (Named name) names =
      ap (stands_in (names_in signals)) (bare_same name names.0 names.1 names.2 ∙ names.2) ∙ are.stands names.0 names.1
  tree_known (Not of) names = tree_known of names
  tree_known (And left right) names = and_from _ _ (tree_known left names.0) (tree_known right names.1)
  tree_known (Or left right) names = and_from _ _ (tree_known left names.0) (tree_known right names.1)

  pub items_known : (items : List Item) → AllByRecursion (IsItem signals) items → AreKnown (names_in signals) items
  items_known [] all = tt
  items_known (q ∷ qs) all = (tree_known q.tree all.0.named, items_known qs all.1)

  same_named : (i : ℕ) (xs : List Signal) (v : ℕ) (name : List ℕ)
      → named_from i (names_in xs) v name ≡ verilog.named_from i xs v name
  same_named i [] v name = refl
  same_named i (x ∷ xs) v name =
      ap (λ (c : Bool). if bytes_eq x.name name then bit v i else c) (same_named (i + 1) xs v name)

  pub same_value : (v : ℕ) (t : Tree) → NamesSignals signals t
      → expression_value (names_in signals) v (tree_as t) ≡ tree_value (verilog.named_value signals v) t
  same_value v (Constant value) names = refl
  same_value v (Named name) names =
      ap (named_value (names_in signals) v) (bare_same name names.0 names.1 names.2) ∙ same_named 0 signals v name
  same_value v (Not of) names = ap not (same_value v of names)
  same_value v (And left right) names =
      λ i. same_value v left names.0 i && same_value v right names.1 i
  same_value v (Or left right) names =
      λ i. same_value v left names.0 i || same_value v right names.1 i

-- the expression of an assign names signals alone
pub named_at : (signals : List Signal) (items : List Item) → AllByRecursion (IsItem signals) items → (k : ℕ)
    (a : Assign) → slice_get (map item_assign items) k ≡ Some a → NamesSignals signals a.tree
named_at signals [] all k a at = absurd cc
named_at signals (q ∷ qs) all zero a at =
    let is : item_assign q ≡ a = cc in
    subst (λ (x : Assign). NamesSignals signals x.tree) is all.0.named
named_at signals (q ∷ qs) all (suc k) a at = named_at signals qs all.1 k a at
