-- The expression of an instance: its names are signals, and it has the value that the grammar tells.
use Rattle.std.proofs.Common.{◌≡◌, ℕ, ◌+◌, ◌&&◌, ◌||◌, not, Bool, true, false, List, [], ◌∷◌, ◌++◌, map, bytes_eq}
use Rattle.std.proofs.Common.{None, if◌then◌else◌, refl, sym, ap, ◌∙◌, inl, inr}
use Rattle.std.specs.List.{AllByRecursion}
use Rattle.std.proofs.lemmas.Bool.{cases_Bool, or_parts, true≢false}
use Rattle.si_base.specs.declared.fault.TextKind.TheVariants.{Undeclared}
use Rattle.si_words.specs.Names.{stands_in}
use Rattle.si_words.proofs.NameWords.{same_bytes}
use Rattle.si_genlib.specs.Expression.{value_of}
use Rattle.si_equations.specs.Equations.{expression_value, known}
use Rattle.si_equations.specs.Names.{bare, named_from, named_value}
use Rattle.si_equations.proofs.ListLemmas.{when_none}
use Rattle.si_equations.proofs.NewLemmas.{AreGood, bytes_turned}
use Rattle.si_verilog.specs.Grammar.{Tree, Constant, Named, Not, And, Or, tree_value}
use Rattle.si_verilog_reader.specs.Modules.{connected, net_of, other_fault}
use Rattle.si_verilog_reader.proofs.ExpressionLemmas.{HaveNoFault, tree_as}
use Rattle.si_structure.specs.Meaning.{port_value}
use Rattle.si_structure.specs.Parts.{Connection as Wired}
use Rattle.si_read_back.proofs.ConnectionLemmas.{read_as}

-- no signal has an empty name
none_empty : (i : ℕ) (names : List (List ℕ)) → AreGood names → (v : ℕ) → named_from i names v [] ≡ false
none_empty i [] good v = refl
none_empty i ([] ∷ names) good v = absurd (true≢false (sym good.0))
none_empty i ((b ∷ bs) ∷ names) good v = none_empty (i + 1) names good.1 v

-- ---- values

abbrev pub at_nets : List (List ℕ) → ℕ → List ℕ → Bool
at_nets names v net = named_value names v (bare net)

net_value : (f : List ℕ → Bool) → f [] ≡ false → (cs : List Wired) (port : List ℕ)
    → f (net_of (read_as cs) port) ≡ port_value f cs port
net_value f none [] port = none
net_value f none (c ∷ cs) port = by (net_value f none cs port) (bytes_eq c.port port)
  where
    by : f (net_of (read_as cs) port) ≡ port_value f cs port → (b : Bool)
        → f (if b then c.net else net_of (read_as cs) port) ≡ (if b then f c.net else port_value f cs port)
    by later true = refl
    by later false = later

module _ (names : List (List ℕ)) (good : AreGood names) (v : ℕ) (cs : List Wired) where
  pub tree_valued : (t : Tree) → expression_value names v (value_of (connected (read_as cs)) (tree_as t))
      ≡ tree_value (port_value (at_nets names v) cs) t
  tree_valued (Constant value) = refl
  tree_valued (Named name) = net_value (at_nets names v) (none_empty 0 names good v) cs name
  tree_valued (Not of) = ap not (tree_valued of)
  tree_valued (And left right) =
      let former = tree_valued left in
      let latter = tree_valued right in
      λ i. former i && latter i
  tree_valued (Or left right) =
      let former = tree_valued left in
      let latter = tree_valued right in
      λ i. former i || latter i

-- ---- names

abbrev pub StandNets : List (List ℕ) → List Wired → Type 0
StandNets names cs = AllByRecursion (λ c. stands_in names (bare c.net) ≡ true) cs

net_stands : (names : List (List ℕ)) (cs : List Wired) (port : List ℕ) → StandNets names cs
    → stands_in (map (λ (c : Wired). c.port) cs) port ≡ true → stands_in names (bare (net_of (read_as cs) port)) ≡ true
net_stands names [] port all there = absurd (true≢false (sym there))
net_stands names (c ∷ cs) port all there = elim (cases_Bool (bytes_eq c.port port)) [
  | inl same ↦ rw same all.0
  | inr other ↦ (
      let turned = bytes_turned c.port port false other in
      rw other (net_stands names cs port all.1 (rw turned at there)))
]

not_false : (b : Bool) → not b ≡ false → b ≡ true
not_false true is = refl
not_false false is = absurd cc

module _ (names : List (List ℕ)) (cs : List Wired) (ports : List (List ℕ))
    (are : map (λ (c : Wired). c.port) cs ≡ ports) (stand : StandNets names cs) where
  name_known : (name : List ℕ) → other_fault ports name ≡ None
      → stands_in names (bare (net_of (read_as cs) name)) ≡ true
  name_known name none =
      let there = not_false (stands_in ports name) (when_none (not (stands_in ports name)) Undeclared none) in
      net_stands names cs name stand (ap (λ (l : List (List ℕ)). stands_in l name) are ∙ there)

  pub tree_known : (t : Tree) → HaveNoFault (other_fault ports) t
      → value_of (known names) (value_of (connected (read_as cs)) (tree_as t)) ≡ true
  tree_known (Constant value) none = refl
  tree_known (Named name) none = name_known name none
  tree_known (Not of) none = tree_known of none
  tree_known (And left right) none =
      let former = tree_known left none.0 in
      let latter = tree_known right none.1 in
      λ i. former i && latter i
  tree_known (Or left right) none =
      let former = tree_known left none.0 in
      let latter = tree_known right none.1 in
      λ i. former i && latter i

-- ---- the net at the last port

pub last_net : (cs : List Wired) (port net : List ℕ) → stands_in (map (λ (c : Wired). c.port) cs) port ≡ false
    → net_of (read_as (cs ++ record { port = port; net = net } ∷ [])) port ≡ net
last_net [] port net none = let same = same_bytes port in rw same refl
last_net (c ∷ cs) port net none =
    let parts = or_parts (bytes_eq port c.port) (stands_in (map (λ (d : Wired). d.port) cs) port) none in
    let other = bytes_turned port c.port false parts.0 in
    rw other (last_net cs port net parts.1)
